-- No bytes spell nothing.
use Rattle.std.proofs.Common.{ℕ, false, [], refl, arith}
use Rattle.http_messages.specs.Message.{Rest, BeginsRequest, IsRefused, HasArrivals}
use Rattle.http_messages.specs.Request.{Request as Message}
use Rattle.http_messages.specs.declared.refusal.Refusal.{Refusal}
use Rattle.http_messages.specs.declared.refusal.Refusal.TheVariants.{HeadTooLarge, Head}
use Rattle.http_messages.proofs.MoreBytes.{IsBlockEnd-within}

none_begins : (request : Message) (n : ℕ) → ¬ (BeginsRequest [] request n)
none_begins request n b = let within = IsBlockEnd-within [] b.head_len b.head.block in
    absurd (omega (arith, within.0))

none_refused : (refusal : Refusal) → ¬ (IsRefused [] refusal)
none_refused HeadTooLarge t = absurd (omega (arith, t.full))
none_refused (Head fault) r = let within = IsBlockEnd-within [] r.0 r.1 in absurd (omega (arith, within.0))

pub nothing : HasArrivals [] [] (Rest false)
nothing = (
  false,
  record { none = none_begins; refused = none_refused },
  λ parts n h. absurd (let within = IsBlockEnd-within [] n h.block in omega (arith, within.0)),
  refl,
)
