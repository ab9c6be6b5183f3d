-- Replies that settle nothing.
use Rattle.std.proofs.Common.{◌≡◌, ◌∙◌, ℕ, true, Option, Some, refl, arith, None, ap, ◌≢◌, ◌==◌, ◌&&◌, ◌||◌, Bool}
use Rattle.std.proofs.Common.{false}
use Rattle.std.specs.Prelude.{codes, if◌then◌else◌}
use Rattle.std.proofs.lemmas.Bool.Decides.{nat_tests}
use Rattle.serde_json.specs.Data.{Data}
use Rattle.xbrl_report.specs.Findings.{tree}
use Rattle.filing_model.specs.Outbox.{Refused, Clashed, state_told, refuses, Open, moved}
use Rattle.http_messages.specs.Reply.{ReplyParts}

still : (status : ℕ) (told : Option Data) → (status == 201) ≡ false → (status == 422) ≡ false → (status == 400) ≡ false
    → state_told status told ≡ Open
still status None a b c = refl
still status (Some d) a b c = rw (a, b, c) refl

differs : (m n : ℕ) → m ≢ n → (m == n) ≡ false
differs m n other = grind (arith, nat_tests, other)

pub other_status : (reply : ReplyParts) → reply.status ≢ 201 → reply.status ≢ 400 → reply.status ≢ 422
    → moved Open reply ≡ Open
unfolding moved
other_status reply a b c =
    still reply.status (tree reply.content) (differs reply.status 201 a) (differs reply.status 422 c)
    (differs reply.status 400 b)

pub no_json : (reply : ReplyParts) → tree reply.content ≡ None → moved Open reply ≡ Open
unfolding moved
no_json reply none = ap (state_told reply.status) none

other : (a b : Bool) (d : Data) → refuses (codes "refused") d ≡ false → refuses (codes "key-reused") d ≡ false
    → (if a && refuses (codes "refused") d then Refused
    else (if b && refuses (codes "key-reused") d then Clashed else Open)) ≡ Open
other true true d refused reused = rw (refused, reused) refl
other true false d refused reused = rw refused refl
other false true d refused reused = rw reused refl
other false false d refused reused = refl

pub other_words : (reply : ReplyParts) (d : Data) → reply.status ≢ 201 → tree reply.content ≡ Some d
    → refuses (codes "refused") d ≡ false → refuses (codes "key-reused") d ≡ false → moved Open reply ≡ Open
unfolding moved
other_words reply d a is refused reused =
    ap (state_told reply.status) is
    ∙ rw (differs reply.status 201 a) (other ((reply.status == 422) || (reply.status == 400)) (reply.status == 422) d
    refused reused)
