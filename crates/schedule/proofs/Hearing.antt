-- What is heard of bytes in memory, of which some were read.
use Rattle.std.proofs.Common.{◌≡◌, ℕ, ◌≤◌, List, ◌++◌, length, take, drop, Option, Some, None, sym, ap, ◌∙◌, subst, inl}
use Rattle.std.proofs.Common.{inr, arith, length-append, ⊎_elim}
use Rattle.std.proofs.lemmas.Grind.{common_steps}
use Rattle.std.proofs.lemmas.List.{append-nil}
use Rattle.http_messages.specs.declared.refusal.ReplyFault.{ReplyFault}
use Rattle.http_messages.specs.declared.refusal.ReplyFault.TheVariants.{Cut, Malformed, NoLength, TooLarge, Read}
use Rattle.http_messages.specs.declared.refusal.ReplyFault.TheVariants.{ReadLimit, Memory}
use Rattle.http_wire.specs.Device.{HasFailed}
use Rattle.http_messages.specs.Reply.{ReplyParts}
use Rattle.http_messages.specs.Response.{BeginsReply, SpellsReply, GivesReply}
use Rattle.http_wire.specs.ReplyFaults.{HasGiven, IsReplyFailure}
use Rattle.http_messages.specs.ReplyFaults.{IsRefusedReply}
use Rattle.http_messages.proofs.RefusedReply.{GivesReply-begins}
use Rattle.http_messages.proofs.NotRefused.{front-not_refused}
use Rattle.http_messages.proofs.UniqueReply.{BeginsReply-more, BeginsReply-front}
use Rattle.filing_model.specs.Outbox.{Entry, State, moved}
use Rattle.filing_model.specs.Stopping.{No}
use Rattle.filing_world.specs.World.{numbered}
use Rattle.filing_world.specs.Step.{Hears, heard_by}
use Rattle.outbox_core.specs.declared.fault.TakeFault.TheVariants as take
use Rattle.filer_client.specs.declared.fault.ExchangeFault.{ExchangeFault}
use Rattle.filer_client.specs.declared.fault.ExchangeFault.TheVariants.{Write, Reply, Take}
use Rattle.filer_client.specs.Exchange.{Hears as HearsReply, moved_at, IsFault}
use Rattle.schedule.specs.Outboxes.{why_unheard}

-- bytes that begin with a reply give it
gives : (bytes : List ℕ) (reply : ReplyParts) (n : ℕ) → n ≤ length bytes → BeginsReply bytes reply n
    → GivesReply bytes reply
gives bytes reply n within b = (n, spelled)
  where
    front : take n bytes ++ drop n bytes ≡ bytes
    front = grind (arith, common_steps)

    size : length (take n bytes) ≡ n
    size = grind (arith, common_steps)

    spelled : SpellsReply (take n bytes) reply
    spelled =
        subst (BeginsReply (take n bytes) reply) (sym size)
        (BeginsReply-front (take n bytes) (drop n bytes) reply n (omega (arith, size))
        (subst (λ bs. BeginsReply bs reply n) (sym front) b))

-- what was read as a reply is heard
heard_reply : (bytes left : List ℕ) (reply : ReplyParts)
    → HasGiven (Some bytes) (Some left) (λ given. GivesReply given reply) → Hears bytes No (Some reply)
heard_reply bytes left reply (given, all, g) =
    let begins = GivesReply-begins given reply g in
    let whole : BeginsReply bytes reply begins.0 =
    subst (λ bs. BeginsReply bs reply begins.0) (sym all) (BeginsReply-more given left reply begins.0 begins.1) in
    gives bytes reply begins.0 whole.whole whole

-- where the first bytes are refused, all of them give no reply
refused_none : (bytes left : List ℕ) (fault : ReplyFault)
    → HasGiven (Some bytes) (Some left) (λ given. IsRefusedReply given fault) → Hears bytes No None
refused_none bytes left fault (given, all, refused) =
    inl (λ reply g.
    let begins = GivesReply-begins bytes reply g in
    front-not_refused given left reply begins.0 fault (subst (λ bs. BeginsReply bs reply begins.0) all begins.1)
    refused)

never_failed : HasFailed 0 0 → ⊥
never_failed failed = ⊎_elim (λ less. omega (arith, less)) (λ top. omega (arith, top)) failed

-- where none was read, and memory did not run out, none is heard
none_read : (bytes left : List ℕ) (fault : ReplyFault) → IsReplyFailure (Some bytes) (Some left) 0 0 fault
    → why_unheard (Reply fault) ≡ None → Hears bytes No None
none_read bytes left Cut (fine, end, (given, all, cut)) none =
    let same : bytes ≡ given = all ∙ ap (λ rest. given ++ rest) end ∙ append-nil given in
    inl (λ reply g. cut.none reply (subst (λ bs. GivesReply bs reply) same g))
none_read bytes left Malformed why none = refused_none bytes left Malformed why.1
none_read bytes left NoLength why none = refused_none bytes left NoLength why.1
none_read bytes left TooLarge why none = refused_none bytes left TooLarge why.1
none_read bytes left Read failed none = absurd (never_failed failed)
none_read bytes left ReadLimit (fine, (given, all, (many, cut))) none = let size =
    ap length all ∙ length-append given left in inr (omega (arith, size, many))
none_read bytes left Memory why none = absurd (cc)

unheard : (bytes left : List ℕ) (fault : ExchangeFault) → IsFault (Some bytes) (Some left) 0 0 0 0 fault
    → why_unheard fault ≡ None → Hears bytes No None
unheard bytes left (Reply fault) why none = none_read bytes left fault why.0 none
unheard bytes left (Take take.NoEntry) why none = absurd (cc)
unheard bytes left (Take take.Memory) why none = absurd (cc)
unheard bytes left (Take take.Store) why none = absurd (cc)
unheard bytes left (Write sent) why none = absurd (cc)

-- ---- over a reader of these bytes

-- a reply that was read moves the entry as the world has it
pub moves_as_heard : (bytes old left : List ℕ) (entries : List Entry) (number : ℕ) (to : State) → old ≡ bytes
    → HearsReply (Some old) (Some left) (λ reply. Some to ≡ moved_at entries number reply)
    → (what : Entry) → numbered entries number ≡ Some what
    → (heard : Option ReplyParts) × Hears bytes No heard × (to ≡ heard_by what.state heard)
moves_as_heard bytes old left entries number to same (reply, given, is) what here =
    let there : Some to ≡ Some (moved what.state reply) = rw here at is in
    let state : to ≡ moved what.state reply = cc in (
      Some reply,
      heard_reply bytes left reply (subst (λ bs. HasGiven (Some bs) (Some left) (λ front. GivesReply front reply))
          same given),
      state,
    )

pub hears_none : (bytes old left : List ℕ) (fault : ExchangeFault) → old ≡ bytes
    → IsFault (Some old) (Some left) 0 0 0 0 fault → None ≡ why_unheard fault → Hears bytes No None
hears_none bytes old left fault same why none =
    unheard bytes left fault (subst (λ bs. IsFault (Some bs) (Some left) 0 0 0 0 fault) same why) (sym none)
