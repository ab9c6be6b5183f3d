-- No front of the bytes of a reply is refused.
use Rattle.std.proofs.Common.{◌≡◌, ℕ, ◌+◌, ◌≤◌, false, List, [], ◌∷◌, ◌++◌, length, drop, Ok, refl, sym, ap, subst, inl}
use Rattle.std.proofs.Common.{inr, arith, ◌==◌}
use Rattle.std.specs.Prelude.{codes, nat_lt}
use Rattle.std.proofs.lemmas.Bool.Decides.{nat_tests}
use Rattle.std.proofs.lemmas.Grind.{common_steps}
use Rattle.std.proofs.lemmas.List.{append-nil, drop-append-le}
use Rattle.http_messages.specs.declared.refusal.ReplyFault.{ReplyFault}
use Rattle.http_messages.specs.Head.{values_named, parts_named, agreed_number}
use Rattle.http_messages.specs.Reply.{ReplyParts}
use Rattle.http_messages.specs.Response.{ResponseParts, BeginsInterims, none, more, DeclaresContent, BeginsReply}
use Rattle.http_messages.specs.Response.{GivesReply, max_content_len}
use Rattle.http_messages.specs.ReplyFaults.{content_length, IsNoResponse, IsRefusedReply}
use Rattle.http_messages.proofs.MoreBytes.{IsBlockEnd-more, IsBlockEnd-within, IsTooLong-more, block-more}
use Rattle.http_messages.proofs.RefusedReply.{Refuses, refuses-of, Refuses-stops, Refuses-undeclared, GivesReply-begins}
use Rattle.http_messages.proofs.UniqueReply.{Stops-final, interims-same, BeginsResponseHead-more, BeginsInterims-more}

-- interim responses lie in the bytes
interims-within : (bytes : List ℕ) (n : ℕ) → BeginsInterims bytes n → n ≤ length bytes
interims-within bytes n none = omega arith
interims-within bytes n (more {bytes = own} {parts = p} {n = first} {m = rest} a is others) =
    let low = (IsBlockEnd-within bytes first a.block).2 in
    let later = interims-within (drop first bytes) rest others in
    let size : length (drop first bytes) + first ≡ length bytes = grind (arith, common_steps) in
    omega (arith, low, later, size)

-- what no reply can follow stays so
Refuses-more : (bytes rest : List ℕ) → Refuses bytes → Refuses (bytes ++ rest)
Refuses-more bytes rest (inl (n, end, not)) =
    inl (n, IsBlockEnd-more bytes rest n end, subst IsNoResponse (sym (block-more bytes rest n end)) not)
Refuses-more bytes rest (inr (inl long)) = inr (inl (IsTooLong-more bytes rest long))
Refuses-more bytes rest (inr (inr (fault, (parts, n, h, final, e)))) =
    inr (inr (fault, (parts, n, BeginsResponseHead-more bytes rest parts n h, final, e)))

some_values : (values : List (List ℕ)) → ¬ (values ≡ []) → (length values == 0) ≡ false
some_values [] some = absurd (some refl)
some_values (v ∷ values) some = grind (arith, nat_tests)

-- a length that the content may have is one that is read
content_length-declared : (parts : ResponseParts) (len : ℕ) → DeclaresContent parts len
    → content_length parts.fields ≡ Ok len
content_length-declared parts len d =
    let number = agreed_number (parts_named (codes "content-length") parts.fields) in
    let some = some_values (values_named (codes "content-length") parts.fields) d.declared in
    let short : nat_lt max_content_len number ≡ false = let same = d.length_is in let within = d.short in
    grind (arith, nat_tests, same, within) in
    rw (d.uncoded, d.agreed, some, short) (ap Ok (sym d.length_is))

-- no front of the bytes of a reply is refused
pub front-not_refused : (front rest : List ℕ) (reply : ReplyParts) (n : ℕ) (fault : ReplyFault)
    → BeginsReply (front ++ rest) reply n → ¬ (IsRefusedReply front fault)
front-not_refused front rest reply n fault b r =
    let at = refuses-of front fault r in
    let place = sym (drop-append-le at.0 front rest (interims-within front at.0 at.1)) in
    let refused : Refuses (drop at.0 (front ++ rest)) =
    subst Refuses place (Refuses-more (drop at.0 front) rest at.2) in
    let same =
    interims-same (front ++ rest) at.0 b.skipped (BeginsInterims-more front rest at.0 at.1)
    (Refuses-stops _ refused) b.interims (Stops-final _ b.parts b.head_len b.head b.declares.final) in
    Refuses-undeclared (drop b.skipped (front ++ rest)) b.parts b.head_len (length reply.content) b.head
    (content_length-declared b.parts (length reply.content) b.declares)
    (subst (λ k. Refuses (drop k (front ++ rest))) same refused)

-- bytes that give a reply are not refused as one
pub GivesReply-not_refused : (bytes : List ℕ) (reply : ReplyParts) (fault : ReplyFault) → GivesReply bytes reply
    → ¬ (IsRefusedReply bytes fault)
GivesReply-not_refused bytes reply fault gives =
    let begins = GivesReply-begins bytes reply gives in
    front-not_refused bytes [] reply begins.0 fault
    (subst (λ l. BeginsReply l reply begins.0) (sym (append-nil bytes)) begins.1)
