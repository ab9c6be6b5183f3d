-- Bytes in which no reply is read.
use Rattle.std.proofs.Common.{◌≡◌, ℕ, ◌+◌, ◌<◌, Bool, true, false, List, [], ◌∷◌, length, take, drop, Result, Ok, Err}
use Rattle.std.proofs.Common.{sym, ap, subst, inl, inr, ◌⊎◌, arith}
use Rattle.std.specs.Prelude.{codes, not, nat_lt, ◌==◌, slice_range, if◌then◌else◌}
use Rattle.std.proofs.lemmas.Bool.Decides.{nat_tests}
use Rattle.std.proofs.lemmas.List.{take-append-drop}
use Rattle.http_messages.specs.declared.refusal.ReplyFault.{ReplyFault}
use Rattle.http_messages.specs.declared.refusal.ReplyFault.TheVariants.{Cut, Malformed, NoLength, TooLarge, Read}
use Rattle.http_messages.specs.declared.refusal.ReplyFault.TheVariants.{ReadLimit, Memory}
use Rattle.http_messages.specs.Block.{skipped_len, IsTooLong, IsUnended}
use Rattle.http_messages.specs.Head.{values_named, parts_named, agree, agreed_number}
use Rattle.http_messages.specs.Reply.{ReplyParts}
use Rattle.http_messages.specs.Response.{ResponseParts, ReadsResponseHead, BeginsResponseHead, BeginsInterims}
use Rattle.http_messages.specs.Response.{BeginsReply, GivesReply, DeclaresContent, is_interim, max_content_len}
use Rattle.http_messages.specs.ReplyFaults.{content_length, BeginsBadHead, DeclaresFault, AfterInterims, IsRefusedReply}
use Rattle.http_messages.specs.ReplyFaults.{IsCutReply}
use Rattle.http_messages.proofs.Unique.{IsBlockEnd-unique, IsTooLong-excludes}
use Rattle.http_messages.proofs.UniqueReply.{BeginsResponseHead-unique, Stops, Stops-final, interims-same}
use Rattle.http_messages.proofs.UniqueReply.{BeginsReply-more}

-- ---- the length that is declared

abbrev choice : Bool → Bool → Bool → Bool → ℕ → Result ℕ ReplyFault
choice coded agreed missing large n =
    if coded then Err Malformed else (if not agreed then Err Malformed
    else (if missing then Err NoLength else (if large then Err TooLarge else Ok n)))

choice-ok : (coded agreed missing large : Bool) (n len : ℕ) → choice coded agreed missing large n ≡ Ok len
    → (coded ≡ false) × (agreed ≡ true) × (missing ≡ false) × (large ≡ false) × (n ≡ len)
choice-ok true agreed missing large n len e = cc
choice-ok false false missing large n len e = cc
choice-ok false true true large n len e = cc
choice-ok false true false true n len e = cc
choice-ok false true false false n len e = (cc, cc, cc, cc, cc)

-- the three faults of a length
abbrev pub IsLengthFault : ReplyFault → Type 0
IsLengthFault fault = (fault ≡ Malformed) ⊎ ((fault ≡ NoLength) ⊎ (fault ≡ TooLarge))

choice-err : (coded agreed missing large : Bool) (n : ℕ) (fault : ReplyFault)
    → choice coded agreed missing large n ≡ Err fault → IsLengthFault fault
choice-err true agreed missing large n fault e = inl (cc)
choice-err false false missing large n fault e = inl (cc)
choice-err false true true large n fault e = inr (inl (cc))
choice-err false true false true n fault e = inr (inr (cc))
choice-err false true false false n fault e = cc

no_values : (values : List (List ℕ)) → nat_lt 0 (length values) ≡ false → values ≡ []
no_values [] e = cc
no_values (v ∷ values) e = absurd (grind (arith, nat_tests, e))

-- a length that is read is one that the content may have
pub DeclaresContent-of : (parts : ResponseParts) (len : ℕ) → is_interim parts.status ≡ false
    → content_length parts.fields ≡ Ok len → DeclaresContent parts len
DeclaresContent-of parts len final e =
    let values = values_named (codes "content-length") parts.fields in
    let number = agreed_number (parts_named (codes "content-length") parts.fields) in
    let read =
    choice-ok (nat_lt 0 (length (values_named (codes "transfer-encoding") parts.fields)))
    (agree (parts_named (codes "content-length") parts.fields)) (length values == 0) (nat_lt max_content_len number)
    number len e in
    record {
      final = final;
      uncoded = no_values (values_named (codes "transfer-encoding") parts.fields) read.0;
      declared = λ none. let size : length values ≡ 0 = ap length none in let some = read.2 in
          absurd (grind (arith, nat_tests, size, some));
      agreed = read.1;
      length_is = sym read.4;
      short = let large = read.3 in let same = read.4 in grind (arith, nat_tests, large, same);
    }

pub content_length-fault : (fields : List (List ℕ × List ℕ)) (fault : ReplyFault) → content_length fields ≡ Err fault
    → IsLengthFault fault
content_length-fault fields fault e =
    let number = agreed_number (parts_named (codes "content-length") fields) in
    choice-err (nat_lt 0 (length (values_named (codes "transfer-encoding") fields)))
    (agree (parts_named (codes "content-length") fields))
    (length (values_named (codes "content-length") fields) == 0) (nat_lt max_content_len number) number fault e

-- ---- what stands after the interim responses

-- what no reply can follow
abbrev pub Refuses : List ℕ → Type 0
Refuses bytes = BeginsBadHead bytes ⊎ (IsTooLong bytes ⊎ ((fault : ReplyFault) × DeclaresFault fault bytes))

pub refuses-of : (bytes : List ℕ) (fault : ReplyFault) → IsRefusedReply bytes fault → AfterInterims Refuses bytes
refuses-of bytes Malformed (n, interims, inl bad) = (n, interims, inl bad)
refuses-of bytes Malformed (n, interims, inr declared) = (n, interims, inr (inr (Malformed, declared)))
refuses-of bytes NoLength (n, interims, declared) = (n, interims, inr (inr (NoLength, declared)))
refuses-of bytes TooLarge (n, interims, inl long) = (n, interims, inr (inl long))
refuses-of bytes TooLarge (n, interims, inr declared) = (n, interims, inr (inr (TooLarge, declared)))
refuses-of bytes Cut r = absurd r
refuses-of bytes Read r = absurd r
refuses-of bytes ReadLimit r = absurd r
refuses-of bytes Memory r = absurd r

bad-no_head : (bytes : List ℕ) → BeginsBadHead bytes → (parts : ResponseParts) (n : ℕ)
    → ¬ (BeginsResponseHead bytes parts n)
bad-no_head bytes b parts n h =
    let end = IsBlockEnd-unique bytes n b.0 h.block b.1 in
    b.2 parts (subst (λ k. ReadsResponseHead (slice_range bytes (skipped_len bytes) k) parts) end h.head)

long-no_head : (bytes : List ℕ) → IsTooLong bytes → (parts : ResponseParts) (n : ℕ)
    → ¬ (BeginsResponseHead bytes parts n)
long-no_head bytes t parts n h = IsTooLong-excludes bytes n h.block t

-- it isn't an interim response
pub Refuses-stops : (bytes : List ℕ) → Refuses bytes → Stops bytes
Refuses-stops bytes (inl bad) = λ parts n h. absurd (bad-no_head bytes bad parts n h)
Refuses-stops bytes (inr (inl long)) = λ parts n h. absurd (long-no_head bytes long parts n h)
Refuses-stops bytes (inr (inr (fault, (parts, n, h, final, e)))) = Stops-final bytes parts n h final

-- nor less than a block
unended-no_head : (bytes : List ℕ) → IsUnended bytes → (parts : ResponseParts) (n : ℕ)
    → ¬ (BeginsResponseHead bytes parts n)
unended-no_head bytes u parts n h = u.unended h.block.0 h.block.1.short h.block.1.ends

Refuses-ended : (bytes : List ℕ) → IsUnended bytes → ¬ (Refuses bytes)
Refuses-ended bytes u (inl bad) = u.unended bad.1.0 bad.1.1.short bad.1.1.ends
Refuses-ended bytes u (inr (inl long)) = omega (arith, long.full, u.room)
Refuses-ended bytes u (inr (inr (fault, (parts, n, h, final, e)))) = unended-no_head bytes u parts n h

-- nor a head that declares a length
pub Refuses-undeclared : (bytes : List ℕ) (parts : ResponseParts) (n len : ℕ) → BeginsResponseHead bytes parts n
    → content_length parts.fields ≡ Ok len → ¬ (Refuses bytes)
Refuses-undeclared bytes parts n len h e (inl bad) = bad-no_head bytes bad parts n h
Refuses-undeclared bytes parts n len h e (inr (inl long)) = long-no_head bytes long parts n h
Refuses-undeclared bytes parts n len h e (inr (inr (fault, (q, m, g, final, wrong)))) =
    let same : content_length parts.fields ≡ content_length q.fields =
    ap (λ (p : ResponseParts). content_length p.fields) (BeginsResponseHead-unique bytes parts q n m h g).0 in
    cc

-- ---- cut replies

-- a reply in the bytes begins them
pub GivesReply-begins : (bytes : List ℕ) (reply : ReplyParts) → GivesReply bytes reply
    → (n : ℕ) × BeginsReply bytes reply n
GivesReply-begins bytes reply g = (
  length (take g.0 bytes),
  subst (λ l. BeginsReply l reply (length (take g.0 bytes))) (take-append-drop g.0 bytes)
      (BeginsReply-more (take g.0 bytes) (drop g.0 bytes) reply (length (take g.0 bytes)) g.1),
)

module _ (bytes : List ℕ) (n : ℕ) (interims : BeginsInterims bytes n) where
  -- what follows the interim responses of a reply
  reply-place : (reply : ReplyParts) (k : ℕ) (b : BeginsReply bytes reply k) → Stops (drop n bytes) → n ≡ b.skipped
  reply-place reply k b stops =
      interims-same bytes n b.skipped interims stops b.interims
      (Stops-final (drop b.skipped bytes) b.parts b.head_len b.head b.declares.final)

  refused-place : (fault : ReplyFault) → IsRefusedReply bytes fault → Stops (drop n bytes) → Refuses (drop n bytes)
  refused-place fault r stops =
      let at = refuses-of bytes fault r in
      let same = interims-same bytes n at.0 interims stops at.1 (Refuses-stops (drop at.0 bytes) at.2) in
      subst (λ k. Refuses (drop k bytes)) (sym same) at.2

  -- less than a block
  pub IsCutReply-unended : IsUnended (drop n bytes) → IsCutReply bytes
  IsCutReply-unended u =
      let stops : Stops (drop n bytes) = λ parts m h. absurd (unended-no_head (drop n bytes) u parts m h) in
      record {
        none = λ reply g.
            let b = GivesReply-begins bytes reply g in
            unended-no_head (drop n bytes) u b.1.parts b.1.head_len
            (subst (λ k. BeginsResponseHead (drop k bytes) b.1.parts b.1.head_len)
            (sym (reply-place reply b.0 b.1 stops)) b.1.head);
        refused = λ fault r. Refuses-ended (drop n bytes) u (refused-place fault r stops);
      }

  -- a final head and less than its content
  pub IsCutReply-content : (parts : ResponseParts) (m len : ℕ) → BeginsResponseHead (drop n bytes) parts m
      → is_interim parts.status ≡ false → content_length parts.fields ≡ Ok len
      → length bytes < n + m + len → IsCutReply bytes
  IsCutReply-content parts m len h final e cut =
      let stops = Stops-final (drop n bytes) parts m h final in
      let declared = (DeclaresContent-of parts len final e).length_is in
      record {
        none = λ reply g.
            let b = GivesReply-begins bytes reply g in
            let place = reply-place reply b.0 b.1 stops in
            let same =
            BeginsResponseHead-unique (drop n bytes) parts b.1.parts m b.1.head_len h
            (subst (λ k. BeginsResponseHead (drop k bytes) b.1.parts b.1.head_len) (sym place) b.1.head) in
            let number =
            ap (λ (p : ResponseParts). agreed_number (parts_named (codes "content-length") p.fields)) same.0 in
            omega (arith, b.1.whole, b.1.length_is, b.1.declares.length_is, declared, number, place, same.1, cut);
        refused = λ fault r. Refuses-undeclared (drop n bytes) parts m len h e (refused-place fault r stops);
      }
