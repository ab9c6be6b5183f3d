-- What several calls take off the bytes that are held.
use Rattle.std.proofs.Common.{◌≡◌, ◌≢◌, ℕ, ◌+◌, ◌-◌, ◌<◌, ◌≤◌, min, List, [], ◌++◌, length, take, drop, Option, sym, ap}
use Rattle.std.proofs.Common.{◌∙◌, subst, subst₂, arith, length-append, length-drop, append_assoc}
use Rattle.std.proofs.KnownBytes.{Consumes-nil, Consumes-trans}
use Rattle.std.specs.Prelude.{slice_range}
use Rattle.std.proofs.lemmas.Grind.{common_steps}
use Rattle.std.proofs.lemmas.List.{append-nil, take-append-drop}
use Rattle.http_wire.specs.declared.received.Received.{Received}
use Rattle.http_wire.specs.Received.{held_bytes, read_count, received, Receives, IsReadFault}
use Rattle.http_messages.specs.declared.refusal.ConnFault.{ConnFault}
use Rattle.http_messages.specs.declared.refusal.ConnFault.TheVariants.{Read, Write, ReadLimit, Memory}
use Rattle.http_messages.specs.declared.response.ResponseHead.{ResponseHead}
use Rattle.http_messages.specs.Block.{IsBlockEnd, IsUnended, from_block, skipped_len}
use Rattle.http_wire.specs.Device.{HasFailed}
use Rattle.http_messages.specs.ReplyFaults.{fault_of_read}
use Rattle.http_wire.specs.ReplyReading.{Takes, TakesHead, IsHeadFailure, IsContentFailure}
use Rattle.http_messages.specs.ResponseBlock.{IsResponseBlock}
use Rattle.http_messages.specs.Response.{ResponseParts, BeginsResponseHead}
use Rattle.http_messages.proofs.BlockLemmas.{EndsAt-within}
use Rattle.http_messages.proofs.MoreBytes.{IsBlockEnd-within}

-- reads take nothing
pub Takes-receives : (a b : Option (List ℕ)) (x y : Received) → Receives a b (received x) (received y)
    → Takes a b x y []
Takes-receives a b x y r =
    record { read = drop (length (held_bytes x)) (held_bytes y); given = r.given; bytes = sym r.bytes; count = r.each }

-- the first bytes are taken
pub Takes-front : (a : Option (List ℕ)) (x y : Received) (n : ℕ) → held_bytes y ≡ drop n (held_bytes x)
    → read_count y ≡ read_count x → Takes a a x y (take n (held_bytes x))
Takes-front a x y n bytes count = record {
  read = [];
  given = Consumes-nil a;
  bytes = append-nil (held_bytes x) ∙ sym (take-append-drop n (held_bytes x))
      ∙ ap (λ l. take n (held_bytes x) ++ l) (sym bytes);
  count = omega (arith, count);
}

join-bytes : (x r y s z t u : List ℕ) → x ++ r ≡ t ++ y → y ++ s ≡ u ++ z → x ++ (r ++ s) ≡ (t ++ u) ++ z
join-bytes x r y s z t u first second =
    sym (append_assoc x r s) ∙ ap (λ l. l ++ s) first ∙ append_assoc t y s ∙ ap (λ l. t ++ l) second
    ∙ sym (append_assoc t u z)

-- one after another
pub Takes-join : (a b c : Option (List ℕ)) (x y z : Received) (t u : List ℕ) → Takes a b x y t → Takes b c y z u
    → Takes a c x z (t ++ u)
Takes-join a b c x y z t u first second = record {
  read = first.read ++ second.read;
  given = Consumes-trans a b c first.read second.read first.given second.given;
  bytes = join-bytes (held_bytes x) first.read (held_bytes y) second.read (held_bytes z) t u first.bytes second.bytes;
  count = omega (arith, first.count, second.count, length-append first.read second.read);
}

-- a head that was taken begins the bytes from its place on
head-split : (bytes rest : List ℕ) (parts : ResponseParts) (n : ℕ) → BeginsResponseHead bytes parts n
    → rest ≡ drop n bytes → BeginsResponseHead (take n bytes ++ rest) parts (length (take n bytes))
head-split bytes rest parts n h same =
    let within = (IsBlockEnd-within bytes n h.block).2 in
    let size : length (take n bytes) ≡ n = grind (arith, common_steps) in
    let whole : take n bytes ++ rest ≡ bytes = ap (λ l. take n bytes ++ l) same ∙ take-append-drop n bytes in
    subst (λ l. BeginsResponseHead l parts (length (take n bytes))) (sym whole)
    (subst (λ k. BeginsResponseHead bytes parts k) (sym size) h)

-- a head is taken that was found at the front
pub TakesHead-found : (a b : Option (List ℕ)) (old mid new : Received) (head : ResponseHead) (n : ℕ)
    → Receives a b (received old) (received mid) → IsBlockEnd (held_bytes mid) n
    → IsResponseBlock (slice_range (held_bytes mid) (skipped_len (held_bytes mid)) n) head
    → held_bytes new ≡ drop n (held_bytes mid) → read_count new ≡ read_count mid → TakesHead a b old new head
TakesHead-found a b old mid new head n reads end is bytes count = record {
  block = take n (held_bytes mid);
  takes = Takes-join a b b old mid new [] (take n (held_bytes mid)) (Takes-receives a b old mid reads)
      (Takes-front b mid new n bytes count);
  parts = is.0;
  begins = head-split (held_bytes mid) (held_bytes new) is.0 n (record { block = end; head = is.1 }) bytes;
  shows = is.2;
}

-- ---- the content, in turns

-- a turn takes the first bytes that are held
pub Takes-turn : (a b : Option (List ℕ)) (old mid new : Received) (part items held : List ℕ) (n : ℕ)
    → Takes a b old mid part → held ≡ held_bytes mid → items ≡ part ++ take n held
    → held_bytes new ≡ drop n (held_bytes mid) → read_count new ≡ read_count mid → Takes a b old new items
Takes-turn a b old mid new part items held n before same made bytes count =
    let whole : items ≡ part ++ take n (held_bytes mid) = made ∙ ap (λ l. part ++ take n l) same in
    subst (Takes a b old new) (sym whole) (Takes-join a b b old mid new part (take n (held_bytes mid)) before
    (Takes-front b mid new n bytes count))

-- where they don't suffice, nothing is held after it
turn-short : (part items held rest after : List ℕ) (n len : ℕ) → n ≡ min (length held) (len - length part)
    → items ≡ part ++ take n held → held ≡ rest → after ≡ drop n rest → length items ≢ len → length part ≤ len
    → (after ≡ []) × (length items < len)
turn-short part items held rest after n len least made same cut other short =
    let size : length items ≡ length part + length (take n held) = ap length made ∙ length-append part (take n held) in
    let front : length (take n held) ≡ n = grind (arith, common_steps, least) in
    let all : n ≡ length held = omega (arith, size, front, least, other, short) in
    let none : drop n held ≡ [] = grind (arith, common_steps, all) in
    (cut ∙ ap (drop n) (sym same) ∙ none, omega (arith, size, front, least, other, short))

-- and a read follows
Takes-more : (a b c : Option (List ℕ)) (old mid new : Received) (part : List ℕ) → Takes a b old mid part
    → Receives b c (received mid) (received new) → Takes a c old new part
Takes-more a b c old mid new part before reads =
    subst (Takes a c old new) (append-nil part) (Takes-join a b c old mid new part [] before
    (Takes-receives b c mid new reads))

-- what a turn that doesn't suffice and a read after it come to
pub record Turn (a b : Option (List ℕ)) (old mid new : Received) (items : List ℕ) (len : ℕ) : Type 0 where
  pub takes : Takes a b old new items
  pub empty : held_bytes mid ≡ []
  pub short : length items < len

pub Turn-of : (a b c : Option (List ℕ)) (old first mid new : Received) (part items held : List ℕ) (n len : ℕ)
    → Takes a b old first part → length part ≤ len → held ≡ held_bytes first
    → n ≡ min (length held) (len - length part) → items ≡ part ++ take n held → length items ≢ len
    → held_bytes mid ≡ drop n (held_bytes first) → read_count mid ≡ read_count first
    → Receives b c (received mid) (received new)
    → Turn a c old mid new items len
Turn-of a b c old first mid new part items held n len before within same least made other bytes count reads =
    let short =
    turn-short part items held (held_bytes first) (held_bytes mid) n len least made same bytes other within in
    record {
      takes = Takes-more a b c old mid new items (Takes-turn a b old first mid part items held n before same made bytes
          count) reads;
      empty = short.0;
      short = short.1;
    }

-- which may fail
pub content_failure : (a b : Option (List ℕ)) (p q r s : ℕ) (old new : Received) (part : List ℕ) (len : ℕ)
    (fault : ConnFault) → Takes a b old new part → held_bytes new ≡ [] → length part < len → r ≡ p
    → IsReadFault r s (read_count new) fault → q ≡ s → IsContentFailure a b p q old new len (fault_of_read fault)
content_failure a b p q r s old new part len Read takes empty short same f last = subst₂ HasFailed same (sym last) f
content_failure a b p q r s old new part len (Write sent) takes empty short same f last = absurd f
content_failure a b p q r s old new part len ReadLimit takes empty short same f last =
    (last ∙ f.0 ∙ same, (part, takes, empty, short), f.1)
content_failure a b p q r s old new part len Memory takes empty short same f last = last ∙ f.0 ∙ same

-- ---- why a read gave no head

-- a read that failed
pub head_failure-read : (a b : Option (List ℕ)) (p q : ℕ) (old new : Received) (fault : ConnFault)
    → Receives a b (received old) (received new) → IsUnended (held_bytes new) → IsReadFault p q (read_count new) fault
    → IsHeadFailure a b p q old new (fault_of_read fault)
head_failure-read a b p q old new Read reads unended f = f
head_failure-read a b p q old new (Write sent) reads unended f = absurd f
head_failure-read a b p q old new ReadLimit reads unended f = (f.0, Takes-receives a b old new reads, unended, f.1)
head_failure-read a b p q old new Memory reads unended f = f

-- a head that is taken after reads that gave nothing leaves less
pub head-shorter : (a b : Option (List ℕ)) (old mid new : Received) (n : ℕ) → Receives a b (received old) (received mid)
    → IsBlockEnd (held_bytes mid) n
    → held_bytes new ≡ drop n (held_bytes mid) → read_count new ≡ read_count mid → read_count new ≡ read_count old
    → length (held_bytes new) < length (held_bytes old)
head-shorter a b old mid new n reads end bytes count same =
    let idle = ap length (reads.idle (sym count ∙ same)) in
    let some = EndsAt-within (from_block (held_bytes mid)) end.0 end.1.ends in
    let within = IsBlockEnd-within (held_bytes mid) n end in
    let left : length (held_bytes new) ≡ length (held_bytes mid) - n =
    ap length bytes ∙ length-drop n (held_bytes mid) in
    omega (arith, idle, some.0, end.2, within.0, left)
