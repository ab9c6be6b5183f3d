-- What several reads come to.
use Rattle.std.proofs.Common.{◌≡◌, ℕ, ◌+◌, ◌<◌, ◌≤◌, Bool, true, false, List, [], ◌++◌, length, drop, Option, Result}
use Rattle.std.proofs.Common.{Ok, Err, is_ok, refl, sym, ap, ◌∙◌, subst, append-nil, arith}
use Rattle.std.proofs.KnownBytes.{Consumes-nil, Consumes-trans}
use Rattle.std.proofs.lemmas.Bool.{false≢true}
use Rattle.std.proofs.lemmas.Grind.{common_steps}
use Rattle.std.specs.Io.KnownBytes.{Consumes}
use Rattle.http_messages.specs.declared.refusal.ConnFault.{ConnFault}
use Rattle.http_messages.specs.declared.refusal.ConnFault.TheVariants.{Read, Write, ReadLimit, Memory}
use Rattle.http_wire.specs.Fill.{IsFillFault}
use Rattle.http_wire.specs.Received.{Held, Receives, IsReadFault}
use Rattle.http_messages.specs.Reads.{max_reads}

-- what was added in two steps
drop-twice : (x y z : List ℕ) → y ≡ x ++ drop (length x) y → z ≡ y ++ drop (length y) z
    → drop (length x) z ≡ drop (length x) y ++ drop (length y) z
drop-twice x y z first second =
    let short : length x ≤ length y = let l : length y ≡ length (x ++ drop (length x) y) = ap length first in
    grind (arith, common_steps, l) in
    ap (drop (length x)) second ∙ grind (arith, common_steps, short)

drop-once : (x y z : List ℕ) → y ≡ x ++ drop (length x) y → z ≡ y ++ drop (length y) z → z ≡ x ++ drop (length x) z
drop-once x y z first second =
    let twice = drop-twice x y z first second in
    grind (arith, common_steps, first, second, twice)

-- two reads are one
pub Receives-join : (a b c : Option (List ℕ)) (x y z : Held) → Receives a b x y → Receives b c y z
    → Receives a c x z
Receives-join a b c x y z first second = record {
  bytes = drop-once x.bytes y.bytes z.bytes first.bytes second.bytes;
  given = subst (Consumes a c) (sym (drop-twice x.bytes y.bytes z.bytes first.bytes second.bytes))
      (Consumes-trans a b c _ _ first.given second.given);
  reads = omega (arith, first.reads, second.reads);
  each =
      let both = ap length (drop-twice x.bytes y.bytes z.bytes first.bytes second.bytes) in
      grind (arith, common_steps, first.each, second.each, both);
  idle = λ same. second.idle (omega (arith, first.reads, second.reads))
      ∙ first.idle (omega (arith, first.reads, second.reads));
}

-- a read of nothing
pub Receives-nil : (a : Option (List ℕ)) (x : Held) → Receives a a x x
Receives-nil a x =
    let none : drop (length x.bytes) x.bytes ≡ [] = grind (arith, common_steps) in
    record {
      bytes = grind (arith, common_steps);
      given = subst (Consumes a a) (sym none) (Consumes-nil a);
      reads = omega arith;
      each = omega arith;
      idle = λ _. refl;
    }

-- a read of these bytes, which is counted only if there are some
pub Receives-got : (a b : Option (List ℕ)) (x y : Held) (got : List ℕ) → y.bytes ≡ x.bytes ++ got → Consumes a b got
    → x.reads ≤ y.reads → y.reads ≤ x.reads + length got → (y.reads ≡ x.reads → got ≡ []) → Receives a b x y
Receives-got a b x y got grown given low high none =
    let same : drop (length x.bytes) y.bytes ≡ got = rw grown (grind (arith, common_steps)) in
    record {
      bytes = grown ∙ ap (λ l. x.bytes ++ l) (sym same);
      given = subst (Consumes a b) (sym same) given;
      reads = low;
      each = let size = ap length same in omega (arith, high, size);
      idle = λ count. grown ∙ ap (λ l. x.bytes ++ l) (none count) ∙ append-nil x.bytes;
    }

-- why a read failed, where one more may give bytes
pub IsReadFault-fill : (a b reads : ℕ) (fault : ConnFault) → reads < max_reads → IsFillFault a b fault
    → IsReadFault a b reads fault
IsReadFault-fill a b r Read low f = f
IsReadFault-fill a b r (Write sent) low f = f
IsReadFault-fill a b r ReadLimit low f = absurd f
IsReadFault-fill a b r Memory low f = absurd f

-- the exit of a `?` gives no answer
pub no_answer : {T E : Type 0} {r : Result T E} {x : T} {e : E} → r ≡ Err e → r ≡ Ok x → ⊥
no_answer failed given = false≢true (sym (ap is_ok failed) ∙ ap is_ok given)

-- an answer that says that nothing was read doesn't say that something was
pub no_more : {E : Type 0} {r : Result Bool E} → r ≡ Ok false → r ≡ Ok true → ⊥
no_more none some = grind (arith, none, some)

-- a result has one answer
pub one_answer : {T E : Type 0} {r : Result T E} {x y : T} → r ≡ Ok x → r ≡ Ok y → x ≡ y
one_answer first second = cc
