-- What a process has open, or nothing.
use Rattle.std.proofs.Common.{◌≡◌, false, true≢false, Option, Some, None, IsSome, refl, sym}
use Rattle.std.specs.Prelude.{is_some}

pub none_of : {A : Type 0} (o : Option A) → is_some o ≡ false → o ≡ None
none_of None is = refl
none_of (Some x) is = absurd (true≢false is)

pub not_some : {X A : Type 0} (o : Option A) → o ≡ None → IsSome o → X
not_some None none some = absurd (true≢false (sym some))
not_some (Some x) none some = absurd cc
