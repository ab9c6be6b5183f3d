-- What was answered is no fault.
use Rattle.std.proofs.Common.{◌≡◌, Result, Ok, Err, sym, ap, true≢false}
use Rattle.std.specs.Prelude.{is_err}

pub not_err : {A B : Type 0} (a : A) (b : B) → Ok a ≡ Err b → ⊥
not_err {A} {B} a b is = true≢false (sym (ap (λ (r : Result A B). is_err r) is))
