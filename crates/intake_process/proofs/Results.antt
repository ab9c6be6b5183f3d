-- A refusal tells no answer.
use Rattle.std.proofs.Common.{◌≡◌, true≢false, sym, refl, None, Ok, Err}
use Rattle.std.specs.Prelude.{Result}
use Rattle.std.specs.Result.{IsErr, result_ok}

pub none_told : {A E : Type 0} (r : Result A E) → IsErr r → result_ok r ≡ None
none_told (Ok x) is = absurd (true≢false (sym is))
none_told (Err e) is = refl
