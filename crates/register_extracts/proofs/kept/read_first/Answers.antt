use Rattle.std.proofs.Common.{◌≡◌, Some, ap, sym, ◌∙◌}
use Rattle.std.specs.Prelude.{slice_get}
use Rattle.std.specs.Option.{option_copied}
use Rattle.std.proofs.lemmas.Result.{IfOk-weaker}
use Rattle.register_rows.specs.Register.{kept_row}
use Rattle.register_extracts.specs.DigestReading.{kept_columns}
use Rattle.register_extracts.proofs.kept.read_first.Goals as goal

pub returns-in-Some : goal.returns-in-Some
returns-in-Some c =
    IfOk-weaker c.read_row.result _ _ (λ request h seq k is target.
    let found : Some c.in-Some.row.now ≡ Some (kept_columns (kept_row seq k)) =
    ap option_copied (sym c.in-Some.is) ∙ c.first.ensures.value ∙ ap (λ rows. slice_get rows 0) is in
    h seq k (cc found) target) c.read_row.ensures
