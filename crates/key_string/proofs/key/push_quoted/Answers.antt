use Rattle.std.proofs.Common.{ap, ◌∙◌}
use Rattle.std.proofs.Transfers.{starts_with_of_eq, starts_with_of_append, starts_with_trans}
use Rattle.std.proofs.lemmas.Result.{err_from_is_err_and}
use Rattle.std.specs.Io.{StartsWith}
use Rattle.key_string.proofs.key.push_quoted.Goals as goal
use Rattle.key_string.proofs.key.push_quoted.Goals.{then-matches+in_ok-push-2, else-matches}

pub returns-in_err-push-clause-err : goal.returns-in_err-push-clause-err
returns-in_err-push-clause-err c =
    let gives = err_from_is_err_and c.from_residual.result c.from_residual.ensures.1 in
    rw gives.1 (starts_with_of_eq _ _ c.in_err-push.ensures.items)

pub returns-in_err-push-2-clause-err : goal.returns-in_err-push-2-clause-err
returns-in_err-push-2-clause-err c =
    let gives = err_from_is_err_and c.from_residual-in_err-push-2.result c.from_residual-in_err-push-2.ensures.1 in
    rw gives.1 (starts_with_of_append _ _ _ (c.in_err-push-2.ensures.items ∙ c.loop-byte.invariant))

-- the byte follows what was written before, and maybe a backslash
pub returns-in_err-push-3-clause-err : goal.returns-in_err-push-3-clause-err
returns-in_err-push-3-clause-err c =
    let before = starts_with_of_append _ _ _ c.loop-byte.invariant in
    let escaped : StartsWith c.if-matches.out.items c.args.out.now.items = elim c.if-matches.branch [
      | then-matches+in_ok-push-2 w ↦ starts_with_trans _ _ _
          (starts_with_of_append _ _ _ (ap (λ out. out.items) w.out-is ∙ w.in_ok-push-2.ensures.items)) before
      | else-matches w ↦ rw w.out-is before
    ] in
    let gives = err_from_is_err_and c.from_residual-in_err-push-3.result c.from_residual-in_err-push-3.ensures.1 in
    rw (gives.1, c.in_err-push-3.ensures.items) escaped

pub returns-in_err-push-4-clause-err : goal.returns-in_err-push-4-clause-err
returns-in_err-push-4-clause-err c =
    let gives = err_from_is_err_and c.from_residual-in_err-push-4.result c.from_residual-in_err-push-4.ensures.1 in
    rw gives.1 (starts_with_of_append _ _ _ (c.in_err-push-4.ensures.items ∙ c.loop-byte.invariant))
