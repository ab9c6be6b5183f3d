use Rattle.std.proofs.Common.{◌++◌, ◌∷◌, []}
use Rattle.filing_model.specs.Serving.{kept_by}
use Rattle.filing_model.specs.Steps.{all_completed}
use Rattle.filing_model.proofs.Appending.{firsts-kept_by}
use Rattle.filing_model.proofs.Steps.{last_fits}
use Rattle.gateway_server.proofs.Steps.{kept_more, step_cut_short, step_served}
use Rattle.gateway_server.proofs.laws.a_step_is_a_connection.Goals as goal

pub returns-clause-served : goal.returns-clause-served
returns-clause-served c = λ limit old_style before steps step bytes n fit begins.
    step_served limit old_style (kept_by before (all_completed steps)) (before ++ all_completed steps)
    (kept_by before (all_completed (steps ++ step ∷ []))) (firsts-kept_by before (all_completed steps)) step
    (last_fits limit before steps step fit) (kept_more before steps step) bytes n begins

pub returns-clause-cut_short : goal.returns-clause-cut_short
returns-clause-cut_short c = λ limit old_style before steps step bytes n out fit begins front.
    step_cut_short limit old_style (kept_by before (all_completed steps)) (before ++ all_completed steps)
    (kept_by before (all_completed (steps ++ step ∷ []))) (firsts-kept_by before (all_completed steps)) step
    (last_fits limit before steps step fit) (kept_more before steps step) bytes n begins out front
