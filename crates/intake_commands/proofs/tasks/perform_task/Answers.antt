use Rattle.std.proofs.Common.{sym, ◌∙◌}
use Rattle.intake_commands.proofs.Done.{not_wanted}
use Rattle.intake_commands.proofs.tasks.perform_task.Goals as goal

pub returns-in-Visit-2 : goal.returns-in-Visit-2
returns-in-Visit-2 g c =
    not_wanted g.T.Stream c.args.task.now c.in-Visit.database c.in-Visit.errand _ _ c.in-Visit.is
    (sym c.if-is_wanted.false ∙ c.is_wanted.ensures) c.end-in-Visit-2.ensures
