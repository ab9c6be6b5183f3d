use Rattle.std.proofs.Common.{◌∙◌, ap}
use Rattle.outbox_commands.specs.Performing.{closed}
use Rattle.outbox_commands.proofs.Performed.{as_done}
use Rattle.outbox_commands.proofs.tasks.perform_in.Goals as goal

pub returns-in-Ok-perform_task : goal.returns-in-Ok-perform_task
returns-in-Ok-perform_task g c =
    as_done c.args.task c.peer.result c.in-Ok.network c.perform_task.new.network (g.P.Place.lying c.args.place) _ _
    c.perform_task.result c.lost_receipts.result c.peer.ensures c.in-Ok.ensures.made
    (c.new-process.ensures ∙ ap (λ place. closed (g.P.Place.lying place)) c.new-2.ensures) c.perform_task.ensures
    c.in-Ok-perform_task.is c.lost_receipts.ensures c.done_but_for.ensures
