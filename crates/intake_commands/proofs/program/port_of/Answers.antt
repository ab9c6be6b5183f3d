use Rattle.std.proofs.Common.{ap, ◌∙◌, length, map, nat_eq}
use Rattle.intake_commands.specs.Reported.{gone}
use Rattle.intake_commands.proofs.program.port_of.Goals as goal

pub returns-in-Ok : goal.returns-in-Ok
returns-in-Ok c = (
  c.in-Ok.ensures.running
      (ap length c.new-reported.ensures.came, ap (λ over. map gone over) c.new-reported.ensures.over),
  c.in-Ok.ensures.asked,
  c.in-Ok.ensures.shut ∙ ap (λ bounds. nat_eq bounds.connections 0) c.bounds_of-bounds.ensures,
  c.in-Ok.ensures.bounds ∙ c.bounds_of-bounds.ensures,
)
