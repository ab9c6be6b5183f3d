use Rattle.std.proofs.Common.{inl, subst}
use Rattle.drill_commands.specs.Performing.{PlaysScript}
use Rattle.drill_commands.proofs.tasks.perform_script.Goals as goal

pub returns-in-Ok : goal.returns-in-Ok
returns-in-Ok g c = inl (
  c.in-Ok.script.items,
  c.in-Ok.ensures.whole,
  subst (λ bytes. PlaysScript bytes (g.O.Write.contents c.args.output.now) (g.O.Write.contents c.play_script.new.output)
      c.play_script.result) c.as_slice.ensures.value c.play_script.ensures,
)
