use Rattle.std.proofs.Common.{subst, OnOk}
use Rattle.std.specs.Io.KnownBytes.{Appends}
use Rattle.outbox_process.proofs.Looks.{told_lines}
use Rattle.outbox_process.proofs.Showings.{not_printed}
use Rattle.outbox_process.proofs.tasks.showing.show_states.Goals as goal

pub returns : goal.returns
returns g c = record {
  shown = λ clean entries had.
      subst (λ text. OnOk c.print_states.result
      (Appends (g.O.Write.contents c.args.output.now) (g.O.Write.contents c.print_states.new.output) text))
      (told_lines c.in_ok-states.states.items entries (c.in_ok-states.ensures.found clean entries had))
      (rw c.as_slice.ensures.value at c.print_states.ensures.printed);
  fault = not_printed _ c.print_states.result c.print_states.ensures.refused;
  kept = c.states_of.ensures.kept;
  filer = c.states_of.ensures.filer;
}
