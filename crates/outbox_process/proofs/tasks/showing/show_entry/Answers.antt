use Rattle.std.proofs.Common.{inl}
use Rattle.outbox_core.specs.Reading.{view_entry}
use Rattle.outbox_process.proofs.Looks.{entry_found}
use Rattle.outbox_process.proofs.tasks.showing.show_entry.Goals as goal

pub returns : goal.returns
returns g c = record {
  shown = inl (
    (view_entry c.in_ok-entry.entry).1,
    (λ clean entries had. (entry_found entries c.args.id c.in_ok-entry.entry
        (c.in_ok-entry.ensures.found clean entries had)).0),
    c.print_long.ensures.printed,
    c.print_long.ensures.refused,
  );
  kept = c.entry_of.ensures.kept;
  filer = c.entry_of.ensures.filer;
  clean = c.entry_of.ensures.clean;
}
