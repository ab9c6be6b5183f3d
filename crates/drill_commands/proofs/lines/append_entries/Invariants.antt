use Rattle.std.proofs.Common.{◌≡◌, ◌++◌, take}
use Rattle.std.specs.List.{flat_map}
use Rattle.schedule.specs.Listed.{view_listed}
use Rattle.drill_commands.specs.Shown.{entry_shown}
use Rattle.drill_commands.proofs.lines.append_entries.Given as goal

abbrev pub invariant-loop-outbox : goal.invariant-loop-outbox
invariant-loop-outbox l =
    l.text.items ≡ l.fn.text.items ++ flat_map (λ e. entry_shown (view_listed e)) (take l.outbox-index l.entries)
