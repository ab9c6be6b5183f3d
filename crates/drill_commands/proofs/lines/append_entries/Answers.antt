use Rattle.std.proofs.Common.{◌++◌, ◌∙◌, ap, sym}
use Rattle.std.specs.List.{flat_map}
use Rattle.std.proofs.lemmas.List.{append-nil, take_all}
use Rattle.std.proofs.lemmas.List.Folds.{flat_map-map}
use Rattle.schedule.specs.Listed.{view_listed}
use Rattle.drill_commands.specs.Shown.{entry_shown}
use Rattle.drill_commands.proofs.GoingThrough.{shown_next}
use Rattle.drill_commands.proofs.lines.append_entries.Goals as goal

pub loop-outbox-init : goal.loop-outbox-init
loop-outbox-init c = sym (append-nil _)

pub loop-outbox-preserved : goal.loop-outbox-preserved
loop-outbox-preserved c =
    shown_next (λ e. entry_shown (view_listed e)) c.args.entries.now c.loop-outbox.outbox-index _ c.args.text.now.items
    c.loop-outbox.text.items c.append_entry.new.text.items c.loop-outbox-test.true c.loop-outbox.invariant
    c.in_ok-append_entry.ensures.ok

pub returns-clause-lines : goal.returns-clause-lines
returns-clause-lines c =
    c.loop-outbox.invariant ∙ ap (λ l. c.args.text.now.items ++ flat_map (λ e. entry_shown (view_listed e)) l)
    (take_all c.loop-outbox.outbox-index c.args.entries.now c.loop-outbox-test.false)
    ∙ ap (λ t. c.args.text.now.items ++ t) (sym (flat_map-map entry_shown view_listed c.args.entries.now))
