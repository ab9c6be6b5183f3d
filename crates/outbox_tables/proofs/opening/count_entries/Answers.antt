use Rattle.std.proofs.Common.{◌≡◌, None, Some, sym, ap, ◌∙◌}
use Rattle.sqlite.specs.Held.{state}
use Rattle.table_rows.specs.Causes.{cause_of}
use Rattle.outbox_tables.specs.Audit.{damaged_row}
use Rattle.outbox_tables.proofs.AuditLemmas.{entries_found}
use Rattle.outbox_tables.proofs.HeldLemmas.{entries_held}
use Rattle.outbox_tables.proofs.SoundLemmas.{no_damage, entries_readable, unlisted}
use Rattle.outbox_tables.proofs.opening.count_entries.Goals as goal

pub returns-in-None-clause-counted : goal.returns-in-None-clause-counted
returns-in-None-clause-counted g c clean common pairs =
    let old = state g.S.Store c.args.conn.now in
    let read = rw c.in-Ok-Some.field-0-is at c.in-Ok-Some.ensures.shown clean in
    let held = entries_held old (state g.S.Store c.tally_entries.new.conn) common read.0 read.1 in
    let none : damaged_row c.args.targets.now read.0 ≡ None =
    sym (c.in_ok-damaged_row-in-Ok-Some.ensures read.0 read.2) ∙ c.in-None.is in
    let found = entries_found old.now c.args.targets.now read.0 held pairs none in
    (found.0, found.1, found.2, found.3, ap (λ t. t.count) read.2 ∙ found.4)

pub returns-in-Some-clause-whole : goal.returns-in-Some-clause-whole
returns-in-Some-clause-whole g c clean entries common held kept same unlimited =
    let read = rw c.in-Ok-Some.field-0-is at c.in-Ok-Some.ensures.shown clean in
    let some : damaged_row c.args.targets.now read.0 ≡ Some c.in-Some.row =
    sym (c.in_ok-damaged_row-in-Ok-Some.ensures read.0 read.2) ∙ c.in-Some.is in
    let none =
    no_damage (state g.S.Store c.args.conn.now) (state g.S.Store c.tally_entries.new.conn) common entries
    c.args.targets.now read.0 held kept same read.1 in
    absurd (let both = sym none ∙ some in cc)

pub returns-in-Err-clause-whole : goal.returns-in-Err-clause-whole
returns-in-Err-clause-whole g c clean entries common held kept same unlimited =
    let readable =
    entries_readable (state g.S.Store c.args.conn.now) (state g.S.Store c.tally_entries.new.conn) common unlimited
    c.in-Err.error (c.in-Err.ensures.failed clean) in
    rw c.entry_fault.ensures (unlisted (cause_of c.in-Err.error) readable)
