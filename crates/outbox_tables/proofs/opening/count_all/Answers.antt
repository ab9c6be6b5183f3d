use Rattle.std.proofs.Common.{◌≡◌, inl, inr, Err, sym, ap, subst, ◌∙◌}
use Rattle.std.proofs.lemmas.Result.{IfOk-weaker, err_from_is_err_and}
use Rattle.std.proofs.lemmas.List.Sorted.{IsPermutation-sym, IsPermutation-trans}
use Rattle.sqlite.specs.Effect.{Database}
use Rattle.table_rows.specs.Rows.{TableHas}
use Rattle.table_rows.proofs.LeavingLemmas.{asked_then, clean_before}
use Rattle.outbox_tables.specs.declared.fault.OutboxFault.TheVariants as fault
use Rattle.outbox_tables.specs.Schema.{HasCommon, entry_table}
use Rattle.outbox_tables.specs.Rows.{IsOutboxOf, entry_rows}
use Rattle.outbox_tables.proofs.AuditLemmas.{targets_paired}
use Rattle.outbox_tables.proofs.HeldLemmas.{has_common, targets_held}
use Rattle.outbox_tables.proofs.SoundLemmas.{kept_entries}
use Rattle.sqlite.specs.Held.{state}
use Rattle.outbox_tables.proofs.opening.count_all.Goals as goal

pub returns-clause-damaged : goal.returns-clause-damaged
returns-clause-damaged g c clean row is =
    let was_clean = clean_before c.count_entries.ensures.leaves clean in
    inr (
      c.read_targets.new.conn,
      c.in_ok-targets.targets.items,
      c.in_ok-targets.ensures.shown was_clean,
      rw c.as_slice.ensures.value at (c.count_entries.ensures.damaged clean row is),
    )

pub returns-clause-disk : goal.returns-clause-disk
returns-clause-disk g c clean is =
    let was_clean = clean_before c.count_entries.ensures.leaves clean in
    inr (
      c.read_targets.new.conn,
      c.in_ok-targets.targets.items,
      c.in_ok-targets.ensures.shown was_clean,
      c.count_entries.ensures.disk clean is,
    )

pub returns-clause-counted : goal.returns-clause-counted
returns-clause-counted g c clean declared =
    let old = state g.S.Store c.args.conn.now in
    let mid = state g.S.Store c.read_targets.new.conn in
    let was_clean = clean_before c.count_entries.ensures.leaves clean in
    let held = targets_held old mid declared c.in_ok-targets.targets.items (c.in_ok-targets.ensures.shown was_clean) in
    let same = (c.in_ok-targets.ensures.leaves.left was_clean).0.now_is in
    let common : HasCommon mid.now.schema =
    subst (λ (d : Database). HasCommon d.schema) (sym same) (has_common _ declared) in
    IfOk-weaker c.count_entries.result _ _ (λ count found. (
      found.0,
      subst (λ (d : Database). TableHas d entry_table (entry_rows found.0)) same found.1,
      IsPermutation-trans _ _ _ (rw c.as_slice.ensures.value at found.2) held,
      found.3,
      found.4,
    )) (c.count_entries.ensures.counted clean common
    (rw c.as_slice.ensures.value (targets_paired old.now c.in_ok-targets.targets.items held)))

pub returns-clause-whole : goal.returns-clause-whole
returns-clause-whole g c clean it is unlimited =
    let was_clean = clean_before c.count_entries.ensures.leaves clean in
    let old = state g.S.Store c.args.conn.now in
    let mid = state g.S.Store c.read_targets.new.conn in
    let held =
    targets_held old mid is.rows.declared c.in_ok-targets.targets.items (c.in_ok-targets.ensures.shown was_clean) in
    let here : IsOutboxOf it mid.now =
    subst (IsOutboxOf it) (sym (c.in_ok-targets.ensures.leaves.left was_clean).0.now_is) is in
    let targets =
    IsPermutation-trans _ _ _ is.rows.targets_are (IsPermutation-sym c.in_ok-targets.targets.items _ held) in
    c.count_entries.ensures.whole clean it.entries (has_common _ here.rows.declared) here.rows.entries_are
    (kept_entries it is.list) (rw c.as_slice.ensures.value targets) (c.in_ok-targets.ensures.leaves.survives.limit
    ∙ unlimited)

pub returns-in_err-targets-clause-damaged : goal.returns-in_err-targets-clause-damaged
returns-in_err-targets-clause-damaged g c clean row is =
    let told = err_from_is_err_and c.from_residual.result c.from_residual.ensures.1 in
    let same : c.in_err-targets.field-0.0 ≡ fault.Damaged row = cc (told.1, told.2) in
    inl (c.in_err-targets.ensures.damaged clean row (ap Err same))

pub returns-in_err-targets-clause-disk : goal.returns-in_err-targets-clause-disk
returns-in_err-targets-clause-disk g c clean is =
    let told = err_from_is_err_and c.from_residual.result c.from_residual.ensures.1 in
    let same : c.in_err-targets.field-0.0 ≡ fault.Disk = cc (told.1, told.2) in
    inl (c.in_err-targets.ensures.disk clean (ap Err same))

pub returns-clause-leaves : goal.returns-clause-leaves
returns-clause-leaves g c = asked_then c.in_ok-targets.ensures.leaves c.count_entries.ensures.leaves
