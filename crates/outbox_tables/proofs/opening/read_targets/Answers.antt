use Rattle.std.proofs.Common.{◌≡◌, sym, ◌∙◌}
use Rattle.sqlite.specs.Held.{state}
use Rattle.table_rows.specs.Causes.{cause_of}
use Rattle.outbox_tables.specs.declared.fault.OutboxFault.TheVariants as fault
use Rattle.table_rows.proofs.LeavingLemmas.{ended}
use Rattle.outbox_tables.proofs.RefusalLemmas.{entry_other, entry_stopped}
use Rattle.outbox_tables.proofs.SoundLemmas.{targets_readable, unlisted}
use Rattle.outbox_tables.proofs.opening.read_targets.Goals as goal

pub returns-in-Err-clause-whole : goal.returns-in-Err-clause-whole
returns-in-Err-clause-whole g c clean it is unlimited =
    let readable =
    targets_readable (state g.S.Store c.args.conn.now) (state g.S.Store c.target_rows.new.conn) is.rows.declared
    unlimited c.in-Err.error (c.in-Err.ensures.failed clean) in
    rw c.entry_fault.ensures (unlisted (cause_of c.in-Err.error) readable)

pub returns-in-Err-clause-damaged : goal.returns-in-Err-clause-damaged
returns-in-Err-clause-damaged g c clean row is =
    let told : c.entry_fault.result ≡ fault.Damaged row = cc in
    let other = entry_other (cause_of c.in-Err.error) row (sym c.entry_fault.ensures ∙ told) in
    (other.0, (c.in-Err.error, c.in-Err.ensures.failed clean, other.1))

pub returns-in-Err-clause-disk : goal.returns-in-Err-clause-disk
returns-in-Err-clause-disk g c clean is =
    let told : c.entry_fault.result ≡ fault.Disk = cc in (
      c.in-Err.error,
      c.in-Err.ensures.failed clean,
      entry_stopped (cause_of c.in-Err.error) (sym c.entry_fault.ensures ∙ told),
    )

pub returns-in-Err-clause-leaves : goal.returns-in-Err-clause-leaves
returns-in-Err-clause-leaves g c = ended c.in-Err.ensures.leaves
