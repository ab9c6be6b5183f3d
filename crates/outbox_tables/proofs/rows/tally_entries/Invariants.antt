use Rattle.std.proofs.Common.{◌≡◌, false, List, length}
use Rattle.sqlite.specs.Order.{Row}
use Rattle.sqlite.specs.Held.{state}
use Rattle.sqlite.specs.State.{HasCleanDisk}
use Rattle.table_rows.specs.Standing.{CommitsNothing}
use Rattle.outbox_tables.specs.Audit.{entries_text}
use Rattle.outbox_tables.specs.Tally.{sound_from}
use Rattle.outbox_tables.proofs.Texts.{entries_reads}
use Rattle.outbox_tables.proofs.StreamLemmas.{IsGiving}
use Rattle.outbox_tables.proofs.rows.tally_entries.Given as goal

abbrev pub invariant-loop-count : goal.invariant-loop-count
invariant-loop-count g l =
    let now = l.rows.conn.now in record {
      same_reference : l.rows.conn.ghost_name ≡ l.initial.rows.conn.ghost_name;
      mode : l.fn.conn.in_transaction ≡ false → now.in_transaction ≡ false;
      survives : CommitsNothing (state g.S.Store l.fn.conn) (state g.S.Store now);
      given : HasCleanDisk (state g.S.Store now)
          → (rows : List Row) × IsGiving g.S.Store entries_text entries_reads l.fn.conn now rows
          × (l.count ≡ length rows) × (l.sound ≡ sound_from 1 rows);
    }
