use Rattle.std.proofs.Common.{◌≡◌, Ok, Err, rules, subst}
use Rattle.sqlite.specs.Held.{state}
use Rattle.sqlite.specs.State.{HasCleanDisk}
use Rattle.sqlite.specs.Effect.{Database}
use Rattle.table_rows.proofs.LeavingLemmas.{clean_before}
use Rattle.register_tables.specs.Opening.{KnowsAmends, SaysBeside}
use Rattle.register_tables.specs.Reads.{Never}
use Rattle.register_tables.proofs.Ours.{after, concludes, reads_then, refuses_so}
use Rattle.register_tables.proofs.opening.read_beside.Goals as goal

pub returns-clause-reads : goal.returns-clause-reads
returns-clause-reads g c =
    let received = c.in_ok-received.received in
    concludes g.S.Store (λ beside db. SaysBeside c.args.form beside db) Never received (Ok _) tt
    (λ db h. ((h.0.0, h.0.1, h.1), tt))
    (reads_then g.S.Store c.in_ok-amends.amends (Ok received)
    (reads_then g.S.Store c.in_ok-migrated.migrated (Ok c.in_ok-amends.amends) c.in_ok-migrated.ensures.reads
    c.in_ok-amends.ensures.reads) c.in_ok-received.ensures)

pub returns-clause-known : goal.returns-clause-known
returns-clause-known g c clean alive =
    let two : HasCleanDisk (state g.S.Store c.amends_in.new.conn) = clean_before c.in_ok-received.ensures.leaves clean
    in
    let one : HasCleanDisk (state g.S.Store c.migrated_in.new.conn) =
    clean_before c.in_ok-amends.ensures.reads.leaves two in
    let same = (c.in_ok-migrated.ensures.reads.leaves.left one).same alive in (
      c.in_ok-migrated.ensures.known one,
      subst (λ (db : Database). KnowsAmends c.args.form db.schema) same.0.now_is (c.in_ok-amends.ensures.known two),
    )

pub returns-in_err-migrated-clause-reads : goal.returns-in_err-migrated-clause-reads
returns-in_err-migrated-clause-reads g c =
    let told : c.from_residual.result ≡ Err c.in_err-migrated.field-0.0 = search rules in
    rw told (refuses_so g.S.Store _ Never c.in_err-migrated.field-0.0 (λ row db never. never)
    c.in_err-migrated.ensures.reads)

pub returns-in_err-amends-clause-reads : goal.returns-in_err-amends-clause-reads
returns-in_err-amends-clause-reads g c =
    let told : c.from_residual-in_err-amends.result ≡ Err c.in_err-amends.field-0.0 = search rules in
    rw told (refuses_so g.S.Store _ Never c.in_err-amends.field-0.0 (λ row db never. never)
    (after g.S.Store c.in_ok-migrated.migrated (Err c.in_err-amends.field-0.0) c.in_ok-migrated.ensures.reads
    c.in_err-amends.ensures.reads))

pub returns-in_err-received-clause-reads : goal.returns-in_err-received-clause-reads
returns-in_err-received-clause-reads g c =
    let told : c.from_residual-in_err-received.result ≡ Err c.in_err-received.field-0.0 = search rules in
    rw told (refuses_so g.S.Store _ Never c.in_err-received.field-0.0 (λ row db never. never)
    (after g.S.Store c.in_ok-migrated.migrated (Err c.in_err-received.field-0.0) c.in_ok-migrated.ensures.reads
    (after g.S.Store c.in_ok-amends.amends (Err c.in_err-received.field-0.0) c.in_ok-amends.ensures.reads
    c.in_err-received.ensures)))
