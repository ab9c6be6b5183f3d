use Rattle.std.proofs.Common.{◌≡◌, inr, Ok, Err, refl, rules, subst}
use Rattle.sqlite.specs.Effect.{Database}
use Rattle.sqlite.specs.Held.{state}
use Rattle.sqlite.specs.State.{HasCleanDisk}
use Rattle.table_rows.proofs.LeavingLemmas.{clean_before, ended, passed_then}
use Rattle.register_tables.specs.Earlier.{IsDamaged}
use Rattle.register_tables.specs.Opening.{IsHeldIn}
use Rattle.register_tables.specs.Reads.{CanBeRead}
use Rattle.register_tables.proofs.Holding.{damaged_among, damaged_beside, held_so, within_so}
use Rattle.register_tables.proofs.OpenLemmas.{common_in}
use Rattle.register_tables.proofs.Ours.{concludes, of_more, reads_then, refuses_so}
use Rattle.register_tables.proofs.opening.read_in.Goals as goal

pub returns-in-Ok : goal.returns-in-Ok
returns-in-Ok g c =
    let form = c.args.form in
    let beside = c.in_ok-beside.beside in
    let totals = c.in_ok-totals.totals in
    let counts = c.in-Ok.counts in
    let whole = passed_then c.in_ok-beside.ensures.reads.leaves c.in_ok-totals.ensures.leaves in
    let both =
    reads_then g.S.Store beside (Ok totals) c.in_ok-beside.ensures.reads
    (of_more g.S.Store (Ok totals) (common_in form) (rw c.deref.ensures.value at c.in_ok-totals.ensures.reads)) in
    record {
      reads = concludes g.S.Store (λ counts db. IsHeldIn form counts db) (λ row db. IsDamaged form db row) totals
          (Ok counts) tt (λ db h. (held_so form beside totals db h.0 h.1 counts c.in-Ok.ensures.told, tt)) both;
      has = λ clean.
          let mid : HasCleanDisk (state g.S.Store c.read_beside.new.conn) =
          clean_before c.in_ok-totals.ensures.leaves clean in
          c.in_ok-beside.ensures.known mid (whole.left clean).0.was_open;
      known = λ clean.
          let mid : HasCleanDisk (state g.S.Store c.read_beside.new.conn) =
          clean_before c.in_ok-totals.ensures.leaves clean in
          let same = (c.in_ok-beside.ensures.reads.leaves.left mid).same (whole.left clean).0.was_open in
          subst (λ (db : Database). CanBeRead db.schema) same.0.now_is (c.in_ok-totals.ensures.known clean);
      few = within_so totals beside counts c.in-Ok.ensures.told c.in_ok-totals.ensures.few.0
          c.in_ok-totals.ensures.few.1;
      leaves = whole;
    }

pub returns : goal.returns
returns g c =
    let form = c.args.form in
    let beside = c.in_ok-beside.beside in
    let totals = c.in_ok-totals.totals in
    let whole = passed_then c.in_ok-beside.ensures.reads.leaves c.in_ok-totals.ensures.leaves in
    let both =
    reads_then g.S.Store beside (Ok totals) c.in_ok-beside.ensures.reads
    (of_more g.S.Store (Ok totals) (common_in form) (rw c.deref.ensures.value at c.in_ok-totals.ensures.reads)) in
    record {
      reads = concludes g.S.Store (λ counts db. IsHeldIn form counts db) (λ row db. IsDamaged form db row) totals
          (Err _) (λ is. cc, λ is. cc) (λ db h. (
            tt,
            inr (
              c.in-Err.row,
              refl,
              damaged_beside form beside totals db h.0 h.1 c.in-Err.row
                  c.in-Err.ensures.refused,
            ),
          )) both;
      has = λ clean. tt;
      known = λ clean. tt;
      few = tt;
      leaves = ended whole;
    }

pub returns-in_err-totals : goal.returns-in_err-totals
returns-in_err-totals g c =
    let form = c.args.form in
    let beside = c.in_ok-beside.beside in
    let told : c.from_residual-in_err-totals.result ≡ Err c.in_err-totals.field-0.0 = search rules in
    rw told (record {
      reads = refuses_so g.S.Store (λ counts db. IsHeldIn form counts db) (λ row db. IsDamaged form db row)
          c.in_err-totals.field-0.0 (λ row db h. damaged_among form beside db h.0 row h.1)
          (reads_then g.S.Store beside (Err c.in_err-totals.field-0.0) c.in_ok-beside.ensures.reads
          (of_more g.S.Store (Err c.in_err-totals.field-0.0) (common_in form)
          (rw c.deref.ensures.value at c.in_err-totals.ensures.reads)));
      has = λ clean. tt;
      known = λ clean. tt;
      few = tt;
      leaves = passed_then c.in_ok-beside.ensures.reads.leaves c.in_err-totals.ensures.leaves;
    })

pub returns-in_err-beside : goal.returns-in_err-beside
returns-in_err-beside g c =
    let form = c.args.form in
    let told : c.from_residual.result ≡ Err c.in_err-beside.field-0.0 = search rules in
    rw told (record {
      reads = refuses_so g.S.Store (λ counts db. IsHeldIn form counts db) (λ row db. IsDamaged form db row)
          c.in_err-beside.field-0.0 (λ row db never. absurd never) c.in_err-beside.ensures.reads;
      has = λ clean. tt;
      known = λ clean. tt;
      few = tt;
      leaves = c.in_err-beside.ensures.reads.leaves;
    })
