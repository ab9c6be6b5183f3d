use Rattle.std.proofs.Common.{◌≡◌, ◌∙◌, [], ◌∷◌, ◌++◌, length-append, List, None, Some, Err, sym, ap, refl, subst}
use Rattle.std.proofs.Common.{arith, rules}
use Rattle.std.specs.Prelude.{Option, option_copied}
use Rattle.std.proofs.lemmas.Result.{err_from_is_err_and}
use Rattle.sqlite.specs.Given.{Advances, row_if}
use Rattle.sqlite.specs.Held.{state}
use Rattle.sqlite.specs.Order.{Row}
use Rattle.sqlite.specs.State.{HasCleanDisk, Shown}
use Rattle.table_rows.specs.Leaving.{Leaves}
use Rattle.table_rows.specs.Leaving.Ending.{Stopped}
use Rattle.table_rows.proofs.LeavingLemmas.{query_reads}
use Rattle.table_rows.proofs.StepLemmas.{nothing_left}
use Rattle.table_rows.proofs.StopLemmas.{query_stopped}
use Rattle.table_rows.proofs.TextLemmas.{query_survives}
use Rattle.outbox_tables.specs.Audit.{entries_text}
use Rattle.outbox_tables.specs.Tally.{tally_of}
use Rattle.outbox_tables.proofs.StreamLemmas.{begun, goes_on, ends, fails}
use Rattle.outbox_tables.proofs.Texts.{entries_reads}
use Rattle.outbox_tables.proofs.rows.tally_entries.Goals as goal

pub returns-in_err-rows-clause-leaves : goal.returns-in_err-rows-clause-leaves
returns-in_err-rows-clause-leaves g c =
    let last = c.query.follows.lender-at-none in
    let held = rw c.in_err-rows.was at c.query.follows.holds-at-none in
    let told = err_from_is_err_and c.from_residual.result c.from_residual.ensures.1 in
    rw (told.1, told.2)
    (query_reads g.S.Store entries_text entries_reads [] (λ (rows : List Row). rows) c.args.conn.now last
    (Err c.in_err-rows.field-0.0) (λ clean. tt) held.err held.mode held.survives)

pub loop-count-init : goal.loop-count-init
loop-count-init g c =
    let made = c.in_ok-rows.ensures in
    let old = c.args.conn.now in
    let now = c.in_ok-rows.rows.conn.now in
    record {
      same_reference = refl;
      mode = made.mode;
      survives =
          query_survives entries_text entries_reads [] (state g.S.Store old) (state g.S.Store now) made.survives;
      given = λ clean. ([], begun g.S.Store entries_text entries_reads old now (made.begun clean), refl, refl);
    }

pub returns-in_err-advance-clause-failed : goal.returns-in_err-advance-clause-failed
returns-in_err-advance-clause-failed g c clean =
    let now = c.advance.new.self.conn.now in
    let late : HasCleanDisk (state g.S.Store now) = search rules in
    let moved = c.in_err-advance.ensures in
    let before = c.loop-count.invariant in
    let was = before.given (omega (arith, moved.survives.clean, late)) in
    let failed =
    fails g.S.Store entries_text entries_reads c.args.conn.now c.loop-count.rows.conn.now now was.0 was.1
    before.survives c.in_err-advance.field-0.0 (moved.err late) in search rules

pub returns-in_err-advance-clause-leaves : goal.returns-in_err-advance-clause-leaves
returns-in_err-advance-clause-leaves g c =
    let old = c.args.conn.now in
    let mid = c.loop-count.rows.conn.now in
    let now = c.advance.new.self.conn.now in
    let moved = c.in_err-advance.ensures in
    let before = c.loop-count.invariant in
    let error = c.in_err-advance.field-0.0 in
    let left : Leaves (Stopped error) (state g.S.Store old) (state g.S.Store now) = record {
      left = λ late.
          let was = before.given (omega (arith, moved.survives.clean, late)) in
          query_stopped entries_text entries_reads [] (state g.S.Store old) (state g.S.Store now) error
          (fails g.S.Store entries_text entries_reads old mid now was.0 was.1 before.survives error (moved.err late));
      mode = λ idle. moved.mode (before.mode idle);
      survives =
          nothing_left (state g.S.Store old) (state g.S.Store mid) (state g.S.Store now) before.survives moved.survives;
    } in search rules

pub returns-in_default-clause-shown : goal.returns-in_default-clause-shown
returns-in_default-clause-shown g c clean =
    let old = c.args.conn.now in
    let mid = c.loop-count.rows.conn.now in
    let now = c.advance.new.self.conn.now in
    let late : HasCleanDisk (state g.S.Store now) = search rules in
    let moved = c.in_ok-advance.ensures in
    let was = c.loop-count.invariant.given (omega (arith, moved.survives.clean, late)) in
    let none : ◌≡◌ {A = Option Row} (row_if c.advance.new.self.has_row now) None =
    sym c.get.ensures ∙ ap option_copied c.in_default.is in
    let shown : Shown entries_text [] (state g.S.Store old) (state g.S.Store now) was.0 =
    ends g.S.Store entries_text entries_reads old mid now was.0 was.1
    (subst (Advances g.S.Store mid now) none (moved.ok late)) in
    let all : (rows : List Row) × Shown entries_text [] (state g.S.Store old) (state g.S.Store now) rows
    × (record { count = c.loop-count.count; sound = c.loop-count.sound } ≡ tally_of rows) =
    (was.0, shown, λ i. record { count = was.2 i; sound = was.3 i }) in search rules

pub loop-count-preserved : goal.loop-count-preserved
loop-count-preserved g c =
    let old = c.args.conn.now in
    let mid = c.loop-count.rows.conn.now in
    let now = c.advance.new.self.conn.now in
    let row = c.in-Some.row.now in
    let moved = c.in_ok-advance.ensures in
    let before = c.loop-count.invariant in
    let some : ◌≡◌ {A = Option Row} (row_if c.advance.new.self.has_row now) (Some row) =
    sym c.get.ensures ∙ ap option_copied c.in-Some.is in
    record {
      same_reference = moved.same_reference ∙ before.same_reference;
      mode = λ idle. moved.mode (before.mode idle);
      survives =
          nothing_left (state g.S.Store old) (state g.S.Store mid) (state g.S.Store now) before.survives moved.survives;
      given = λ late.
          let was = before.given (omega (arith, moved.survives.clean, late)) in (
            was.0 ++ row ∷ [],
            goes_on g.S.Store entries_text entries_reads old mid now was.0 was.1 row (moved.same late)
                (subst (Advances g.S.Store mid now) some (moved.ok late)),
            omega (arith, was.2, length-append was.0 (row ∷ [])),
            c.sound_after-sound.ensures was.0 was.2 was.3,
          );
    }
