use Rattle.std.proofs.Common.{ap, arith, map, ◌∙◌}
use Rattle.std.proofs.lemmas.List.{take_all}
use Rattle.filing_model.specs.Register.{kept}
use Rattle.filing_model.specs.Views.{view_row}
use Rattle.intake_process.specs.Listing.{moment_lines}
use Rattle.intake_process.proofs.Dating.{clean_mid, keeps_same, keeps_then, lines_more}
use Rattle.intake_process.proofs.tasks.dating.moment_lines.Goals as goal

pub loop-row-init : goal.loop-row-init
loop-row-init g c = record {
  begun = c.in_ok-rows.ensures.keeps;
  keeps = keeps_same g.S.Store;
  lines = λ clean F has moments dated. c.new-text.ensures.bytes;
}

pub returns-in_err-received-clause-keeps : goal.returns-in_err-received-clause-keeps
returns-in_err-received-clause-keeps g c =
    let had = c.loop-row.invariant in
    keeps_then g.S.Store had.begun (keeps_then g.S.Store had.keeps c.in_err-received.ensures.keeps)

pub returns-in_err-line-clause-keeps : goal.returns-in_err-line-clause-keeps
returns-in_err-line-clause-keeps g c =
    let had = c.loop-row.invariant in
    keeps_then g.S.Store had.begun (keeps_then g.S.Store had.keeps c.in_ok-received.ensures.keeps)

pub returns-in_err-push_str-clause-keeps : goal.returns-in_err-push_str-clause-keeps
returns-in_err-push_str-clause-keeps g c =
    let had = c.loop-row.invariant in
    keeps_then g.S.Store had.begun (keeps_then g.S.Store had.keeps c.in_ok-received.ensures.keeps)

pub loop-row-preserved : goal.loop-row-preserved
loop-row-preserved g c =
    let had = c.loop-row.invariant in
    let keeps = c.in_ok-received.ensures.keeps in
    let whole = keeps_then g.S.Store had.begun had.keeps in record {
      begun = had.begun;
      keeps = keeps_then g.S.Store had.keeps keeps;
      lines = λ clean F has moments dated.
          let was = clean_mid g.S.Store keeps clean in
          let its =
          c.in_ok-received.ensures.moment clean F (whole.same was F has) moments
          (whole.moments was F has moments dated) in
          c.in_ok-push_str.ensures.bytes
          ∙ lines_more (kept F) moments c.deref-row-items.result.now c.loop-row.row-index _
          (omega (arith, c.loop-row-test.true)) _ _ _ (had.lines was F has moments dated) its
          (c.as_str.ensures.value ∙ c.in_ok-line.ensures);
    }

pub returns-clause-lines : goal.returns-clause-lines
returns-clause-lines g c clean F has moments dated =
    let had = c.loop-row.invariant in
    let all = take_all c.loop-row.row-index c.deref-row-items.result.now (omega (arith, c.loop-row-test.false)) in
    had.lines clean F has moments dated
    ∙ ap (moment_lines (kept F) moments) (ap (map view_row) (all ∙ c.deref-row-items.ensures.value)
    ∙ c.in_ok-rows.ensures.rows (clean_mid g.S.Store had.keeps clean) F has)

pub returns-clause-keeps : goal.returns-clause-keeps
returns-clause-keeps g c = keeps_then g.S.Store c.loop-row.invariant.begun c.loop-row.invariant.keeps
