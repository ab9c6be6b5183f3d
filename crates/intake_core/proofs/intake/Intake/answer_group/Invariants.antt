use Rattle.std.proofs.Common.{◌≡◌, ◌+◌, drop, length}
use Rattle.std.specs.Vec.Iter.{into_iter_items, into_iter_len}
use Rattle.intake_core.proofs.Answering.{AnswersFirst}
use Rattle.intake_core.proofs.intake.Intake.answer_group.Given as goal

-- the first ones are answered, and the outcomes of the others are left
abbrev pub invariant-loop-request : goal.invariant-loop-request
invariant-loop-request g l = record {
  answers : AnswersFirst g.S.Store l.request-index l.requests l.fn.outcomes.items l.fn.self l.self l.fn.results
      l.results;
  left : into_iter_items l.outcomes ≡ drop l.request-index l.fn.outcomes.items;
  len : into_iter_len l.outcomes + l.request-index ≡ length l.requests;
}
