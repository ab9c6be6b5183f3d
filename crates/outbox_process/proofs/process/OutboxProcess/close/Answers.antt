use Rattle.std.proofs.Common.{sym, ◌∙◌, refl, true≢false}
use Rattle.outbox_process.proofs.Keeping.{ends}
use Rattle.outbox_process.proofs.process.OutboxProcess.close.Goals as goal

pub returns-then-is_err : goal.returns-then-is_err
returns-then-is_err g c =
    ends c.in-Some.outbox _ _ c.close-closed.result (sym c.take.ensures.value
    ∙ c.in-Some.is) c.take.ensures.after (λ _. refl)
    (λ no. absurd (true≢false (sym (sym c.is_err.ensures.value ∙ c.if-is_err.true) ∙ no)))
    (rw c.into_conn.ensures at c.close-closed.ensures.closed) (rw c.into_conn.ensures at c.close-closed.ensures.refused)

pub returns-else-is_err : goal.returns-else-is_err
returns-else-is_err g c =
    ends c.in-Some.outbox _ _ c.close-closed.result (sym c.take.ensures.value
    ∙ c.in-Some.is) c.take.ensures.after
    (λ yes. absurd (true≢false (sym yes ∙ (sym c.is_err.ensures.value ∙ c.if-is_err.false)))) (λ _. refl)
    (rw c.into_conn.ensures at c.close-closed.ensures.closed) (rw c.into_conn.ensures at c.close-closed.ensures.refused)
