use Rattle.std.proofs.Common.{arith, sym, ◌∙◌}
use Rattle.intake_process.proofs.Checks.{another, the_same, told_other, told_same}
use Rattle.intake_process.proofs.tasks.checking.hold_against.Goals as goal

pub returns-then-ne : goal.returns-then-ne
returns-then-ne g c =
    another g.S.Store c.args.kept c.args.published c.args.conn.now c.first_digest.new.conn c.in_ok-digest.digest
    (omega (arith, c.if-published-kept.false)) c.in_ok-digest.ensures.leaves c.in_ok-digest.ensures.digested
    (λ has. told_other c.bytes.result c.args.published.bytes c.if-ne.ensures (c.bytes.ensures ∙ has))

pub returns : goal.returns
returns g c =
    the_same g.S.Store c.args.kept c.args.published c.args.conn.now c.first_digest.new.conn c.in_ok-digest.digest
    (omega (arith, c.if-published-kept.false)) c.in_ok-digest.ensures.leaves c.in_ok-digest.ensures.digested tt
    (sym c.bytes.ensures ∙ told_same c.bytes.result c.args.published.bytes c.if-ne.ensures)
