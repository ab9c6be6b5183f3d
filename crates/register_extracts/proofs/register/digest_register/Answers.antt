use Rattle.std.proofs.Common.{rules, subst, arith}
use Rattle.register_extracts.specs.Registers.{DigestsRegister}
use Rattle.register_extracts.proofs.DigestDone.{broken_off, done, too_few}
use Rattle.register_extracts.proofs.register.digest_register.Goals as goal

pub returns-then-count-counts : goal.returns-then-count-counts
returns-then-count-counts g c =
    too_few g.S.Store c.args.until c.args.conn.now c.read_register.new.conn c.in_ok-counts.counts c.in_ok-counts.ensures
    (rw c.unwrap_or-count.ensures at c.if-count-counts.true)

pub returns : goal.returns
returns g c =
    done g.S.Store c.args.until c.args.conn.now c.read_register.new.conn c.in_ok-counts.counts c.in_ok-counts.ensures
    c.first_digest.new.conn c.in_ok-digest.ensures.leaves c.in_ok-digest.digest c.unwrap_or-count.result
    c.unwrap_or-count.ensures (omega (arith, c.if-count-counts.false)) c.in_ok-digest.ensures.digested

pub returns-in_err-digest : goal.returns-in_err-digest
returns-in_err-digest g c =
    subst (λ result. DigestsRegister g.S.Store c.args.until c.args.conn.now c.first_digest.new.conn result)
    (search rules)
    (broken_off g.S.Store c.args.until c.args.conn.now c.read_register.new.conn c.in_ok-counts.counts
    c.in_ok-counts.ensures c.first_digest.new.conn c.in_err-digest.ensures.leaves c.in_err-digest.field-0.0)
