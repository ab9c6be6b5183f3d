use Rattle.std.proofs.Common.{take, suc, ap, ◌∙◌, arith}
use Rattle.std.proofs.lemmas.List.{length-set}
use Rattle.outbox_tables.specs.Audit.{is_number, with_id}
use Rattle.outbox_tables.proofs.SaidLemmas.{said_none, said_one}
use Rattle.outbox_tables.proofs.opening.targets.said_of.Goals.{in-Some, in_default}
use Rattle.outbox_tables.proofs.opening.targets.said_of.Goals as goal

pub loop-at-preserved : goal.loop-at-preserved
loop-at-preserved c =
    let targets = c.args.targets.now in
    let row = c.index-targets-at.result in
    let at = c.loop-at.at in
    let said = c.loop-at.said.items in
    let long = c.loop-at.invariant.0 in
    let each = c.loop-at.invariant.1 in
    elim c.match-place_of.branch [
      | in-Some w ↦
          let place = w.in-Some.place in
          let within = w.in-Some.ensures.0 in
          let fits = w.is_number.ensures ∙ ap is_number w.value_at.ensures in
          let now =
          w.after.ensures (with_id (suc place) (take at targets)) row (w.index.ensures
          ∙ each place w.index.result.now within) fits in
          rw w.said-is (
            length-set said place w.after.result ∙ long,
            said_one targets row c.args.count at said c.loop-at-test.true c.index-targets-at.is each place
                w.after.result (omega (arith, within, long)) w.in-Some.ensures.1 now,
          )
      | in_default w ↦ rw w.said-is (
        long,
        said_none targets row c.args.count at said c.loop-at-test.true c.index-targets-at.is each
            w.in_default.ensures,
      )
    ]
