use Rattle.std.proofs.Common.{◌∙◌, Ok, Err, subst}
use Rattle.std.proofs.lemmas.Iterator.Adapters.{YieldsList-from_vec}
use Rattle.std.proofs.lemmas.Iterator.Consumers.{YieldsList-so_far, YieldsList-turn}
use Rattle.outbox_process.specs.Process.{parts}
use Rattle.outbox_commands.specs.Puts.{PutsOne, put_of}
use Rattle.outbox_commands.proofs.Turns.{next_put, next_failed}
use Rattle.outbox_commands.proofs.putting.put_each.Goals as goal

pub loop-report-preserved : goal.loop-report-preserved
loop-report-preserved g c =
    let report = c.in-Some.report in
    let mid = g.O.Write.contents c.loop-report.output in
    let out' = g.O.Write.contents c.put_one.new.output in
    let between = parts g.P.Place.lying c.loop-report.process in
    let new = parts g.P.Place.lying c.put_one.new.process in
    let one =
    subst (λ net. PutsOne (put_of c.args.target report) net mid out' between new (Ok tt))
    c.loop-report.invariant.traffic
    c.in_default.ensures.puts in record {
      puts = next_put (g.N.Dial.traffic c.args.network.now) (put_of c.args.target) c.args.reports.items
          c.loop-report.yielded report (g.O.Write.contents c.args.output.now) mid out'
          (parts g.P.Place.lying c.args.process.now) between new c.loop-report.invariant.puts one;
      traffic = c.put_one.ensures.traffic ∙ c.loop-report.invariant.traffic;
      opened = c.put_one.ensures.stays_open;
    }

pub returns-in-Err-clause-puts : goal.returns-in-Err-clause-puts
returns-in-Err-clause-puts g c =
    let report = c.in-Some.report in
    let items = c.args.reports.items in
    let given = c.into_iter-report-iterator.ensures.into_iter_gives in
    let road = YieldsList-from_vec {s = c.into_iter-report-iterator.result} items given.0
    (given.1 ∙ c.args.reports.ok.0) in
    let at = c.loop-report.report-iterator in
    let turn = YieldsList-turn road c.loop-report.yielded at c.loop-report.yielded_by c.next.result c.next.new.self
    report c.in-Some.is c.next.ensures.steps in
    let mid = g.O.Write.contents c.loop-report.output in
    let out' = g.O.Write.contents c.put_one.new.output in
    let between = parts g.P.Place.lying c.loop-report.process in
    let new = parts g.P.Place.lying c.put_one.new.process in
    let one =
    subst (λ net. PutsOne (put_of c.args.target report) net mid out' between new (Err c.in-Err.why))
    c.loop-report.invariant.traffic c.in-Err.ensures.puts in (
      Err c.in-Err.why,
      next_failed (g.N.Dial.traffic c.args.network.now) (put_of c.args.target) items c.loop-report.yielded report
          (g.O.Write.contents c.args.output.now) mid out' (parts g.P.Place.lying c.args.process.now) between new
          c.in-Err.why turn.0 turn.1 (YieldsList-so_far road c.loop-report.yielded at c.loop-report.yielded_by)
          c.loop-report.invariant.puts one,
      c.fault_of_put.ensures,
    )
