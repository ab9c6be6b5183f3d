use Rattle.std.proofs.Common.{refl, sym, ◌∙◌, subst, inl, inr}
use Rattle.outbox_process.specs.declared.beginning.Beginning.TheVariants.{Found}
use Rattle.outbox_process.specs.Process.{parts, PerformsErrand}
use Rattle.outbox_commands.proofs.Opened.{refused, opened}
use Rattle.outbox_commands.proofs.errand.run_errand.Goals as goal

pub returns-in-Err : goal.returns-in-Err
returns-in-Err g c =
    let r = refused g.D.Disk Found (parts g.P.Place.lying c.args.process.now) (parts g.P.Place.lying c.open.new.process)
    c.in-Err.refusal c.in-Err.ensures in
    inr (record { refusal = r.refusal; opens = r.opens; says = c.of_refusal.ensures ∙ r.says }, refl, refl)

pub returns : goal.returns
returns g c =
    let before = parts g.P.Place.lying c.open.new.process in
    let after = parts g.P.Place.lying c.perform-came.new.self in
    let net = g.N.Dial.traffic c.args.network.now in
    let net' = g.N.Dial.traffic c.answer-done.new.network in
    let out = g.O.Write.contents c.args.output.now in
    let out' = g.O.Write.contents c.perform-came.new.output in
    inl (record {
      opened = before;
      opens = opened g.D.Disk Found (parts g.P.Place.lying c.args.process.now) before c.open.result c.in_default.not-Err
          c.open.ensures;
      done = after;
      came = c.perform-came.result;
      performs =
          subst (λ n. PerformsErrand c.args.errand net n out out' before after c.perform-came.result)
          (sym c.answer-done.ensures.traffic) c.perform-came.ensures;
      closed = c.close.ensures.0;
      closes = c.close.ensures.1;
      says = c.answer-done.ensures.status;
    })
