use Rattle.std.proofs.Common.{◌≡◌, ◌∙◌, Err, rules, refl, sym, inl, inr}
use Rattle.outbox_process.specs.declared.beginning.Beginning.TheVariants.{Found}
use Rattle.outbox_process.specs.Process.{parts}
use Rattle.outbox_commands.proofs.Opened.{refused, opened}
use Rattle.outbox_commands.proofs.putting.put.Goals as goal

pub returns-in_err-reports : goal.returns-in_err-reports
returns-in_err-reports g c =
    let told : c.from_residual.result ≡ Err c.in_err-reports.field-0.0 = search rules in
    inr (
      sym c.if-not-is_for_one.ensures,
      inr (c.in_err-reports.field-0.0, told, c.in_err-reports.ensures.refused, (refl, refl, refl)),
    )

pub returns-in-Err : goal.returns-in-Err
returns-in-Err g c =
    let r = refused g.D.Disk Found (parts g.P.Place.lying c.args.process.now) (parts g.P.Place.lying c.open.new.process)
    c.in-Err.refusal c.in-Err.ensures in
    inr (
      sym c.if-not-is_for_one.ensures,
      inl (
        c.in_ok-reports.reports.items,
        c.in_ok-reports.ensures.read,
        c.in_ok-reports.ensures.fit,
        refl,
        inr (record { refusal = r.refusal; opens = r.opens; says = c.of_refusal.ensures ∙ r.says }, refl),
      ),
    )

pub returns : goal.returns
returns g c =
    let before = parts g.P.Place.lying c.open.new.process in
    inr (
      sym c.if-not-is_for_one.ensures,
      inl (
        c.in_ok-reports.reports.items,
        c.in_ok-reports.ensures.read,
        c.in_ok-reports.ensures.fit,
        c.put_each-done.ensures.traffic,
        inl (record {
          opened = before;
          opens = opened g.D.Disk Found (parts g.P.Place.lying c.args.process.now) before c.open.result
              c.in_default.not-Err c.open.ensures;
          done = parts g.P.Place.lying c.put_each-done.new.process;
          turns = c.put_each-done.ensures.puts;
          closed = c.close.ensures.0;
          closes = c.close.ensures.1;
        }),
      ),
    )
