use Rattle.std.proofs.Common.{refl, ◌∙◌, inl, inr}
use Rattle.outbox_process.specs.declared.beginning.Beginning.TheVariants.{Made}
use Rattle.outbox_process.specs.Process.{parts}
use Rattle.outbox_commands.proofs.Opened.{refused, opened}
use Rattle.outbox_commands.proofs.tasks.init.Goals as goal

pub returns-in-Err : goal.returns-in-Err
returns-in-Err g c =
    let r = refused g.D.Disk (Made c.args.filer) (parts g.P.Place.lying c.args.process.now)
    (parts g.P.Place.lying c.open.new.process) c.in-Err.refusal c.in-Err.ensures in
    inr (inr (record { refusal = r.refusal; opens = r.opens; says = c.of_refusal.ensures ∙ r.says }))

pub returns : goal.returns
returns g c =
    let made = parts g.P.Place.lying c.open.new.process in
    inr (inl (
      made,
      c.close.ensures.0,
      opened g.D.Disk (Made c.args.filer) (parts g.P.Place.lying c.args.process.now) made c.open.result
          c.in_default.not-Err c.open.ensures,
      c.close.ensures.1,
      refl,
    ))
