use Rattle.std.proofs.Common.{◌∙◌, sym, inl, inr}
use Rattle.outbox_process.specs.declared.beginning.Beginning.TheVariants.{Migrated}
use Rattle.outbox_process.specs.Process.{parts}
use Rattle.outbox_commands.specs.Tasks.{is_current}
use Rattle.outbox_commands.proofs.Current.{not_migrated, wanted, unwanted}
use Rattle.outbox_commands.proofs.Opened.{opened}
use Rattle.outbox_commands.proofs.tasks.migrate.Goals as goal

pub returns-then-is_current : goal.returns-then-is_current
returns-then-is_current g c =
    let told = c.in-Err.refusal in
    let r = not_migrated (parts g.P.Place.lying c.args.process.now) (parts g.P.Place.lying c.open.new.process)
    c.requires told c.in-Err.ensures in
    inr (
      r.refusal,
      told.why,
      r.opens,
      r.told_as,
      r.current,
      wanted (is_current told.why) _ _ (sym c.if-is_current.true ∙ c.is_current.ensures) c.show_line.ensures,
    )

pub returns-in-Err : goal.returns-in-Err
returns-in-Err g c =
    let told = c.in-Err.refusal in
    let r = not_migrated (parts g.P.Place.lying c.args.process.now) (parts g.P.Place.lying c.open.new.process)
    c.requires told c.in-Err.ensures in
    inr (
      r.refusal,
      told.why,
      r.opens,
      r.told_as,
      r.current,
      unwanted (is_current told.why) _ _ (sym c.if-is_current.false ∙ c.is_current.ensures) c.show_refused.ensures,
    )

pub returns : goal.returns
returns g c =
    let migrated = parts g.P.Place.lying c.open.new.process in
    inl (
      migrated,
      c.close.ensures.0,
      opened g.D.Disk Migrated (parts g.P.Place.lying c.args.process.now) migrated c.open.result c.in_default.not-Err
          c.open.ensures,
      c.close.ensures.1,
      c.show_line-shown.ensures,
    )
