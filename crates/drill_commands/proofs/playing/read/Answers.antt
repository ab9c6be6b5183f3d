use Rattle.std.proofs.Common.{rules, ◌≡◌, ◌∙◌, ap, sym, subst, Err}
use Rattle.event_script.specs.Events.{HaveTargets}
use Rattle.event_script.specs.Scripts.{script_of, view_script, IsFaultOf}
use Rattle.event_script.proofs.Restarting.{restarted_targets}
use Rattle.drill_commands.specs.declared.fault.NotDone.TheVariants as fault
use Rattle.drill_commands.proofs.playing.read.Goals as goal

pub returns-clause-said : goal.returns-clause-said
returns-clause-said c =
    let same : c.in-Ok.text.now ≡ c.args.bytes.now = search rules in (
      view_script c.in_ok-script.script,
      ap script_of (sym same) ∙ c.in_ok-script.ensures.read,
      c.in_ok-restart_all.ensures.ok,
    )

pub returns-clause-targets : goal.returns-clause-targets
returns-clause-targets c =
    subst HaveTargets (sym (ap (λ s. s.events) c.in_ok-restart_all.ensures.ok))
    (restarted_targets (view_script c.in_ok-script.script) c.in_ok-script.ensures.targets)

pub returns-in_err-script-clause-wrong : goal.returns-in_err-script-clause-wrong
returns-in_err-script-clause-wrong c =
    let why = c.in_err-script.field-0.0 in
    let told : c.from_residual.result ≡ Err (fault.Script why) = search rules in
    let same : c.in-Ok.text.now ≡ c.args.bytes.now = search rules in
    rw told (subst (λ bytes. IsFaultOf (script_of bytes) why) same c.in_err-script.ensures.wrong)
