use Rattle.std.proofs.Common.{◌≡◌, Err, IfErr, List, Option, rules, subst, sym, ℕ}
use Rattle.register_extracts.specs.declared.fault.Why.TheVariants.{Open}
use Rattle.intake_process.specs.Errands.{RunsErrand}
use Rattle.intake_process.specs.Tasks.{IsChecked}
use Rattle.intake_process.specs.declared.tasks.errand.Errand.TheVariants.{Check}
use Rattle.intake_process.proofs.Checks.{read_alone, read_held, read_missed, read_refused}
use Rattle.intake_process.proofs.tasks.checking.read_against.Goals as goal
use Rattle.intake_process.proofs.tasks.checking.read_against.Goals.{in-Some+in_ok-hold_against, in_default}

pub returns-in_err-counts-clause-failed : goal.returns-in_err-counts-clause-failed
returns-in_err-counts-clause-failed g c =
    let old = c.args.conn.now in
    let new = c.read_register.new.conn in
    let is : Err (Open c.in_err-counts.field-0.0) ≡ c.from_residual.result = search rules in
    subst (λ r. IfErr r (λ why. (out : Option (List ℕ))
    → RunsErrand {X = Unit {0}} g.S.Store (Check c.args.against) out out old new (Err why))) is
    (read_refused g.S.Store old c.args.against new c.in_err-counts.field-0.0 c.in_err-counts.ensures)

pub returns-in_err-hold_against-clause-failed : goal.returns-in_err-hold_against-clause-failed
returns-in_err-hold_against-clause-failed g c =
    let old = c.args.conn.now in
    let new = c.hold_against.new.conn in
    let it = c.in_err-hold_against.field-0.0 in
    let is : Err it ≡ c.from_residual-in_err-hold_against.result = search rules in
    subst (λ r. IfErr r (λ why. (out : Option (List ℕ))
    → RunsErrand {X = Unit {0}} g.S.Store (Check c.args.against) out out old new (Err why))) is
    (λ out. subst (λ against. RunsErrand {X = Unit {0}} g.S.Store (Check against) out out old new (Err it))
    (sym c.in-Some.is)
    (read_missed g.S.Store old c.read_register.new.conn c.in_ok-counts.counts c.in_ok-counts.ensures
    c.in-Some.published new it c.in_err-hold_against.ensures out))

pub returns-clause-checked : goal.returns-clause-checked
returns-clause-checked g c =
    let old = c.args.conn.now in
    let mid = c.read_register.new.conn in
    let counts = c.in_ok-counts.counts in
    elim c.match-against.branch [
      | in-Some+in_ok-hold_against w ↦
          subst (λ conn. IsChecked g.S.Store c.args.against old conn counts) (sym w.conn-is)
          (subst (λ against. IsChecked g.S.Store against old w.hold_against.new.conn counts) (sym w.in-Some.is)
          (read_held g.S.Store old mid counts c.in_ok-counts.ensures w.in-Some.published w.hold_against.new.conn tt
          w.in_ok-hold_against.ensures))
      | in_default w ↦
          subst (λ conn. IsChecked g.S.Store c.args.against old conn counts) (sym w.conn-is)
          (subst (λ against. IsChecked g.S.Store against old mid counts) (sym w.in_default.is)
          (read_alone g.S.Store old mid counts c.in_ok-counts.ensures))
    ]
