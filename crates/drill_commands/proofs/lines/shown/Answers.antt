use Rattle.std.proofs.Common.{rules, ◌≡◌, ◌∙◌, Err, ap}
use Rattle.intake_core.specs.declared.intake.Unavailable.TheVariants.{Down}
use Rattle.drill_commands.specs.declared.fault.NotDone.TheVariants as fault
use Rattle.drill_commands.proofs.lines.shown.Goals as goal

pub returns-in_err-filings-clause-refusal : goal.returns-in_err-filings-clause-refusal
returns-in_err-filings-clause-refusal g c =
    let told : c.from_residual.result ≡ Err (fault.Register c.in_err-filings.field-0.0) = search rules in
    rw told tt

pub returns-in_err-filings-clause-down : goal.returns-in_err-filings-clause-down
returns-in_err-filings-clause-down g c = λ down.
    let told : c.from_residual.result ≡ Err (fault.Register c.in_err-filings.field-0.0) = search rules in
    let is : c.in_err-filings.field-0.0 ≡ Down = cc (c.in_err-filings.ensures.down down) in
    told ∙ ap (λ why. Err (fault.Register why)) is

pub returns-in_err-entries-clause-refusal : goal.returns-in_err-entries-clause-refusal
returns-in_err-entries-clause-refusal g c =
    let told : c.from_residual-in_err-entries.result ≡ Err (fault.Outbox c.in_err-entries.field-0.0) = search rules in
    rw told tt
