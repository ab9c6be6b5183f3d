use Rattle.std.proofs.Common.{rules, ◌≡◌, ◌++◌, ◌∙◌, Err, ap, ap₂, sym, subst}
use Rattle.std.specs.List.{flat_map}
use Rattle.std.proofs.lemmas.List.{append-nil, take_all}
use Rattle.event_script.specs.Shown.{filing_line}
use Rattle.filing_model.specs.Register.{Filing}
use Rattle.key_string.specs.Key.{IsTextFault}
use Rattle.drill_commands.specs.declared.fault.NotDone.TheVariants as fault
use Rattle.drill_commands.specs.Shown.{filing_shown}
use Rattle.drill_commands.proofs.GoingThrough.{shown_next}
use Rattle.drill_commands.proofs.lines.append_filings.Goals as goal

pub loop-filing-init : goal.loop-filing-init
loop-filing-init c = sym (append-nil _)

pub loop-filing-preserved : goal.loop-filing-preserved
loop-filing-preserved c =
    let kept = c.filing.inside in
    let texts =
    ap₂ (λ filer key. c.loop-filing.text.items ++ filing_line kept.number filer key kept.replaces)
    c.as_str.ensures.value c.as_str-in-loop-filing.ensures.value in
    let more =
    c.in_ok-append_filing.ensures.ok ∙ texts
    ∙ ap (λ f. c.loop-filing.text.items ++ filing_shown f) (c.filing.view_is ∙ c.filing-item.is) in
    shown_next filing_shown c.args.filings.now c.loop-filing.filing-index c.filing-item.result c.args.text.now.items
    c.loop-filing.text.items c.append_filing.new.text.items c.loop-filing-test.true c.loop-filing.invariant more

pub returns-clause-lines : goal.returns-clause-lines
returns-clause-lines c =
    c.loop-filing.invariant ∙ ap (λ l. c.args.text.now.items ++ flat_map filing_shown l)
    (take_all c.loop-filing.filing-index c.args.filings.now c.loop-filing-test.false)

pub returns-in_err-append_filing-clause-refusal : goal.returns-in_err-append_filing-clause-refusal
returns-in_err-append_filing-clause-refusal c =
    let why = c.in_err-append_filing.field-0.0 in
    let told : c.from_residual.result ≡ Err (fault.Key why) = search rules in
    let of_key =
    subst (λ key. IsTextFault key why) c.as_str-in-loop-filing.ensures.value c.in_err-append_filing.ensures.fault in
    let of_filing = subst (λ (filing : Filing). IsTextFault filing.request.key why) c.filing.view_is of_key in
    rw told (
      c.filing-item.result,
      (c.loop-filing.filing-index, c.loop-filing-test.true, sym c.filing-item.is),
      of_filing,
    )
