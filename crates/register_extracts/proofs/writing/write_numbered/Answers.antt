use Rattle.std.proofs.Common.{◌≡◌, [], Some, OnOk, rules, sym, ap, subst, ◌∙◌}
use Rattle.std.specs.Prelude.{option_map}
use Rattle.std.specs.Io.KnownBytes.{Appends}
use Rattle.filing_model.specs.Register.{kept, register}
use Rattle.register_extracts.specs.Filings.{whole}
use Rattle.register_extracts.specs.Records.{wanted_records}
use Rattle.register_extracts.proofs.Steps.{passed_over}
use Rattle.register_extracts.proofs.writing.write_numbered.Goals as goal

pub returns-in-Some-clause-written : goal.returns-in-Some-clause-written
returns-in-Some-clause-written g c clean old_style F was moments one_each dated f is there =
    let told = c.in_ok-filing.ensures.found clean old_style F was moments one_each dated is in
    let both : Some c.in-Some.filing ≡ Some (whole (kept F) moments f) =
    sym c.in-Some.is ∙ told ∙ ap (option_map (whole (kept F) moments)) there in
    let same : c.in-Some.filing ≡ whole (kept F) moments f = cc both in
    subst (λ filing. OnOk c.write_filing.result (Appends (g.O.Write.contents c.args.output.now)
    (g.O.Write.contents c.write_filing.new.output)
    (wanted_records c.args.form c.args.wanted filing)))
    same c.write_filing.ensures.written

pub returns-in-None-clause-written : goal.returns-in-None-clause-written
returns-in-None-clause-written g c clean old_style F was moments one_each dated f is there =
    let told = c.in_ok-filing.ensures.found clean old_style F was moments one_each dated is in
    let none = sym c.in-None.is ∙ told ∙ ap (option_map (whole (kept F) moments)) there in
    absurd (cc none)

pub returns-then-number-wanted-clause-written : goal.returns-then-number-wanted-clause-written
returns-then-number-wanted-clause-written g c clean old_style F was moments one_each dated f is there =
    let out = g.O.Write.contents c.args.output.now in
    let none : Appends out out [] = search rules in
    subst (Appends out out) (sym (passed_over c.args.form c.args.wanted (kept F) moments c.args.number (register F) f
    there c.if-number-wanted.true)) none
