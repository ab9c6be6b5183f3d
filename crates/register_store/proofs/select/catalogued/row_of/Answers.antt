use Rattle.std.proofs.Common.{Some, None, refl, sym, ap, ◌∙◌}
use Rattle.std.specs.Prelude.{option_map}
use Rattle.filing_model.specs.Register.{kept}
use Rattle.filing_model.proofs.Keeping.{register_numbered}
use Rattle.register_rows.specs.Catalogue.{Entry, entry_numbered, view_line}
use Rattle.register_store.proofs.CatalogueLemmas.{line_told, filing_absent, filing_there}
use Rattle.register_store.proofs.select.catalogued.row_of.Goals as goal

pub returns-in_err-line : goal.returns-in_err-line
returns-in_err-line c F is =
    let n = c.args.number in
    let none =
    line_told F n None (ap (option_map (λ l. view_line l.now)) (sym c.in_err-line.was) ∙ c.line.ensures
    ∙ ap (λ es. entry_numbered es n) is) in
    rw (c.from_residual.ensures, filing_absent 1 n (kept F) none) refl

pub returns : goal.returns
returns c F is =
    let n = c.args.number in
    let its =
    line_told F n (Some (view_line c.in_ok-line.line.now))
    (ap (option_map (λ l. view_line l.now)) (sym c.in_ok-line.was) ∙ c.line.ensures
    ∙ ap (λ es. entry_numbered es n) is) in
    let there = filing_there 1 1 its.seq n (kept F) its.k (register_numbered F) its.placed its.number_is in
    rw (
      c.facts.ensures,
      c.replaces.ensures,
      c.replaced_by.ensures,
      there,
    ) (ap (λ (l : Entry). Some (record {
      number = n;
      facts = l.facts;
      replaced_by = l.replaced_by;
      replaces =
          l.replaces;
    })) its.is)
