use Rattle.std.proofs.Common.{◌≡◌, true, false, Some, None, sym, ap, ◌∙◌}
use Rattle.std.specs.Prelude.{option_map, is_none}
use Rattle.filing_model.specs.Register.{kept, register}
use Rattle.register_rows.specs.Catalogue.{Entry, entry_numbered, view_line}
use Rattle.register_rows.proofs.Filings.{is_unreplaced, none_told}
use Rattle.register_store.proofs.CatalogueLemmas.{line_told}
use Rattle.register_store.proofs.ReplaceLemmas.{none_filed}
use Rattle.register_store.proofs.select.catalogued.is_unreplaced.Goals as goal

pub returns-in-Some : goal.returns-in-Some
returns-in-Some c F filer is has =
    let n = c.args.number in
    let its =
    line_told F n (Some (view_line c.in-Some.line.now)) (ap (option_map (λ l. view_line l.now)) (sym c.in-Some.is)
    ∙ c.line.ensures ∙ ap (λ es. entry_numbered es n) is) in
    none_told c.replaced_by.result c.is_none.result c.is_none.ensures
    ∙ ap is_none (c.replaced_by.ensures ∙ ap (λ (e : Entry). e.replaced_by) its.is) ∙ is_unreplaced (register F) n

pub returns-in-None : goal.returns-in-None
returns-in-None c F filer is has =
    let n = c.args.number in
    let none =
    line_told F n None (ap (option_map (λ l. view_line l.now)) (sym c.in-None.is) ∙ c.line.ensures
    ∙ ap (λ es. entry_numbered es n) is) in
    let other : true ≡ false = sym has ∙ none_filed filer n 1 (kept F) none in
    absurd (cc other)
