use Rattle.std.proofs.Common.{Some, None, sym, subst, ap, ◌∙◌}
use Rattle.std.specs.Prelude.{option_map}
use Rattle.filing_model.specs.Register.{kept}
use Rattle.register_rows.specs.Catalogue.{Entry, entry_numbered, view_line}
use Rattle.register_store.specs.Found.{IsPlaced}
use Rattle.register_store.proofs.CatalogueLemmas.{line_told}
use Rattle.register_store.proofs.select.catalogued.place_of.Goals as goal

pub returns-in_err-line : goal.returns-in_err-line
returns-in_err-line c F is =
    let n = c.args.number in
    rw c.from_residual.ensures (line_told F n None (ap (option_map (λ l. view_line l.now)) (sym c.in_err-line.was)
    ∙ c.line.ensures ∙ ap (λ es. entry_numbered es n) is))

pub returns : goal.returns
returns c F is =
    let n = c.args.number in
    let its =
    line_told F n (Some (view_line c.in_ok-line.line.now))
    (ap (option_map (λ l. view_line l.now)) (sym c.in_ok-line.was) ∙ c.line.ensures
    ∙ ap (λ es. entry_numbered es n) is) in (
      its.k,
      subst (λ seq. IsPlaced 1 seq (kept F) its.k) (sym (c.seq.ensures ∙ ap (λ (l : Entry). l.seq) its.is))
          its.placed,
      its.number_is,
    )
