use Rattle.std.proofs.Common.{◌≡◌, ℕ, List, ◌∷◌, ◌++◌, [], map, ap, ap₂, sym, string_bytes, ◌∙◌}
use Rattle.std.proofs.lemmas.List.{map-append}
use Rattle.filing_model.specs.Register.{Filing, kept, register}
use Rattle.register_rows.proofs.FiledLemmas.{filing_more}
use Rattle.register_rows.proofs.Filings.{next_filing}
use Rattle.register_rows.proofs.filed.Filed.add.Goals as goal

pub returns : goal.returns
returns c F r are filer next =
    let copied : string_bytes c.in_ok-filer.filer ≡ r.filer = c.in_ok-filer.ensures.ok ∙ sym filer in
    let whose : Filing → List ℕ = λ f. f.request.filer in
    record {
      filers_are = ap (map (λ o. string_bytes o)) c.in_ok-push.ensures.items ∙ map-append (λ o. string_bytes o) _ _
          ∙ ap₂ (λ l o. l ++ o ∷ []) are.filers_are copied
          ∙ sym (ap (map whose) (filing_more (kept F) r next.number next.registered)
          ∙ map-append whose (register F) (next_filing (register F) r ∷ []));
      lines_are = c.note.ensures.lines F r (c.in_ok-reserve.ensures.same ∙ are.lines_are) next;
    }
