-- The lines of findings, and the rows of refused reports, one after another.
use Rattle.std.proofs.Common.{◌≡◌, ℕ, ◌+◌, suc, List, [], ◌∷◌, ◌++◌, append_assoc, codes, refl, ap, subst, sym, ◌∙◌}
use Rattle.std.proofs.Common.{arith}
use Rattle.std.specs.Fmt.{decimal}
use Rattle.register_pages.specs.Reading.{AddsText}
use Rattle.register_pages.specs.Short.{shortened}
use Rattle.register_pages.specs.Visible.{visible}
use Rattle.register_pages.specs.Shown.{AddsFindings, AddsLine, AddsLines, AddsRefused, AddsRows, Holds, report_cell}

pub lines_more : (n : ℕ) (old mid new : List ℕ) → AddsLines n old mid → AddsLine mid new → AddsLines (n + 1) old new
lines_more n old mid new p q =
    let next : suc n ≡ n + 1 = omega arith in subst (λ k. AddsLines k old new) next (mid, p, q)

pub rows_more : (places : List ℕ) (place : ℕ) (old mid new : List ℕ) → AddsRows places old mid
    → AddsRefused place mid new → AddsRows (places ++ place ∷ []) old new
rows_more [] place old mid new p q = (new, subst (λ start. AddsRefused place start new) p q, refl)
rows_more (first ∷ places) place old mid new p q = (p.0, p.1, rows_more places place p.0 mid new p.2 q)

module _ (old start said more between end new : List ℕ) where
  pub line_added : (words place : List ℕ) → start ≡ old ++ codes "<p>"
      → AddsText (visible (shortened words)) start said → between ≡ said ++ more
      → AddsText (visible (shortened place)) between end → new ≡ end ++ codes "</small></p>" → AddsLine old new
  line_added words place begins says goes_on places ends = (
    words,
    place,
    said,
    between,
    end,
    subst (λ s. AddsText (visible (shortened words)) s said) begins says,
    (more, goes_on),
    places,
    ends,
  )

module _ (old more front cells cell behind new : List ℕ) where
  pub row_added : (place size findings : ℕ) → front ≡ old ++ more → cells ≡ front ++ report_cell place size
      → AddsFindings findings cells cell → new ≡ cell ++ behind → AddsRefused place old new
  row_added place size findings begins links finds ends = (
    size,
    findings,
    front,
    cell,
    (more, begins),
    subst (λ s. AddsFindings findings s cell) links finds,
    (behind, ends),
  )

pub rows_held : (before rows mid behind page : List ℕ) → mid ≡ before ++ rows → page ≡ mid ++ behind → Holds rows page
rows_held before rows mid behind page p q = (before, behind, q ∙ ap (λ l. l ++ behind) p)

module _ (old one two three four new : List ℕ) (place size : ℕ) where
  pub cell_is : one ≡ old ++ codes "<td class=\"number\"><a href=\"request-" → two ≡ one ++ decimal place
      → three ≡ two ++ codes ".json\">" → four ≡ three ++ decimal size → new ≡ four ++ codes "</a></td>"
      → new ≡ old ++ report_cell place size
  cell_is a b c d e =
      let begin = codes "<td class=\"number\"><a href=\"request-" in
      let mid = codes ".json\">" in
      let end = codes "</a></td>" in
      let rest = decimal size ++ end in
      let name = decimal place ++ codes ".json" in
      e ∙ ap (λ l. l ++ end) (d ∙ ap (λ l. l ++ decimal size) (c ∙ ap (λ l. l ++ mid)
      (b ∙ ap (λ l. l ++ decimal place) a)))
      ∙ append_assoc (((old ++ begin) ++ decimal place) ++ mid) (decimal size) end
      ∙ append_assoc ((old ++ begin) ++ decimal place) mid rest
      ∙ append_assoc (old ++ begin) (decimal place) (mid ++ rest)
      ∙ append_assoc old begin (decimal place ++ (mid ++ rest))
      ∙ ap (λ l. old ++ (begin ++ l)) (sym (append_assoc (name ++ codes "\">") (decimal size) end
      ∙ append_assoc name (codes "\">") rest
      ∙ append_assoc (decimal place) (codes ".json") (codes "\">" ++ rest)))
