-- What the filings that are held say of a register.
use Rattle.std.proofs.Common.{◌≡◌, ◌<◌, ◌+◌, ℕ, suc, false, not, List, [], length, map, get_or, None, String, Global}
use Rattle.std.proofs.Common.{Some, sym, ap, ap₂, ◌∙◌, arith}
use Rattle.std.specs.Prelude.{bytes_eq, ◌&&◌, is_none, string_bytes}
use Rattle.std.specs.List.{list_any}
use Rattle.std.proofs.lemmas.List.{get_or-map, get_or_default}
use Rattle.std.proofs.lemmas.Option.{get_or_from_slice_get, slice_get-get_or}
use Rattle.filing_model.proofs.Lists.{length-map}
use Rattle.filing_model.specs.Listing.{replacing}
use Rattle.filing_model.specs.Request.{Request}
use Rattle.filing_model.specs.Register.{Filing, filings, is_amendment_of, is_replaceable, kept, register}
use Rattle.register_rows.specs.Catalogue.{Entry, Placed, entry_numbered, entry_of, placed_from, view_line, view_lines}
use Rattle.register_rows.specs.Filed.{AreFiled}
use Rattle.register_rows.specs.declared.catalogue.Line.{Line}
use Rattle.register_rows.specs.declared.filed.Filed.{Filed}
use Rattle.register_rows.proofs.CatalogueLemmas.{catalogue_many, placed_are, placed_many}
use Rattle.register_rows.proofs.FiledLemmas.{in_order}
use Rattle.register_rows.proofs.Filings.{IsOutside, is_unreplaced, no_filing, none_there, number_there, one_there}

module _ (F : List Request) (filed : Filed) (held : AreFiled (kept F) filed) where
  abbrev fs : List Filing
  fs = register F

  abbrev places : List Placed
  places = placed_from 1 (kept F)

  filers_many : length filed.filers.items ≡ length fs
  filers_many =
      sym (length-map (λ filer. string_bytes filer) filed.filers.items) ∙ ap length held.filers_are
      ∙ length-map (λ (f : Filing). f.request.filer) fs

  lines_many : length (view_lines filed.catalogue) ≡ length fs
  lines_many = ap length held.lines_are ∙ catalogue_many F

  pub not_there : (filer : List ℕ) (n : ℕ) → IsOutside n 1 (length filed.filers.items)
      → is_replaceable fs filer n ≡ false
  not_there filer n outside = none_there fs filer n (in_order F).numbered (rw (sym filers_many) outside)

  module _ (at : ℕ) (low : at < length filed.filers.items) where
    there : at < length fs
    there = omega (arith, low, filers_many)

    -- each has a line
    pub not_none : None ≡ entry_numbered (view_lines filed.catalogue) (suc at) → ⊥
    not_none none =
        let some =
        slice_get-get_or (view_lines filed.catalogue)
        at (record { seq = 0; facts = 0; replaces = None; replaced_by = None })
        (omega (arith, there, lines_many)) in
        absurd (let both = none ∙ some in cc)

    abbrev filing : Filing
    filing = get_or fs at no_filing

    its_number : filing.number ≡ at + 1
    its_number = number_there fs (in_order F).numbered at filing there (get_or_default fs at no_filing filing there)

    line_says : (line : Line) → Some (view_line line) ≡ entry_numbered (view_lines filed.catalogue) (suc at)
        → (view_line line).replaced_by ≡ replacing fs (at + 1)
    line_says line is =
        let none : Placed = record { seq = 0; filing = no_filing } in
        let p = get_or places at none in
        let within : at < length places = omega (arith, there, placed_many (kept F)) in
        let said : view_line line ≡ entry_of fs p =
        sym (get_or_from_slice_get (view_lines filed.catalogue) at (view_line line) (view_line line) (sym is))
        ∙ ap (λ l. get_or l at (view_line line)) held.lines_are
        ∙ get_or-map (entry_of fs) places at none (view_line line) within in
        let same : p.filing ≡ filing =
        sym (get_or-map (λ (q : Placed). q.filing) places at none no_filing within)
        ∙ ap (λ gs. get_or gs at no_filing) (placed_are 1 (kept F)) in
        ap (λ (e : Entry). e.replaced_by) said ∙ ap (λ (f : Filing). replacing fs f.number) same
        ∙ ap (replacing fs) its_number

    owner_is : (owner : String Global) → owner ≡ get_or filed.filers.items at owner
        → string_bytes owner ≡ filing.request.filer
    owner_is owner is =
        ap (λ o. string_bytes o) is ∙ sym (get_or-map (λ o. string_bytes o) filed.filers.items at owner [] low)
        ∙ ap (λ l. get_or l at []) held.filers_are
        ∙ get_or-map (λ (f : Filing). f.request.filer) fs at no_filing [] there

    pub replaceable_there : (filer : List ℕ) (owner : String Global) (line : Line)
        → owner ≡ get_or filed.filers.items at owner → Some (view_line line)
        ≡ entry_numbered (view_lines filed.catalogue) (suc at)
        → is_replaceable fs filer (at + 1)
        ≡ (bytes_eq (string_bytes owner) filer && is_none (view_line line).replaced_by)
    replaceable_there filer owner line its said =
        let same = owner_is owner its in
        let free : is_none (view_line line).replaced_by ≡ not (list_any (is_amendment_of (at + 1)) fs) =
        ap (λ by. is_none by) (line_says line said) ∙ is_unreplaced fs (at + 1) in
        ap₂ ◌&&◌ (one_there filer (at + 1) 1 at fs no_filing (in_order F).numbered there (omega arith)
        ∙ ap (λ o. bytes_eq o filer) (sym same)) (sym free)

-- nothing is held of no requests
pub none_held_yet : (filed : Filed) → filed.filers.items ≡ [] → view_lines filed.catalogue ≡ [] → AreFiled [] filed
unfolding filings
none_held_yet filed filers lines =
    record { filers_are = ap (map (λ filer. string_bytes filer)) filers; lines_are = lines }
