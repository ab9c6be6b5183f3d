-- The numbers of a list are those of the filer's filings.
use Rattle.std.proofs.Common.{◌≡◌, ℕ, suc, ◌+◌, Bool, true, false, List, [], ◌∷◌, ◌++◌, map, length, Option, Some, None}
use Rattle.std.proofs.Common.{refl, sym, ap, ◌∙◌, ⊎_elim, arith, append_assoc, length-append}
use Rattle.std.specs.Prelude.{filter, ◌&&◌, bytes_eq}
use Rattle.std.specs.List.{range_with_len}
use Rattle.std.proofs.lemmas.Bool.{cases_Bool}
use Rattle.filing_model.specs.Laws.{is_of, is_asked, ListsTheFilers}
use Rattle.filing_model.specs.Listing.{listing, is_listed}
use Rattle.filing_model.specs.Numbered.{numbered}
use Rattle.filing_model.specs.Request.{Request}
use Rattle.filing_model.specs.Register.{Filing, register}
use Rattle.filing_model.proofs.Keeping.{register_numbered}
use Rattle.filing_model.proofs.Numbering.{get_here}

-- a filing keeps its number in a list
numbers_listed : (filings fs : List Filing) → map (λ l. l.number) (map (listing filings) fs) ≡ map (λ f. f.number) fs
numbers_listed filings [] = refl
numbers_listed filings (f ∷ fs) = ap (λ ns. f.number ∷ ns) (numbers_listed filings fs)

and_true : (b : Bool) → b ≡ (b && true)
and_true true = refl
and_true false = refl

-- whether a filing is listed is seen of its number
test_here : (filer : List ℕ) (asked : Option ℕ) (f : Filing) (n : ℕ) → f.number ≡ n
    → is_listed filer asked f ≡ (is_of filer (Some f) && is_asked asked n)
test_here filer None f n is = and_true (bytes_eq f.request.filer filer)
test_here filer (Some one) f n is = rw is refl

-- these behind others, with the numbers from their place on
listed_from : (filer : List ℕ) (asked : Option ℕ) (all front fs : List Filing) (from : ℕ) → all ≡ front ++ fs
    → from ≡ suc (length front) → map (λ f. f.number) fs ≡ range_with_len from (length fs)
    → map (λ f. f.number) (filter (is_listed filer asked) fs)
    ≡ filter (λ n. is_of filer (numbered all n) && is_asked asked n) (range_with_len from (length fs))
listed_from filer asked all front [] from is at numbers = refl
listed_from filer asked all front (f ∷ fs) from is at numbers =
    let here : numbered all from ≡ Some f = rw (is, at) (get_here front f fs) in
    let number : f.number ≡ from = cc in
    let rest : map (λ f. f.number) fs ≡ range_with_len (from + 1) (length fs) = cc in
    let later =
    listed_from filer asked all (front ++ f ∷ []) fs (from + 1) (is
    ∙ sym (append_assoc front (f ∷ []) fs)) (omega (arith, at, length-append front (f ∷ []))) rest in
    let test : is_listed filer asked f ≡ (is_of filer (numbered all from) && is_asked asked from) =
    rw here (test_here filer asked f from number) in
    ⊎_elim
    (λ (yes : is_listed filer asked f ≡ true). rw (sym test, yes, number, later) refl)
    (λ (no : is_listed filer asked f ≡ false). rw (sym test, no) later)
    (cases_Bool (is_listed filer asked f))

pub register_listed : (requests : List Request) (filer : List ℕ) (asked : Option ℕ)
    → ListsTheFilers filer asked (register requests)
register_listed requests filer asked =
    numbers_listed (register requests) (filter (is_listed filer asked) (register requests))
    ∙ listed_from filer asked (register requests) [] (register requests) 1 refl refl (register_numbered requests)
