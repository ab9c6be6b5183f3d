-- A pointer, a part at a time.
use Rattle.std.proofs.Common.{◌≡◌, ◌≢◌, ℕ, suc, ◌<◌, List, [], ◌∷◌, ◌++◌, length, get_or, false, refl, sym, ap, ◌∙◌}
use Rattle.std.proofs.Common.{arith, append_assoc, append-nil, ne_eqb}
use Rattle.json.specs.Json.{Json}
use Rattle.report_places.specs.Lead.{along, child, go_on, lead, parts_of}

abbrev pub Lacks : ℕ → List ℕ → Type 0
Lacks c xs = (i : ℕ) → i < length xs → get_or xs i 0 ≢ c

over : (part xs rest : List ℕ) → Lacks 47 xs → parts_of part (xs ++ rest) ≡ parts_of (part ++ xs) rest
unfolding parts_of
over part [] rest h = rw append-nil
over part (x ∷ xs) rest h =
    rw (ne_eqb x 47 (h 0 (omega arith))) (over (part ++ x ∷ []) xs rest (λ i less. h (suc i) (omega arith))
    ∙ rw append_assoc)

one_part : (part rest : List ℕ) → Lacks 47 part → parts_of [] (part ++ 47 ∷ rest) ≡ part ∷ parts_of [] rest
unfolding parts_of
one_part part rest h = over [] part (47 ∷ rest) h

last_part : (part : List ℕ) → Lacks 47 part → parts_of [] part ≡ part ∷ []
unfolding parts_of
last_part part h = ap (parts_of []) (sym (append-nil part)) ∙ over [] part [] h

pub along_part : (text part rest : List ℕ) (k : ℕ) (v : Json) → text ≡ part ++ 47 ∷ rest → Lacks 47 part
    → along (parts_of [] text) k v ≡ go_on k v (child part v) (along (parts_of [] rest))
along_part text part rest k v e h = ap (λ ps. along ps k v) (ap (parts_of []) e ∙ one_part part rest h)

pub along_last : (text : List ℕ) (k : ℕ) (v : Json) → Lacks 47 text
    → along (parts_of [] text) k v ≡ go_on k v (child text v) (along [])
along_last text k v h = ap (λ ps. along ps k v) (last_part text h)

pub no_slash : (pointer : List ℕ) (v : Json) → 0 < length pointer → ((rest : List ℕ) → pointer ≢ 47 ∷ rest)
    → lead pointer v ≡ record { token = 0; value = v; is_there = false }
no_slash [] v some h = absurd (omega arith)
no_slash (x ∷ xs) v some h = rw (ne_eqb x 47 (λ e. h xs (ap (λ y. y ∷ xs) e)))

pub empty : (xs : List ℕ) → length xs ≡ 0 → xs ≡ []
empty [] e = refl
empty (x ∷ xs) e = absurd (omega arith)
