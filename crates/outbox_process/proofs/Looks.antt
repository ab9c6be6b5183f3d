-- Entries that were looked for.
use Rattle.std.proofs.Common.{◌≡◌, ◌∙◌, ℕ, suc, zero, ◌+◌, ◌<◌, List, [], ◌∷◌, ◌++◌, map, take, length, slice_get}
use Rattle.std.proofs.Common.{slice_index_or, Option, Some, None, option_map, refl, sym, ap, ap₂, arith}
use Rattle.std.specs.Prelude.{flat_map}
use Rattle.sqlite.specs.State.{State, HasCleanDisk, Survives}
use Rattle.sqlite.specs.Tree.{Trees}
use Rattle.filing_model.specs.Outbox.{Entry, State as Shown}
use Rattle.filing_model.specs.declared.state.State.{State as Stored}
use Rattle.outbox_tables.specs.Entries.{numbered, numbered_from, entry_at}
use Rattle.outbox_core.specs.Entries.{found_at}
use Rattle.outbox_core.specs.Reading.{view_entry, view_pair, id_and_state}
use Rattle.outbox_core.specs.declared.entry.Entry.{Entry as Read}
use Rattle.outbox_process.specs.Lines.{entry_line, told_line, state_line}
use Rattle.outbox_process.specs.Showing.{AreTold}

-- the lines of what is told are those of the entries
told_lines_from : (told : List (ℕ × Stored)) (es : List (ℕ × Entry)) → map view_pair told ≡ map id_and_state es
    → flat_map told_line told ≡ flat_map state_line es
told_lines_from [] [] same = refl
told_lines_from [] (x ∷ es) same = cc
told_lines_from (t ∷ told) [] same = cc
told_lines_from (t ∷ told) (x ∷ es) same =
    let here : view_pair t ≡ id_and_state x = cc in
    let rest : map view_pair told ≡ map id_and_state es = cc in
    ap₂ (λ (xs ys : List ℕ). xs ++ ys) (ap (λ (p : ℕ × Shown). entry_line p.0 p.1) here) (told_lines_from told es rest)

pub told_lines : (told : List (ℕ × Stored)) (entries : List Entry) → AreTold told entries
    → flat_map told_line told ≡ flat_map state_line (numbered entries)
told_lines told entries same = told_lines_from told (numbered entries) same

-- the entry that is found has the id
pub entry_found : (entries : List Entry) (id : ℕ) (entry : Read) → Some (view_entry entry) ≡ found_at entries id
    → (entry_at entries id ≡ Some (view_entry entry).1) × (entry.id ≡ id)
entry_found entries id entry found = go (entry_at entries id) found
  where
    go : (o : Option Entry) → Some (view_entry entry) ≡ option_map (λ e. (id, e)) o
        → (o ≡ Some (view_entry entry).1) × (entry.id ≡ id)
    go None found = cc
    go (Some e) found =
        let same : view_entry entry ≡ (id, e) = cc in
        (ap (λ (x : ℕ × Entry). Some x.1) (sym same), ap (λ (x : ℕ × Entry). x.0) same)

-- what is told at a place is the entry of that number
pub record IsNth (entries : List Entry) (at id : ℕ) : Type 0 where
  pub entry : Entry
  pub here : entry_at entries id ≡ Some entry
  pub more : take (suc at) (numbered entries) ≡ take at (numbered entries) ++ (id, entry) ∷ []

nth_from : (n k at : ℕ) (all es : List Entry) (told : List (ℕ × Stored)) (or : ℕ × Stored) → n ≡ suc k
    → ((i : ℕ) → slice_get all (k + i) ≡ slice_get es i) → map view_pair told ≡ map id_and_state (numbered_from n es)
    → at < length told
    → (e : Entry) × (entry_at all (slice_index_or told at or).0 ≡ Some e)
    × (take (suc at) (numbered_from n es) ≡ take at (numbered_from n es) ++ ((slice_index_or told at or).0, e) ∷ [])
nth_from n k at all es [] or is same told within = absurd (omega (arith, within))
nth_from n k at all [] (t ∷ told) or is same are within = cc
nth_from n k zero all (e ∷ es) (t ∷ told) or is same are within =
    let here : view_pair t ≡ (n, e.state) = cc in
    let id : t.0 ≡ n = ap (λ (p : ℕ × Shown). p.0) here in
    (e, ap (entry_at all) (id ∙ is) ∙ ap (slice_get all) (omega arith) ∙ same 0, ap (λ m. (m, e) ∷ []) (sym id))
nth_from n k (suc at) all (e ∷ es) (t ∷ told) or is same are within =
    let rest : map view_pair told ≡ map id_and_state (numbered_from (suc n) es) = cc in
    let later =
    nth_from (suc n) (suc k) at all es told or (omega arith) (λ i. ap (slice_get all) (omega arith)
    ∙ same (suc i)) rest (omega (arith, within)) in
    (later.0, later.1, ap (λ l. (n, e) ∷ l) later.2)

pub nth : (at : ℕ) (entries : List Entry) (told : List (ℕ × Stored)) (or : ℕ × Stored) → AreTold told entries
    → at < length told → IsNth entries at (slice_index_or told at or).0
nth at entries told or are within =
    let found = nth_from 1 0 at entries entries told or refl (λ i. ap (slice_get entries) (omega arith)) are within in
    record { entry = found.0; here = found.1; more = found.2 }

-- what is told is as long as the entries
pub all_told : (told : List (ℕ × Stored)) (es : List (ℕ × Entry)) → map view_pair told ≡ map id_and_state es
    → length told ≡ length es
all_told [] [] same = refl
all_told [] (x ∷ es) same = cc
all_told (t ∷ told) [] same = cc
all_told (t ∷ told) (x ∷ es) same = let rest : map view_pair told ≡ map id_and_state es = cc in
    ap suc (all_told told es rest)

-- a disk that is clean after a call was clean before
pub was_clean : (old new : State) (Commits : Trees → Type 0) → Survives old new Commits → HasCleanDisk new
    → HasCleanDisk old
was_clean old new Commits survives clean = omega (arith, survives.clean, clean)
