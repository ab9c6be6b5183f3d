-- The audit of the rows that an opening finds.
use Rattle.std.proofs.Common.{◌≡◌, ◌<◌, ◌≤◌, ◌^◌, ◌+◌, ℕ, suc, pos, negsuc, Bool, true, false, not, cond, List, [], ◌∷◌}
use Rattle.std.proofs.Common.{map, filter, length, nat_eq, le_refl, IsPermutation, nat_le, nat_lt, Option}
use Rattle.std.proofs.Common.{Some, None, refl, sym, ap, ap₂, subst, ◌∙◌, arith, true≢false}
use Rattle.std.specs.Prelude.{◌&&◌, ◌||◌, codes}
use Rattle.std.specs.List.{AllByRecursion}
use Rattle.std.proofs.lemmas.Bool.{and_parts, not-true}
use Rattle.std.proofs.lemmas.Bool.Decides.{nat_tests}
use Rattle.std.proofs.lemmas.Slice.Eq.{bytes_eq-Decides}
use Rattle.std.proofs.lemmas.List.Elements.{recursion_from_All, All-from_recursion}
use Rattle.std.proofs.lemmas.List.Sorted.{All-permutation, IsPermutation-sym, IsPermutation-refl, IsPermutation-trans}
use Rattle.std.proofs.lemmas.List.Sorted.{IsPermutation-append, IsPermutation-filter_both}
use Rattle.sqlite.specs.declared.types.Value.{Value}
use Rattle.sqlite.specs.declared.types.Value.TheVariants.{Null, Int, Real, Text, Blob}
use Rattle.sqlite.specs.Order.{Row, column}
use Rattle.sqlite.specs.Table.{Table}
use Rattle.sqlite.specs.Effect.{Database}
use Rattle.sqlite_keyed.proofs.KeyedLemmas.{same_int}
use Rattle.sqlite_keyed.proofs.ListLemmas.{all-map, all_weaker, filter-filter, none_from_any, IsPermutation-same}
use Rattle.key_string.specs.Key.{IsKey}
use Rattle.key_string.specs.Filer.{is_filer}
use Rattle.key_string.proofs.Fields.{is_key-IsKey}
use Rattle.http_messages.specs.Head.{max_body_len}
use Rattle.http_messages.specs.Posting.{IsTarget}
use Rattle.filing_model.specs.Outbox.{Entry, State, Open, Confirmed, Refused, Clashed}
use Rattle.table_rows.specs.Rows.{shown, TableHas}
use Rattle.outbox_tables.specs.Schema.{meta_table, entry_table, target_table}
use Rattle.outbox_tables.specs.Entries.{FitsNumber, numbered_from}
use Rattle.outbox_tables.specs.Rows.{code_of, number_of, form_row, entry_row, entry_rows, target_row, target_rows_from}
use Rattle.outbox_tables.specs.Rows.{target_rows}
use Rattle.outbox_tables.specs.Audit.{is_int, is_absent, is_key_text, is_body, is_number, is_state, is_outbox}
use Rattle.outbox_tables.specs.Audit.{filer_text, filer_in, is_entry, is_sound, is_target, with_id, is_id_to}
use Rattle.outbox_tables.specs.Audit.{is_left_over, or_left_over, first_damaged, damaged_row, IsKept, IsPair}
use Rattle.outbox_tables.proofs.SelectLemmas.{same_ids}
use Rattle.outbox_tables.proofs.TargetLemmas.{other_id}

-- ---- what a test says of a value

never : {X : Type 0} → false ≡ true → X
never h = absurd (true≢false (sym h))

pub is_int-of : (n : ℕ) (v : Value) → is_int n v ≡ true → v ≡ Int (pos n)
is_int-of n Null h = never h
is_int-of n (Int k) h = ap Int (same_int k (pos n) h)
is_int-of n (Real x) h = never h
is_int-of n (Text t) h = never h
is_int-of n (Blob b) h = never h

absent-of : (v : Value) → is_absent v ≡ true → v ≡ Null
absent-of Null h = refl
absent-of (Int k) h = never h
absent-of (Real x) h = never h
absent-of (Text t) h = never h
absent-of (Blob b) h = never h

key-of : (v : Value) → is_key_text v ≡ true → (t : List ℕ) × (v ≡ Text t) × IsKey t
key-of Null h = never h
key-of (Int k) h = never h
key-of (Real x) h = never h
key-of (Text t) h = (t, refl, is_key-IsKey t h)
key-of (Blob b) h = never h

short : (n : ℕ) → nat_le n max_body_len ≡ true → n ≤ max_body_len
short n h = grind (arith, nat_tests)

body-of : (v : Value) → is_body v ≡ true → (b : List ℕ) × (v ≡ Blob b) × (length b ≤ max_body_len)
body-of Null h = never h
body-of (Int k) h = never h
body-of (Real x) h = never h
body-of (Text t) h = never h
body-of (Blob b) h = (b, refl, short (length b) h)

fits : (n : ℕ) → (nat_le 1 n && nat_lt n (2 ^ 63)) ≡ true → (1 ≤ n) × (n < 2 ^ 63)
fits n h = let p = and_parts (nat_le 1 n) (nat_lt n (2 ^ 63)) h in let low = p.0 in let high = p.1 in
    (grind (arith, nat_tests), grind (arith, nat_tests))

number-of : (v : Value) → is_number v ≡ true → (n : ℕ) × (v ≡ Int (pos n)) × (1 ≤ n) × (n < 2 ^ 63)
number-of Null h = never h
number-of (Int (pos n)) h = let f = fits n h in (n, refl, f.0, f.1)
number-of (Int (negsuc n)) h = never h
number-of (Real x) h = never h
number-of (Text t) h = never h
number-of (Blob b) h = never h

-- the two columns are those of a state
abbrev AreState : Value → Value → State → Type 0
AreState code number s = (code ≡ Int (pos (code_of s))) × (number ≡ number_of s) × FitsNumber s

state-of : (code number : Value) → is_state code number ≡ true → (s : State) × AreState code number s
state-of code number h = go (is_int 1 code) refl h
  where
    others : (a b : Bool) → is_int 0 code ≡ a → is_int 2 code ≡ b
        → ((a || (b || is_int 3 code)) && is_absent number) ≡ true → (s : State) × AreState code number s
    others true b first two h = (Open, (is_int-of 0 code first, absent-of number h, tt))
    others false true first two h = (Refused, (is_int-of 2 code two, absent-of number h, tt))
    others false false first two h = let p = and_parts (is_int 3 code) (is_absent number) h in
        (Clashed, (is_int-of 3 code p.0, absent-of number p.1, tt))

    go : (b : Bool) → is_int 1 code ≡ b
        → cond b (is_number number) ((is_int 0 code || (is_int 2 code || is_int 3 code)) && is_absent number) ≡ true
        → (s : State) × AreState code number s
    go true one h = let n = number-of number h in (Confirmed n.0, (is_int-of 1 code one, n.1, (n.2, n.3)))
    go false one h = others (is_int 0 code) (is_int 2 code) refl refl h

-- ---- rows as a table's columns show them

-- what every shown row is, the rows are
formed : (table : Table) (P : Row → Type 0) → ((r : Row) → P (shown table r)) → (db : Database) (rows : List Row)
    → TableHas db table rows → AllByRecursion P rows
formed table P each db rows held =
    recursion_from_All P rows (All-permutation P _ rows (IsPermutation-sym rows _ held)
    (All-from_recursion P _ (all-map P (shown table) each (db.trees table.tree))))

abbrev HasFive : Row → Type 0
HasFive row = row ≡ column row 0 ∷ column row 1 ∷ column row 2 ∷ column row 3 ∷ column row 4 ∷ []

abbrev HasFour : Row → Type 0
HasFour row = row ≡ column row 0 ∷ column row 1 ∷ column row 2 ∷ column row 3 ∷ []

five : (a b c d e a' b' c' d' e' : Value) → a ≡ a' → b ≡ b' → c ≡ c' → d ≡ d' → e ≡ e'
    → ◌≡◌ {A = Row} (a ∷ b ∷ c ∷ d ∷ e ∷ []) (a' ∷ b' ∷ c' ∷ d' ∷ e' ∷ [])
five a b c d e a' b' c' d' e' p q r s t = λ i. p i ∷ q i ∷ r i ∷ s i ∷ t i ∷ []

-- ---- the targets

two : (a b a' b' : Value) → a ≡ a' → b ≡ b' → ◌≡◌ {A = Row} (a ∷ b ∷ []) (a' ∷ b' ∷ [])
two a b a' b' p q = λ i. p i ∷ q i ∷ []

-- what passes a test is as it was
picked : (P : Row → Type 0) (p : Row → Bool) (rows : List Row) → AllByRecursion P rows
    → AllByRecursion (λ r. P r × (p r ≡ true)) (filter p rows)
picked P p [] all = tt
picked P p (row ∷ rows) all = go (p row) refl (picked P p rows all.1)
  where
    go : (b : Bool) → p row ≡ b → AllByRecursion (λ r. P r × (p r ≡ true)) (filter p rows)
        → AllByRecursion (λ r. P r × (p r ≡ true)) (cond b (row ∷ filter p rows) (filter p rows))
    go true is more = ((all.0, is), more)
    go false is more = more

target-of : (id : ℕ) (rows : List Row) → AllByRecursion (λ r. IsPair r × (is_int id (column r 0) ≡ true)) rows
    → is_target rows ≡ true → (o : Option ℕ) × (rows ≡ target_row id o) × IsTarget o
target-of id [] all h = (None, refl, tt)
target-of id (row ∷ []) all h =
    let n = number-of (column row 1) h in
    (Some n.0, ap (λ r. r ∷ []) (all.0.0 ∙ two _ _ _ _ (is_int-of id (column row 0) all.0.1) n.1), (n.2, n.3))
target-of id (row ∷ other ∷ rows) all h = never h

-- the id of a row is one of so many, from this one on
abbrev IsWithin : ℕ → ℕ → Row → Type 0
IsWithin id count row = (k : ℕ) × (column row 0 ≡ Int (pos k)) × (id ≤ k) × (k < id + count)

-- but for the first
within_later : (id count : ℕ) (row : Row) → IsWithin id (suc count) row → not (is_int id (column row 0)) ≡ true
    → IsWithin (suc id) count row
within_later id count row w other =
    let k = w.0 in
    let test : not (nat_eq k id) ≡ true = sym (ap not (ap (is_int id) w.1 ∙ same_ids k id)) ∙ other in
    let apart : nat_eq k id ≡ false = not-true (nat_eq k id) test in
    let least = w.2 in
    let most = w.3 in
    (k, w.1, grind (arith, nat_tests), omega (arith, most))

abbrev rows_after : ℕ → List Row → List Row
rows_after id rows = filter (λ w. not (is_int id (column w 0))) rows

with_later : (id k : ℕ) (rows : List Row) → id < k → with_id k (rows_after id rows) ≡ with_id k rows
with_later id k rows low =
    filter-filter (λ w. is_int k (column w 0)) (λ w. not (is_int id (column w 0)))
    (λ w h. ap (λ v. not (is_int id v)) (is_int-of k (column w 0) h) ∙ ap not (other_id id k low)) rows

-- ---- the entries

sound-of : (id : ℕ) (row : Row) (o : Option ℕ) → HasFive row → is_entry id row ≡ true → IsTarget o
    → (e : Entry) × (row ≡ entry_row (id, e)) × IsKept e × (e.target ≡ o)
sound-of id row o whole h fits =
    let p = and_parts (is_int id (column row 0)) _ h in
    let q = and_parts (is_key_text (column row 1)) _ p.1 in
    let r = and_parts (is_body (column row 2)) _ q.1 in
    let key = key-of (column row 1) q.0 in
    let body = body-of (column row 2) r.0 in
    let state = state-of (column row 3) (column row 4) r.1 in (
      record { key = key.0; target = o; body = body.0; state = state.0 },
      whole ∙ five _ _ _ _ _ _ _ _ _ _ (is_int-of id (column row 0) p.0) key.1 body.1 state.1.0 state.1.1,
      record { key = key.2; target = fits; body = body.2; number = state.1.2 },
      refl,
    )

abbrev AreEntries : ℕ → List Row → List Row → Type 0
AreEntries id rows ts =
    (es : List Entry) × (rows ≡ map entry_row (numbered_from id es)) × IsPermutation (target_rows_from id es) ts
    × AllByRecursion IsKept es × (length rows ≡ length es)

gathered : (targets : List Row) (id : ℕ) (rows ts : List Row) → AllByRecursion HasFive rows → AllByRecursion IsPair ts
    → AllByRecursion (IsWithin id (length rows)) ts
    → ((k : ℕ) → id ≤ k → with_id k ts ≡ with_id k targets) → first_damaged targets id rows ≡ None
    → AreEntries id rows ts
gathered targets id [] [] whole pairs within same none = ([], refl, IsPermutation-refl [], tt, refl)
gathered targets id [] (t ∷ ts) whole pairs within same none =
    absurd (let low = within.0.2 in let high = within.0.3 in omega (arith, low, high))
gathered targets id (row ∷ rows) ts whole pairs within same none =
    let own = picked (IsWithin id (suc (length rows))) (λ w. not (is_int id (column w 0))) ts within in
    let fewer =
    all_weaker _ (IsWithin (suc id) (length rows)) (λ r w. within_later id (length rows) r w.0 w.1)
    (rows_after id ts) own in
    let left =
    all_weaker _ IsPair (λ r w. w.0) (rows_after id ts)
    (picked IsPair (λ w. not (is_int id (column w 0))) ts pairs) in
    go (is_sound targets id row) refl none (gathered targets (suc id) rows (rows_after id ts) whole.1 left fewer
    (λ k low. with_later id k ts (omega (arith, low)) ∙ same k (omega (arith, low))))
  where
    go : (b : Bool) → is_sound targets id row ≡ b
        → ◌≡◌ {A = Option ℕ} (cond b (first_damaged targets (suc id) rows) (Some id)) None
        → (first_damaged targets (suc id) rows ≡ None → AreEntries (suc id) rows (rows_after id ts))
        → AreEntries id (row ∷ rows) ts
    go true sound none more =
        let p = and_parts (is_entry id row) _ sound in
        let here = same id (le_refl id) in
        let t = target-of id (with_id id ts) (picked IsPair (λ w. is_int id (column w 0)) ts pairs) (ap is_target here
        ∙ p.1) in
        let e = sound-of id row t.0 whole.0 p.0 t.2 in
        let es = more none in
        let mine : IsPermutation (target_row id e.0.target) (with_id id ts) =
        IsPermutation-same _ _ (ap (target_row id) e.3 ∙ sym t.1) in
        let split =
        IsPermutation-filter_both (λ (w : Row). is_int id (column w 0)) (λ (w : Row). not (is_int id (column w 0)))
        (λ w. refl) ts in
        let parts =
        IsPermutation-append (target_row id e.0.target) (with_id id ts) (target_rows_from (suc id) es.0)
        (rows_after id ts) mine es.2 in (
          e.0 ∷ es.0,
          ap₂ (λ r rs. r ∷ rs) e.1 es.1,
          IsPermutation-trans _ _ _ parts (IsPermutation-sym _ _ split),
          (e.2, es.3),
          ap suc es.4,
        )
    go false sound none more = absurd cc

or_none : (b : Bool) (o : Option ℕ) → or_left_over b o ≡ None → (o ≡ None) × (b ≡ false)
or_none true None h = absurd cc
or_none false None h = (refl, refl)
or_none b (Some row) h = absurd cc

-- the rows that are not left over
id-to : (count : ℕ) (v : Value) → not (is_id_to count v) ≡ false
    → (k : ℕ) × (v ≡ Int (pos k)) × (1 ≤ k) × (k < 1 + count)
id-to count Null h = never (sym h)
id-to count (Int (pos n)) h = go (nat_le 1 n) (nat_le n count) refl refl h
  where
    go : (a b : Bool) → nat_le 1 n ≡ a → nat_le n count ≡ b → not (a && b) ≡ false
        → (k : ℕ) × (Int (pos n) ≡ Int (pos k)) × (1 ≤ k) × (k < 1 + count)
    go true true low high h = (n, refl, grind (arith, nat_tests), grind (arith, nat_tests))
    go true false low high h = never (sym h)
    go false b low high h = never (sym h)
id-to count (Int (negsuc n)) h = never (sym h)
id-to count (Real x) h = never (sym h)
id-to count (Text t) h = never (sym h)
id-to count (Blob b) h = never (sym h)

-- where no row is damaged, the rows are those of entries and of their targets
pub entries_found : (db : Database) (targets rows : List Row) → TableHas db entry_table rows
    → AllByRecursion IsPair targets → damaged_row targets rows ≡ None
    → (es : List Entry) × TableHas db entry_table (entry_rows es) × IsPermutation (target_rows es) targets
    × AllByRecursion IsKept es × (length rows ≡ length es)
entries_found db targets rows held pairs none =
    let sound = or_none (is_left_over (length rows) targets) (first_damaged targets 1 rows) none in
    let within =
    all_weaker _ (IsWithin 1 (length rows)) (λ r h. id-to (length rows) (column r 0) h) targets
    (none_from_any (λ (r : Row). not (is_id_to (length rows) (column r 0))) targets sound.1) in
    let all =
    gathered targets 1 rows targets (formed entry_table HasFive (λ r. refl) db rows held) pairs within
    (λ k low. refl) sound.0 in
    (all.0, subst (TableHas db entry_table) all.1 held, all.2, all.3, all.4)

pub targets_paired : (db : Database) (targets : List Row) → TableHas db target_table targets
    → AllByRecursion IsPair targets
targets_paired db targets held = formed target_table IsPair (λ r. refl) db targets held

-- ---- the filer

outbox-of : (v : Value) → is_outbox v ≡ true → v ≡ Text (codes "outbox")
outbox-of Null h = never h
outbox-of (Int k) h = never h
outbox-of (Real x) h = never h
outbox-of (Text t) h = ap Text ((bytes_eq-Decides t (codes "outbox")).0 h)
outbox-of (Blob b) h = never h

filer-of : (v : Value) (filer : List ℕ) → filer_text v ≡ Some filer → (v ≡ Text filer) × (is_filer filer ≡ true)
filer-of Null filer h = absurd cc
filer-of (Int k) filer h = absurd cc
filer-of (Real x) filer h = absurd cc
filer-of (Text t) filer h = go (is_filer t) refl h
  where
    go : (b : Bool) → is_filer t ≡ b → ◌≡◌ {A = Option (List ℕ)} (cond b (Some t) None) (Some filer)
        → (Text t ≡ Text filer) × (is_filer filer ≡ true)
    go true is h = let same : t ≡ filer = cc in (ap Text same, subst (λ f. is_filer f ≡ true) same is)
    go false is h = absurd cc
filer-of (Blob b) filer h = absurd cc

four : (a b c d a' b' c' d' : Value) → a ≡ a' → b ≡ b' → c ≡ c' → d ≡ d'
    → ◌≡◌ {A = Row} (a ∷ b ∷ c ∷ d ∷ []) (a' ∷ b' ∷ c' ∷ d' ∷ [])
four a b c d a' b' c' d' p q r s = λ i. p i ∷ q i ∷ r i ∷ s i ∷ []

one_row : (form : ℕ) (row : Row) (filer : List ℕ) → HasFour row → filer_in form (row ∷ []) ≡ Some filer
    → (row ≡ form_row form filer) × (is_filer filer ≡ true)
one_row form row filer whole h =
    go (is_int 1 (column row 0) && (is_outbox (column row 1) && is_int form (column row 2))) refl h
  where
    go : (b : Bool) → (is_int 1 (column row 0) && (is_outbox (column row 1) && is_int form (column row 2))) ≡ b
        → ◌≡◌ {A = Option (List ℕ)} (cond b (filer_text (column row 3)) None) (Some filer)
        → (row ≡ form_row form filer) × (is_filer filer ≡ true)
    go true is h =
        let p = and_parts (is_int 1 (column row 0)) _ is in
        let q = and_parts (is_outbox (column row 1)) _ p.1 in
        let f = filer-of (column row 3) filer h in (
          whole ∙ four _ _ _ _ _ _ _ _ (is_int-of 1 (column row 0) p.0) (outbox-of (column row 1) q.0)
              (is_int-of form (column row 2) q.1) f.0,
          f.1,
        )
    go false is h = absurd cc

-- where a filer is found, the row is that of its outbox
pub filer_found : (db : Database) (form : ℕ) (rows : List Row) (filer : List ℕ) → TableHas db meta_table rows
    → filer_in form rows ≡ Some filer → TableHas db meta_table (form_row form filer ∷ []) × (is_filer filer ≡ true)
filer_found db form [] filer held h = absurd cc
filer_found db form (row ∷ []) filer held h =
    let whole = formed meta_table HasFour (λ r. refl) db (row ∷ []) held in
    let one = one_row form row filer whole.0 h in
    (subst (λ r. TableHas db meta_table (r ∷ [])) one.0 held, one.1)
filer_found db form (row ∷ other ∷ rows) filer held h = absurd cc

-- and so it is a filer's code, whatever the table is
pub filer_code : (form : ℕ) (rows : List Row) (filer : List ℕ) → filer_in form rows ≡ Some filer → is_filer filer ≡ true
filer_code form [] filer h = absurd cc
filer_code form (row ∷ []) filer h =
    go (is_int 1 (column row 0) && (is_outbox (column row 1) && is_int form (column row 2))) h
  where
    go : (b : Bool) → ◌≡◌ {A = Option (List ℕ)} (cond b (filer_text (column row 3)) None) (Some filer)
        → is_filer filer ≡ true
    go true h = (filer-of (column row 3) filer h).1
    go false h = absurd cc
filer_code form (row ∷ other ∷ rows) filer h = absurd cc
