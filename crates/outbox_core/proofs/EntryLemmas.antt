-- Entries by their ids and their keys.
use Rattle.std.proofs.Common.{◌≡◌, ℕ, zero, suc, ◌+◌, ◌<◌, Bool, true, false, cond, List, [], ◌∷◌, ◌++◌, length, find}
use Rattle.std.proofs.Common.{slice_get, Some, None, IfSome, option_map, nat_eq, bytes_eq, arith, add-zero, refl, sym}
use Rattle.std.proofs.Common.{ap, ◌∙◌, true≢false}
use Rattle.std.specs.List.{AllByRecursion}
use Rattle.std.proofs.lemmas.Bool.Decides.{nat_tests}
use Rattle.std.proofs.lemmas.Slice.Eq.{bytes_eq-Decides}
use Rattle.filing_model.specs.Numbered.{changed_at}
use Rattle.filing_model.specs.Outbox.{Entry, State}
use Rattle.filing_model.proofs.Keeping.{all_push}
use Rattle.outbox_tables.specs.Entries.{numbered, numbered_from, entry_at, AreDistinct}
use Rattle.outbox_core.specs.Entries.{has_id, has_text, in_state, set_state}

pub numbered_push : (n : ℕ) (es : List Entry) (e : Entry)
    → numbered_from n (es ++ e ∷ []) ≡ numbered_from n es ++ (n + length es, e) ∷ []
numbered_push n [] e = ap (λ k. (k, e) ∷ []) (sym (add-zero n))
numbered_push n (x ∷ es) e =
    ap (λ l. (n, x) ∷ l) (numbered_push (suc n) es e ∙ ap (λ k. numbered_from (suc n) es ++ (k, e) ∷ []) (omega arith))

find_from : (n k id : ℕ) (es : List Entry) → id ≡ n + k
    → find (has_id id) (numbered_from n es) ≡ option_map (λ (e : Entry). (id, e)) (slice_get es k)
find_from n k id [] at = refl
find_from n zero id (x ∷ es) at =
    let here : nat_eq n id ≡ true = grind (arith, nat_tests) in
    let same : n ≡ id = omega arith in
    rw here (ap (λ m. Some (m, x)) same)
find_from n (suc k) id (x ∷ es) at =
    let apart : nat_eq n id ≡ false = grind (arith, nat_tests) in
    rw apart (find_from (suc n) k id es (omega arith))

none_below : (n : ℕ) (es : List Entry) → 0 < n → find (has_id 0) (numbered_from n es) ≡ None
none_below n [] low = refl
none_below n (x ∷ es) low = let apart : nat_eq n 0 ≡ false = grind (arith, nat_tests) in
    rw apart (none_below (suc n) es (omega arith))

-- the entry that has the id stands at that place
pub find_id : (id : ℕ) (es : List Entry) → find (has_id id) (numbered es)
    ≡ option_map (λ (e : Entry). (id, e)) (entry_at es id)
find_id zero es = none_below 1 es (omega arith)
find_id (suc k) es = find_from 1 k (suc k) es (omega arith)

-- an entry that is found stands at the place of its id
find_at : (p : ℕ × Entry → Bool) (n k : ℕ) (all es : List Entry) → n ≡ suc k
    → ((i : ℕ) → slice_get all (k + i) ≡ slice_get es i)
    → IfSome (find p (numbered_from n es)) (λ (x : ℕ × Entry). entry_at all x.0 ≡ Some x.1)
find_at p n k all [] at same = tt
find_at p n k all (e ∷ es) at same =
    go (p (n, e)) (find_at p (suc n) (suc k) all es (omega arith) (λ i. ap (slice_get all) (omega arith)
    ∙ same (suc i)))
  where
    here : entry_at all n ≡ Some e
    here = ap (entry_at all) at ∙ ap (slice_get all) (omega arith) ∙ same 0

    go : (b : Bool) → IfSome (find p (numbered_from (suc n) es)) (λ (x : ℕ × Entry). entry_at all x.0 ≡ Some x.1)
        → IfSome (cond b (Some (n, e)) (find p (numbered_from (suc n) es)))
        (λ (x : ℕ × Entry). entry_at all x.0 ≡ Some x.1)
    go true later = here
    go false later = later

pub found_at : (p : ℕ × Entry → Bool) (es : List Entry)
    → IfSome (find p (numbered es)) (λ (x : ℕ × Entry). entry_at es x.0 ≡ Some x.1)
found_at p es = find_at p 1 0 es es refl (λ i. ap (slice_get es) (omega arith))

-- ---- states

put_same : (es : List Entry) (k : ℕ) (state : State) → option_map (λ (e : Entry). e.state) (slice_get es k) ≡ Some state
    → changed_at (in_state state) es k ≡ es
put_same [] k state at = refl
put_same (x ∷ es) zero state at = let same : x.state ≡ state = cc in ap (λ s. record x { state = s } ∷ es) (sym same)
put_same (x ∷ es) (suc k) state at = ap (λ l. x ∷ l) (put_same es k state at)

-- an entry that is put into its own state
pub same_state : (es : List Entry) (id : ℕ) (state : State)
    → option_map (λ (e : Entry). e.state) (entry_at es id) ≡ Some state → set_state es id state ≡ es
same_state es zero state at = refl
same_state es (suc k) state at = put_same es k state at

length_put : (es : List Entry) (k : ℕ) (state : State) → length (changed_at (in_state state) es k) ≡ length es
length_put [] k state = refl
length_put (x ∷ es) zero state = refl
length_put (x ∷ es) (suc k) state = ap suc (length_put es k state)

pub length_set : (es : List Entry) (id : ℕ) (state : State) → length (set_state es id state) ≡ length es
length_set es zero state = refl
length_set es (suc k) state = length_put es k state

-- what holds of each entry whatever its state is holds still
all_put : (P : Entry → Type 0) → ((e : Entry) (state : State) → P e → P (record e { state = state }))
    → (es : List Entry) (k : ℕ) (state : State) → AllByRecursion P es
    → AllByRecursion P (changed_at (in_state state) es k)
all_put P keeps [] k state all = tt
all_put P keeps (x ∷ es) zero state all = (keeps x state all.0, all.1)
all_put P keeps (x ∷ es) (suc k) state all = (all.0, all_put P keeps es k state all.1)

pub all_set : (P : Entry → Type 0) → ((e : Entry) (state : State) → P e → P (record e { state = state }))
    → (es : List Entry) (id : ℕ) (state : State) → AllByRecursion P es → AllByRecursion P (set_state es id state)
all_set P keeps es zero state all = all
all_set P keeps es (suc k) state all = all_put P keeps es k state all

-- what holds of every state that is put in
put_all : (P : State → Type 0) (es : List Entry) (k : ℕ) (state : State) → P state
    → AllByRecursion (λ (e : Entry). P e.state) es
    → AllByRecursion (λ (e : Entry). P e.state) (changed_at (in_state state) es k)
put_all P [] k state p all = tt
put_all P (x ∷ es) zero state p all = (p, all.1)
put_all P (x ∷ es) (suc k) state p all = (all.0, put_all P es k state p all.1)

pub set_all : (P : State → Type 0) (es : List Entry) (id : ℕ) (state : State) → P state
    → AllByRecursion (λ (e : Entry). P e.state) es → AllByRecursion (λ (e : Entry). P e.state) (set_state es id state)
set_all P es zero state p all = all
set_all P es (suc k) state p all = put_all P es k state p all

-- ---- keys

distinct_put : (es : List Entry) (k : ℕ) (state : State) → AreDistinct es
    → AreDistinct (changed_at (in_state state) es k)
distinct_put [] k state all = tt
distinct_put (x ∷ es) zero state all = all
distinct_put (x ∷ es) (suc k) state all =
    (all_put (λ b. bytes_eq b.key x.key ≡ false) (λ e s apart. apart) es k state all.0, distinct_put es k state all.1)

pub distinct_set : (es : List Entry) (id : ℕ) (state : State) → AreDistinct es → AreDistinct (set_state es id state)
distinct_set es zero state all = all
distinct_set es (suc k) state all = distinct_put es k state all

unused_from : (n : ℕ) (es : List Entry) (key : List ℕ) → find (has_text key) (numbered_from n es) ≡ None
    → AllByRecursion (λ (e : Entry). bytes_eq e.key key ≡ false) es
unused_from n [] key none = tt
unused_from n (x ∷ es) key none = go (bytes_eq x.key key) refl none (unused_from (suc n) es key)
  where
    go : (b : Bool) → bytes_eq x.key key ≡ b → cond b (Some (n, x)) (find (has_text key) (numbered_from (suc n) es))
        ≡ None
        → (find (has_text key) (numbered_from (suc n) es) ≡ None
        → AllByRecursion (λ (e : Entry). bytes_eq e.key key ≡ false) es)
        → AllByRecursion (λ (e : Entry). bytes_eq e.key key ≡ false) (x ∷ es)
    go true is none more = absurd cc
    go false is none more = (is, more none)

-- a key that no entry is found to have is that of none
pub unused : (es : List Entry) (key : List ℕ) → find (has_text key) (numbered es) ≡ None
    → AllByRecursion (λ (e : Entry). bytes_eq e.key key ≡ false) es
unused es key none = unused_from 1 es key none

turned : (a b : List ℕ) → bytes_eq a b ≡ false → bytes_eq b a ≡ false
turned a b apart = go (bytes_eq b a) refl
  where
    go : (x : Bool) → bytes_eq b a ≡ x → x ≡ false
    go true is = absurd (true≢false (sym ((bytes_eq-Decides a b).1 (sym ((bytes_eq-Decides b a).0 is))) ∙ apart))
    go false is = refl

pub distinct_push : (es : List Entry) (e : Entry) → AllByRecursion (λ (b : Entry). bytes_eq b.key e.key ≡ false) es
    → AreDistinct es → AreDistinct (es ++ e ∷ [])
distinct_push [] e new all = (tt, tt)
distinct_push (x ∷ es) e new all = (
  all_push (λ (b : Entry). bytes_eq b.key x.key ≡ false) es e all.0 (turned x.key e.key new.0),
  distinct_push es e new.1 all.1,
)
