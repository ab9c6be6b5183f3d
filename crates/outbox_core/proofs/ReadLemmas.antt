-- What the columns of a row say of its entry.
use Rattle.std.proofs.Common.{◌≡◌, ℕ, pos, Option, Some, None, Result, Ok, Err, IfOk, option_map, refl, ap, sym, subst}
use Rattle.std.proofs.Common.{◌∙◌, IsSome, List, [], ◌∷◌, map, ap₂}
use Rattle.std.specs.Prelude.{option_and_then}
use Rattle.sqlite.specs.declared.types.Value.TheVariants.{Int}
use Rattle.sqlite.specs.Order.{Row, column}
use Rattle.filing_model.specs.Outbox.{Entry, State, Open, Confirmed, Refused, Clashed}
use Rattle.outbox_core.specs.declared.entry.Entry.{Entry as Read}
use Rattle.filing_model.specs.Views.{view_state}
use Rattle.outbox_core.specs.Reading.{Shows, view_entry, state_in, state_told, id_and_state}
use Rattle.outbox_tables.specs.Rows.{entry_row, code_of, number_of}
use Rattle.outbox_core.specs.Rows.{id_row, state_row, bare_state_row}

pub id_shown : (o : Option (ℕ × Entry)) (row : Row) (n : ℕ) → Some row ≡ option_map id_row o
    → column row 0 ≡ Int (pos n) → Some n ≡ option_map (λ (x : ℕ × Entry). x.0) o
id_shown None row n e id = cc
id_shown (Some x) row n e id = let same : row ≡ id_row x = cc in let both = rw same at id in cc

pub none_shown : {Y : Type 0} (f : ℕ × Entry → Y) (o : Option (ℕ × Entry))
    → ◌≡◌ {A = Option Row} None (option_map id_row o) → ◌≡◌ {A = Option Y} None (option_map f o)
none_shown f None e = refl
none_shown f (Some x) e = cc

pub none_found : (o : Option (ℕ × Entry)) → ◌≡◌ {A = Option ℕ} None (option_map (λ (x : ℕ × Entry). x.0) o) → o ≡ None
none_found None e = refl
none_found (Some x) e = cc

pub one_state : (a b : State) → code_of a ≡ code_of b → number_of a ≡ number_of b → a ≡ b
one_state Open Open c n = refl
one_state Open (Confirmed k) c n = cc
one_state Open Refused c n = cc
one_state Open Clashed c n = cc
one_state (Confirmed j) Open c n = cc
one_state (Confirmed j) (Confirmed k) c n = let inside : pos j ≡ pos k = cc in let same : j ≡ k = cc in
    ap Confirmed same
one_state (Confirmed j) Refused c n = cc
one_state (Confirmed j) Clashed c n = cc
one_state Refused Open c n = cc
one_state Refused (Confirmed k) c n = cc
one_state Refused Refused c n = refl
one_state Refused Clashed c n = cc
one_state Clashed Open c n = cc
one_state Clashed (Confirmed k) c n = cc
one_state Clashed Refused c n = cc
one_state Clashed Clashed c n = refl

same_entry : (e : Read) (n : ℕ) (it : Entry) → e.id ≡ n → e.key ≡ it.key → e.target ≡ it.target → e.body.items ≡ it.body
    → view_state e.state ≡ it.state → view_entry e ≡ (n, it)
same_entry e n it p q t r s = λ i. (p i, record { key = q i; target = t i; body = r i; state = s i })

-- a row that was read is that of its entry, where its target was
pub entry_shown : (x : ℕ × Entry) (row : Row) (e : Read) → row ≡ entry_row x → Shows row e → e.target ≡ x.1.target
    → view_entry e ≡ x
entry_shown x row e is shows target =
    let id : pos e.id ≡ pos x.0 = let at = rw is at shows.id in cc in
    let same_id : e.id ≡ x.0 = cc in
    let key : e.key ≡ x.1.key = let at = rw is at shows.key in cc in
    let body : e.body.items ≡ x.1.body = let at = rw is at shows.body in cc in
    let code : pos (code_of (view_state e.state)) ≡ pos (code_of x.1.state) = let at = rw is at shows.code in cc in
    let same_code : code_of (view_state e.state) ≡ code_of x.1.state = cc in
    let number : number_of (view_state e.state) ≡ number_of x.1.state = sym (rw is at shows.number) in
    same_entry e x.0 x.1 same_id key target body (one_state (view_state e.state) x.1.state same_code number)

pub read_as : {E : Type 0} (r : Result Read E) (x : ℕ × Entry) (row : Row) (target : Option ℕ) → row ≡ entry_row x
    → target ≡ x.1.target → IfOk r (Shows row) → IfOk r (λ (e : Read). e.target ≡ target)
    → IfOk r (λ (e : Read). view_entry e ≡ x)
read_as (Ok e) x row target is same shows has = entry_shown x row e is shows (has ∙ same)
read_as (Err f) x row target is same shows has = tt

-- the id in the row of an entry
pub id_in : (x : ℕ × Entry) (row : Row) (n : ℕ) → row ≡ entry_row x → column row 0 ≡ Int (pos n) → n ≡ x.0
id_in x row n is at = let both = rw is at at in cc

-- its state
pub state_shown : (x : ℕ × Entry) (row : Row) (s : State) → row ≡ bare_state_row x
    → column row 0 ≡ Int (pos (code_of s)) → column row 1 ≡ number_of s → s ≡ x.1.state
state_shown x row s is code number =
    let inside : pos (code_of s) ≡ pos (code_of x.1.state) = let at = rw is at code in cc in
    let same : code_of s ≡ code_of x.1.state = cc in
    one_state s x.1.state same (sym (rw is at number))

pub state_of_row : (o : Option Entry) (id : ℕ) (row : Row) (s : State)
    → Some row ≡ option_map bare_state_row (option_map (λ (e : Entry). (id, e)) o)
    → column row 0 ≡ Int (pos (code_of s)) → column row 1 ≡ number_of s → Some s ≡ option_map (λ (e : Entry). e.state) o
state_of_row None id row s is code number = cc
state_of_row (Some e) id row s is code number = let same : row ≡ bare_state_row (id, e) = cc in
    ap Some (state_shown (id, e) row s same code number)

pub no_state : (o : Option Entry) (id : ℕ) → ◌≡◌ {A =
    Option Row} None (option_map bare_state_row (option_map (λ (e : Entry). (id, e)) o))
    → ◌≡◌ {A = Option State} None (option_map (λ (e : Entry). e.state) o)
no_state None id is = refl
no_state (Some e) id is = cc

pub none_there : (o : Option Entry) → ◌≡◌ {A = Option State} None (option_map (λ (e : Entry). e.state) o) → o ≡ None
none_there None is = refl
none_there (Some e) is = cc

-- the target of an entry that is there
pub target_there : (o : Option Entry) (x : Entry) → o ≡ Some x → option_and_then (λ (e : Entry). e.target) o ≡ x.target
target_there o x is = rw is refl

pub some_mapped : {X Y : Type 0} (f : X → Y) (o : Option X) (y : Y) → option_map f o ≡ Some y → IsSome o
some_mapped f None y e = cc
some_mapped f (Some x) y e = refl

pub moved_read : (o : Option Entry) (from to : State) (f : State → State)
    → option_map (λ (x : Entry). x.state) o ≡ Some from → to ≡ f from
    → Some to ≡ option_map (λ (x : Entry). f x.state) o
moved_read None from to f at is = cc
moved_read (Some x) from to f at is = let same : x.state ≡ from = cc in ap Some (is ∙ ap f (sym same))

pub entry_read : (o : Option Entry) (from : State) (P : State → Type 0)
    → option_map (λ (x : Entry). x.state) o ≡ Some from → P from → (x : Entry) × (o ≡ Some x) × P x.state
entry_read None from P at p = cc
entry_read (Some x) from P at p = let same : x.state ≡ from = cc in (x, refl, subst P (sym same) p)

-- ---- the other way

state_back : (state : State) → state_in (Int (pos (code_of state))) (number_of state) ≡ state
state_back Open = refl
state_back (Confirmed n) = refl
state_back Refused = refl
state_back Clashed = refl

pub told_rows : (xs : List (ℕ × Entry)) → map state_told (map state_row xs) ≡ map id_and_state xs
told_rows [] = refl
told_rows (x ∷ xs) = ap₂ (λ y ys. y ∷ ys) (ap (λ s. (x.0, s)) (state_back x.1.state)) (told_rows xs)
