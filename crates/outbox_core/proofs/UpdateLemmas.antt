-- What the UPDATE of a state makes of an outbox.
use Rattle.std.proofs.Common.{◌≡◌, ℕ, zero, suc, ◌+◌, ◌<◌, pos, Bool, true, false, not, List, [], ◌∷◌, map, filter}
use Rattle.std.proofs.Common.{slice_get, nat_eq, Option, Some, None, Ok, Err, Result, IsTrue, IsSome, refl, sym, ap}
use Rattle.std.proofs.Common.{ap₂, subst, ◌∙◌, OnOk, arith, is_eq, IsPermutation}
use Rattle.std.specs.List.{AllByRecursion}
use Rattle.std.proofs.lemmas.Bool.Decides.{nat_tests}
use Rattle.std.proofs.lemmas.List.Sorted.{IsPermutation-map, IsPermutation-refl, IsPermutation-cons}
use Rattle.std.proofs.lemmas.List.Sorted.{IsPermutation-trans, IsPermutation-middle}
use Rattle.sqlite.specs.declared.types.Value.TheVariants.{Null, Int, Text, Blob}
use Rattle.sqlite.specs.declared.error.Error.{Error}
use Rattle.sqlite.specs.Order.{Row, column}
use Rattle.sqlite.specs.Tree.{Trees}
use Rattle.sqlite.specs.Table.{Table}
use Rattle.sqlite.specs.Schema.{Schema}
use Rattle.sqlite.specs.Kind.TheVariants.{Integer}
use Rattle.sqlite.specs.Cast.{cast, cast_row}
use Rattle.sqlite.specs.Query.{Output}
use Rattle.sqlite.specs.Program.{overlay}
use Rattle.sqlite.specs.Listing.{understood}
use Rattle.sqlite.specs.State.{State, CommitsBy, Executes}
use Rattle.sqlite.specs.Values.{bound_value}
use Rattle.sqlite.proofs.Callers.{statement_of, one_permutation}
use Rattle.sqlite_sql.specs.Query.{IsSureAnswer}
use Rattle.sqlite_trees.specs.Tree.{put_row}
use Rattle.sqlite_value.specs.Order.{value_cmp}
use Rattle.sqlite_value.proofs.OrderLemmas.{value_cmp-Int}
use Rattle.sqlite_rules.specs.Edit.{is_taken}
use Rattle.sqlite_keyed.proofs.ListLemmas.{filter-map, IsPermutation-filter}
use Rattle.filing_model.specs.Outbox.{Entry, State as Place, Open, Confirmed, Refused, Clashed}
use Rattle.table_rows.specs.Tables.{schema_with}
use Rattle.table_rows.specs.Rows.{shown, TableHas}
use Rattle.table_rows.specs.Standing.{HasCommitted}
use Rattle.table_rows.proofs.InsertLemmas.{put_fresh}
use Rattle.table_rows.proofs.GainLemmas.{cast_int, cast_null, same_rows}
use Rattle.table_rows.proofs.SelectLemmas.{selects}
use Rattle.table_rows.proofs.WriteLemmas.{LeadsTo, EndsNone, written_stands, crash_leaves}
use Rattle.table_rows.proofs.UpdateLemmas.{other_rows, updated}
use Rattle.filing_model.specs.Numbered.{changed_at}
use Rattle.outbox_tables.specs.Schema.{outbox_tables, meta_table, entry_table, target_table, IsDeclared}
use Rattle.outbox_tables.specs.Entries.{Contents, IsOutbox, numbered, numbered_from, entry_at}
use Rattle.outbox_core.specs.Entries.{has_id, with_state, in_state}
use Rattle.outbox_tables.specs.Rows.{IsOutboxOf, LeavesOutbox, code_of, number_of, entry_row, entry_rows, target_rows}
use Rattle.outbox_tables.specs.Rows.{meta_row}
use Rattle.outbox_tables.proofs.Texts.{equals}
use Rattle.outbox_core.proofs.Texts.{changed_columns, update_text, update_command, update_query, update_is}
use Rattle.outbox_core.proofs.Texts.{update_plain}
use Rattle.outbox_tables.proofs.SelectLemmas.{matches, same_ids, passing}
use Rattle.outbox_core.proofs.SelectLemmas.{id_matches}
use Rattle.outbox_core.proofs.TargetLemmas.{targets_put}

abbrev pub update_params : ℕ → Place → Row
update_params id state = Int (pos id) ∷ Int (pos (code_of state)) ∷ number_of state ∷ []

pub bound_number : (state : Place) → bound_value (number_of state) ≡ number_of state
bound_number (Confirmed n) = refl
bound_number Open = refl
bound_number Refused = refl
bound_number Clashed = refl

cast_number : (state : Place) → cast Integer (number_of state) ≡ number_of state
cast_number (Confirmed n) = cast_int (pos n)
cast_number Open = cast_null
cast_number Refused = cast_null
cast_number Clashed = cast_null

abbrev apart_from : ℕ → ℕ × Entry → Bool
apart_from id x = not (has_id id x)

others_kept : (id n : ℕ) (es : List Entry) → id < n → filter (apart_from id) (numbered_from n es) ≡ numbered_from n es
others_kept id n [] low = refl
others_kept id n (e ∷ es) low = let apart : nat_eq n id ≡ false = grind (arith, nat_tests) in
    rw apart (ap (λ l. (n, e) ∷ l) (others_kept id (suc n) es (omega arith)))

none_here : (id n : ℕ) (es : List Entry) → id < n → filter (has_id id) (numbered_from n es) ≡ []
none_here id n [] low = refl
none_here id n (e ∷ es) low = let apart : nat_eq n id ≡ false = grind (arith, nat_tests) in
    rw apart (none_here id (suc n) es (omega arith))

only_one : (n k id : ℕ) (es : List Entry) (e : Entry) → id ≡ n + k → slice_get es k ≡ Some e
    → filter (has_id id) (numbered_from n es) ≡ (id, e) ∷ []
only_one n k id [] e at found = cc
only_one n zero id (x ∷ es) e at found =
    let here : nat_eq n id ≡ true = grind (arith, nat_tests) in
    let same : n ≡ id = omega arith in
    let first : x ≡ e = cc in
    rw (here, none_here id (suc n) es (omega arith)) (ap₂ (λ a b. (a, b) ∷ []) same first)
only_one n (suc k) id (x ∷ es) e at found =
    let apart : nat_eq n id ≡ false = grind (arith, nat_tests) in
    rw apart (only_one (suc n) k id es e (omega arith) found)

-- the rows are those of the others, and the new one
parted : (n k id : ℕ) (es : List Entry) (e : Entry) (state : Place) → id ≡ n + k → slice_get es k ≡ Some e
    → IsPermutation (map entry_row (numbered_from n (changed_at (in_state state) es k)))
    (entry_row (id, record e { state = state }) ∷ map entry_row (filter (apart_from id) (numbered_from n es)))
parted n k id [] e state at found = cc
parted n zero id (x ∷ es) e state at found =
    let here : nat_eq n id ≡ true = grind (arith, nat_tests) in
    let same : n ≡ id = omega arith in
    let first : x ≡ e = cc in
    let rest = others_kept id (suc n) es (omega arith) in
    rw (here, rest, same, first) (IsPermutation-refl _)
parted n (suc k) id (x ∷ es) e state at found =
    let apart : nat_eq n id ≡ false = grind (arith, nat_tests) in
    let more = parted (suc n) k id es e state (omega arith) found in
    rw apart (IsPermutation-trans _ _ _ (IsPermutation-cons (entry_row (n, x)) _ _ more)
    (IsPermutation-middle (entry_row (n, x) ∷ []) (entry_row (id, record e { state = state })) _))

-- a shown row has another rowid
abbrev other : ℕ → Row → Bool
other id w = not (is_eq (value_cmp (column w 0) (Int (pos id))))

other_row : (id : ℕ) (x : ℕ × Entry) → other id (entry_row x) ≡ apart_from id x
other_row id x = ap not (rw (value_cmp-Int (pos x.0) (pos id)) (same_ids x.0 id))

-- the row of the entry, as the statement reads it: its rowid, and then what it becomes
abbrev change : Place → Row → Output
change state w =
    ([], column w 0 ∷ column w 0 ∷ Null ∷ column w 1 ∷ column w 2 ∷ Int (pos (code_of state)) ∷ number_of state ∷ [])

-- without the rowid
abbrev became : Entry → Place → Row
became e state = Null ∷ Text e.key ∷ Blob e.body ∷ Int (pos (code_of state)) ∷ number_of state ∷ []

abbrev changed_row : ℕ → Entry → Place → Row
changed_row id e state = Int (pos id) ∷ Int (pos id) ∷ became e state

abbrev stored_row : ℕ → Entry → Place → Row
stored_row id e state = Int (pos id) ∷ became e state

module _ (es : List Entry) (trees : Trees) (held : IsPermutation (entry_rows es) (map (shown entry_table) (trees 1)))
    (k : ℕ) (e : Entry) (found : slice_get es k ≡ Some e) (state : Place) where
  abbrev at : ℕ
  at = 1 + k

  one_row : (rows : List Row) → IsSureAnswer update_query (overlay trees []) (update_params at state) rows
      → rows ≡ changed_row at e state ∷ []
  one_row rows answer =
      let moved =
      selects 1 (equals 0) changed_columns [] trees (update_params at state) rows answer (shown entry_table)
      (entry_rows es) held (matches 0 (Int (pos at))) (λ r. refl) (change state) (λ r. refl) in
      let mine =
      ap (map (λ (w : Row). (change state w).1)) (passing (matches 0 (Int (pos at))) (has_id at) (id_matches at) es
      ∙ ap (map entry_row) (only_one 1 k at es e refl found)) in
      one_permutation (changed_row at e state) rows (subst (λ l. IsPermutation l rows) mine moved)

  left : List Row
  left = other_rows at (trees 1)

  left_shown : IsPermutation (map entry_row (filter (apart_from at) (numbered es))) (map (shown entry_table) left)
  unfolding left
  left_shown =
      let kept = IsPermutation-filter (other at) _ _ held in
      let mine = passing (other at) (apart_from at) (other_row at) es in
      subst (λ l. IsPermutation l (map (shown entry_table) left)) mine
      (subst (IsPermutation (filter (other at) (entry_rows es)))
      (filter-map (other at) (shown entry_table) (trees 1)) kept)

  rows_changed : is_taken left (stored_row at e state) ≡ false
      → IsPermutation (entry_rows (changed_at (in_state state) es k))
      (map (shown entry_table) (put_row (stored_row at e state) left))
  rows_changed free =
      IsPermutation-trans _ _ _ (parted 1 k at es e state refl found)
      (IsPermutation-trans _ _ _ (IsPermutation-cons (entry_row (at, record e { state = state })) _ _ left_shown)
      (IsPermutation-map (shown entry_table) _ _ (put_fresh (stored_row at e state) left free)))

module _ (s : State) (it : Contents) (was : IsOutboxOf it s.now) (k : ℕ) (e : Entry)
    (found : slice_get it.entries k ≡ Some e) (state : Place) (fits : IsOutbox (with_state it (suc k) state)) where
  abbrev id : ℕ
  id = 1 + k

  abbrev d : IsDeclared s.now.schema
  d = was.rows.declared

  abbrev b : Schema
  b = schema_with outbox_tables d.begins.tables d.begins.indexes d.begins.views

  put : LeadsTo s (statement_of update_text (understood s.now.schema update_text)) (update_params id state)
      update_command (IsOutboxOf (with_state it (suc k) state))
  unfolding left
  put tally after does sound =
      let db = s.now.trees in
      let text = statement_of update_text (understood s.now.schema update_text) in
      let free =
      subst (λ (l : Schema). AllByRecursion (λ (t : Table). t.references ≡ []) l.tables) d.begins.is d.free in
      let u = updated b 1 entry_table refl free update_query (update_params id state) s text tally after d.begins.is
      does id (became e state) (one_row it.entries db was.rows.entries_are k e found state) in
      let cast_is : cast_row entry_table (Int (pos id) ∷ became e state) ≡ stored_row id e state =
      rw (cast_int (pos id), cast_int (pos (code_of state)), cast_null, cast_number state) refl in
      let fresh =
      subst (λ r. is_taken (left it.entries db was.rows.entries_are k e found state) r ≡ false) cast_is u.fresh in
      let rows : after.trees 1 ≡ put_row (stored_row id e state)
      (left it.entries db was.rows.entries_are k e found state) =
      u.rows ∙ ap (λ r. put_row r (left it.entries db was.rows.entries_are k e found state)) cast_is in
      record {
        sound = sound;
        rows = record {
          declared = subst IsDeclared (sym (u.schema_is ∙ sym d.begins.is)) d;
          meta_is =
              same_rows meta_table (meta_row it.filer ∷ []) s.now after (u.others.0 (λ same. omega (arith, same)))
              was.rows.meta_is;
          entries_are =
              subst (λ l. IsPermutation (entry_rows (changed_at (in_state state) it.entries k))
              (map (shown entry_table) l)) (sym rows) (rows_changed it.entries db was.rows.entries_are k e found state
              fresh);
          targets_are =
              subst (TableHas after target_table) (sym (targets_put 1 k it.entries state))
              (same_rows target_table (target_rows it.entries) s.now after
              (u.others.1.1.0 (λ same. omega (arith, same))) was.rows.targets_are);
        };
        list = fits;
      }

update_only : EndsNone update_command
update_only k e = (λ h. let both = sym e ∙ h in cc, λ name h. let both = sym e ∙ h in cc)

module _ (old new : State) (it : Contents) (was : HasCommitted (IsOutboxOf it) old) (alive : IsTrue old.is_open)
    (state : Place) where
  abbrev declared : IsDeclared old.now.schema
  declared = (was.now alive).rows.declared

  pub update_stands : (id : ℕ) → IsSome (entry_at it.entries id) → IsOutbox (with_state it id state)
      → (r : Result ℕ Error) → Executes update_text (update_params id state) old new r
      → OnOk r (HasCommitted (IsOutboxOf (with_state it id state)) new × IsTrue new.is_open)
  update_stands zero some fits r h = absurd cc
  update_stands (suc k) some fits (Err error) h = tt
  update_stands (suc k) some fits (Ok count) h = go (slice_get it.entries k) refl some
    where
      go : (o : Option Entry) → slice_get it.entries k ≡ o → IsSome o
          → HasCommitted (IsOutboxOf (with_state it (suc k) state)) new × IsTrue new.is_open
      go None at some = absurd cc
      go (Some e) at some =
          let next : suc k ≡ 1 + k = omega arith in
          written_stands (IsOutboxOf it) _ update_text (update_params (1 + k) state) update_command old new was
          (update_is old.now.schema declared) (update_plain old.now.schema declared)
          (put old it (was.now alive) k e at state fits) count (λ text w. w)
          (subst (λ n. Executes update_text (update_params n state) old new (Ok count)) next h)

  pub update_leaves : (id : ℕ) → IsSome (entry_at it.entries id) → IsOutbox (with_state it id state) → (trees : Trees)
      → CommitsBy update_text (update_params id state) old trees → LeavesOutbox (with_state it id state) trees
  update_leaves zero some fits trees h = absurd cc
  update_leaves (suc k) some fits trees h = go (slice_get it.entries k) refl some
    where
      go : (o : Option Entry) → slice_get it.entries k ≡ o → IsSome o → LeavesOutbox (with_state it (suc k) state) trees
      go None at some = absurd cc
      go (Some e) at some =
          let next : suc k ≡ 1 + k = omega arith in
          let made =
          crash_leaves (IsOutboxOf it) _ update_text (update_params (1 + k) state) update_command old new was
          (update_is old.now.schema declared) (update_plain old.now.schema declared)
          (put old it (was.now alive) k e at state fits) update_only trees
          (subst (λ n. CommitsBy update_text (update_params n state) old trees) next h) in
          record { db = made.0; is = made.2; outbox = made.1 }
