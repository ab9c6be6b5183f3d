-- What an INSERT of one row makes of its table.
use Rattle.std.proofs.Common.{◌≡◌, ◌≢◌, ℕ, ◌/◌, ◌==◌, Bool, true, false, not, List, [], ◌∷◌, ◌++◌, length, slice_get}
use Rattle.std.proofs.Common.{Option, Some, None, Ok, refl, sym, ap, subst, ◌∙◌, IsPermutation, Less, Equal, Greater}
use Rattle.std.proofs.Common.{Ordering, true≢false}
use Rattle.std.proofs.lemmas.Bool.{or_parts}
use Rattle.std.specs.Prelude.{◌&&◌, if◌then◌else◌}
use Rattle.std.specs.Ordering.{is_eq, match_ordering}
use Rattle.std.specs.List.{AllByRecursion, flat_map, filter_map}
use Rattle.std.proofs.lemmas.List.Sorted.{IsPermutation-refl, IsPermutation-cons, IsPermutation-trans}
use Rattle.std.proofs.lemmas.List.Sorted.{IsPermutation-middle}
use Rattle.sqlite.specs.Order.{Row}
use Rattle.sqlite_value.specs.Order.{value_cmp}
use Rattle.sqlite_value.specs.declared.keys.Order.{Order}
use Rattle.sqlite.specs.Term.{Term, eval_all}
use Rattle.sqlite_trees.specs.Tree.{Trees, rowid, put_row}
use Rattle.sqlite_rules.specs.Edit.{is_taken, edit_of, with_rowid, Applies}
use Rattle.sqlite_rules.specs.Action.{works, work_by}
use Rattle.sqlite.specs.Cast.{cast_row}
use Rattle.sqlite.specs.Rowids.TheVariants.{Chosen}
use Rattle.sqlite_schema.specs.declared.schema.Column.{Column}
use Rattle.sqlite_schema.specs.declared.schema.Keys.{Keys}
use Rattle.sqlite_schema.specs.declared.schema.Reference.{Reference}
use Rattle.sqlite_schema.specs.Rules.{ParentKey, parent_key}
use Rattle.sqlite_rules.specs.declared.action.Deed.{Deed}
use Rattle.sqlite_rules.specs.Action.{deed_for}
use Rattle.sqlite.specs.Table.{Table}
use Rattle.sqlite.specs.Schema.{Schema}
use Rattle.sqlite.specs.Source.TheVariants.{Values}
use Rattle.sqlite.specs.Command.{Command}
use Rattle.sqlite.specs.Command.TheVariants.{Insert}
use Rattle.sqlite.specs.Listing.{understood}
use Rattle.sqlite.specs.Effect.{Database, IsDatabase, value_rows}
use Rattle.sqlite.specs.Rows.{Written, Task}
use Rattle.sqlite.specs.Does.{Tally, Does, AtPlace, OnRows}
use Rattle.sqlite.specs.State.{State, mode_of, Executes}
use Rattle.sqlite.proofs.Callers.{IsPlain, command_of, statement_of, runs_as, one_step}
use Rattle.table_rows.specs.Tables.{table}
use Rattle.table_rows.proofs.PartLemmas.{went, same_value}

pub free_if : (taken : Bool) → (not taken && true) ≡ true → taken ≡ false
free_if true h = absurd (true≢false (sym h))
free_if false h = refl

-- a row whose rowid is free joins the others
pub put_fresh : (new : Row) (rows : List Row) → is_taken rows new ≡ false
    → IsPermutation (new ∷ rows) (put_row new rows)
put_fresh new [] free = IsPermutation-refl _
put_fresh new (r ∷ rows) free =
    go (value_cmp (rowid r) (rowid new)) (or_parts _ _ free).0 (put_fresh new rows (or_parts _ _ free).1)
  where
    go : (o : Ordering) → is_eq o ≡ false → IsPermutation (new ∷ rows) (put_row new rows)
        → IsPermutation (new ∷ r ∷ rows) (match_ordering o (r ∷ put_row new rows) (new ∷ rows) (new ∷ r ∷ rows))
    go Less h more = IsPermutation-trans _ _ _ (IsPermutation-middle (new ∷ []) r rows) (IsPermutation-cons r _ _ more)
    go Equal h more = absurd (true≢false h)
    go Greater h more = IsPermutation-refl _

neither : {X : Type 0} (b : Bool) (o : Option X) → (if b && false then o else None) ≡ None
neither true o = refl
neither false o = refl

-- no foreign key acts where no row is taken out
no_work : (depth tree : ℕ) (child : Table) (ref : Reference) (deed : Option Deed) (key : Option ParentKey)
    → work_by depth tree [] child ref deed key ≡ None
no_work depth tree child ref None key = refl
no_work depth tree child ref (Some deed) None = refl
no_work depth tree child ref (Some deed) (Some key) =
    neither (key.0 == tree) (Some (record {
      depth = depth;
      child = child;
      ref = ref;
      places = key.1;
      order =
          key.2;
      deed = deed;
      moves = [];
    }))

none_of : {A B : Type 0} (f : A → Option B) → ((x : A) → f x ≡ None) → (xs : List A) → filter_map f xs ≡ []
none_of f none [] = refl
none_of f none (x ∷ xs) = rw (none x, none_of f none xs) refl

nothing_of : {A B : Type 0} (f : A → List B) → ((x : A) → f x ≡ []) → (xs : List A) → flat_map f xs ≡ []
nothing_of f none [] = refl
nothing_of f none (x ∷ xs) = rw (none x, nothing_of f none xs) refl

no_works : (schema : Schema) (keys : Keys) (tree : ℕ) (news : List Row) → works schema keys 0 tree [] news ≡ []
no_works schema keys tree news =
    nothing_of _ (λ child. none_of _ (λ ref. no_work 0 tree child ref (deed_for keys (length news == 0) ref)
    (parent_key schema.tables ref)) child.references) schema.tables

-- what the statement makes: the row, with the rowid that it says or that is chosen, beside those that were there
pub record Inserted (schema : Schema) (table : Table) (source : Row) (old new : Database) : Type 0 where
  pub row : Row
  pub row_is : row ≡ with_rowid Chosen (old.trees table.tree) (cast_row table source)
  pub schema_is : new.schema ≡ schema
  pub sound : IsDatabase new
  pub fresh : is_taken (old.trees table.tree) row ≡ false
  pub rows : new.trees table.tree ≡ put_row row (old.trees table.tree)
  pub others : AllByRecursion (λ t. t.tree ≢ table.tree → new.trees t.tree ≡ old.trees t.tree) schema.tables

module _ (schema : Schema) (at : ℕ) (name : List ℕ) (tree : ℕ) (columns : List Column) (key : Option ℕ)
    (primary : List ℕ) (uniques : List (List ℕ)) (orders : List Order)
    (found : slice_get schema.tables at ≡ Some (table name tree columns key primary uniques orders))
    (terms : List Term) (width : ℕ) (single : (params : Row)
    → value_rows params width (length terms / width) terms ≡ eval_all terms (params ∷ []) ∷ []) where
  abbrev it : Table
  it = table name tree columns key primary uniques orders

  abbrev command : Command
  command = Insert at (Values terms width)

  pub inserted : (params : Row) (s : State) (text : List ℕ) (tally : Tally) (after : Database) → s.now.schema ≡ schema
      → Does s.step_limit (mode_of s) params s.now text None command (Ok (tally, after))
      → IsDatabase after → Inserted schema it (eval_all terms ((params ++ []) ∷ [])) s.now after
  inserted params s text tally after has does sound =
      let db = s.now.trees in
      let changed =
      subst (λ k. Does s.step_limit (mode_of s) params (record s.now { schema = k }) text None command
      (Ok (tally, after))) has does in
      let task : Table → Task =
      λ t. record { limit = s.step_limit; keys = (mode_of s).keys; schema = schema; table = t; params = params } in
      let done =
      went (subst (λ o. AtPlace (λ t. OnRows (task t) (mode_of s) None command db) o (Ok (tally, after))) found
      changed) in
      let now = ap (λ (p : Tally × Database). p.1) (same_value (went (went done.2).2).2) in
      let given = went done.1 in
      let written = went (went given.2).2 in
      let counted = went written.2 in
      let trees : done.0.trees ≡ written.0 =
      ap (λ (it : Written). it.trees) (same_value counted.2) ∙ same_value counted.1 in
      let sources : given.0 ≡ eval_all terms ((params ++ []) ∷ []) ∷ [] = given.1.1 ∙ single (params ++ []) in
      let stepped =
      one_step schema (mode_of s).keys db written.0 (edit_of db it [] Chosen 0 given.0)
      (no_works schema (mode_of s).keys tree _) written.1 in
      let applied : Applies schema (mode_of s).keys db
      (edit_of db it [] Chosen 0 (eval_all terms ((params ++ []) ∷ []) ∷ [])) written.0 =
      subst (λ all. Applies schema (mode_of s).keys db (edit_of db it [] Chosen 0 all) written.0) sources stepped in
      let trees_are : after.trees ≡ written.0 = ap (λ (d : Database). d.trees) now ∙ trees in
      record {
        row = with_rowid Chosen (db tree) (cast_row it (eval_all terms ((params ++ []) ∷ [])));
        row_is = refl;
        schema_is = ap (λ (d : Database). d.schema) now;
        sound = sound;
        fresh = free_if _ applied.fresh;
        rows = ap (λ (t : Trees). t tree) trees_are ∙ applied.rows;
        others = subst (λ (trees : Trees). AllByRecursion (λ t. t.tree ≢ tree → trees t.tree ≡ db t.tree) schema.tables)
            (sym trees_are) applied.tables;
      }

  pub inserts : (sql : List ℕ) (params : Row) (old new : State) (count : ℕ) → old.now.schema ≡ schema
      → command_of (understood schema sql) ≡ command → IsPlain (understood schema sql)
      → Executes sql params old new (Ok count)
      → Inserted schema it (eval_all terms ((params ++ []) ∷ [])) old.now new.now
  inserts sql params old new count has is plain h =
      let w = runs_as sql params old new schema has command is plain count h in
      inserted params old (statement_of sql (understood schema sql)) w.tally new.now has w.changed w.sound
