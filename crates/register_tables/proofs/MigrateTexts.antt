-- What the statements of a migration mean, and what each of them makes.
use Rattle.std.proofs.Common.{◌≡◌, ℕ, pos, not, false, true, List, [], ◌∷◌, codes, map, filter, Ok, refl, ap, subst}
use Rattle.std.proofs.Common.{arith, is_eq, Bool, IsPermutation}
use Rattle.std.specs.List.{list_all}
use Rattle.std.proofs.lemmas.List.Sorted.{IsPermutation-refl, length_permutation}
use Rattle.sqlite_schema.specs.declared.schema.Index.{Index}
use Rattle.sqlite_schema.specs.declared.schema.View.{View}
use Rattle.sqlite.specs.declared.types.Value.{Value}
use Rattle.sqlite.specs.declared.types.Value.TheVariants.{Null, Int, Text}
use Rattle.sqlite.specs.Order.{Row, column}
use Rattle.sqlite.specs.Table.{Table}
use Rattle.sqlite.specs.Schema.{Schema}
use Rattle.sqlite.specs.Tree.{Trees}
use Rattle.sqlite.specs.Term.{Term, lit, col, op2}
use Rattle.sqlite.specs.Query.{Query, Output}
use Rattle.sqlite.specs.Program.{overlay}
use Rattle.sqlite.specs.Source.TheVariants.{Values}
use Rattle.sqlite.specs.Command.{Command}
use Rattle.sqlite.specs.Command.TheVariants.{Insert, Update}
use Rattle.sqlite.specs.Cast.{cast_row}
use Rattle.sqlite.specs.Effect.{Database, IsDatabase}
use Rattle.sqlite.specs.Listing.{understood}
use Rattle.sqlite.specs.State.{State, Executes, ExecutesInside}
use Rattle.sqlite.proofs.Callers.{IsPlain, command_of, runs_as, statement_of, one_permutation}
use Rattle.sqlite_sql.specs.Ops.{binary, is_true}
use Rattle.sqlite_sql.specs.Query.{IsSureAnswer}
use Rattle.sqlite_sql.specs.declared.ops.BinaryOp.TheVariants.{Compare}
use Rattle.sqlite_sql.specs.declared.ops.CompareOp.TheVariants.{Eq}
use Rattle.sqlite_value.specs.declared.keys.Collation.TheVariants.{Binary}
use Rattle.sqlite_value.specs.Order.{value_cmp}
use Rattle.sqlite_value.proofs.OrderLemmas.{value_cmp-Int}
use Rattle.sqlite_keyed.proofs.ListLemmas.{filter-map, IsPermutation-filter}
use Rattle.sqlite_tied.specs.Compute.{everything}
use Rattle.sqlite_typed.proofs.TestLemmas.{at_ints, last_term}
use Rattle.table_rows.specs.Tables.{schema_with}
use Rattle.table_rows.specs.Rows.{shown, TableHas, KeepsOthers}
use Rattle.table_rows.proofs.GainLemmas.{inside, gained, cast_int, cast_null}
use Rattle.table_rows.proofs.InsertLemmas.{inserts}
use Rattle.table_rows.proofs.SelectLemmas.{one_table, selects}
use Rattle.table_rows.proofs.UpdateLemmas.{other_rows, updated}
use Rattle.register_rows.specs.Schema.{register_tables, meta_table, migrated_table}
use Rattle.register_rows.specs.Register.{form_row, meta_row, migrated_row}
use Rattle.register_tables.specs.Gains.{GainsRows}
use Rattle.register_tables.specs.Migrating.{insert_old_style, raise_form}
use Rattle.register_tables.proofs.CreateTexts.{own_indexes}

-- ---- the row of `migrated`

module _ (tables : List Table) (indexes : List Index) (views : List View) where
  abbrev schema : Schema
  schema = schema_with register_tables tables indexes views

  inserts_old_style : (command_of (understood schema insert_old_style)
      ≡ Insert 5 (Values (lit (Int (pos 1)) ∷ lit Null ∷ col 0 0 ∷ []) 3))
      × IsPlain (understood schema insert_old_style)
  unfolding understood everything
  inserts_old_style = (refl, (refl, refl))

pub old_style_gains : (old new : State) (old_style count : ℕ)
    → ExecutesInside 0 insert_old_style (Int (pos old_style) ∷ []) old new (Ok count)
    → GainsRows migrated_table (migrated_row old_style ∷ []) old new
old_style_gains old new old_style count =
    inside register_tables migrated_table _ insert_old_style _ old new count (λ ran d.
    let means = inserts_old_style d.tables d.indexes d.views in
    let i = inserts (schema_with register_tables d.tables d.indexes d.views) 5 _ _ _ _ _ _ _ refl _ 3 (λ _. refl)
    insert_old_style _ old new count d.is means.0 means.1 ran in
    gained register_tables migrated_table _ (migrated_row old_style) old.now new.now d i
    (λ row is. rw (is, cast_int (pos 1), cast_int (pos old_style)) refl))

-- ---- the form in the row of `intake_meta`

-- what is declared once all tables are made, where there were no others
abbrev pub whole_schema : Schema
whole_schema = schema_with register_tables [] own_indexes []

abbrev is_first : List Term
is_first = op2 (Compare Eq Binary) (col 1 0) (lit (Int (pos 1))) ∷ []

-- its rowid, and then the row as it becomes
abbrev raised_columns : List Term
raised_columns = col 1 0 ∷ col 1 0 ∷ lit Null ∷ col 1 2 ∷ lit (Int (pos 5)) ∷ []

abbrev raise_query : Query
raise_query = one_table 0 is_first raised_columns []

abbrev raise_command : Command
raise_command = Update 0 (record { lets = []; body = raise_query })

raise_is : command_of (understood whole_schema raise_form) ≡ raise_command
unfolding understood everything
raise_is = refl

raise_plain : IsPlain (understood whole_schema raise_form)
unfolding understood everything
raise_plain = (refl, refl)

abbrev matches : Row → Bool
matches w = list_all (λ (v : Value). is_true v) (binary (Compare Eq Binary) (column w 0) (Int (pos 1)) ∷ [])

matches_it : (form : ℕ) → matches (form_row form) ≡ true
matches_it form = last_term (at_ints false Eq (pos 1) (pos 1))

abbrev change : Row → Output
change w = ([], column w 0 ∷ column w 0 ∷ Null ∷ column w 1 ∷ Int (pos 5) ∷ [])

abbrev became : Row
became = Null ∷ Text (codes "register") ∷ Int (pos 5) ∷ []

abbrev stored : Row
stored = Int (pos 1) ∷ became

abbrev other : Row → Bool
other w = not (is_eq (value_cmp (column w 0) (Int (pos 1))))

no_other : (form : ℕ) → other (form_row form) ≡ false
no_other form = let same : is_eq (value_cmp (Int (pos 1)) (Int (pos 1))) ≡ true =
    rw (value_cmp-Int (pos 1) (pos 1)) refl in ap not same

none_left : (rows : List Row) → IsPermutation [] (map (shown meta_table) rows) → rows ≡ []
none_left [] h = refl
none_left (r ∷ rows) h = absurd (omega (arith, length_permutation _ _ h))

module _ (form : ℕ) (trees : Trees) (held : IsPermutation (form_row form ∷ []) (map (shown meta_table) (trees 0))) where
  one_row : (rows : List Row) → IsSureAnswer raise_query (overlay trees []) [] rows
      → rows ≡ (Int (pos 1) ∷ Int (pos 1) ∷ became) ∷ []
  one_row rows answer =
      let moved =
      selects 0 is_first raised_columns [] trees [] rows answer (shown meta_table) (form_row form ∷ []) held matches
      (λ r. refl) change (λ r. refl) in
      one_permutation (Int (pos 1) ∷ Int (pos 1) ∷ became) rows (rw (matches_it form) at moved)

  left_none : other_rows 1 (trees 0) ≡ []
  left_none =
      let kept : IsPermutation (filter other (form_row form ∷ [])) (filter other (map (shown meta_table) (trees 0))) =
      IsPermutation-filter other (form_row form ∷ []) (map (shown meta_table) (trees 0)) held in
      let none : filter other (form_row form ∷ []) ≡ [] = rw (no_other form) refl in
      none_left (other_rows 1 (trees 0)) (subst (IsPermutation []) (filter-map other (shown meta_table) (trees 0))
      (subst (λ l. IsPermutation l (filter other (map (shown meta_table) (trees 0)))) none kept))

-- the row tells the present form, and the other tables stay
pub record IsRaised (old new : Database) : Type 0 where
  pub schema_is : new.schema ≡ whole_schema
  pub sound : IsDatabase new
  pub meta_is : TableHas new meta_table (meta_row ∷ [])
  pub others : KeepsOthers register_tables meta_table old new

pub raises : (form : ℕ) (old new : State) (count : ℕ) → old.now.schema ≡ whole_schema
    → TableHas old.now meta_table (form_row form ∷ []) → Executes raise_form [] old new (Ok count)
    → IsRaised old.now new.now
raises form old new count has held h =
    let w = runs_as raise_form [] old new whole_schema has raise_command raise_is raise_plain count h in
    let u = updated whole_schema 0 meta_table refl (
      refl,
      (refl, (refl, (refl, (refl, (refl, (refl, (refl, tt))))))),
    ) raise_query [] old
    (statement_of raise_form (understood whole_schema raise_form)) w.tally new.now has w.changed 1 became
    (one_row form old.now.trees held) in
    let cast_is : cast_row meta_table (Int (pos 1) ∷ became) ≡ stored =
    rw (cast_int (pos 1), cast_int (pos 5), cast_null) refl in
    let rows : new.now.trees 0 ≡ stored ∷ [] = rw (cast_is, left_none form old.now.trees held) at u.rows in
    record {
      schema_is = u.schema_is;
      sound = w.sound;
      meta_is = rw rows (IsPermutation-refl _);
      others = u.others;
    }
