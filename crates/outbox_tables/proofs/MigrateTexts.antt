-- What the statements of a migration mean, and what each of them makes.
use Rattle.std.proofs.Common.{◌≡◌, ℕ, pos, not, false, true, List, [], ◌∷◌, codes, map, filter, Ok, refl, ap, subst}
use Rattle.std.proofs.Common.{arith, is_eq, Bool, IsPermutation}
use Rattle.std.proofs.lemmas.List.Sorted.{IsPermutation-refl, length_permutation}
use Rattle.sqlite.specs.declared.types.Value.TheVariants.{Null, Int, Text}
use Rattle.sqlite.specs.Order.{Row, column}
use Rattle.sqlite.specs.Tree.{Trees}
use Rattle.sqlite.specs.Term.{Term, lit, col, op2}
use Rattle.sqlite.specs.Query.{Query, Output}
use Rattle.sqlite.specs.Program.{overlay}
use Rattle.sqlite.specs.Command.{Command}
use Rattle.sqlite.specs.Command.TheVariants.{Update}
use Rattle.sqlite.specs.Cast.{cast_row}
use Rattle.sqlite.specs.Effect.{Database, IsDatabase}
use Rattle.sqlite.specs.Listing.{understood}
use Rattle.sqlite.specs.State.{State, Executes}
use Rattle.sqlite.proofs.Callers.{IsPlain, command_of, runs_as, statement_of, one_permutation}
use Rattle.sqlite_sql.specs.Query.{IsSureAnswer}
use Rattle.sqlite_sql.specs.declared.ops.BinaryOp.TheVariants.{Compare}
use Rattle.sqlite_sql.specs.declared.ops.CompareOp.TheVariants.{Eq}
use Rattle.sqlite_value.specs.declared.keys.Collation.TheVariants.{Binary}
use Rattle.sqlite_value.specs.Order.{value_cmp}
use Rattle.sqlite_value.proofs.OrderLemmas.{value_cmp-Int}
use Rattle.sqlite_keyed.proofs.ListLemmas.{filter-map, IsPermutation-filter}
use Rattle.sqlite_tied.specs.Compute.{everything}
use Rattle.sqlite_typed.proofs.TestLemmas.{at_ints, last_term}
use Rattle.table_rows.specs.Rows.{shown, TableHas, KeepsOthers}
use Rattle.table_rows.proofs.GainLemmas.{cast_int, cast_null}
use Rattle.table_rows.proofs.SelectLemmas.{one_table, selects}
use Rattle.table_rows.proofs.UpdateLemmas.{other_rows, updated}
use Rattle.outbox_tables.specs.Schema.{outbox_tables, meta_table}
use Rattle.outbox_tables.specs.Rows.{form_row, meta_row}
use Rattle.outbox_tables.specs.Earlier.{raise_form}
use Rattle.outbox_tables.proofs.MakeLemmas.{outbox_schema}
use Rattle.outbox_tables.proofs.SelectLemmas.{matches}

-- ---- the form in the row of `outbox_meta`

abbrev is_first : List Term
is_first = op2 (Compare Eq Binary) (col 1 0) (lit (Int (pos 1))) ∷ []

-- its rowid, and then the row as it becomes
abbrev raised_columns : List Term
raised_columns = col 1 0 ∷ col 1 0 ∷ lit Null ∷ col 1 2 ∷ lit (Int (pos 2)) ∷ col 1 4 ∷ []

abbrev raise_query : Query
raise_query = one_table 0 is_first raised_columns []

abbrev raise_command : Command
raise_command = Update 0 (record { lets = []; body = raise_query })

raise_is : command_of (understood outbox_schema raise_form) ≡ raise_command
unfolding understood everything
raise_is = refl

raise_plain : IsPlain (understood outbox_schema raise_form)
unfolding understood everything
raise_plain = (refl, refl)

abbrev change : Row → Output
change w = ([], column w 0 ∷ column w 0 ∷ Null ∷ column w 1 ∷ Int (pos 2) ∷ column w 3 ∷ [])

abbrev became : List ℕ → Row
became filer = Null ∷ Text (codes "outbox") ∷ Int (pos 2) ∷ Text filer ∷ []

abbrev stored : List ℕ → Row
stored filer = Int (pos 1) ∷ became filer

abbrev other : Row → Bool
other w = not (is_eq (value_cmp (column w 0) (Int (pos 1))))

none_left : (rows : List Row) → IsPermutation [] (map (shown meta_table) rows) → rows ≡ []
none_left [] h = refl
none_left (r ∷ rows) h = absurd (omega (arith, length_permutation _ _ h))

module _ (filer : List ℕ) (trees : Trees) (held : IsPermutation (form_row 1 filer ∷ [])
    (map (shown meta_table) (trees 0))) where
  matches_it : matches 0 (Int (pos 1)) (form_row 1 filer) ≡ true
  matches_it = last_term (at_ints false Eq (pos 1) (pos 1))

  no_other : other (form_row 1 filer) ≡ false
  no_other = let same : is_eq (value_cmp (Int (pos 1)) (Int (pos 1))) ≡ true =
      rw (value_cmp-Int (pos 1) (pos 1)) refl in ap not same

  one_row : (rows : List Row) → IsSureAnswer raise_query (overlay trees []) [] rows
      → rows ≡ (Int (pos 1) ∷ Int (pos 1) ∷ became filer) ∷ []
  one_row rows answer =
      let moved =
      selects 0 is_first raised_columns [] trees [] rows answer (shown meta_table) (form_row 1 filer ∷ []) held
      (matches 0 (Int (pos 1))) (λ r. refl) change (λ r. refl) in
      one_permutation (Int (pos 1) ∷ Int (pos 1) ∷ became filer) rows (rw matches_it at moved)

  left_none : other_rows 1 (trees 0) ≡ []
  left_none =
      let kept : IsPermutation (filter other (form_row 1 filer ∷ []))
      (filter other (map (shown meta_table) (trees 0))) =
      IsPermutation-filter other (form_row 1 filer ∷ []) (map (shown meta_table) (trees 0)) held in
      let none : filter other (form_row 1 filer ∷ []) ≡ [] = rw no_other refl in
      none_left (other_rows 1 (trees 0)) (subst (IsPermutation []) (filter-map other (shown meta_table) (trees 0))
      (subst (λ l. IsPermutation l (filter other (map (shown meta_table) (trees 0)))) none kept))

-- the row tells the present form, and the other tables stay
pub record IsRaised (filer : List ℕ) (old new : Database) : Type 0 where
  pub schema_is : new.schema ≡ outbox_schema
  pub sound : IsDatabase new
  pub meta_is : TableHas new meta_table (meta_row filer ∷ [])
  pub others : KeepsOthers outbox_tables meta_table old new

pub raises : (filer : List ℕ) (old new : State) (count : ℕ) → old.now.schema ≡ outbox_schema
    → TableHas old.now meta_table (form_row 1 filer ∷ []) → Executes raise_form [] old new (Ok count)
    → IsRaised filer old.now new.now
raises filer old new count has held h =
    let w = runs_as raise_form [] old new outbox_schema has raise_command raise_is raise_plain count h in
    let u = updated outbox_schema 0 meta_table refl (
      refl,
      (refl, (refl, tt)),
    ) raise_query [] old (statement_of raise_form (understood outbox_schema raise_form)) w.tally
    new.now has w.changed 1 (became filer) (one_row filer old.now.trees held) in
    let cast_is : cast_row meta_table (Int (pos 1) ∷ became filer) ≡ stored filer =
    rw (cast_int (pos 1), cast_int (pos 2), cast_null) refl in
    let rows : new.now.trees 0 ≡ stored filer ∷ [] = rw (cast_is, left_none filer old.now.trees held) at u.rows in
    record {
      schema_is = u.schema_is;
      sound = w.sound;
      meta_is = rw rows (IsPermutation-refl _);
      others = u.others;
    }
