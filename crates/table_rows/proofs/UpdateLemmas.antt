-- What an UPDATE of one row makes of its table.
use Rattle.std.proofs.Common.{◌≡◌, ◌≢◌, ℕ, pos, not, List, [], ◌∷◌, filter, slice_get, Option, Some, None, Ok, false}
use Rattle.std.proofs.Common.{refl, sym, ap, subst, ◌∙◌}
use Rattle.std.specs.Prelude.{flat_map}
use Rattle.std.specs.List.{AllByRecursion, filter_map}
use Rattle.sqlite.specs.declared.types.Value.TheVariants.{Int}
use Rattle.sqlite.specs.Order.{Row}
use Rattle.sqlite.specs.Query.{Query}
use Rattle.sqlite.specs.Program.{overlay}
use Rattle.sqlite.specs.Table.{Table}
use Rattle.sqlite.specs.Schema.{Schema}
use Rattle.sqlite.specs.Cast.{cast_row}
use Rattle.sqlite.specs.Rowids.TheVariants.{Given}
use Rattle.sqlite.specs.Command.{Command}
use Rattle.sqlite.specs.Command.TheVariants.{Update}
use Rattle.sqlite.specs.Rows.{Written, Task}
use Rattle.sqlite.specs.Does.{Tally, Does, AtPlace, OnRows}
use Rattle.sqlite.specs.Effect.{Database}
use Rattle.sqlite.specs.State.{State, mode_of}
use Rattle.sqlite.proofs.Callers.{one_step}
use Rattle.sqlite_sql.specs.Query.{IsSureAnswer}
use Rattle.sqlite_trees.specs.Tree.{Trees, put_row, has_rowid}
use Rattle.sqlite_schema.specs.declared.schema.Reference.{Reference}
use Rattle.sqlite_rules.specs.Action.{Work}
use Rattle.sqlite_rules.specs.Calls.{ids_of}
use Rattle.sqlite_rules.specs.Edit.{edit_of, is_taken, Applies}
use Rattle.table_rows.proofs.PartLemmas.{went, same_value}
use Rattle.table_rows.proofs.InsertLemmas.{free_if}

-- the rows of a table but the one of this rowid
abbrev pub other_rows : ℕ → List Row → List Row
other_rows id rows = filter (λ r. not (has_rowid (pos id) r)) rows

-- what the statement makes: this row in the place of the one of that rowid
pub record Updated (schema : Schema) (table : Table) (id : ℕ) (row : Row) (old new : Database) : Type 0 where
  pub schema_is : new.schema ≡ schema
  pub fresh : is_taken (other_rows id (old.trees table.tree)) row ≡ false
  pub rows : new.trees table.tree ≡ put_row row (other_rows id (old.trees table.tree))
  pub others : AllByRecursion (λ t. t.tree ≢ table.tree → new.trees t.tree ≡ old.trees t.tree) schema.tables

-- where no table has a foreign key, none acts
no_works : (f : Table → Reference → Option Work) (tables : List Table) → AllByRecursion (λ t. t.references ≡ []) tables
    → flat_map (λ (t : Table). filter_map (f t) t.references) tables ≡ []
no_works f [] free = refl
no_works f (t ∷ tables) free = rw (free.0, no_works f tables free.1) refl

module _ (schema : Schema) (at : ℕ) (table : Table) (found : slice_get schema.tables at ≡ Some table)
    (free : AllByRecursion (λ t. t.references ≡ []) schema.tables) (q : Query) where
  abbrev command : Command
  command = Update at (record { lets = []; body = q })

  -- the query gives the one row: its rowid, and then what it becomes
  pub updated : (params : Row) (s : State) (text : List ℕ) (tally : Tally) (after : Database) → s.now.schema ≡ schema
      → Does s.step_limit (mode_of s) params s.now text None command (Ok (tally, after))
      → (id : ℕ) (row : Row) → ((rows : List Row) → IsSureAnswer q (overlay s.now.trees []) params rows
      → rows ≡ (Int (pos id) ∷ Int (pos id) ∷ row) ∷ [])
      → Updated schema table id (cast_row table (Int (pos id) ∷ row)) s.now after
  updated params s text tally after has does id row selects =
      let db = s.now.trees in
      let changed =
      subst (λ k. Does s.step_limit (mode_of s) params (record s.now { schema = k }) text None command
      (Ok (tally, after))) has does in
      let task : Table → Task =
      λ t. record { limit = s.step_limit; keys = (mode_of s).keys; schema = schema; table = t; params = params } in
      let done =
      went (subst (λ o. AtPlace (λ t. OnRows (task t) (mode_of s) None command db) o (Ok (tally, after))) found
      changed) in
      let now = ap (λ (p : Tally × Database). p.1) (same_value (went (went done.2).2).2) in
      let given = went done.1 in
      let written = went given.2 in
      let trees : done.0.trees ≡ written.0 = ap (λ (w : Written). w.trees) (same_value written.2) in
      let stepped =
      one_step schema (mode_of s).keys db written.0 (edit_of db table (ids_of given.0) Given 1 given.0)
      (no_works _ schema.tables free) written.1 in
      let step : Applies schema (mode_of s).keys db
      (edit_of db table (ids_of ((Int (pos id) ∷ Int (pos id) ∷ row) ∷ [])) Given 1
      ((Int (pos id) ∷ Int (pos id) ∷ row) ∷ [])) written.0 =
      subst (λ all. Applies schema (mode_of s).keys db (edit_of db table (ids_of all) Given 1 all) written.0)
      (selects given.0 given.1.answer) stepped in
      let trees_are : after.trees ≡ written.0 = ap (λ (d : Database). d.trees) now ∙ trees in
      record {
        schema_is = ap (λ (d : Database). d.schema) now;
        fresh = free_if _ step.fresh;
        rows = ap (λ (t : Trees). t table.tree) trees_are ∙ step.rows;
        others = subst (λ (trees : Trees). AllByRecursion (λ t. t.tree ≢ table.tree
            → trees t.tree ≡ db t.tree) schema.tables) (sym trees_are) step.tables;
      }
