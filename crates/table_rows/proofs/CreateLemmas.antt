-- What a CREATE TABLE makes.
use Rattle.std.proofs.Common.{◌≡◌, ℕ, false, List, [], ◌∷◌, ◌++◌, Ok, sym, ap, subst, ◌∙◌}
use Rattle.std.specs.Prelude.{None}
use Rattle.std.specs.List.{AllByRecursion}
use Rattle.std.proofs.lemmas.List.Sorted.{IsPermutation-refl}
use Rattle.sqlite.specs.Table.{Table}
use Rattle.sqlite.specs.Schema.{Schema}
use Rattle.sqlite.specs.Tree.{Trees}
use Rattle.sqlite.specs.Change.{created, next_tree}
use Rattle.sqlite.specs.Command.TheVariants.{CreateTable}
use Rattle.sqlite.specs.Compile.{table_defined_by}
use Rattle.sqlite.specs.Effect.{Database}
use Rattle.sqlite.specs.Does.{Tally, lacks_sequence}
use Rattle.sqlite.specs.State.{State, Writes, Executes}
use Rattle.sqlite.proofs.Callers.{IsPlain, command_of, runs_as, statement_of}
use Rattle.sqlite.specs.Listing.{understood}
use Rattle.table_rows.specs.Rows.{TableHas}
use Rattle.table_rows.proofs.PartLemmas.{went, same_value}

-- what a text that creates a table has to be
pub record IsCreation (before : Schema) (text : List ℕ) (table : Table) : Type 0 where
  pub command : command_of (understood before text) ≡ CreateTable
  pub statement : statement_of text (understood before text) ≡ text
  pub defined : table_defined_by text ≡ Ok table
  pub plain : IsPlain (understood before text)

abbrev pub AreEmpty : Trees → List Table → Type 0
AreEmpty trees = AllByRecursion (λ t. trees t.tree ≡ [])

-- the schema is this one, and its tables are empty
pub record IsFreshly (schema : Schema) (db : Database) : Type 0 where
  pub schema_is : db.schema ≡ schema
  pub empty : AreEmpty db.trees schema.tables

still_empty : (old new : Trees) (tables : List Table) → AllByRecursion (λ t. new t.tree ≡ old t.tree) tables
    → AreEmpty old tables → AreEmpty new tables
still_empty old new [] same empty = tt
still_empty old new (t ∷ tables) same empty = (same.0 ∙ empty.0, still_empty old new tables same.1 empty.1)

empty_push : (trees : Trees) (tables : List Table) (t : Table) → AreEmpty trees tables → trees t.tree ≡ []
    → AreEmpty trees (tables ++ t ∷ [])
empty_push trees [] t all one = (one, tt)
empty_push trees (x ∷ tables) t all one = (all.0, empty_push trees tables t all.1 one)

-- a table beside others: it is made, with no row, and the rows of the others stay
pub record IsBeside (before : Schema) (table : Table) (old new : Database) : Type 0 where
  pub schema_is : new.schema ≡ created before table
  pub others : AllByRecursion (λ t. new.trees t.tree ≡ old.trees t.tree) before.tables
  pub empty : new.trees (next_tree before) ≡ []

pub creates_beside : (before : Schema) (text : List ℕ) (table : Table) (old new : State) (count : ℕ)
    → IsCreation before text table → lacks_sequence (created before table) ≡ false
    → old.now.schema ≡ before → Executes text [] old new (Ok count) → IsBeside before table old.now new.now
creates_beside before text table old new count is plain was h =
    let w = subst (λ t. Writes old new None CreateTable t [] count) is.statement
    (runs_as text [] old new before was CreateTable is.command is.plain count h) in
    let all = went w.changed in
    let first = went all.1 in
    let made = first.1 in
    let both : Ok made.table ≡ Ok table = sym made.defined ∙ is.defined in
    let same : made.table ≡ table = cc in
    let schema : first.0.schema ≡ created before table =
    made.is ∙ ap (λ s. created s made.table) was ∙ ap (created before) same in
    let none : lacks_sequence first.0.schema ≡ false = ap lacks_sequence schema ∙ plain in
    let now : new.now ≡ first.0 =
    ap (λ (p : Tally × Database). p.1) (same_value all.2) ∙ same_value (rw none at first.2) in
    let trees = ap (λ (d : Database). d.trees) now in
    record {
      schema_is = ap (λ (d : Database). d.schema) now ∙ schema;
      others = subst (λ (n : Trees). AllByRecursion (λ t. n t.tree ≡ old.now.trees t.tree) before.tables) (sym trees)
          (subst (λ s. AllByRecursion (λ t. first.0.trees t.tree ≡ old.now.trees t.tree) s.tables) was made.others);
      empty = ap (λ (n : Trees). n (next_tree before)) trees
          ∙ subst (λ s. first.0.trees (next_tree s) ≡ []) was made.empty;
    }

-- and beside empty ones
pub creates : (before : Schema) (text : List ℕ) (table : Table) (old new : State) (count : ℕ)
    → IsCreation before text table → lacks_sequence (created before table) ≡ false
    → IsFreshly before old.now → Executes text [] old new (Ok count) → IsFreshly (created before table) new.now
creates before text table old new count is plain was h =
    let beside = creates_beside before text table old new count is plain was.schema_is h in
    let old_tables = still_empty old.now.trees new.now.trees before.tables beside.others was.empty in
    record {
      schema_is = beside.schema_is;
      empty =
          empty_push new.now.trees before.tables (record table { tree = next_tree before }) old_tables beside.empty;
    }

pub none_held : (table : Table) (old new : Database) → old.trees table.tree ≡ []
    → new.trees table.tree ≡ old.trees table.tree → TableHas new table []
none_held table old new empty same = rw (same, empty) (IsPermutation-refl [])
