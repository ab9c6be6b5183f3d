-- A text that is a query writes nothing, whatever the tables are.
use Rattle.std.proofs.Common.{◌≡◌, ℕ, ◌+◌, true, false, List, Option, Some, None, Ok, Err, if◌then◌else◌, refl, sym}
use Rattle.std.proofs.Common.{subst, true≢false}
use Rattle.sqlite.specs.Order.{Row}
use Rattle.sqlite.specs.Tree.{Trees}
use Rattle.sqlite.specs.Schema.{Schema}
use Rattle.sqlite.specs.Clock.{timed}
use Rattle.sqlite.specs.Command.{Command}
use Rattle.sqlite.specs.Listing.{understood, reads_listing, if_select, is_select, listing_schema}
use Rattle.sqlite.specs.State.{State, IsStatement, IsUnchanged, ShowsRows, Shown, CommitsShowing, Survives}
use Rattle.sqlite.proofs.StateLemmas.{survives_weaker}
use Rattle.sqlite_ast.specs.declared.Statement.{Statement}
use Rattle.sqlite_ast.specs.declared.Statement.TheVariants as written
use Rattle.sqlite_syntax.specs.declared.statement.Parsed.{Parsed}
use Rattle.sqlite_schema.specs.declared.command.Returning.{Returning}
use Rattle.sqlite_resolve.specs.declared.compiled.Compiled.{Compiled}
use Rattle.sqlite_resolve.specs.declared.error.CompileError.TheVariants.{NoSuchTable}
use Rattle.sqlite_resolve.specs.Lowering.{Checked, and_then}
use Rattle.sqlite_resolve.specs.Compile.{first, compiled, planned, meaning, returning, command, small}
use Rattle.sqlite_resolve.specs.Compile.{timed as formats_for, with_command}
pub use Rattle.table_rows.specs.Queries.{IsQueryText}
use Rattle.table_rows.specs.Queries.{is_query, begins_with_query}

abbrev returning_of : Checked Compiled → Option Returning
returning_of (Ok c) = c.returning
returning_of (Err e) = None

returns_nothing : (schema : Schema) (base : ℕ) (s : Statement) → is_query s ≡ true → returning schema base s ≡ Ok None
unfolding returning
returns_nothing schema base (written.Select s) q = refl
returns_nothing schema base _ q = absurd (true≢false (sym q))

planned_bare : (p : Parsed) (formats : List (List ℕ)) (r : Checked Command)
    → returning_of (and_then (and_then (and_then r (λ c. Ok (c, None))) (λ found. Ok (formats, found)))
    (λ plan. Ok (with_command p plan))) ≡ None
planned_bare p formats (Ok c) = refl
planned_bare p formats (Err e) = refl

compiled_by : (schema : Schema) (r : Checked Parsed) → begins_with_query r ≡ true
    → returning_of (and_then r (λ p. and_then (planned schema p) (λ plan. Ok (with_command p plan)))) ≡ None
unfolding planned meaning
compiled_by schema (Ok p) q =
    let formats = formats_for schema p.formats p.statement in
    let base = small p.names + small formats in
    rw (returns_nothing schema base p.statement q) (planned_bare p formats (command schema p.formats base p.statement))
compiled_by schema (Err e) q = refl

compiled_bare : (schema : Schema) (sql : List ℕ) → IsQueryText sql → returning_of (compiled schema sql) ≡ None
unfolding compiled
compiled_bare schema sql q = compiled_by schema (first sql) q

selected_bare : (r : Checked Compiled) → returning_of r ≡ None → returning_of (if_select r) ≡ None
selected_bare (Ok c) h =
    elim (is_select c.command) as (λ b. returning_of (if b then Ok c else Err NoSuchTable) ≡ None)
    [ true ↦ h | false ↦ refl ]
selected_bare (Err e) h = refl

understood_bare : (schema : Schema) (sql : List ℕ) → IsQueryText sql → returning_of (understood schema sql) ≡ None
unfolding understood
understood_bare schema sql q =
    elim (reads_listing schema sql) as (λ b. returning_of (if b then if_select (compiled listing_schema sql)
    else compiled schema sql) ≡ None) [
      | true ↦ selected_bare (compiled listing_schema sql) (compiled_bare listing_schema sql q)
      | false ↦ compiled_bare
          schema sql q
    ]

module _ (sql : List ℕ) (query : IsQueryText sql) (params : Row) (old new : State) where
  pub no_returning : (c : Compiled) → IsStatement old sql params c → c.returning ≡ None
  no_returning c it = subst (λ r. returning_of r ≡ None) it.is (understood_bare old.now.schema sql query)

  shows_same : (c : Compiled) (full : Row) (rows : List Row) (o : Option Returning) → o ≡ None
      → ShowsRows old new sql c full rows o → IsUnchanged old new
  shows_same c full rows None none h = h.3
  shows_same c full rows (Some what) none h = absurd cc

  pub query_same : (rows : List Row) → Shown sql params old new rows → IsUnchanged old new
  unfolding Shown
  query_same rows h = shows_same h.0 (timed params h.0.formats h.1.now) rows h.0.returning (no_returning h.0 h.1) h.2

  commits_nothing : (trees : Trees) → ¬ CommitsShowing sql params old trees
  unfolding CommitsShowing
  commits_nothing trees h = let none = no_returning h.0 h.1 in absurd (let some = rw none at h.2 in cc)

  pub query_survives : Survives old new (CommitsShowing sql params old) → Survives old new (λ _. ⊥)
  query_survives = survives_weaker old new _ _ (λ _ trees h. commits_nothing trees h)
