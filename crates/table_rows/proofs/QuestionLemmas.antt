-- Texts that ask tables of ours: what is computed of one under the declared tables holds of every schema that begins
-- with them.
use Rattle.std.proofs.Common.{◌≡◌, ◌≤◌, ◌≢◌, ℕ, true, false, List, [], length, None, sym, subst}
use Rattle.sqlite.specs.Command.TheVariants.{Select}
use Rattle.sqlite.specs.Listing.{understood, reads_listing}
use Rattle.sqlite.specs.Order.{Row}
use Rattle.sqlite.specs.Program.{overlay}
use Rattle.sqlite.specs.Query.{Query}
use Rattle.sqlite.specs.Schema.{Schema}
use Rattle.sqlite.specs.State.{State, FailsToQuery}
use Rattle.sqlite.specs.Table.{Table}
use Rattle.sqlite.specs.Tree.{Trees}
use Rattle.sqlite.specs.declared.error.Error.{Error}
use Rattle.sqlite.proofs.Callers.{IsPlain, command_of}
use Rattle.sqlite_schema.specs.declared.schema.Index.{Index}
use Rattle.sqlite_schema.specs.declared.schema.View.{View}
use Rattle.sqlite_sql.specs.Program.{QueryOverflows}
use Rattle.sqlite_typing.specs.Types.{accepts_program}
use Rattle.table_rows.specs.Causes.{cause_of}
use Rattle.table_rows.specs.declared.cause.Cause.TheVariants.{Other}
use Rattle.table_rows.specs.Queries.{IsQueryText}
use Rattle.table_rows.specs.Tables.{BeginsWith, schema_with}
use Rattle.table_rows.proofs.FailLemmas.{failure_cause, names_of, tail_of, IsWhole}
use Rattle.table_rows.proofs.QueryLemmas.{Asks}

-- what holds where our tables come first holds of any schema that begins with them
pub on_begun : (ours : List Table) (Holds : Schema → Type 0)
    → ((tables : List Table) (indexes : List Index) (views : List View)
    → Holds (schema_with ours tables indexes views)) → (s : Schema) → BeginsWith ours s → Holds s
on_begun ours Holds holds s d = subst Holds (sym d.is) (holds d.tables d.indexes d.views)

-- under this schema the text is this one query, and takes parameters of these types
pub record Means (schema : Schema) (sql : List ℕ) (q : Query) (params : Row) : Type 0 where
  pub names : List (List ℕ)
  pub is : command_of (understood schema sql) ≡ Select (record { lets = []; body = q }) names
  pub plain : IsPlain (understood schema sql)
  pub listing : reads_listing schema sql ≡ false
  pub tail : length sql ≤ tail_of (understood schema sql)
  pub named : length (names_of (understood schema sql)) ≡ length params
  pub typed : accepts_program schema [] q params ≡ true

-- the text is a query that asks our tables with these parameters, and no sum in it overflows
pub record IsQuestion (ours : List Table) (sql : List ℕ) (q : Query) (params : Row) : Type 0 where
  pub reads : IsQueryText sql
  pub means : (s : Schema) → BeginsWith ours s → Means s sql q params
  pub calm : (db : Trees) → ¬ QueryOverflows q db params

pub question : {ours : List Table} {sql : List ℕ} {q : Query} {params : Row} → IsQueryText sql
    → ((tables : List Table) (indexes : List Index) (views : List View)
    → Means (schema_with ours tables indexes views) sql q params) → ((db : Trees) → ¬ QueryOverflows q db params)
    → IsQuestion ours sql q params
question {ours} {sql} {q} {params} reads means calm =
    record { reads = reads; means = on_begun ours (λ s. Means s sql q params) means; calm = calm }

module _ {ours : List Table} {sql : List ℕ} {q : Query} {params : Row} (it : IsQuestion ours sql q params)
    (s : Schema) (d : BeginsWith ours s) where
  pub asked : Asks s sql q
  asked = let means = it.means s d in
      record { names = means.names; is = means.is; plain = means.plain; listing = means.listing }

  pub taken : IsWhole s sql q params
  taken = let means = it.means s d in record { tail = means.tail; named = means.named; typed = means.typed }

-- it fails by memory or the disk alone
pub question_fails : {ours : List Table} {sql : List ℕ} {q : Query} {params : Row} → IsQuestion ours sql q params
    → (old new : State) → BeginsWith ours old.now.schema → old.step_limit ≡ None → (e : Error)
    → FailsToQuery sql params old new e → cause_of e ≢ Other
question_fails {sql = sql} {q = q} {params = params} it old new d unlimited =
    failure_cause sql q params old new (asked it old.now.schema d) (taken it old.now.schema d)
    (it.calm (overlay old.now.trees [])) unlimited
