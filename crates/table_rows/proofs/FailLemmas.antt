-- Why a query that is understood may fail: by memory or the disk alone.
use Rattle.std.proofs.Common.{◌≡◌, ◌≢◌, ◌≤◌, ℕ, inl, inr, List, [], ◌∷◌, length, None, Ok, Err, Result, sym, ap}
use Rattle.std.proofs.Common.{subst, subst₂, ◌∙◌, true, false, true≢false, append-nil, zero, suc, ◌<◌, arith}
use Rattle.std.specs.Prelude.{slice_index_or}
use Rattle.sqlite.specs.declared.types.Value.TheVariants.{Null}
use Rattle.sqlite.specs.Collation.TheVariants.{Binary}
use Rattle.sqlite.specs.Term.{Term, Env, lit}
use Rattle.sqlite.specs.Tree.{Trees}
use Rattle.sqlite_sql.specs.Group.{Aggregate, value_over}
use Rattle.sqlite_sql.specs.declared.aggregate.AggregateOp.TheVariants.{CountRows}
use Rattle.sqlite_tied.specs.Listing.{counting}
use Rattle.sqlite_value.specs.declared.keys.Key.{Key}
use Rattle.sqlite.specs.Order.{Row}
use Rattle.sqlite.specs.Schema.{Schema}
use Rattle.sqlite.specs.Query.{Query}
use Rattle.sqlite.specs.Program.{overlay}
use Rattle.sqlite.specs.Clock.{timed}
use Rattle.sqlite.specs.Listing.{understood, IsSourceOf}
use Rattle.sqlite.specs.Effect.{RefusesToRead, RefusesQuery}
use Rattle.sqlite.specs.State.{State, IsStatement, IsNoStatement, IsNotRun, HasCause, Fails, FailsToShow, FailsToQuery}
use Rattle.sqlite.specs.State.{store_error}
use Rattle.sqlite.specs.declared.error.Error.{Error}
use Rattle.sqlite.proofs.Callers.{IsPlain, command_of}
use Rattle.sqlite_sql.specs.Program.{QueryOverflows}
use Rattle.sqlite_typing.specs.Types.{accepts_program}
use Rattle.sqlite_resolve.specs.declared.compiled.Compiled.{Compiled}
use Rattle.sqlite_trees.specs.declared.error.StoreError.{StoreError}
use Rattle.sqlite_trees.specs.declared.error.StoreError.TheVariants.{OutOfMemory, Io, Corrupt, Full, Broken, Unstorable}
use Rattle.table_rows.specs.Causes.{cause_of}
use Rattle.table_rows.specs.declared.cause.Cause.TheVariants.{Other}
use Rattle.sqlite_resolve.specs.declared.error.CompileError.{CompileError}
use Rattle.table_rows.proofs.QueryLemmas.{Asks}
use Rattle.table_rows.proofs.SelectLemmas.{one_table}

-- where the first statement ends, and what its parameters are called
abbrev pub tail_of : Result Compiled CompileError → ℕ
tail_of (Ok c) = c.tail
tail_of (Err e) = 0

abbrev pub names_of : Result Compiled CompileError → List (List ℕ)
names_of (Ok c) = c.names
names_of (Err e) = []

-- under this schema the text is one statement with as many parameters, whose types it takes
pub record IsWhole (schema : Schema) (sql : List ℕ) (q : Query) (params : Row) : Type 0 where
  pub tail : length sql ≤ tail_of (understood schema sql)
  pub named : length (names_of (understood schema sql)) ≡ length params
  pub typed : accepts_program schema [] q params ≡ true

failed_store : (old new : State) (e : Error) → Fails old new ⊥ e → cause_of e ≢ Other
failed_store old new e h is = go h.0 (sym (ap cause_of h.1) ∙ is) h.2
  where
    go : (cause : StoreError) → cause_of (store_error cause) ≡ Other → HasCause old new ⊥ cause → ⊥
    go OutOfMemory same why = cc
    go Io same why = cc
    go Corrupt same why = cc
    go Full same why = cc
    go Broken same why = cc
    go Unstorable same why = why

module _ (sql : List ℕ) (q : Query) (params : Row) (old new : State) (asks : Asks old.now.schema sql q)
    (whole : IsWhole old.now.schema sql q params) (calm : ¬ QueryOverflows q (overlay old.now.trees []) params)
    (unlimited : old.step_limit ≡ None) where
  failed_text : (e : Error) → ¬ IsNoStatement old sql params e
  failed_text e (inl bad) = let is = rw bad.1 at asks.is in cc
  failed_text e (inr (c, is, inl many)) = many.0 (rw is at whole.tail)
  failed_text e (inr (c, is, inr (inl count))) = let named : length c.names ≡ length params = rw is at whole.named in
      count.0 (sym named)
  failed_text e (inr (c, is, inr (inr clock))) = let plain = rw is at asks.plain in clock.0 plain.1

  failed_read : (e : Error) → ¬ RefusesQuery old.step_limit old.now (record { lets = []; body = q }) params e
  failed_read e (inl kind) = absurd (true≢false (sym whole.typed ∙ kind.1))
  failed_read e (inr (inl big)) = calm big.1
  failed_read e (inr (inr limit)) = let some = rw unlimited at limit.1 in cc

  failed_show : (c : Compiled) (it : IsStatement old sql params c) (e : Error)
      → ¬ FailsToShow old new sql c (timed params c.formats it.now) e c.returning
  failed_show c it e h =
      let bare = subst IsPlain it.is asks.plain in
      let known : command_of (understood old.now.schema sql) ≡ c.command = ap command_of it.is in
      let plain = rw (bare.0, bare.1, append-nil params) at h in
      let db : plain.0 ≡ old.now = subst (λ b. IsSourceOf b old.now plain.0) asks.listing plain.1 in
      failed_read e (subst₂ (λ k d. RefusesToRead old.step_limit k d params e) (sym known ∙ asks.is) db plain.2)

  pub failure_cause : (e : Error) → FailsToQuery sql params old new e → cause_of e ≢ Other
  unfolding FailsToQuery IsNotRun
  failure_cause e (inl (inl none)) = absurd (failed_text e none.0)
  failure_cause e (inl (inr failed)) = failed_store old new e failed
  failure_cause e (inr h) = absurd (failed_show h.0 h.1 e h.2)

-- ---- no sum overflows

pub calm_table : (tree : ℕ) (test columns : List Term) (order : List (Term × Key)) (db : Trees) (params : Row)
    → ¬ QueryOverflows (one_table tree test columns order) db params
calm_table tree test columns order db params (inl none) = none
calm_table tree test columns order db params (inr fold) = fold.4

abbrev counts : Aggregate
counts = record { op = CountRows; distinct = false; collation = Binary; argument = lit Null }

never_none : (k : ℕ) (a : Aggregate) → k < 1 → slice_index_or (counts ∷ []) k a ≡ a → (group : List Env)
    → value_over group a ≢ None
never_none zero a low is group none = let told : value_over group counts ≡ None = ap (value_over group) is ∙ none in cc
never_none (suc k) a low is group none = absurd (omega (arith, low))

pub calm_count : (tree : ℕ) (test : List Term) (db : Trees) (params : Row)
    → ¬ QueryOverflows (counting (one_table tree test [] [])) db params
calm_count tree test db params (inl over) =
    let any = over.2.4 in never_none any.0 any.1 any.2 any.3 over.2.1 any.4
calm_count tree test db params (inr fold) = fold.4
