-- What the calls of a store do.
use Rattle.std.specs.Prelude.{◌≡◌, ◌↔◌, ◌+◌, ◌++◌, ◌∷◌, [], ℕ, List, take, map, length, option_map, Option}
use Rattle.std.specs.Prelude.{None, replicate, Result, Ok, Err}
use Rattle.std.specs.Prelude.{Vec, IsTrue, IfOk, IfSome, OnOk, OnErr}
use Rattle.std.specs.declared.alloc.Global.{Global}
use Rattle.sqlite.specs.Store.{Ghosts}
use Rattle.sqlite.specs.Held.{Held, state}
use Rattle.sqlite.specs.State.{IsUnchanged, Survives}
use Rattle.filing_model.specs.Request.{Request}
use Rattle.filing_model.specs.Register.{kept, judged}
use Rattle.filing_model.specs.Answer.{kept_for}
use Rattle.filing_model.specs.Style.{style_of}
use Rattle.filing_model.specs.Views.{the_request, view_outcome}
use Rattle.table_rows.specs.Giving.{OrGivesBack}
use Rattle.table_rows.specs.Tables.{no_schema}
use Rattle.table_rows.specs.Standing.{CommitsNothing}
use Rattle.register_tables.specs.declared.fault.CreateFault.{CreateFault}
use Rattle.register_tables.specs.declared.fault.CreateFault.TheVariants.{Taken}
use Rattle.register_tables.specs.declared.fault.OpenFault.{OpenFault}
use Rattle.table_rows.specs.declared.fault.StoreFault.{StoreFault}
use Rattle.register_tables.specs.declared.opening.form.Earlier.{Earlier}
use Rattle.register_store.specs.declared.outcome.KeptRow.{KeptRow}
use Rattle.register_store.specs.declared.outcome.NewRow.{NewRow}
use Rattle.filing_model.specs.declared.outcome.Outcome.{Outcome}
use Rattle.register_tables.specs.Earlier.{IsAlone, IsEarlierOf, ForEarlier}
use Rattle.register_store.specs.Moments.{ForMoments, HasMoments, IsDurableWith, SurvivesWith, moments_of}
use Rattle.register_store.specs.NewRows.{AreNew, request_of}
use Rattle.register_store.specs.Outcomes.{kept_as, outcomes_behind}
use Rattle.register_tables.specs.Opening.{SaysRegister}
use Rattle.register_tables.specs.Refusals.{GivesBackMaking, GivesBackMigrating, GivesBackOpening}
use Rattle.register_rows.specs.Schema.{is_taken, IsDeclared}
use Rattle.register_store.specs.Store.{StoreParts, shows, ForNew, ForRequests, HandsOut, HasRequests}
use Rattle.register_store.specs.Store.{IsDurableAs, SurvivesAs}
use Rattle.register_tables.specs.Registers.{ForRows, IsRegisterOf, LeavesReceived, LeavesRegister}

-- ---- a store is handed out

-- What `create` does with a connection: it makes the tables of a register that has no request. What is said of rows
-- holds if the database had no table before.
pub record CreatesStore {S : Type 0} (g : Ghosts S) (conn : Held S) (result : Result (StoreParts S) CreateFault)
    : Type 0 where
  pub made : HandsOut g result (λ store. (state g conn).now.schema ≡ no_schema → HasRequests g store [])
  pub counts : IfOk result (λ store. (store.kept ≡ 0) × (store.filings ≡ 0) × (store.old_style ≡ 0))
  -- The answer is Taken if and only if one of the names is in use.
  pub taken : (result ≡ Err Taken) ↔ IsTrue (is_taken (state g conn).now.schema)
  -- A crash in the call leaves what one before it could leave, or the empty register; one after it, the empty register.
  pub crash : IfOk result (λ store. Survives (state g conn) (shows g store)
      (λ trees. (state g conn).now.schema ≡ no_schema → LeavesRegister 0 [] trees))
  pub durable : HandsOut g result (λ store. (state g conn).now.schema ≡ no_schema → IsDurableAs g store 0 [])

-- What `open` does with a connection: it reads the register that the database holds, and writes nothing.
pub record OpensStore {S : Type 0} (g : Ghosts S) (conn : Held S) (result : Result (StoreParts S) OpenFault)
    : Type 0 where
  -- The store has the requests that the rows stand for, and there is one such list at most.
  pub opened : HandsOut g result (λ store. IsDeclared (state g conn).now.schema
      → (F : List Request) × IsRegisterOf store.old_style F (state g conn).now × HasRequests g store F)
  pub only : HandsOut g result (λ store. ForRows g conn (λ old_style F. (store.old_style ≡ old_style)
      × HasRequests g store F))
  -- However the tables are declared, only a database that says so is opened as a register.
  pub says : HandsOut g result (λ _. SaysRegister g conn)
  pub same : HandsOut g result (λ store. IsUnchanged (state g conn) (shows g store))
  -- A crash in the call leaves what it could leave before; one after it, these requests.
  pub crash : IfOk result (λ store. CommitsNothing (state g conn) (shows g store))
  pub durable : HandsOut g result (λ store. ForRows g conn (IsDurableAs g store))

-- What `migrate` does with a connection: it brings the register that the database holds from an earlier form into the
-- present one. What is said of the new rows holds if the database has no other tables.
pub record MigratesStore {S : Type 0} (g : Ghosts S) (conn : Held S) (result : Result (StoreParts S) OpenFault)
    : Type 0 where
  -- The store has the requests that the rows stood for, and there is one such list at most.
  pub migrated : HandsOut g result (λ store. (form : Earlier) → IsAlone form (state g conn).now.schema
      → (F : List Request) × IsEarlierOf form store.old_style F (state g conn).now × HasRequests g store F)
  pub only : HandsOut g result (λ store. ForEarlier g conn (λ _ old_style F. (store.old_style ≡ old_style)
      × HasRequests g store F))
  -- A register in the present form is not migrated.
  pub current : HandsOut g result (λ store. ForRows g conn (λ _ _. ⊥))
  -- A crash in the call leaves what it could leave before, or the migrated rows; one after it, the migrated rows.
  pub crash : IfOk result (λ store. Survives (state g conn) (shows g store)
      (λ trees. ForEarlier g conn (λ _ old_style F. LeavesRegister old_style F trees)))
  pub durable : HandsOut g result (λ store. ForEarlier g conn (λ _. IsDurableAs g store))
  -- None of the requests has a moment.
  pub undated : HandsOut g result (λ store. ForEarlier g conn (λ _ _ F.
      HasMoments g store (replicate (length F) None)))

-- ---- a store is handed out, or the connection comes back

-- What `create_or_back` does: what `create` does, and a connection that comes back is as it says.
abbrev pub CreatesOrGivesBack : {S : Type 0} → Ghosts S → Held S → Result (StoreParts S) (CreateFault × Held S) → Type 0
CreatesOrGivesBack g conn = OrGivesBack (CreatesStore g conn) (GivesBackMaking g conn)

abbrev pub OpensOrGivesBack : {S : Type 0} → Ghosts S → Held S → Result (StoreParts S) (OpenFault × Held S) → Type 0
OpensOrGivesBack g conn = OrGivesBack (OpensStore g conn) (GivesBackOpening g conn)

abbrev pub MigratesOrGivesBack : {S : Type 0} → Ghosts S → Held S → Result (StoreParts S) (OpenFault × Held S) → Type 0
MigratesOrGivesBack g conn = OrGivesBack (MigratesStore g conn) (GivesBackMigrating g conn)

-- ---- a store is asked

-- What a call that only reads leaves of a store, whatever it answers: the rows as they were. A crash leaves what it
-- could leave before.
pub record KeepsStore {S : Type 0} (g : Ghosts S) (old new : StoreParts S) : Type 0 where
  pub same : ForRequests g old new (HasRequests g new)
  pub moments : ForMoments g old new (λ _. HasMoments g new)
  pub counts : (new.kept ≡ old.kept) × (new.filings ≡ old.filings) × (new.catalogue ≡ old.catalogue)
  pub old_style : new.old_style ≡ old.old_style
  pub crash : CommitsNothing (shows g old) (shows g new)

-- an answer leaves the store open, and durable as it is
abbrev pub AnswersDurably : {S X E : Type 0} → Ghosts S → StoreParts S → StoreParts S → Result X E → Type 0
AnswersDurably g old new result = ForRequests g old new (λ F. OnOk result (IsDurableAs g new old.old_style F))

-- What `find` answers of a filer and key, and that it writes nothing.
pub record FindsRow {S : Type 0} (g : Ghosts S) (filer key : List ℕ) (old new : StoreParts S)
    (result : Result (Option KeptRow) StoreFault) : Type 0 where
  pub found : ForRequests g old new (λ F. (target : Option ℕ) (body : List ℕ)
      → IfOk result (λ row. option_map (kept_as filer key) row ≡ kept_for (kept F) (the_request filer key target body)))
  -- The style is the earlier one if the request was kept before there were problem details.
  pub style : ForRequests g old new (λ F. (target : Option ℕ) (body : List ℕ)
      → IfOk result (λ row. IfSome row (λ r. r.style
      ≡ style_of (take old.old_style F) (the_request filer key target body))))
  pub keeps : KeepsStore g old new
  pub durable : AnswersDurably g old new result

-- ---- a store is written to

-- What `add` does with a request, in one transaction. What is said of rows holds if its filer and key are not kept yet,
-- and if it was judged by whether the filing that it is to replace, if any, is free after the kept requests.
pub record AddsRequest {S : Type 0} (g : Ghosts S) (row : NewRow) (old new : StoreParts S)
    (result : Result Outcome StoreFault) : Type 0 where
  pub added : ForRequests g old new (λ F. ForNew F (the_request row.filer.now row.key.now row.target row.body.now)
      row.judged.now (λ r.
      IfOk result (λ outcome. (view_outcome outcome ≡ (judged (kept F) r).outcome) × HasRequests g new (F ++ r ∷ []))))
  -- A refusal changes nothing.
  pub same : ForRequests g old new (λ F. OnErr result (HasRequests g new F))
  pub count : OnOk result (new.kept ≡ old.kept + 1)
  pub counts : OnErr result ((new.kept ≡ old.kept) × (new.filings ≡ old.filings))
  pub old_style : new.old_style ≡ old.old_style
  -- A crash in the call leaves what one before it could leave, or the rows with this request; one after Ok, these rows.
  pub crash : SurvivesAs g old new (λ F trees. ForNew F (the_request row.filer.now row.key.now row.target row.body.now)
      row.judged.now (λ r.
      LeavesRegister old.old_style (F ++ r ∷ []) trees))
  pub durable : ForRequests g old new (λ F. ForNew F (the_request row.filer.now row.key.now row.target row.body.now)
      row.judged.now (λ r.
      OnOk result (IsDurableAs g new old.old_style (F ++ r ∷ []))))

-- What `add_all` does with requests, in one transaction: all are kept, in order, or none. What is said of rows holds if
-- each request is new after the kept ones and those before it, and was judged after these.
pub record AddsRequests {S : Type 0} (g : Ghosts S) (rows : List NewRow) (old new : StoreParts S)
    (result : Result (Vec Outcome Global) StoreFault) : Type 0 where
  pub added : ForRequests g old new (λ F. AreNew F rows → IfOk result (λ outcomes.
      (map view_outcome outcomes.items ≡ outcomes_behind F (map request_of rows))
      × HasRequests g new (F ++ map request_of rows)))
  -- A refusal changes nothing.
  pub same : ForRequests g old new (λ F. OnErr result (HasRequests g new F))
  pub each : IfOk result (λ outcomes. length outcomes.items ≡ length rows)
  pub count : OnOk result (new.kept ≡ old.kept + length rows)
  pub counts : OnErr result ((new.kept ≡ old.kept) × (new.filings ≡ old.filings))
  pub old_style : new.old_style ≡ old.old_style
  -- A crash in the call leaves what one before it could leave, or the rows with all these requests, and never with some
  -- of them; one after Ok, these rows.
  pub crash : SurvivesAs g old new (λ F trees. AreNew F rows
      → LeavesRegister old.old_style (F ++ map request_of rows) trees)
  pub durable : ForRequests g old new (λ F. AreNew F rows
      → OnOk result (IsDurableAs g new old.old_style (F ++ map request_of rows)))

-- What `add` and `add_all` do with the moments of these requests, beside what `AddsRequests` says: each that is kept
-- has its own, and those before keep theirs.
pub record AddsMoments {S X : Type 0} (g : Ghosts S) (rows : List NewRow) (old new : StoreParts S)
    (result : Result X StoreFault) : Type 0 where
  pub added : ForMoments g old new (λ _ moments. OnOk result (HasMoments g new (moments ++ moments_of rows)))
  -- A refusal changes nothing.
  pub same : ForMoments g old new (λ _ moments. OnErr result (HasMoments g new moments))
  -- A crash in the call leaves what one before it could leave, or all these requests with their moments; one after Ok,
  -- these.
  pub crash : SurvivesWith g old new (λ F moments trees. AreNew F rows
      → LeavesReceived old.old_style (F ++ map request_of rows) (moments ++ moments_of rows) trees)
  pub durable : ForMoments g old new (λ F moments. AreNew F rows
      → OnOk result (IsDurableWith g new old.old_style (F ++ map request_of rows) (moments ++ moments_of rows)))

-- the one outcome of several, or the same fault
abbrev pub IsOnly : Result (Vec Outcome Global) StoreFault → Result Outcome StoreFault → Type 0
IsOnly (Ok outcomes) (Ok outcome) = outcomes.items ≡ outcome ∷ []
IsOnly (Ok outcomes) (Err fault) = ⊥
IsOnly (Err other) (Ok outcome) = ⊥
IsOnly (Err other) (Err fault) = other ≡ fault

-- What `keep` does for both, whatever their outcomes are: the clauses are those of `AddsRequests`.
pub record KeepsRows {S : Type 0} (g : Ghosts S) (rows : List NewRow) (old new : StoreParts S)
    (result : Result (Unit {0}) StoreFault) : Type 0 where
  pub added : ForRequests g old new (λ F. AreNew F rows → OnOk result (HasRequests g new (F ++ map request_of rows)))
  pub same : ForRequests g old new (λ F. OnErr result (HasRequests g new F))
  pub count : OnOk result (new.kept ≡ old.kept + length rows)
  pub counts : OnErr result ((new.kept ≡ old.kept) × (new.filings ≡ old.filings))
  pub old_style : new.old_style ≡ old.old_style
  pub crash : SurvivesAs g old new (λ F trees. AreNew F rows
      → LeavesRegister old.old_style (F ++ map request_of rows) trees)
  pub durable : ForRequests g old new (λ F. AreNew F rows
      → OnOk result (IsDurableAs g new old.old_style (F ++ map request_of rows)))
