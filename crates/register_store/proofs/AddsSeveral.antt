-- A store to which several requests are added.
use Rattle.std.proofs.Common.{◌≡◌, ◌≤◌, ◌+◌, ◌-◌, suc, false, List, [], ◌∷◌, ◌++◌, All, length, map, IsTrue, sym, ap}
use Rattle.std.proofs.Common.{ℕ, subst, ◌∙◌, arith, refl, Option, Result, Ok, Err, IsErr}
use Rattle.std.specs.Prelude.{Vec}
use Rattle.std.specs.declared.alloc.Global.{Global}
use Rattle.sqlite.specs.Store.{Ghosts}
use Rattle.sqlite.specs.Effect.{Database}
use Rattle.sqlite.specs.Held.{Held, state}
use Rattle.sqlite.specs.State.{State, Survives}
use Rattle.sqlite.specs.Tree.{Trees}
use Rattle.sqlite.proofs.StateLemmas.{survives_weaker}
use Rattle.filing_model.specs.Request.{Request}
use Rattle.filing_model.specs.Register.{judged, kept, register}
use Rattle.filing_model.specs.Views.{view_outcome}
use Rattle.filing_model.specs.declared.outcome.Outcome.{Outcome}
use Rattle.table_rows.specs.Standing.{HasCommitted, IsLasting}
use Rattle.table_rows.specs.declared.fault.StoreFault.{StoreFault}
use Rattle.table_rows.proofs.StepLemmas.{nothing_yet}
use Rattle.register_rows.specs.Catalogue.{Entry}
use Rattle.register_rows.specs.Outcomes.{outcome_of}
use Rattle.register_rows.proofs.MoreRequests.{kept_length}
use Rattle.register_rows.specs.Received.{Received}
use Rattle.register_tables.specs.Registers.{IsRegisterOf, LeavesOnly, LeavesOnlyReceived, LeavesReceived}
use Rattle.register_tables.specs.Registers.{LeavesRegister}
use Rattle.register_store.specs.declared.outcome.NewRow.{NewRow}
use Rattle.register_store.specs.NewRows.{AreNew, IsKeepable, IsNew, request_of}
use Rattle.register_store.specs.Changes.{Adds, AddsAll, AddsTo}
use Rattle.register_store.specs.Outcomes.{number_past, outcomes_behind}
use Rattle.register_store.specs.Calls.{AddsMoments, AddsRequest, AddsRequests, IsOnly, KeepsRows}
use Rattle.register_store.specs.Moments.{HasMoments, moments_of}
use Rattle.register_store.specs.Store.{StoreParts, shows, ForNew, HasRequests, SurvivesAs}
use Rattle.register_store.proofs.SeveralLemmas.{moments_many, outcome_is, outcomes_are, past_is, received_of_all}
use Rattle.register_store.proofs.SeveralLemmas.{register_of_all, requests_many}
use Rattle.register_store.proofs.StoreLemmas.{leaves}

-- the number of the next filing
pub number_is : {S : Type 0} (g : Ghosts S) (store : StoreParts S) (F : List Request) → HasRequests g store F
    → store.filings + 1 ≡ suc (length (register F))
number_is g store F was = omega (arith, was.filings_is)

module _ {S : Type 0} (g : Ghosts S) (store : StoreParts S) (rows : List NewRow) (may : All IsKeepable rows) where
  module _ (F : List Request) (was : HasRequests g store F) (fresh : AreNew F rows) where
    number_here : store.filings + 1 ≡ suc (length (register F))
    number_here = number_is g store F was

    register_all : (after : Database) → IsTrue (shows g store).is_open
        → AddsAll (store.kept + 1) (store.filings + 1) rows (shows g store).now after
        → IsRegisterOf store.old_style (F ++ map request_of rows) after
    register_all after alive adds =
        register_of_all store.old_style F rows (store.kept + 1) (store.filings + 1) (shows g store).now after may fresh
        (omega (arith, was.kept_is)) number_here (was.stands.now alive) adds

    pub stands_all : (new : State) → new.in_transaction ≡ false
        → Adds (store.kept + 1) (store.filings + 1) rows (shows g store) new
        → HasCommitted (IsRegisterOf store.old_style (F ++ map request_of rows)) new
    stands_all new idle a =
        record { autocommit = idle; now = λ _. register_all new.now a.was_open a.adds; committed = λ _. a.committed }

    pub kept_all : store.kept + length rows ≡ length (F ++ map request_of rows)
    kept_all = omega (arith, was.kept_is, requests_many F rows)

    pub within_all : store.old_style ≤ length (F ++ map request_of rows)
    within_all = omega (arith, was.within, requests_many F rows)

    pub filings_all : number_past (store.filings + 1) rows - 1 ≡ length (register (F ++ map request_of rows))
    filings_all = omega (arith, past_is F rows fresh (store.filings + 1) number_here)

    pub durable_all : (conn : Held S) → conn.in_transaction ≡ false
        → Adds (store.kept + 1) (store.filings + 1) rows (shows g store) (state g conn) → IsLasting (state g conn)
        → IsTrue (state g conn).is_open × LeavesOnly (state g conn) store.old_style (F ++ map request_of rows)
    durable_all conn idle adds lasts = (
      adds.is_open,
      λ trees left. leaves store.old_style (F ++ map request_of rows) (state g conn)
          (stands_all (state g conn) idle adds) adds.is_open trees
          (lasts trees left ∙ ap (λ (d : Database). d.trees) (sym adds.committed)),
    )

  module _ (F : List Request) (moments : List (Option ℕ)) (was : HasRequests g store F)
      (had : HasMoments g store moments) where
    received_all : (after : Database) → IsTrue (shows g store).is_open
        → AddsAll (store.kept + 1) (store.filings + 1) rows (shows g store).now after
        → Received after (moments ++ moments_of rows)
    received_all after alive adds =
        received_of_all store.old_style rows _ _ _ _ _ (store.kept + 1) (store.filings + 1) (shows g store).now after
        moments (was.stands.now alive).rows.rows (omega (arith, had.one_each)) (had.stands.now alive) adds

    pub moments_stand : (new : State) → new.in_transaction ≡ false
        → Adds (store.kept + 1) (store.filings + 1) rows (shows g store) new
        → HasCommitted (λ db. Received db (moments ++ moments_of rows)) new
    moments_stand new idle a =
        record { autocommit = idle; now = λ _. received_all new.now a.was_open a.adds; committed = λ _. a.committed }

    pub moments_kept : store.kept + length rows ≡ length (moments ++ moments_of rows)
    moments_kept = omega (arith, had.one_each, moments_many moments rows)

    left_with : AreNew F rows → (trees : Trees) (after : Database) → trees ≡ after.trees
        → IsTrue (shows g store).is_open
        → AddsAll (store.kept + 1) (store.filings + 1) rows (shows g store).now after
        → LeavesReceived store.old_style (F ++ map request_of rows) (moments ++ moments_of rows) trees
    left_with fresh trees after is alive adds = record {
      db = after;
      is = is;
      register = register_all F was fresh after alive adds;
      one_each = omega (arith, moments_many moments rows, requests_many F rows, had.one_each, was.kept_is);
      received = received_all after alive adds;
    }

    pub durable_with : AreNew F rows → (conn : Held S)
        → Adds (store.kept + 1) (store.filings + 1) rows (shows g store) (state g conn) → IsLasting (state g conn)
        → IsTrue (state g conn).is_open
        × LeavesOnlyReceived (state g conn) store.old_style (F ++ map request_of rows) (moments ++ moments_of rows)
    durable_with fresh conn adds lasts = (
      adds.is_open,
      λ trees left. left_with fresh trees (state g conn).now (lasts trees left) adds.was_open adds.adds,
    )

  -- what a crash may leave of the call
  pub crash_with : (new : State)
      → Survives (shows g store) new (AddsTo (store.kept + 1) (store.filings + 1) rows (shows g store).now)
      → Survives (shows g store) new (λ trees. (F : List Request) (moments : List (Option ℕ)) → HasRequests g store F
      → HasMoments g store moments → IsTrue (shows g store).is_open → AreNew F rows
      → LeavesReceived store.old_style (F ++ map request_of rows) (moments ++ moments_of rows) trees)
  crash_with new =
      survives_weaker (shows g store) new _ _
      (λ _ trees a F moments was had alive fresh. left_with F moments was had fresh trees a.db a.is alive a.adds)

  pub crash_all : (new : State)
      → Survives (shows g store) new (AddsTo (store.kept + 1) (store.filings + 1) rows (shows g store).now)
      → Survives (shows g store) new (λ trees. (F : List Request) → HasRequests g store F
      → IsTrue (shows g store).is_open → AreNew F rows
      → LeavesRegister store.old_style (F ++ map request_of rows) trees)
  crash_all new =
      survives_weaker (shows g store) new _ _ (λ _ trees a F was alive fresh. record {
        db = a.db;
        is =
            a.is;
        register = register_all F was fresh a.db alive a.adds;
      })

pub placed_first : {S : Type 0} (g : Ghosts S) (store : StoreParts S) (F : List Request) → HasRequests g store F
    → IsTrue (shows g store).is_open → store.kept + 1 ≡ suc (length (kept F))
placed_first g store F was alive = omega (arith, was.kept_is, kept_length F (was.stands.now alive).rows.distinct)

-- where no statement was run the store has the requests that it had
pub keeps_none : {S : Type 0} (g : Ghosts S) (store : StoreParts S) (room : List Entry) → room ≡ store.catalogue
    → (rows : List NewRow) (result : Result (Unit {0}) StoreFault) → IsErr result
    → KeepsRows g rows store (record store { catalogue = room }) result
keeps_none g store room same rows (Ok done) refused = absurd cc
keeps_none g store room same rows (Err fault) refused = record {
  added = λ clean F had fresh. tt;
  same = λ clean F had. record {
    stands = had.stands;
    kept_is = had.kept_is;
    filings_is = had.filings_is;
    within =
        had.within;
    catalogue_is = same ∙ had.catalogue_is;
  };
  count = tt;
  counts = (refl, refl);
  old_style = refl;
  crash = survives_weaker (shows g store) (shows g store) _ _ (λ _ trees none. absurd none)
      (nothing_yet (shows g store));
  durable = λ clean F had fresh. tt;
}

-- and the moments that it had
pub dates_none : {S : Type 0} (g : Ghosts S) (store : StoreParts S) (room : List Entry) → room ≡ store.catalogue
    → (rows : List NewRow) (result : Result (Unit {0}) StoreFault) → IsErr result
    → AddsMoments g rows store (record store { catalogue = room }) result
dates_none g store room same rows (Ok done) refused = absurd cc
dates_none g store room same rows (Err fault) refused = record {
  added = λ clean F had moments dated. tt;
  same = λ clean F had moments dated. record { stands = dated.stands; one_each = dated.one_each };
  crash = survives_weaker (shows g store) (shows g store) _ _ (λ _ trees none. absurd none)
      (nothing_yet (shows g store));
  durable = λ clean F had moments dated fresh. tt;
}

-- ---- one request

one_outcome : (F : List Request) (row : NewRow) → IsNew F row → (outcome : Outcome)
    → map view_outcome (outcome ∷ []) ≡ outcomes_behind F (request_of row ∷ [])
    → view_outcome outcome ≡ (judged (kept F) (request_of row)).outcome
one_outcome F row is outcome told =
    let next : suc (length (register F)) ≡ suc (length (register F)) = refl in
    let same : view_outcome outcome ∷ [] ≡ outcome_of (suc (length (register F))) row.judged.now ∷ [] =
    told ∙ sym (outcomes_are F (row ∷ []) (is, tt) (suc (length (register F))) next) in
    let first : view_outcome outcome ≡ outcome_of (suc (length (register F))) row.judged.now = cc same in
    first ∙ outcome_is F row is (suc (length (register F))) next

-- what a crash may leave where it is the only one
pub survives_alone : {S : Type 0} (g : Ghosts S) (row : NewRow) (old new : StoreParts S)
    → SurvivesAs g old new (λ F trees. AreNew F (row ∷ [])
    → LeavesRegister old.old_style (F ++ request_of row ∷ []) trees)
    → SurvivesAs g old new (λ F trees. ForNew F (request_of row) row.judged.now (λ r.
    LeavesRegister old.old_style (F ++ r ∷ []) trees))
survives_alone g row old new =
    survives_weaker (shows g old) (shows g new) _ _
    (λ _ trees left F was alive new_key is. left F was alive (record { key = new_key; judged = is }, tt))

pub added_alone : {S : Type 0} (g : Ghosts S) (row : NewRow) (old new : StoreParts S)
    (results : Result (Vec Outcome Global) StoreFault) (result : Result Outcome StoreFault) → IsOnly results result
    → AddsRequests g (row ∷ []) old new results → AddsRequest g row old new result
added_alone g row old new (Ok outcomes) (Ok outcome) alone all = record {
  added = λ clean F was new_key is.
      let fresh : IsNew F row = record { key = new_key; judged = is } in
      let done = all.added clean F was (fresh, tt) in (
        one_outcome F row fresh outcome
            (subst (λ os. map view_outcome os ≡ outcomes_behind F (request_of row ∷ [])) alone done.0),
        done.1,
      );
  same = λ clean F was. tt;
  count = all.count;
  counts = tt;
  old_style = all.old_style;
  crash = survives_alone g row old new all.crash;
  durable = λ clean F was new_key is. all.durable clean F was (record { key = new_key; judged = is }, tt);
}
added_alone g row old new (Ok outcomes) (Err fault) alone all = absurd alone
added_alone g row old new (Err other) (Ok outcome) alone all = absurd alone
added_alone g row old new (Err other) (Err fault) alone all = record {
  added = λ clean F was new_key is. tt;
  same = all.same;
  count = tt;
  counts = all.counts;
  old_style = all.old_style;
  crash = survives_alone g row old new all.crash;
  durable = λ clean F was new_key is. tt;
}
