-- Calls that ask tables which are declared as ours, one after another.
use Rattle.std.proofs.Common.{◌≡◌, ◌≢◌, ◌⊎◌, inl, inr, ℕ, List, Result, Ok, Err, IfOk, IfErr, refl, sym, subst, ◌∙◌}
use Rattle.std.proofs.lemmas.Result.{IfOk-weaker, IfErr-weaker}
use Rattle.sqlite.specs.Effect.{Database}
use Rattle.sqlite.specs.Store.{Ghosts}
use Rattle.sqlite.specs.Held.{Held, state}
use Rattle.sqlite.specs.State.{State, HasCleanDisk, IsUnchanged}
use Rattle.sqlite.specs.Schema.{Schema}
use Rattle.sqlite.specs.Table.{Table}
use Rattle.sqlite.specs.declared.error.Error.{Error}
use Rattle.table_rows.specs.Causes.{cause_of}
use Rattle.table_rows.specs.declared.cause.Cause.{Cause}
use Rattle.table_rows.specs.declared.cause.Cause.TheVariants as cause
use Rattle.table_rows.specs.Tables.{BeginsWith}
use Rattle.table_rows.specs.Leaving.{IsLeft, Leaves}
use Rattle.table_rows.specs.Leaving.Ending.{Passed, Stopped}
use Rattle.table_rows.proofs.LeavingLemmas.{asked_then, clean_before, ended, passed, passed_then}
use Rattle.table_rows.proofs.OutcomeLemmas.{concluded}
use Rattle.register_tables.specs.declared.fault.OpenFault.{OpenFault}
use Rattle.register_tables.specs.declared.fault.OpenFault.TheVariants as fault
use Rattle.register_tables.specs.Faults.{table_fault, table_fault_by, IsFailure}
use Rattle.register_tables.specs.Reads.{AsksOurs, DiskFails, IsOurs, Never, ReadsOurs, StopsForDisk}

pub ours_then : {tables : List Table} {a b : State} → IsUnchanged a b → b.step_limit ≡ a.step_limit → IsOurs tables a
    → IsOurs tables b
ours_then {tables} {a} {b} same limit ours = record {
  alive = same.0.is_open;
  declared = subst (λ (db : Database). BeginsWith tables db.schema) (sym same.0.now_is) ours.declared;
  unlimited = limit ∙ ours.unlimited;
}

-- ---- a refusal of the database, in our words

failed : (error : Error) → cause_of error ≢ cause.Other → IsFailure (table_fault error)
failed error other = go (cause_of error) refl
  where
    go : (why : Cause) → cause_of error ≡ why → IsFailure (table_fault_by why)
    go cause.Memory is = inl refl
    go cause.Disk is = inr refl
    go cause.Other is = absurd (other is)

pub a_fault_of_ours : (error : Error) → table_fault error ≢ fault.NotOurs
a_fault_of_ours error = go (cause_of error)
  where
    go : (why : Cause) → table_fault_by why ≢ fault.NotOurs
    go cause.Memory is = cc
    go cause.Disk is = cc
    go cause.Other is = cc

-- ---- the disk, as the cause

disk_by : (error : Error) → table_fault error ≡ fault.Disk → cause_of error ≡ cause.Disk
disk_by error is = go (cause_of error) is
  where
    go : (why : Cause) → table_fault_by why ≡ fault.Disk → why ≡ cause.Disk
    go cause.Memory is = cc
    go cause.Disk is = refl
    go cause.Other is = cc

pub disk_then : {a b c : State} → Leaves Passed a b → StopsForDisk b c → StopsForDisk a c
disk_then p stops = (stops.0, stops.1, passed_then p stops.2)

pub disk_fails : {a b : State} → HasCleanDisk b → StopsForDisk a b → DiskFails a b
disk_fails {a} {b} clean stops = go (stops.2.left clean)
  where
    go : IsLeft (Stopped stops.0) a b → DiskFails a b
    go (inl not_run) = let other = sym stops.1 ∙ not_run.1 in cc
    go (inr fails) = (stops.0, stops.1, fails)

disk_after : {X : Type 0} {a b : State} (c : State) (result : Result X OpenFault) → Leaves Passed a b
    → IfErr result (λ why. why ≡ fault.Disk → StopsForDisk b c)
    → IfErr result (λ why. why ≡ fault.Disk → StopsForDisk a c)
disk_after c result p stops = IfErr-weaker result _ _ (λ why h is. disk_then p (h is)) stops

-- the answer says this of the tables, and a refusal that
abbrev pub Tells : {X : Type 0} → Result X OpenFault → (X → Database → Type 0) → (ℕ → Database → Type 0) → Database
    → Type 0
Tells result Q IsBad db =
    IfOk result (λ x. Q x db) × IfErr result (λ why. IsFailure why ⊎ ((row : ℕ) × (why ≡ fault.Damaged row)
    × IsBad row db))

module _ {S : Type 0} (g : Ghosts S) {tables : List Table} {a b : Held S} where
  -- ---- one question

  pub asked_so : {X Y : Type 0} {P : X → Database → Type 0} (Q : Y → Database → Type 0) (x : X) (y : Y)
      → ((db : Database) → P x db → Q y db) → AsksOurs tables g a b (Ok x) P → AsksOurs tables g a b (Ok y) Q
  asked_so Q x y so p = record {
    told = λ clean ours. so (state g a).now (p.told clean ours);
    fails = λ clean ours. tt;
    leaves = p.leaves;
  }

  pub not_asked : {X Y : Type 0} {P : X → Database → Type 0} (Q : Y → Database → Type 0) (error : Error)
      → AsksOurs tables g a b (Err error) P → AsksOurs tables g a b (Err error) Q
  not_asked Q error p = record { told = λ clean ours. tt; fails = p.fails; leaves = p.leaves }

  -- as a reading

  pub asked : {X : Type 0} {P : X → Database → Type 0} (x : X) → AsksOurs tables g a b (Ok x) P
      → ReadsOurs tables g a b (Ok x) P Never
  asked x p =
      record { told = p.told; refused = λ clean ours. tt; ours = tt; leaves = passed p.leaves; disk = tt }

  pub not_read : {X Y : Type 0} {P : X → Database → Type 0} (Q : Y → Database → Type 0) (IsBad : ℕ → Database → Type 0)
      (error : Error) → AsksOurs tables g a b (Err error) P → ReadsOurs tables g a b (Err (table_fault error)) Q IsBad
  not_read Q IsBad error p = record {
    told = λ clean ours. tt;
    refused = λ clean ours. inl (failed error (p.fails clean ours));
    ours = a_fault_of_ours error;
    leaves = ended p.leaves;
    disk = λ is. (error, disk_by error is, p.leaves);
  }

  -- ---- what is concluded of a reading

  pub concludes : {X Y : Type 0} {P : X → Database → Type 0} {Bad : ℕ → Database → Type 0}
      (Q : Y → Database → Type 0) (IsBad : ℕ → Database → Type 0) (x : X) (result : Result Y OpenFault)
      → IfErr result (λ why. (why ≢ fault.NotOurs) × (why ≢ fault.Disk))
      → ((db : Database) → P x db → Tells result Q IsBad db)
      → ReadsOurs tables g a b (Ok x) P Bad → ReadsOurs tables g a b result Q IsBad
  concludes Q IsBad x result named so p = record {
    told = λ clean ours. (so (state g a).now (p.told clean ours)).0;
    refused = λ clean ours. (so (state g a).now (p.told clean ours)).1;
    ours = IfErr-weaker result _ _ (λ why other. other.0) named;
    leaves = concluded result p.leaves;
    disk = IfErr-weaker result _ _ (λ why other is. absurd (other.1 is)) named;
  }

  -- its answer says less
  pub answers : {X : Type 0} {P : X → Database → Type 0} {Bad : ℕ → Database → Type 0} (Q : X → Database → Type 0)
      (result : Result X OpenFault) → ((x : X) (db : Database) → P x db → Q x db)
      → ReadsOurs tables g a b result P Bad → ReadsOurs tables g a b result Q Bad
  answers Q result so p = record {
    told = λ clean ours. IfOk-weaker result _ _ (λ x h. so x (state g a).now h) (p.told clean ours);
    refused = p.refused;
    ours = p.ours;
    leaves = p.leaves;
    disk = p.disk;
  }

  -- with what an answer says by itself
  pub answers_with : {X : Type 0} {P : X → Database → Type 0} {Bad : ℕ → Database → Type 0} (Own : X → Type 0)
      (Q : X → Database → Type 0) (result : Result X OpenFault) → IfOk result Own
      → ((x : X) (db : Database) → Own x → P x db → Q x db) → ReadsOurs tables g a b result P Bad
      → ReadsOurs tables g a b result Q Bad
  answers_with Own Q (Ok x) own so p = record {
    told = λ clean ours. so x (state g a).now own (p.told clean ours);
    refused = λ clean ours. tt;
    ours = tt;
    leaves = p.leaves;
    disk = tt;
  }
  answers_with Own Q (Err why) own so p = record {
    told = λ clean ours. tt;
    refused = p.refused;
    ours = p.ours;
    leaves = p.leaves;
    disk = p.disk;
  }

  -- a refusal is handed on
  pub refuses_so : {X Y : Type 0} {P : X → Database → Type 0} {Bad : ℕ → Database → Type 0}
      (Q : Y → Database → Type 0) (IsBad : ℕ → Database → Type 0) (why : OpenFault)
      → ((row : ℕ) (db : Database) → Bad row db → IsBad row db) → ReadsOurs tables g a b (Err why) P Bad
      → ReadsOurs tables g a b (Err why) Q IsBad
  refuses_so Q IsBad why so p = record {
    told = λ clean ours. tt;
    refused = λ clean ours. elim (p.refused clean ours) [
      | inl failure ↦ inl failure
      | inr bad ↦ inr (bad.0, bad.1, so bad.0 (state g a).now bad.2)
    ];
    ours = p.ours;
    leaves = p.leaves;
    disk = p.disk;
  }

  -- ---- a reading after another

  module _ {c : Held S} where
    pub asks_then : {X Y : Type 0} {P : X → Database → Type 0} {Q : Y → Database → Type 0} (x : X)
        (result : Result Y Error) → AsksOurs tables g a b (Ok x) P → AsksOurs tables g b c result Q
        → AsksOurs tables g a c result (λ y db. P x db × Q y db)
    asks_then {Q = Q} x result p q = record {
      told = λ clean ours.
          let was = clean_before q.leaves clean in
          let same = p.leaves.left was in
          let first = p.told was ours in
          IfOk-weaker result _ _ (λ y h. (first, subst (Q y) same.0.now_is h))
          (q.told clean (ours_then same p.leaves.survives.limit ours));
      fails = λ clean ours.
          let was = clean_before q.leaves clean in
          q.fails clean (ours_then (p.leaves.left was) p.leaves.survives.limit ours);
      leaves = asked_then p.leaves q.leaves;
    }

    pub reads_then : {X Y : Type 0} {P : X → Database → Type 0} {Q : Y → Database → Type 0}
        {Bad IsBad : ℕ → Database → Type 0} (x : X) (result : Result Y OpenFault)
        → ReadsOurs tables g a b (Ok x) P Bad → ReadsOurs tables g b c result Q IsBad
        → ReadsOurs tables g a c result (λ y db. P x db × Q y db) (λ row db. P x db × IsBad row db)
    reads_then {Q = Q} {IsBad = IsBad} x result p q = record {
      told = λ clean ours.
          let was = clean_before q.leaves clean in
          let same = (p.leaves.left was).same ours.alive in
          let first = p.told was ours in
          IfOk-weaker result _ _ (λ y h. (first, subst (Q y) same.0.now_is h))
          (q.told clean (ours_then same p.leaves.survives.limit ours));
      refused = λ clean ours.
          let was = clean_before q.leaves clean in
          let same = (p.leaves.left was).same ours.alive in
          let first = p.told was ours in
          IfErr-weaker result _ _ (λ why h. elim h [
            | inl failure ↦ inl failure
            | inr bad ↦ inr (bad.0, bad.1, (first, subst (IsBad bad.0) same.0.now_is bad.2))
          ])
          (q.refused clean (ours_then same p.leaves.survives.limit ours));
      ours = q.ours;
      leaves = passed_then p.leaves q.leaves;
      disk = disk_after (state g c) result p.leaves q.disk;
    }

    -- which says nothing
    pub after : {X Y : Type 0} {P : X → Database → Type 0} {Q : Y → Database → Type 0}
        {Bad IsBad : ℕ → Database → Type 0} (x : X) (result : Result Y OpenFault)
        → ReadsOurs tables g a b (Ok x) P Bad → ReadsOurs tables g b c result Q IsBad
        → ReadsOurs tables g a c result Q IsBad
    after {Q = Q} {IsBad = IsBad} x result p q = record {
      told = λ clean ours.
          let same = (p.leaves.left (clean_before q.leaves clean)).same ours.alive in
          IfOk-weaker result _ _ (λ y h. subst (Q y) same.0.now_is h)
          (q.told clean (ours_then same p.leaves.survives.limit ours));
      refused = λ clean ours.
          let same = (p.leaves.left (clean_before q.leaves clean)).same ours.alive in
          IfErr-weaker result _ _ (λ why h. elim h [
            | inl failure ↦ inl failure
            | inr bad ↦ inr (bad.0, bad.1, subst (IsBad bad.0) same.0.now_is bad.2)
          ])
          (q.refused clean (ours_then same p.leaves.survives.limit ours));
      ours = q.ours;
      leaves = passed_then p.leaves q.leaves;
      disk = disk_after (state g c) result p.leaves q.disk;
    }

-- ---- what it says, in other words

pub says_so : {S X : Type 0} (g : Ghosts S) {tables : List Table} {a b : Held S} {P : X → Database → Type 0}
    {Bad : ℕ → Database → Type 0} (Q : X → Database → Type 0) (IsBad : ℕ → Database → Type 0)
    (result : Result X OpenFault) → ((x : X) (db : Database) → P x db → Q x db)
    → ((row : ℕ) (db : Database) → Bad row db → IsBad row db) → ReadsOurs tables g a b result P Bad
    → ReadsOurs tables g a b result Q IsBad
says_so g {a = a} Q IsBad result so worse p = record {
  told = λ clean ours. IfOk-weaker result _ _ (λ x h. so x (state g a).now h) (p.told clean ours);
  refused = λ clean ours. IfErr-weaker result _ _ (λ why h. elim h [
    | inl failure ↦ inl failure
    | inr bad ↦ inr (bad.0, bad.1, worse bad.0 (state g a).now bad.2)
  ])
      (p.refused clean ours);
  ours = p.ours;
  leaves = p.leaves;
  disk = p.disk;
}

-- of more tables
pub of_more : {S X : Type 0} (g : Ghosts S) {tables more : List Table} {a b : Held S} {Q : X → Database → Type 0}
    {IsBad : ℕ → Database → Type 0} (result : Result X OpenFault)
    → ((s : Schema) → BeginsWith more s → BeginsWith tables s) → ReadsOurs tables g a b result Q IsBad
    → ReadsOurs more g a b result Q IsBad
of_more g {tables = tables} {more = more} {a = a} result fewer p =
    let some : IsOurs more (state g a) → IsOurs tables (state g a) = λ ours. record {
      alive = ours.alive;
      declared = fewer (state g a).now.schema ours.declared;
      unlimited = ours.unlimited;
    } in
    record {
      told = λ clean ours. p.told clean (some ours);
      refused = λ clean ours. p.refused clean (some ours);
      ours = p.ours;
      leaves = p.leaves;
      disk = p.disk;
    }
