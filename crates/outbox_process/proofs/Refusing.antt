-- What an opening that is refused leaves.
use Rattle.std.proofs.Common.{◌≡◌, Bool, true, false, true≢false, Option, Some, None, Err, refl, sym, subst, inl, inr}
use Rattle.sqlite_disk.specs.declared.Disk.{Ghosts}
use Rattle.sqlite_disk.specs.declared.Files.{Files}
use Rattle.sqlite_store.specs.declared.store.FileStore.{FileStore}
use Rattle.sqlite_wal.proofs.LogLemmas.{SeenMayStay}
use Rattle.sqlite.specs.Held.{Held}
use Rattle.sqlite.specs.Files.{file_state, over_files}
use Rattle.table_rows.specs.Standing.{CommitsNothing}
use Rattle.table_rows.proofs.CleanLemmas.{always_clean}
use Rattle.table_rows.proofs.StepLemmas.{nothing_yet}
use Rattle.outbox_tables.specs.Entries.{Contents}
use Rattle.outbox_tables.specs.Faults.{IsFailure}
use Rattle.outbox_tables.specs.Rows.{IsOutboxOf}
use Rattle.outbox_tables.specs.declared.fault.OutboxFault.TheVariants.{NotOurs}
use Rattle.command_line.specs.declared.fault.DatabaseFault.{DatabaseFault}
use Rattle.command_line.specs.declared.fault.DatabaseFault.TheVariants.{Missing}
use Rattle.database_places.specs.Opening.{ComesFrom, OpensPlace}
use Rattle.database_places.specs.Places.{IsHonest, Lie}
use Rattle.database_places.proofs.Finding.{found_lying}
use Rattle.database_places.proofs.Lying.{given_leaves, not_taken}
use Rattle.database_places.proofs.Nothing.{nothing_lying}
use Rattle.outbox_process.specs.declared.beginning.Beginning.{Beginning}
use Rattle.outbox_process.specs.declared.beginning.Beginning.TheVariants.{Found, Made, Migrated}
use Rattle.outbox_process.specs.declared.fault.Why.{Why}
use Rattle.outbox_process.specs.declared.fault.Why.TheVariants.{Files as Unopened}
use Rattle.outbox_process.specs.Faults.{leaves_doubt}
use Rattle.outbox_process.specs.Process.{HoldOutboxWithLog, IsNotOpened, IsOfCurrent, has_to_be_there}
use Rattle.outbox_process.specs.Refusals.{RefusesOutbox}

not_ours : IsFailure NotOurs → ⊥
not_ours (inl is) = cc
not_ours (inr is) = cc

module _ {D : Type 0} {g : Ghosts D} (honest : IsHonest g) where
  -- ---- the connection to an outbox of this version

  shows_outbox : (old new : Option (Option (Files D))) (conn : Held (FileStore D g)) (it : Contents)
      → ComesFrom old new conn → Lie old (λ files. HoldOutboxWithLog g files it) → IsOutboxOf it (file_state conn).now
  shows_outbox old new conn it comes lie =
      let shown = found_lying honest old new conn comes lie.2.db (lie.0, lie.1, lie.2.held) in
      subst (IsOutboxOf it) (sym shown.1) lie.2.outbox

  -- a refusal that leaves no doubt commits nothing to it
  commits_nothing : (beginning : Beginning) (conn back : Held (FileStore D g)) (why : Why) (was_taken : Bool)
      → RefusesOutbox over_files beginning conn back why → leaves_doubt was_taken why ≡ false → (it : Contents)
      → IsOutboxOf it (file_state conn).now → CommitsNothing (file_state conn) (file_state back)
  commits_nothing Found conn back why was_taken is sure it rows = is.2.crash
  commits_nothing (Made filer) conn back why was_taken is sure it rows = elim is [
    | inl taken ↦ subst (λ (b : Held (FileStore D g)). CommitsNothing (file_state conn) (file_state b)) (sym taken.2)
        (nothing_yet (file_state conn))
    | inr made ↦ absurd (true≢false (subst (λ w. leaves_doubt was_taken w ≡ false) made.1 sure))
  ]
  commits_nothing Migrated conn back why was_taken is sure it rows = elim is [
    | inl current ↦
        subst (λ (b : Held (FileStore D g)). CommitsNothing (file_state conn) (file_state b)) (sym current.3)
        current.2.crash
    | inr failed ↦ elim failed.2 [
      | inl direct ↦ direct.1.crash
      | inr late ↦ absurd (not_ours (late.1.sound (always_clean honest late.0) it rows))
    ]
  ]

  -- ---- what lies there

  module _ (stays : SeenMayStay g) (beginning : Beginning) (old new : Option (Option (Files D))) (it : Contents)
      (lie : Lie old (λ files. HoldOutboxWithLog g files it)) where
    -- the outbox lies there after a refusal that leaves no doubt
    pub lies_still : (was_taken : Bool) (why : Why) → leaves_doubt was_taken why ≡ false
        → IsNotOpened g beginning old new was_taken why → Lie new (λ files. HoldOutboxWithLog g files it)
    lies_still was_taken why sure (inl unopened) = untaken was_taken unopened.0 (subst (λ w. leaves_doubt was_taken w
        ≡ false) unopened.1 sure) unopened.2
      where
        untaken : (was_taken : Bool) (fault : DatabaseFault) → was_taken ≡ false
            → OpensPlace g (has_to_be_there beginning) old new (Err (record { fault = fault; was_taken = was_taken }))
            → Lie new (λ files. HoldOutboxWithLog g files it)
        untaken true fault sure is = absurd (true≢false sure)
        untaken false fault sure is = not_taken g old new fault is.refused lie
    lies_still was_taken why sure (inr is) =
        let rows = shows_outbox old (Some None) is.0 it is.2 lie in
        let nothing = commits_nothing beginning is.0 is.1 why was_taken is.3 sure it rows in
        let left =
        given_leaves honest stays old (Some None) new is.0 is.1 is.2 nothing is.4 lie.2.db
        (lie.0, lie.1, lie.2.held) in
        (left.0, left.1, record { db = lie.2.db; outbox = lie.2.outbox; held = left.2 })

  -- ---- why an outbox of this version is not migrated

  pub of_current : (old new : Option (Option (Files D))) (was_taken : Bool) (why : Why) (it : Contents)
      → IsNotOpened g Migrated old new was_taken why → Lie old (λ files. HoldOutboxWithLog g files it)
      → IsOfCurrent why
  of_current old new was_taken why it (inl unopened) lie = inl (unopened.0, unopened.1)
  of_current old new was_taken why it (inr is) lie =
      let rows = shows_outbox old (Some None) is.0 it is.2 lie in
      elim is.3 [
        | inl current ↦ inr (inl current.0)
        | inr failed ↦ inr (inr (
          failed.0,
          failed.1,
          elim failed.2 [
            | inl direct ↦ direct.1.sound (always_clean honest is.1) it rows
            | inr late ↦ absurd (not_ours (late.1.sound (always_clean honest late.0) it rows))
          ],
        ))
      ]

-- ---- where no files lay

-- a connection gives another cause than files without a database
no_such : {D : Type 0} {g : Ghosts D} (beginning : Beginning) (conn back : Held (FileStore D g)) (fault : DatabaseFault)
    → RefusesOutbox over_files beginning conn back (Unopened fault) → ⊥
no_such Found conn back fault is = let no = is.1 in cc
no_such (Made filer) conn back fault is = elim is [
  | inl taken ↦ let no = taken.0 in cc
  | inr made ↦ let no = made.1 in cc
]
no_such Migrated conn back fault is = elim is [
  | inl current ↦ let no = current.0 in cc
  | inr failed ↦ let no = failed.1 in cc
]

module _ {D : Type 0} (g : Ghosts D) where
  -- none lie there if no files were taken
  untaken : (has : Bool) (new : Option (Option (Files D))) (was_taken : Bool) (fault : DatabaseFault)
      → was_taken ≡ false
      → OpensPlace g has (Some None) new (Err (record { fault = fault; was_taken = was_taken })) → new ≡ Some None
  untaken has new true fault sure is = absurd (true≢false sure)
  untaken has new false fault sure is = is.refused

  -- what has to be there, and is not
  missing_stays : (beginning : Beginning) (new : Option (Option (Files D))) (was_taken : Bool) (why : Why)
      → leaves_doubt was_taken why ≡ false → IsNotOpened g beginning (Some None) new was_taken why
      → why ≡ Unopened Missing → new ≡ Some None
  missing_stays beginning new was_taken why sure (inl is) same =
      untaken (has_to_be_there beginning) new was_taken is.0 (subst (λ w. leaves_doubt was_taken w ≡ false) is.1 sure)
      is.2
  missing_stays beginning new was_taken why sure (inr is) same = absurd (no_such beginning is.0 is.1 Missing
      (subst (RefusesOutbox over_files beginning is.0 is.1) same is.3))

  -- none lie there after a refusal that leaves no doubt
  pub still_vacant : IsHonest g → (beginning : Beginning) (new : Option (Option (Files D))) (was_taken : Bool)
      (why : Why) → leaves_doubt was_taken why ≡ false → IsNotOpened g beginning (Some None) new was_taken why
      → (has_to_be_there beginning ≡ true → why ≡ Unopened Missing) → new ≡ Some None
  still_vacant honest Found new was_taken why sure is absent =
      missing_stays Found new was_taken why sure is (absent refl)
  still_vacant honest Migrated new was_taken why sure is absent =
      missing_stays Migrated new was_taken why sure is (absent refl)
  still_vacant honest (Made filer) new was_taken why sure (inl is) absent =
      untaken false new was_taken is.0 (subst (λ w. leaves_doubt was_taken w ≡ false) is.1 sure) is.2
  still_vacant honest (Made filer) new was_taken why sure (inr is) absent = elim is.3 [
    | inl taken ↦ absurd (taken.1 (nothing_lying honest (Some None) is.0 is.2))
    | inr made ↦ absurd (true≢false (subst (λ w. leaves_doubt was_taken w ≡ false) made.1 sure))
  ]
