-- What lies in a place after a visit of `outbox`.
use Rattle.std.proofs.Common.{◌≡◌, ◌∙◌, ℕ, true, List, [], Option, Some, None, Result, Ok, Err, refl, sym, subst, inl}
use Rattle.std.proofs.Common.{inr}
use Rattle.sqlite_disk.specs.declared.Disk.{Ghosts}
use Rattle.sqlite_disk.specs.declared.Files.{Files}
use Rattle.sqlite_store.specs.declared.store.FileStore.{FileStore}
use Rattle.sqlite.specs.Files.{over_files}
use Rattle.sqlite.specs.declared.error.Error.{Error}
use Rattle.filing_model.specs.Outbox.{Entry}
use Rattle.outbox_tables.specs.Entries.{Contents, contents_of}
use Rattle.outbox_core.specs.OutboxParts.{OutboxParts, HasEntries}
use Rattle.outbox_process.specs.Dials.{Traffic}
use Rattle.database_places.specs.Places.{IsHonest, Lie}
use Rattle.outbox_process.specs.declared.beginning.Beginning.TheVariants.{Found}
use Rattle.outbox_process.specs.declared.errand.Done.{Done}
use Rattle.outbox_process.specs.declared.errand.Errand.{Errand}
use Rattle.outbox_process.specs.Beginning.{HasContents}
use Rattle.outbox_process.specs.declared.beginning.Beginning.{Beginning}
use Rattle.outbox_process.specs.declared.fault.NotOpened.{NotOpened}
use Rattle.outbox_process.specs.declared.fault.Why.{Why}
use Rattle.outbox_process.specs.Process.{Parts, HoldOutboxWithLog, Keeps, KeepsBy, OpensProcess, PerformsErrand}
use Rattle.outbox_process.specs.Process.{ClosesProcess}
use Rattle.program_runs.specs.Deeds.{Deed, AreDone}
use Rattle.program_runs.specs.Runs.{LiesClosed, IsRunBy}
use Rattle.program_runs.proofs.Results.{not_err}

-- where files lie, there are some
pub some_lie : {D X : Type 0} (lying : Option (Option (Files D))) (Are : Files D → Type 0) → Lie lying Are
    → lying ≡ Some None → X
some_lie lying Are lies none =
    let no : Some (Some lies.0) ≡ Some None = sym lies.1 ∙ none in
    absurd (cc)

module _ {D : Type 0} {g : Ghosts D} where
  pub keeps_of : (process : Parts g) (it : Contents) → process.outbox ≡ None
      → Lie process.lying (λ files. HoldOutboxWithLog g files it) → Keeps process it
  keeps_of process it closed lies = λ certain. subst (λ o. KeepsBy {g = g} o process.lying it) (sym closed) lies

  -- what is kept by a process that is closed lies there
  pub kept_lies : (process : Parts g) (it : Contents) → process.outbox ≡ None → process.is_certain ≡ true
      → Keeps process it → Lie process.lying (λ files. HoldOutboxWithLog g files it)
  kept_lies process it closed certain keeps = subst (λ o. KeepsBy {g = g} o process.lying it) closed (keeps certain)

  -- deeds lead to an outbox that lies there
  pub run_by : (it after : Contents) (old new : Parts g) (Are : List Deed → Type 0) (deeds : List Deed) → Are deeds
      → AreDone it deeds after → new.outbox ≡ None → new.is_certain ≡ true → Keeps new after → IsRunBy it old new Are
  run_by it after old new Are deeds are done closed certain keeps =
      let lie = kept_lies new after closed certain keeps in
      record {
        deeds = deeds;
        are = are;
        after = after;
        done = done;
        lies = record { closed = closed; certain = certain; there = inl lie };
        stays = λ none. some_lie new.lying (λ files. HoldOutboxWithLog g files after) lie none;
      }

  -- what lay there lies there after an opening that was refused
  pub refused : (beginning : Beginning) (refusal : NotOpened) (it : Contents) (old new : Parts g)
      (Are : List Deed → Type 0) → Are [] → IsHonest g → LiesClosed old it
      → OpensProcess g beginning old new (Err refusal) → new.is_certain ≡ true → IsRunBy it old new Are
  refused beginning refusal it old new Are none honest lies opens certain = elim lies.there [
    | inl there ↦
        run_by it it old new Are [] none refl opens.refused.2 certain
        ((opens.unharmed honest).kept it (keeps_of old it lies.closed there))
    | inr no_files ↦
        record {
          deeds = [];
          are = none;
          after = it;
          done = refl;
          lies = record {
            closed = opens.refused.2;
            certain = certain;
            there = inr (opens.vacant honest lies.closed no_files.0 certain, no_files.1);
          };
          stays = λ _. no_files.0;
        }
  ]

  -- what an errand makes of the entries of an outbox, if it had these before it
  pub record Brings (before after : OutboxParts (FileStore D g)) (it : Contents) (Are : List Deed
      → Type 0) : Type 0 where
    pub deeds : List Deed
    pub are : Are deeds
    pub entries : List Entry
    pub done : AreDone it deeds (contents_of it.filer entries)
    pub has : HasEntries over_files after entries
    pub filer : after.filer ≡ before.filer

  -- what is done with a process that is open, if it kept these contents before
  pub record Goes (old new : Parts g) (it : Contents) (Are : List Deed → Type 0) : Type 0 where
    pub deeds : List Deed
    pub are : Are deeds
    pub after : Contents
    pub done : AreDone it deeds after
    pub keeps : Keeps new after

  -- an errand, if it brings each outbox to another one by such deeds
  pub performed : (what : Errand) (net net' : Traffic) (out out' : Option (List ℕ)) (old new : Parts g)
      (came : Result Done Why) (it : Contents) (Are : List Deed → Type 0)
      → (performs : PerformsErrand what net net' out out' old new came) → Keeps old it → new.is_certain ≡ true
      → (HasEntries over_files performs.before it.entries → performs.before.filer ≡ it.filer
      → Brings performs.before performs.after it Are) → Goes old new it Are
  performed what net net' out out' old new came it Are performs keeps sure brings =
      let certain : old.is_certain ≡ true = sym performs.certain ∙ sure in
      let by = subst (λ o. KeepsBy {g = g} o old.lying it) performs.was (keeps certain) in
      let brought = brings by.0.0 by.0.1 in
      let after = contents_of it.filer brought.entries in
      let has : HasContents over_files performs.after after = (brought.has, brought.filer ∙ by.0.1) in
      record {
        deeds = brought.deeds;
        are = brought.are;
        after = after;
        done = brought.done;
        keeps = λ _. subst (λ o. KeepsBy {g = g} o new.lying after) (sym performs.is) (has, performs.lying ∙ by.1);
      }

  -- The outbox that lay there was opened, something was done with it, and it was closed.
  pub visited : (old opened done new : Parts g) (closed : Result (Unit {0}) Error) (it : Contents)
      (Are : List Deed → Type 0) → IsHonest g → LiesClosed old it → OpensProcess g Found old opened (Ok tt)
      → ClosesProcess g done new closed → new.is_certain ≡ true
      → (Keeps opened it → done.is_certain ≡ true → Goes opened done it Are) → IsRunBy it old new Are
  visited old opened done new closed it Are honest lies opens closes certain goes = elim lies.there [
    | inl there ↦
        let leaves = closes.leaves honest in
        let by = goes (opens.keeps honest it (keeps_of old it lies.closed there)) (leaves.certain certain) in
        run_by it by.after old new Are by.deeds by.are by.done closes.is_closed certain (leaves.kept by.after by.keeps)
    | inr none ↦ absurd (not_err tt _ (opens.absent lies.closed refl none.0))
  ]
