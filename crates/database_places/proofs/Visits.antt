-- What is taken out of a place, opened and left there.
use Rattle.std.proofs.Common.{◌≡◌, Bool, true, false, true≢false, Option, Some, None, Result, Ok, Err, refl, sym, ◌∙◌}
use Rattle.std.proofs.Common.{ap, subst, IfErr}
use Rattle.sqlite_disk.specs.declared.Disk.{Ghosts}
use Rattle.sqlite_disk.specs.declared.Files.{Files}
use Rattle.sqlite_store.specs.declared.store.FileStore.{FileStore}
use Rattle.sqlite.specs.Held.{Held}
use Rattle.sqlite.specs.State.{HasCleanDisk}
use Rattle.sqlite.specs.Files.{file_state, Finds, IsOpened}
use Rattle.command_line.specs.declared.fault.DatabaseFault.{DatabaseFault}
use Rattle.command_line.specs.declared.fault.DatabaseFault.TheVariants.{Missing, Empty}
use Rattle.database_places.specs.Faults.{is_absence}
use Rattle.database_places.specs.declared.opening.Unopened.{Unopened}
use Rattle.database_places.specs.Opening.{IsFoundIn, ComesFrom, IsRefused, StaysIn, OpensPlace, LacksFiles, LacksBytes}
use Rattle.database_places.specs.Opening.{untouched}
use Rattle.database_places.specs.Places.{TellsMissing, TellsEmpty, Takes, Leaves, KeepsLying}

module _ {D : Type 0} (g : Ghosts D) where
  comes : (old mid : Option (Option (Files D))) (files : Files D) (conn : Held (FileStore D g))
      → Takes {E = DatabaseFault} g old mid (Ok files) → (HasCleanDisk (file_state conn) → IsOpened conn)
      → (HasCleanDisk (file_state conn) → Finds files conn) → ComesFrom old mid conn
  comes None mid files conn taken opened found = opened
  comes (Some None) mid files conn taken opened found =
      (taken.0.1, files, taken.0.0, λ clean. (found clean, opened clean))
  comes (Some (Some there)) mid files conn taken opened found =
      (taken.0.1, subst (λ it. IsFoundIn it conn) taken.0.0 (λ clean. (found clean, opened clean)))

  -- the database was opened
  pub opens : (old mid : Option (Option (Files D))) (files : Files D) (conn : Held (FileStore D g))
      → Takes {E = DatabaseFault} g old mid (Ok files) → (HasCleanDisk (file_state conn) → IsOpened conn)
      → (HasCleanDisk (file_state conn) → Finds files conn) → OpensPlace g false old mid (Ok conn)
  opens old mid files conn taken opened found = record {
    comes = comes old mid files conn taken opened found;
    refused = tt;
    absent = λ is. absurd (true≢false (sym is));
    missing = tt;
    empty = tt;
  }

  stays : (old mid after new : Option (Option (Files D))) (files there : Files D) (fault : DatabaseFault)
      → Takes {E = DatabaseFault} g old mid (Ok files) → Leaves mid after there → KeepsLying after new
      → IsRefused g files there fault → StaysIn g old new fault true
  stays None mid after new files there fault taken leaves keeps refused = tt
  stays (Some None) mid after new files there fault taken leaves keeps refused =
      let left : after ≡ Some (Some there) = subst (λ m. Leaves m after there) taken.0.1 leaves in
      (files, there, taken.0.0, subst (λ a. KeepsLying a new) left keeps, refused)
  stays (Some (Some was)) mid after new files there fault taken leaves keeps refused =
      let left : after ≡ Some (Some there) = subst (λ m. Leaves m after there) taken.0.1 leaves in
      (there, subst (λ a. KeepsLying a new) left keeps, subst (λ it. IsRefused g it there fault) taken.0.0 refused)

  not_absent : (fault other : DatabaseFault) → is_absence fault ≡ false → is_absence other ≡ true → fault ≡ other → ⊥
  not_absent fault other there absent same = true≢false (sym absent ∙ sym (ap is_absence same) ∙ there)

  -- it was not, and what was left of it is in the place
  pub refuses : (old mid after new : Option (Option (Files D))) (files there : Files D) (fault : DatabaseFault)
      → Takes {E = DatabaseFault} g old mid (Ok files) → Leaves mid after there → KeepsLying after new
      → IsRefused g files there fault → is_absence fault ≡ false
      → OpensPlace g false old new (Err (record { fault = fault; was_taken = true }))
  refuses old mid after new files there fault taken leaves keeps refused is = record {
    comes = tt;
    refused = stays old mid after new files there fault taken leaves keeps refused;
    absent = λ is. absurd (true≢false (sym is));
    missing = λ e. absurd (not_absent fault Missing is refl e);
    empty = λ e. absurd (not_absent fault Empty is refl e);
  }

  same : (lying : Option (Option (Files D))) (fault : DatabaseFault) → StaysIn g lying lying fault false
  same None fault = tt
  same (Some None) fault = refl
  same (Some (Some files)) fault = refl

  lacks_files : (lying : Option (Option (Files D))) (told : Bool) → TellsMissing lying told → told ≡ true
      → LacksFiles lying
  lacks_files None told tells is = tt
  lacks_files (Some there) told tells is = tells.0 is

  lacks_bytes : (lying : Option (Option (Files D))) (told : Bool) → TellsEmpty g lying told → told ≡ true
      → LacksBytes g lying
  lacks_bytes None told tells is = tt
  lacks_bytes (Some None) told tells is = tt
  lacks_bytes (Some (Some files)) told tells is = tells is

  -- an opening that may make the database has no such fault
  if_made : (Is : Unopened → Type 0) (X : Type 0) (result : Result (Held (FileStore D g)) Unopened)
      → IfErr result (λ it. Is it → (false ≡ true) × X) → IfErr result (λ it. Is it → (true ≡ true) × X)
  if_made Is X (Ok conn) not = tt
  if_made Is X (Err it) not = λ is. absurd (true≢false (sym (not is).0))

  -- a file that has to be there is missing
  pub is_missing : (lying : Option (Option (Files D))) (told : Bool) → TellsMissing lying told → told ≡ true
      → OpensPlace g true lying lying (Err (untouched Missing))
  is_missing lying told tells is = record {
    comes = tt;
    refused = same lying Missing;
    absent = λ _ _. refl;
    missing = λ _. (refl, lacks_files lying told tells is);
    empty = λ e. cc;
  }

  not_missing : (lying : Option (Option (Files D))) (told : Bool) → TellsMissing lying told → told ≡ false
      → lying ≡ Some None → ⊥
  not_missing lying told tells is none =
      let both = subst (λ l. TellsMissing l told) none tells in
      true≢false (sym (both.1 refl) ∙ is)

  -- or empty
  pub is_empty : (lying : Option (Option (Files D))) (missing told : Bool) → TellsMissing lying missing
      → missing ≡ false → TellsEmpty g lying told → told ≡ true → OpensPlace g true lying lying (Err (untouched Empty))
  is_empty lying missing told there none tells is = record {
    comes = tt;
    refused = same lying Empty;
    absent = λ _ e. absurd (not_missing lying missing there none e);
    missing = λ e. cc;
    empty = λ _. (refl, lacks_bytes lying told tells is);
  }

  -- a file that is there is opened like one that is made if it isn't
  pub is_there : (old new : Option (Option (Files D))) (told : Bool)
      (result : Result (Held (FileStore D g)) Unopened) → TellsMissing old told → told ≡ false
      → OpensPlace g false old new result → OpensPlace g true old new result
  is_there old new told result tells is made = record {
    comes = made.comes;
    refused = made.refused;
    absent = λ _ none. absurd (not_missing old told tells is none);
    missing = if_made _ _ result made.missing;
    empty = if_made _ _ result made.empty;
  }
