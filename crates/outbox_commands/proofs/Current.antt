-- An outbox that was not migrated.
use Rattle.std.proofs.Common.{◌≡◌, Bool, true, false, true≢false, None, Result, Ok, Err, inl, inr, refl, sym, subst}
use Rattle.std.proofs.Common.{MatchBool}
use Rattle.sqlite_disk.specs.declared.Disk.{Ghosts}
use Rattle.outbox_process.specs.declared.beginning.Beginning.TheVariants.{Migrated}
use Rattle.outbox_process.specs.declared.fault.NotOpened.{NotOpened}
use Rattle.outbox_process.specs.declared.fault.Why.{Why}
use Rattle.outbox_process.specs.Process.{Parts, IsOfCurrent, OpensProcess}
use Rattle.outbox_commands.specs.Tasks.{IfCurrent}
use Rattle.outbox_commands.specs.Visits.{IsTold, IsToldAs, OpensTold}

told_too : (why told : Why) → IsToldAs why told → IsOfCurrent why → IsOfCurrent told
told_too why told (inl files) of = inl (files.1, files.3)
told_too why told (inr other) of = subst IsOfCurrent (sym other.1) of

module _ {D : Type 0} {g : Ghosts D} (old new : Parts g) (closed : old.outbox ≡ None) where
  -- why it was not
  pub record IsNotMigrated (told : Why) : Type 0 where
    pub refusal : NotOpened
    pub opens : OpensProcess g Migrated old new (Err refusal)
    pub told_as : IsToldAs refusal.why told
    pub current : IfCurrent old told

  not_migrated_by : (came : Result (Unit {0}) NotOpened) (told : NotOpened) → OpensProcess g Migrated old new came
      → IsTold came (Err told) → IsNotMigrated told.why
  not_migrated_by (Ok done) told opens is = absurd (let unlike : Err told ≡ Ok tt = is in cc)
  not_migrated_by (Err refusal) told opens is =
      let same : told ≡ is.0 = cc in
      let kept = subst (λ (t : NotOpened). IsToldAs refusal.why t.why) (sym same) is.2 in
      record {
        refusal = refusal;
        opens = opens;
        told_as = kept;
        current =
            λ honest certain it keeps.
            told_too refusal.why told.why kept (opens.current honest refl closed certain it keeps).1;
      }

  pub not_migrated : (told : NotOpened) → OpensTold g Migrated old new (Err told) → IsNotMigrated told.why
  not_migrated told opens = not_migrated_by opens.0 told opens.1 opens.2

pub wanted : (b : Bool) (P Q : Type 0) → true ≡ b → P → MatchBool b P Q
wanted true P Q is p = p
wanted false P Q is p = absurd (true≢false is)

pub unwanted : (b : Bool) (P Q : Type 0) → false ≡ b → Q → MatchBool b P Q
unwanted true P Q is q = absurd (true≢false (sym is))
unwanted false P Q is q = q
