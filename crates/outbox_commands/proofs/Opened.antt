-- What came of an opening that was told.
use Rattle.std.proofs.Common.{◌≡◌, ◌≢◌, Option, Some, None, Result, Ok, Err, refl, ◌∙◌, ap}
use Rattle.sqlite_disk.specs.declared.Disk.{Ghosts}
use Rattle.outbox_process.specs.declared.beginning.Beginning.{Beginning}
use Rattle.outbox_process.specs.declared.fault.NotOpened.{NotOpened}
use Rattle.outbox_process.specs.Process.{Parts, OpensProcess}
use Rattle.outbox_commands.specs.Status.{why_status}
use Rattle.outbox_commands.specs.Visits.{IsTold, OpensTold, IsRefused}
use Rattle.outbox_commands.proofs.Telling.{told_status}

pub is_none : {A : Type 0} (o : Option A) → ((x : A) → o ≢ Some x) → o ≡ None
is_none None never = refl
is_none (Some x) never = absurd (never x refl)

module _ {D : Type 0} (g : Ghosts D) (beginning : Beginning) (old new : Parts g) where
  refused_by : (came : Result (Unit {0}) NotOpened) (fault : NotOpened) → OpensProcess g beginning old new came
      → IsTold came (Err fault) → IsRefused g beginning old new (why_status fault.why)
  refused_by (Ok done) fault opens told = absurd cc
  refused_by (Err refusal) fault opens told =
      let same : fault ≡ told.0 = cc in
      record {
        refusal = refusal;
        opens = opens;
        says = ap (λ (f : NotOpened). why_status f.why) same ∙ told_status refusal.why told.0.why told.2;
      }

  -- it was refused
  pub refused : (fault : NotOpened) → OpensTold g beginning old new (Err fault)
      → IsRefused g beginning old new (why_status fault.why)
  refused fault opens = refused_by opens.0 fault opens.1 opens.2

  opened_by : (came : Result (Unit {0}) NotOpened) (done : Unit {0}) → OpensProcess g beginning old new came
      → IsTold came (Ok done) → OpensProcess g beginning old new (Ok tt)
  opened_by (Ok other) done opens told = opens
  opened_by (Err why) done opens told = absurd (let unlike : Ok done ≡ Err told.0 = told.1 in cc)

  -- it is open
  pub opened : (result : Result (Unit {0}) NotOpened) → ((fault : NotOpened) → result ≢ Err fault)
      → OpensTold g beginning old new result → OpensProcess g beginning old new (Ok tt)
  opened (Ok done) never opens = opened_by opens.0 done opens.1 opens.2
  opened (Err fault) never opens = absurd (never fault refl)
