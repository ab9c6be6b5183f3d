-- A run that is killed is among what programs do, and an intake begins with what it kept.
use Rattle.std.proofs.Common.{◌≡◌, ℕ, List, [], ◌∷◌, ◌++◌, refl}
use Rattle.sqlite_disk.specs.declared.Disk.{Ghosts}
use Rattle.sqlite_disk.specs.declared.Files.{Files}
use Rattle.sqlite_store.specs.declared.store.FileStore.{FileStore}
use Rattle.sqlite.specs.Held.{Held}
use Rattle.sqlite.specs.Files.{over_files}
use Rattle.filing_model.specs.declared.served.Mark.{Mark}
use Rattle.filing_model.specs.Request.{Request, firsts}
use Rattle.filing_model.specs.Serving.{keeping, IsCutShort}
use Rattle.filing_model.specs.Stopping.{Crash}
use Rattle.table_rows.proofs.CleanLemmas.{always_clean}
use Rattle.intake_core.specs.declared.intake.Intake.{Intake}
use Rattle.database_places.specs.Places.{IsHonest}
use Rattle.programs.specs.Deliveries.{Delivery}
use Rattle.intake_process.specs.declared.beginning.Totals.{Totals}
use Rattle.intake_process.specs.Beginning.{HoldsAs, AreTotals, FindsIntake}
use Rattle.programs.specs.Happenings.{Situation, Serving, Killing}
use Rattle.program_runs.specs.Deciding.{StopsIn}
use Rattle.program_runs.specs.Killed.{ComesOn, read_on, cut_off, HappenedIn}
use Rattle.intake_process.specs.Process.{HoldRegisterWithLog}
use Rattle.program_runs.specs.StoppedRegisters.{OpensAsRegister}

module _ {D : Type 0} (g : Ghosts D) where
  pub begins : IsHonest g → (conn : Held (FileStore D g)) (limit old_style : ℕ) (requests : List Request)
      (intake : Intake (FileStore D g)) (totals : Totals) → OpensAsRegister conn old_style requests
      → firsts requests ≡ requests
      → FindsIntake over_files conn limit intake totals
      → HoldsAs over_files limit old_style requests intake × AreTotals requests totals
  begins honest conn limit old_style requests intake totals opens once begun =
      begun.holds (always_clean honest intake.store.conn) old_style requests once opens.rows

  module _ (limit : ℕ) (old : Situation) (delivery : Delivery) (on : ComesOn limit old delivery)
      (after : List Request) where
    kept_now : List ℕ → Situation
    kept_now written =
        record old { requests = after; answers = old.answers ++ record { item = delivery.item; bytes = written } ∷ [] }

    pub cut : (marks : List Mark) (written : List ℕ) (files : Files D)
        → IsCutShort (keeping on.keys [] old.requests after) (read_on on) marks written
        → HoldRegisterWithLog g files 0 after
        → HappenedIn g files limit old (Serving delivery (cut_off (read_on on) marks written))
    unfolding kept_now
    cut marks written files is held = record {
      new = kept_now written;
      makes = record {
        came = record { from = on.from; here = on.here; read = refl };
        keys = on.keys;
        few =
            on.few;
        serves = is;
        becomes = refl;
      };
      held = held;
    }

    pub killed : (crash : Crash) (marks : List Mark) (written : List ℕ) (files : Files D)
        → StopsIn g files 0 (keeping on.keys [] old.requests after) (read_on on) crash marks written
        → HappenedIn g files limit old (Killing delivery crash marks written)
    unfolding kept_now
    killed crash marks written files stops = record {
      new = kept_now written;
      makes = record {
        from = on.from;
        here = on.here;
        keys = on.keys;
        within = on.few;
        stopped =
            stops.stopped;
        becomes = refl;
      };
      held = stops.held;
    }
