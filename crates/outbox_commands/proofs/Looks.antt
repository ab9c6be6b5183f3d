-- Entries that are looked at are kept.
use Rattle.std.proofs.Common.{◌≡◌, Some, sym, ◌∙◌, subst}
use Rattle.sqlite_disk.specs.declared.Disk.{Ghosts}
use Rattle.sqlite_store.specs.declared.store.FileStore.{FileStore}
use Rattle.sqlite.specs.Files.{over_files}
use Rattle.table_rows.proofs.CleanLemmas.{always_clean}
use Rattle.outbox_core.specs.OutboxParts.{OutboxParts}
use Rattle.database_places.specs.Places.{IsHonest}
use Rattle.outbox_process.specs.Process.{Parts, KeepsBy, Leaves}
use Rattle.outbox_commands.specs.Looking.{KeepsEntries}

module _ {D : Type 0} {g : Ghosts D} (old new : Parts g) (honest : IsHonest g) (lying : new.lying ≡ old.lying)
    (certain : new.is_certain ≡ old.is_certain) where
  pub leaves : (box box' : OutboxParts (FileStore D g)) → old.outbox ≡ Some box → new.outbox ≡ Some box'
      → KeepsEntries over_files box box' → Leaves old new
  leaves box box' was is looks = record {
    kept = λ it keeps sure.
        let had = subst (λ o. KeepsBy o old.lying it) was (keeps (sym certain ∙ sure)) in
        subst (λ o. KeepsBy o new.lying it) (sym is) (
          (
            looks.entries (always_clean honest box'.conn) it.entries had.0.0,
            looks.filer ∙ had.0.1,
          ),
          lying ∙ had.1,
        );
    certain = λ sure. sym certain ∙ sure;
  }
