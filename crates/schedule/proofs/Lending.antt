-- What an outbox that is lent, or is not, says of the world's.
use Rattle.std.proofs.Common.{◌≡◌, ℕ, suc, Bool, true, false, List, Option, Some, None, Bor, refl, subst, IfSome}
use Rattle.std.proofs.Common.{IsSome, slice_get}
use Rattle.sqlite_disk.specs.declared.Disk.{Ghosts}
use Rattle.sqlite_store.specs.declared.store.FileStore.{FileStore}
use Rattle.sqlite.specs.Files.{over_files}
use Rattle.outbox_core.specs.OutboxParts.{OutboxParts, HasEntries}
use Rattle.filing_world.specs.Step.{IsAway}
use Rattle.schedule.specs.Filers.{FilerParts, boxes}
use Rattle.schedule.specs.Played.{IsLent}
use Rattle.schedule.proofs.Steps.{box_named, away_down}

module _ (filers : List FilerParts) (number at : ℕ) (filer : FilerParts) (is : number ≡ suc at)
    (here : slice_get filers at ≡ Some filer) where
  pub lent_at : {D : Type 0} {g : Ghosts D} (result : Option (Bor (OutboxParts (FileStore D g))))
      → (IsSome result → filer.box.up ≡ true)
      → IfSome result (λ it. HasEntries over_files it.now filer.box.entries × (it.now.filer ≡ filer.box.filer))
      → IfSome result (λ it. IsLent (boxes filers) number it.now)
  lent_at None up keeps = tt
  lent_at (Some it) up keeps =
      record {
        box = filer.box;
        here = box_named filers number at filer is here;
        up = up refl;
        entries =
            keeps.0;
        filer = keeps.1;
      }

  pub not_lent : {X : Type 0} (result : Option X) → (filer.box.up ≡ true → IsSome result) → result ≡ None
      → IsAway (boxes filers) number
  not_lent result up none = by_up filer.box.up refl
    where
      by_up : (b : Bool) → filer.box.up ≡ b → IsAway (boxes filers) number
      by_up true e = let no : false ≡ true = subst IsSome none (up e) in absurd (cc)
      by_up false e = away_down filers number at filer is here e
