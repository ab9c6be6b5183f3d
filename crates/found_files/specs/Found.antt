-- What a file held as it was opened, and what it shows after its calls.
use Rattle.std.specs.Prelude.{◌≡◌, ℕ, List, [], ◌∷◌, IsTrue}
use Rattle.sqlite_disk.specs.declared.calls.Calls as calls
use Rattle.sqlite_disk.specs.Events.{Event, Model, replay, settled}
use Rattle.found_files.specs.Held.{held_at}
use Rattle.found_files.specs.declared.file.FoundFile.{FoundFile}

module _ {C : Type 0} {g : calls.Ghosts C} where
  -- what the file shows after these calls
  abbrev pub model : List Event → FoundFile C g → Model
  model events f = replay (held_at f.found.now.items f.nth f.is_log) events

  -- It holds these bytes, got its key, and nothing was asked of it since. So it can be used, and its disk gave back
  -- what was written.
  abbrev pub IsNew : List ℕ → FoundFile C g → Type 0
  IsNew bytes f =
      let now = model (g.history f.calls) f in
      (g.history f.calls ≡ settled f.key ∷ []) × (now.seen ≡ bytes) × IsTrue now.is_usable × IsTrue now.is_honest
