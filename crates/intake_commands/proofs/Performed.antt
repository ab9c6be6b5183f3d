-- What the words ask for is performed: of a task, by its port and by how its file was opened.
use Rattle.std.proofs.Common.{◌≡◌, ◌≢◌, ℕ, Bool, true, false, List, Option, None, Result, refl, sym, subst}
use Rattle.sqlite_disk.specs.declared.Disk.{Ghosts}
use Rattle.clap.specs.Words.{Text}
use Rattle.command_line.specs.Words.{IsRead}
use Rattle.connection_hall.specs.declared.stream.Stream.{Ghosts as Streams}
use Rattle.database_places.specs.Accesses.{OpensBy}
use Rattle.database_places.specs.declared.access.Access.{Access}
use Rattle.database_places.proofs.Accesses.{opened_for_writing, opened_for_reading}
use Rattle.gateway_rounds.specs.Ports.{Port}
use Rattle.intake_commands.specs.declared.fault.NotDone.{NotDone}
use Rattle.intake_commands.specs.declared.options.Asked.{Asked}
use Rattle.intake_commands.specs.declared.options.Serving.{Serving}
use Rattle.intake_commands.specs.declared.options.Task.{Task}
use Rattle.intake_commands.specs.declared.options.Task.TheVariants.{Run, Serve, Visit, Lint}
use Rattle.intake_commands.specs.Performing.{IsFresh, PerformsOver, PerformsTask}
use Rattle.intake_commands.specs.Reading.{access_of}
use Rattle.intake_commands.specs.Words.{IsAsked}
use Rattle.intake_commands.proofs.Done.{kept_port}

pub read_as : (words : List Text) {found asked : Result Asked NotDone} → found ≡ asked → IsRead IsAsked words found
    → IsRead IsAsked words asked
read_as words is read = subst (λ asked. IsRead IsAsked words asked) is read

module _ {D R S N : Type 0} (written : Ghosts D) (read : Ghosts R) (s : Streams S N) (out out' : Option (List ℕ))
    (status : ℕ) where
  -- ---- a task that serves

  pub as_served : (task : Task) (serving : Serving) (port port' : Option (Port S)) → task ≡ Serve serving
      → PerformsOver written s task None port port' out out' status → IsFresh s serving port
      → PerformsTask written read s task out out' status
  as_served task serving port port' is over fresh =
      subst (λ task. PerformsTask written read s task out out' status) (sym is)
      (port, port', fresh, subst (λ task. PerformsOver written s task None port port' out out' status) is over)

  -- ---- another task

  without_port : {F : Type 0} (g : Ghosts F) (task : Task) (port : Option (Port S))
      → ((serving : Serving) → task ≢ Serve serving) → PerformsOver g s task None None port out out' status
      → PerformsOver g s task None None None out out' status
  without_port g task port other over =
      subst (λ port. PerformsOver g s task None None port out out' status)
      (kept_port s task _ _ _ other over.performs.1) over

  by_access : (task : Task) → ((serving : Serving) → task ≢ Serve serving)
      → OpensBy (access_of task) (PerformsOver written s task None None None out out' status)
      (PerformsOver read s task None None None out out' status) → PerformsTask written read s task out out' status
  by_access (Run limit) other performs = performs
  by_access (Serve serving) other performs = absurd (other serving refl)
  by_access (Visit database errand) other performs = performs
  by_access (Lint filer form files) other performs = performs

  -- it was told by the access of the task whether the file was opened for reading
  pub as_reading : (task : Task) (access : Access) (reading : Bool) (port : Option (Port S))
      → ((serving : Serving) → task ≢ Serve serving) → access ≡ access_of task
      → OpensBy access (reading ≡ false) (reading ≡ true) → reading ≡ true
      → PerformsOver read s task None None port out out' status → PerformsTask written read s task out out' status
  as_reading task access reading port other access_is opens is over =
      by_access task other
      (subst (λ access. OpensBy access (PerformsOver written s task None None None out out' status)
      (PerformsOver read s task None None None out out' status)) access_is
      (opened_for_reading access reading _ _ opens is (without_port read task port other over)))

  pub as_writing : (task : Task) (access : Access) (reading : Bool) (port : Option (Port S))
      → ((serving : Serving) → task ≢ Serve serving) → access ≡ access_of task
      → OpensBy access (reading ≡ false) (reading ≡ true) → reading ≡ false
      → PerformsOver written s task None None port out out' status → PerformsTask written read s task out out' status
  as_writing task access reading port other access_is opens is over =
      by_access task other
      (subst (λ access. OpensBy access (PerformsOver written s task None None None out out' status)
      (PerformsOver read s task None None None out out' status)) access_is
      (opened_for_writing access reading _ _ opens is (without_port written task port other over)))
