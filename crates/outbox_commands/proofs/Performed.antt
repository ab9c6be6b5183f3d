-- What the words ask for is performed, by how the words were read and how the file was opened.
use Rattle.std.proofs.Common.{◌≡◌, ◌∙◌, ℕ, Bool, true, false, List, Option, Some, None, Result, Ok, sym, ap, subst}
use Rattle.std.proofs.Common.{inl, inr}
use Rattle.sqlite_disk.specs.declared.Disk.{Ghosts}
use Rattle.sqlite_disk.specs.declared.Files.{Files}
use Rattle.clap.specs.Words.{Text}
use Rattle.command_line.specs.Words.{IsRead}
use Rattle.database_places.specs.Accesses.{OpensBy}
use Rattle.database_places.specs.declared.access.Access.{Access}
use Rattle.database_places.proofs.Accesses.{opened_for_writing, opened_for_reading}
use Rattle.outbox_process.specs.Process.{Parts}
use Rattle.outbox_commands.specs.declared.fault.NotDone.{NotDone}
use Rattle.outbox_commands.specs.declared.network.PeerDial.{PeerDial}
use Rattle.outbox_commands.specs.declared.options.Asked.{Asked}
use Rattle.outbox_commands.specs.declared.options.Asked.TheVariants.{Outbox}
use Rattle.outbox_commands.specs.declared.options.Peer.{Peer}
use Rattle.outbox_commands.specs.declared.options.Task.{Task}
use Rattle.outbox_commands.specs.Networks.{traffic_of, IsNetworkTo}
use Rattle.outbox_commands.specs.Performing.{closed, ended_without, PerformsOver, PerformsAsked, Performs}
use Rattle.outbox_commands.specs.Reading.{access_of}
use Rattle.outbox_commands.specs.Tasks.{Does}
use Rattle.outbox_commands.specs.Words.{Calls, IsAsked}

-- the task is done, but for receipts that are missing
pub as_done : {D : Type 0} {g : Ghosts D} {out out' : Option (List ℕ)} {status : ℕ} (task : Task) (peer : Peer)
    (before after : PeerDial) (lying : Option (Option (Files D))) (old new : Parts g) (done : Result (Unit {0}) NotDone)
    (lost : ℕ) → Calls task peer → IsNetworkTo peer before → old ≡ closed lying
    → Does g task (traffic_of before) (traffic_of after) out out' old new done → done ≡ Ok tt
    → lost ≡ after.lost_receipts → status ≡ ended_without lost (Ok tt) → PerformsOver g task lying out out' status
as_done {g} {out} {out'} task peer before after lying old new done lost calls is was does told lost_is is_status = (
  peer,
  calls,
  inr (
    before,
    is,
    after,
    new,
    done,
    subst (λ old. Does g task (traffic_of before) (traffic_of after) out out' old new done) was does,
    is_status
        ∙ ap (λ lost. ended_without lost (Ok tt)) lost_is
        ∙ sym (ap (ended_without after.lost_receipts) told),
  ),
)

module _ {D R : Type 0} {written : Ghosts D} {read : Ghosts R} {out out' : Option (List ℕ)} {status : ℕ}
    (words : List Text) (came : Option Asked) (is_read : IsRead IsAsked words came) where
  pub as_none : came ≡ None → PerformsAsked written read None out out' status
      → Performs written read words out out' status
  as_none is performs =
      inl (came, is_read, subst (λ came. PerformsAsked written read came out out' status) (sym is) performs)

  pub as_asked : (asked : Asked) (this : Asked) → came ≡ Some asked → asked ≡ this
      → PerformsAsked written read (Some this) out out' status → Performs written read words out out' status
  as_asked asked this is that performs =
      inl (
        came,
        is_read,
        subst (λ came. PerformsAsked written read came out out' status) (sym is)
            (subst (λ asked. PerformsAsked written read (Some asked) out out' status) (sym that) performs),
      )

  -- it was told by the access of the task whether the file was opened for reading
  module _ (asked : Asked) (task : Task) (wait : ℕ) (access : Access) (reading : Bool) (is : came ≡ Some asked)
      (that : asked ≡ Outbox task wait) (access_is : access ≡ access_of task)
      (opens : OpensBy access (reading ≡ false) (reading ≡ true)) where
    by_access : OpensBy access (PerformsOver written task None out out' status)
        (PerformsOver read task None out out' status) → Performs written read words out out' status
    by_access performs =
        as_asked asked (Outbox task wait) is that
        (subst (λ access. OpensBy access (PerformsOver written task None out out' status)
        (PerformsOver read task None out out' status)) access_is performs)

    pub as_reading : reading ≡ true → PerformsOver read task None out out' status
        → Performs written read words out out' status
    as_reading does over = by_access (opened_for_reading access reading _ _ opens does over)

    pub as_writing : reading ≡ false → PerformsOver written task None out out' status
        → Performs written read words out out' status
    as_writing does over = by_access (opened_for_writing access reading _ _ opens does over)
