-- What is kept while the process of an intake serves, closes and is opened again.
use Rattle.std.proofs.Common.{◌≡◌, ◌≢◌, ℕ, true, false, true≢false, List, [], take, Option, Some, None, Result, Ok, Err}
use Rattle.std.proofs.Common.{refl, sym, ◌∙◌, ap, subst}
use Rattle.std.specs.Prelude.{Bool, is_some, IfSome}
use Rattle.sqlite_disk.specs.declared.Disk.{Ghosts}
use Rattle.sqlite_disk.specs.declared.Files.{Files}
use Rattle.sqlite_store.specs.declared.store.FileStore.{FileStore}
use Rattle.sqlite.specs.Files.{over_files}
use Rattle.sqlite.specs.declared.error.Error.{Error}
use Rattle.http_wire.specs.Wire.{Wire}
use Rattle.filing_model.specs.Request.{Request}
use Rattle.filing_model.specs.Serving.{keeping}
use Rattle.filing_model.specs.Stopping.{Crash, No}
use Rattle.filing_model.specs.declared.served.Ended.{Ended}
use Rattle.filing_model.specs.declared.served.Mark.{Mark}
use Rattle.table_rows.proofs.CleanLemmas.{always_clean}
use Rattle.intake_core.specs.declared.intake.Intake.{Intake}
use Rattle.intake_core.specs.Held.{HoldsRequests, KeepsSetting, store_of, old_style_in}
use Rattle.gateway_server.specs.declared.serving.Served.{Served}
use Rattle.gateway_server.specs.declared.serving.Partly.{Partly}
use Rattle.gateway_server.specs.declared.stop.Stop.{Stop}
use Rattle.gateway_server.specs.Progress.{ServesToEnd, ServesConnection}
use Rattle.gateway_server.specs.Stopping.{ServesConnectionUntil, ServesUpTo, IsEndedOrStoppedBy, view_stop}
use Rattle.database_places.specs.Places.{IsHonest}
use Rattle.intake_process.specs.declared.process.Answered.{Answered}
use Rattle.intake_process.specs.Beginning.{HoldsAs}
use Rattle.intake_process.specs.Process.{IsLeftBy, KeepsBy, AnswersBy}
use Rattle.database_places.specs.Places as place
use Rattle.schedule.specs.Causes.{close_cause}
use Rattle.schedule.specs.Processes.{IsNotStopped}

-- ---- a part of a connection

-- a connection that ended was not stopped
to_its_end : (limit : ℕ) (from to : Wire) (before after : List Request) (marks : List Mark) (ended : Ended)
    → ServesConnection (keeping limit [] before after) from to marks ended
    → ServesConnectionUntil (keeping limit [] before after) from to No marks (Some ended)
to_its_end limit from to before after marks ended s = record {
  got = s.got;
  sent = s.sent;
  read = s.read;
  wrote = s.wrote;
  serves = (s.serves, tt);
  at_end = λ e. s.at_end (cc);
  limited = λ e. s.limited (cc);
  failed = λ n e. s.failed n (cc);
}

module _ {D : Type 0} {g : Ghosts D} (honest : IsHonest g) (limit : ℕ) (from to : Wire) where
  abbrev Holds : List Request → Intake (FileStore D g) → Type 0
  Holds requests intake = HoldsAs over_files limit 0 requests intake

  -- the requests after it are held, as it was served up to the stop
  abbrev pub Part : List Request → Crash → Intake (FileStore D g) → List Mark → Option Ended → Type 0
  Part before crash new marks ended =
      (after : List Request) × Holds after new
      × ServesConnectionUntil (keeping limit [] before after) from to crash marks ended
      × IsEndedOrStoppedBy from to ended

  held : (old new : Intake (FileStore D g)) (before after : List Request) → Holds before old
      → KeepsSetting over_files old new → HoldsRequests over_files new after → Holds after new
  held old new before after holds setting h =
      record {
        holds = h;
        limit_is = setting.limit ∙ holds.limit_is;
        old_style_is =
            setting.old_style ∙ holds.old_style_is;
      }

  pub by_program : (old new : Intake (FileStore D g)) (before : List Request) (served : Served) → Holds before old
      → ServesToEnd over_files from to old new served → Part before No new served.marks.items (Some served.ended)
  by_program old new before served holds s =
      let t = s.serves (always_clean honest new.store.conn) before holds.holds in
      let none : old_style_in old before ≡ [] = ap (λ n. take n before) holds.old_style_is in
      let served_so =
      subst (λ es. ServesConnection (keeping limit es before t.0) from to served.marks.items served.ended) none
      (subst (λ n. ServesConnection (keeping n (old_style_in old before) before t.0) from to served.marks.items
      served.ended) holds.limit_is t.3) in (
        t.0,
        held old new before t.0 holds s.setting t.1,
        to_its_end limit from to before t.0 served.marks.items served.ended served_so,
        s.fault,
      )

  pub killed : (old new : Intake (FileStore D g)) (before : List Request) (at : Stop) (part : Partly) → Holds before old
      → ServesUpTo over_files from to old new at part → Part before (view_stop at) new part.marks.items part.ended
  killed old new before at part holds s =
      let t = s.serves (always_clean honest new.store.conn) before holds.holds in
      let none : old_style_in old before ≡ [] = ap (λ n. take n before) holds.old_style_is in
      let served_so =
      subst (λ es. ServesConnectionUntil (keeping limit es before t.0) from to (view_stop at) part.marks.items
      part.ended) none
      (subst (λ n. ServesConnectionUntil (keeping n (old_style_in old before) before t.0) from to (view_stop at)
      part.marks.items part.ended) holds.limit_is t.3) in
      (t.0, held old new before t.0 holds s.setting t.1, served_so, s.fault)

  -- an open process answered
  pub answers : (old new : Option (Intake (FileStore D g))) (lying lying' : Option (Option (Files D)))
      (before : List Request) (answered : Answered) → is_some old ≡ true → lying' ≡ lying
      → KeepsBy {g = g} old lying limit 0 before → AnswersBy from to old new answered
      → (after : List Request) × KeepsBy {g = g} new lying' limit 0 after
      × ServesConnectionUntil (keeping limit [] before after) from to No answered.served.marks.items
      (Some answered.served.ended) × IsEndedOrStoppedBy from to (Some answered.served.ended)
  answers (Some old) new lying lying' before answered up there keeps by =
      let part = by_program old by.0 before answered.served keeps.0 by.2.serves in (
        part.0,
        subst (λ i. KeepsBy {g = g} i lying' limit 0 part.0) (sym by.1) (part.1, there ∙ keeps.1),
        part.2,
        part.3,
      )
  answers None new lying lying' before answered up there keeps by = absurd (true≢false (sym up))

-- whether a process is open after an answer
pub still_up : {D : Type 0} {g : Ghosts D} (from to : Wire) (old new : Option (Intake (FileStore D g)))
    (answered : Answered) → AnswersBy from to old new answered → is_some new ≡ is_some old
still_up from to (Some old) new answered by = ap is_some by.1
still_up from to None new answered by = ap is_some by.0

-- ---- why it is not closed

-- an error of a close says why the register, which was open, was not closed
pub not_closed : {D : Type 0} {g : Ghosts D} (old : Option (Intake (FileStore D g))) (there : Option (Files D))
    (new : Option (Option (Files D))) (outcome : Result (Unit {0}) Error) (error : Error)
    → (old ≡ None → outcome ≡ Ok tt)
    → IfSome old (λ intake. (files : Files D) × place.Leaves (Some there) new files
    × IsLeftBy g (store_of intake).conn files outcome) → outcome ≡ Err error
    → IsNotStopped old new (close_cause error)
not_closed {g = g} (Some intake) there new outcome error closed left is =
    (left.0, error, left.1, subst (λ o. IsLeftBy g (store_of intake).conn left.0 o) is left.2, refl)
not_closed None there new outcome error closed left is = absurd (cc (closed refl))
