-- What a visit tells and keeps of a register follows from what it does with the place.
use Rattle.std.proofs.Common.{◌≡◌, ◌⊎◌, inl, inr, ℕ, Bool, true, false, true≢false, List, Option, Some, None, Result}
use Rattle.std.proofs.Common.{Ok, Err, refl, sym, ◌∙◌, ap, subst, IfErr, OnOk}
use Rattle.std.specs.Prelude.{is_err, ◌||◌}
use Rattle.sqlite_disk.specs.declared.Disk.{Ghosts}
use Rattle.sqlite_disk.specs.declared.Files.{Files}
use Rattle.sqlite_store.specs.declared.store.FileStore.{FileStore}
use Rattle.sqlite.specs.declared.error.Error.{Error}
use Rattle.sqlite_wal.proofs.LogLemmas.{SeenMayStay}
use Rattle.sqlite.specs.Files.{file_state, over_files}
use Rattle.sqlite.specs.Held.{Held, state}
use Rattle.sqlite.specs.Store as database
use Rattle.table_rows.proofs.CleanLemmas.{always_clean}
use Rattle.table_rows.specs.Standing.{CommitsNothing, HasCommitted}
use Rattle.filing_model.specs.Request.{Request}
use Rattle.register_pages.specs.Pages.{WritesSite}
use Rattle.register_tables.specs.Faults.{IsFailure}
use Rattle.register_tables.specs.Registers.{IsRegisterOf}
use Rattle.register_tables.specs.declared.fault.OpenFault.{OpenFault}
use Rattle.register_extracts.specs.declared.fault.Why.{Why}
use Rattle.register_extracts.specs.declared.fault.Why.TheVariants as why
use Rattle.database_places.specs.declared.opening.Unopened.{Unopened}
use Rattle.database_places.proofs.Finding.{found_lying}
use Rattle.database_places.proofs.Lying.{given_leaves, lies_given, not_taken}
use Rattle.database_places.specs.Closing.{IsClosedIn, IsGivenUp, IsNotClosed}
use Rattle.database_places.specs.Opening.{ComesFrom, OpensPlace, StaysIn}
use Rattle.database_places.specs.Places.{IsHonest, Lie}
use Rattle.database_places.specs.Places as place
use Rattle.intake_process.specs.declared.tasks.errand.Errand.{Errand}
use Rattle.intake_process.specs.declared.visiting.Visited.{Visited}
use Rattle.intake_process.specs.Errands.{AreMomentsFor, IsRegisterFor, Says, Tells, meaning}
use Rattle.intake_process.specs.Fault.{is_refused, leaves_doubt}
use Rattle.intake_process.specs.Process.{Parts, HoldRegisterWithLog, KeepsBy, LeavesDatabase}
use Rattle.intake_process.proofs.Errands.{no_begin, no_print}
use Rattle.intake_process.proofs.Keeping.{copied, left_by as left_closed}
use Rattle.intake_process.specs.Visits.{Outputs, LiesDatedFor, LiesFor, is_doubtful, is_unsure, IsLeftIn, GoesOn}
use Rattle.intake_process.specs.Visits.{VisitsPlace, VisitsRegister}

or_first : (a b : Bool) → (a || b) ≡ false → a ≡ false
or_first true b not = not
or_first false b not = refl

or_second : (a b : Bool) → (a || b) ≡ false → b ≡ false
or_second true b not = absurd (true≢false not)
or_second false b not = not

-- ---- what a refused errand commits

module _ {S : Type 0} (g : database.Ghosts S) (old new : Held S) where
  migrate_commits : (was_taken : Bool) (fault : OpenFault)
      → IsFailure fault ⊎ CommitsNothing (state g old) (state g new)
      → leaves_doubt was_taken (why.Migrate fault) ≡ false → CommitsNothing (state g old) (state g new)
  migrate_commits was_taken fault (inr nothing) sure = nothing
  migrate_commits was_taken fault (inl (inl memory)) sure =
      absurd (true≢false (subst (λ f. leaves_doubt was_taken (why.Migrate f) ≡ false) memory sure))
  migrate_commits was_taken fault (inl (inr disk)) sure =
      absurd (true≢false (subst (λ f. leaves_doubt was_taken (why.Migrate f) ≡ false) disk sure))

  -- nothing, unless memory or the disk refused a migration
  refused_commits : {X : Type 0} (errand : Errand) (was_taken : Bool) (done : Result X Why)
      → ((meaning errand).is_for_earlier ≡ false → CommitsNothing (state g old) (state g new))
      → IfErr done (Says g errand old new) → is_refused done ≡ true → is_unsure was_taken done ≡ false
      → CommitsNothing (state g old) (state g new)
  refused_commits errand was_taken (Ok done) reads says refused sure = absurd (true≢false (sym refused))
  refused_commits errand was_taken (Err (why.Files fault)) reads says refused sure = absurd says
  refused_commits errand was_taken (Err (why.Open fault)) reads says refused sure = reads says.0
  refused_commits errand was_taken (Err (why.Migrate fault)) reads says refused sure =
      migrate_commits was_taken fault says.3 sure
  refused_commits errand was_taken (Err other) reads says refused sure = absurd (true≢false (sym refused))

module _ {D : Type 0} {g : Ghosts D} where
  -- ---- the files are left

  pub closed_in : (lying lying' : Option (Option (Files D))) (conn : Held (FileStore D g)) (refused : Bool)
      (r : Result (Unit {0}) Error) → refused ≡ false
      → OnOk r ((files : Files D) × place.Leaves lying lying' files × IsClosedIn g conn files)
      → IfErr r (λ error. (files : Files D) × place.Leaves lying lying' files × IsNotClosed conn files error)
      → (files : Files D) × place.Leaves lying lying' files × IsLeftIn refused conn files r
  closed_in lying lying' conn true r not closed failed = absurd (true≢false not)
  closed_in lying lying' conn false r not closed failed = left_closed conn lying lying' r closed failed

  pub given_in : (lying lying' : Option (Option (Files D))) (conn : Held (FileStore D g)) (refused : Bool)
      (files : Files D) → refused ≡ true → place.Leaves lying lying' files → IsGivenUp conn files
      → (files : Files D) × place.Leaves lying lying' files × IsLeftIn refused conn files (Ok tt)
  given_in lying lying' conn true files is leaves given = (files, leaves, (given, refl))
  given_in lying lying' conn false files is leaves given = absurd (true≢false (sym is))

  -- ---- a register lies there

  -- it is found
  found : (errand : Errand) (old between : Option (Option (Files D))) (conn : Held (FileStore D g)) → IsHonest g
      → ComesFrom old between conn → (old_style : ℕ) (requests : List Request) → LiesFor g errand old old_style requests
      → IsRegisterFor errand old_style requests (file_state conn).now × (between ≡ Some None)
  found errand old between conn honest comes old_style requests lies =
      let hold = lies.1.2 in
      let shown = found_lying honest old between conn comes hold.db (lies.1.0, lies.1.1, hold.held) in
      (subst (IsRegisterFor errand old_style requests) (sym shown.1) hold.register, shown.2)

  -- and so are its moments
  found_dated : (errand : Errand) (old between : Option (Option (Files D))) (conn : Held (FileStore D g)) → IsHonest g
      → ComesFrom old between conn → (old_style : ℕ) (requests : List Request) (moments : List (Option ℕ))
      → LiesDatedFor g errand old old_style requests moments
      → IsRegisterFor errand old_style requests (file_state conn).now
      × AreMomentsFor errand requests moments (file_state conn).now
  found_dated errand old between conn honest comes old_style requests moments lies =
      let hold = lies.1.2 in
      let shown = found_lying honest old between conn comes hold.db (lies.1.0, lies.1.1, hold.held) in (
        subst (IsRegisterFor errand old_style requests) (sym shown.1) hold.register,
        subst (AreMomentsFor errand requests moments) (sym shown.1) hold.received,
      )

  closed_ok : (conn : Held (FileStore D g)) (files : Files D) (r : Result (Unit {0}) Error) → is_err r ≡ false
      → IsLeftIn false conn files r → IsClosedIn g conn files
  closed_ok conn files (Ok done) not left = left
  closed_ok conn files (Err error) not left = absurd (true≢false not)

  module _ (errand : Errand) (out out' : Outputs) (old new : Option (Option (Files D))) (visited : Visited) where
    told_by : (opened : Result (Held (FileStore D g)) Unopened) (between : Option (Option (Files D)))
        → OpensPlace g true old between opened → GoesOn errand out out' between new opened visited
        → IsHonest g → (old_style : ℕ) (requests : List Request) (moments : List (Option ℕ))
        → LiesDatedFor g errand old old_style requests moments
        → Tells errand requests moments out.text out'.text visited.done
    told_by (Err it) between opens goes honest old_style requests moments lies =
        subst (λ done. Tells errand requests moments out.text out'.text done) (sym goes.0) (
          tt,
          no_print errand out.text out'.text (why.Files it.fault) (ap (λ o. o.text) goes.4),
          no_begin errand requests moments out.text out'.text (why.Files it.fault) refl,
        )
    told_by (Ok conn) between opens goes honest old_style requests moments lies =
        let is = found_dated errand old between conn honest opens.comes old_style requests moments lies in
        goes.1.told (always_clean honest goes.0) old_style requests lies.0 is.0 moments is.1

    filled_by : (opened : Result (Held (FileStore D g)) Unopened) (between : Option (Option (Files D)))
        → OpensPlace g true old between opened → GoesOn errand out out' between new opened visited
        → IsHonest g → (old_style : ℕ) (requests : List Request) → LiesFor g errand old old_style requests
        → (meaning errand).fills ≡ true → OnOk visited.done (WritesSite requests out.pages out'.pages)
    filled_by (Err it) between opens goes honest old_style requests lies is =
        subst (λ done. OnOk done (WritesSite requests out.pages out'.pages)) (sym goes.0) tt
    filled_by (Ok conn) between opens goes honest old_style requests lies is =
        goes.2.filled (always_clean honest goes.0) old_style requests lies.0
        (found errand old between conn honest opens.comes old_style requests lies).0 is

    unfilled_by : (opened : Result (Held (FileStore D g)) Unopened) (between : Option (Option (Files D)))
        → GoesOn errand out out' between new opened visited → (meaning errand).fills ≡ false → out'.pages ≡ out.pages
    unfilled_by (Err it) between goes is = ap (λ o. o.pages) goes.4
    unfilled_by (Ok conn) between goes is = goes.2.others is

    kept_by : (opened : Result (Held (FileStore D g)) Unopened) (between : Option (Option (Files D)))
        → OpensPlace g true old between opened → GoesOn errand out out' between new opened visited
        → IsHonest g → is_doubtful visited ≡ false → is_refused visited.done ≡ false
        → (old_style : ℕ) (requests : List Request) → LiesFor g errand old old_style requests
        → KeepsBy {g = g} None new 0 old_style requests
    kept_by (Err it) between opens goes honest sure done old_style requests lies =
        absurd (true≢false (sym (ap is_refused goes.0) ∙ done))
    kept_by (Ok conn) between opens goes honest sure done old_style requests lies =
        let is_there = found errand old between conn honest opens.comes old_style requests lies in
        let files = goes.3.0 in
        let closed =
        closed_ok goes.0 files visited.closed
        (or_second (is_unsure visited.was_taken visited.done) (is_err visited.closed) sure)
        (subst (λ refused. IsLeftIn refused goes.0 files visited.closed) done goes.3.2) in
        let stands = goes.1.kept (always_clean honest goes.0) done old_style requests lies.0 is_there.0 in (
          lies.0,
          (
            files,
            subst (λ b. place.Leaves b new files) is_there.1 goes.3.1,
            copied goes.0 files honest closed old_style requests stands,
          ),
        )

    left_by : SeenMayStay g → (opened : Result (Held (FileStore D g)) Unopened) (between : Option (Option (Files D)))
        → OpensPlace g true old between opened → GoesOn errand out out' between new opened visited
        → IsHonest g → is_doubtful visited ≡ false → is_refused visited.done ≡ true → LeavesDatabase g old new
    left_by stays (Err it) between opens goes honest sure refused =
        let untaken : it.was_taken ≡ false =
        sym goes.1 ∙ sym (ap (is_unsure visited.was_taken) goes.0)
        ∙ or_first (is_unsure visited.was_taken visited.done) (is_err visited.closed) sure in
        subst (λ l. LeavesDatabase g old l) (sym goes.3)
        (λ db. not_taken g old between it.fault (subst (StaysIn g old between it.fault) untaken opens.refused))
    left_by stays (Ok conn) between opens goes honest sure refused =
        let files = goes.3.0 in
        let nothing =
        refused_commits over_files conn goes.0 errand visited.was_taken visited.done goes.1.reads goes.1.refused refused
        (or_first (is_unsure visited.was_taken visited.done) (is_err visited.closed) sure) in
        let given = subst (λ refused. IsLeftIn refused goes.0 files visited.closed) refused goes.3.2 in
        given_leaves honest stays old between new conn goes.0 opens.comes nothing
        (lies_given old between new conn goes.0 files opens.comes goes.3.1 given.0)

    -- a register of this version is not migrated
    current_by : (opened : Result (Held (FileStore D g)) Unopened) (between : Option (Option (Files D)))
        → OpensPlace g true old between opened → GoesOn errand out out' between new opened visited
        → IsHonest g → (meaning errand).is_for_earlier ≡ true → (old_style : ℕ) (requests : List Request)
        → Lie old (λ files. HoldRegisterWithLog g files old_style requests) → is_refused visited.done ≡ true
    current_by (Err it) between opens goes honest migrates old_style requests lies = ap is_refused goes.0
    current_by (Ok conn) between opens goes honest migrates old_style requests lies =
        let hold = lies.2 in
        let shown = found_lying honest old between conn opens.comes hold.db (lies.0, lies.1, hold.held) in
        goes.1.current (always_clean honest goes.0) migrates old_style requests
        (subst (IsRegisterOf old_style requests) (sym shown.1) hold.register)

  -- ---- the process

  visits_by : SeenMayStay g → (errand : Errand) (out out' : Outputs) (old new : Parts g) (visited : Visited)
      → VisitsPlace g errand out out' old.lying new.lying visited
      → (new.is_certain ≡ true → is_doubtful visited ≡ false) → (new.is_certain ≡ true → old.is_certain ≡ true)
      → (is_doubtful visited ≡ false → new.is_certain ≡ old.is_certain)
      → (is_doubtful visited ≡ true → new.is_certain ≡ false)
      → new.refused_calls ≡ old.refused_calls → new.intake ≡ None
      → VisitsRegister errand out out' old new visited
  visits_by stays errand out out' old new visited visits sure certain same doubtful calls closed = record {
    told = told_by errand out out' old.lying new.lying visited visits.opened visits.between visits.opens visits.goes;
    filled = filled_by errand out out' old.lying new.lying visited visits.opened visits.between visits.opens
        visits.goes;
    unfilled = unfilled_by errand out out' old.lying new.lying visited visits.opened visits.between visits.goes;
    kept = λ honest is. kept_by errand out out' old.lying new.lying visited visits.opened visits.between
        visits.opens visits.goes honest (sure is);
    left = λ honest is. left_by errand out out' old.lying new.lying visited stays visits.opened visits.between
        visits.opens visits.goes honest (sure is);
    current = λ honest. current_by errand out out' old.lying new.lying visited visits.opened visits.between visits.opens
        visits.goes honest;
    visits = visits;
    certain = certain;
    stays = same;
    doubtful = doubtful;
    calls = calls;
    is_closed = closed;
  }

  pub visits_sure : SeenMayStay g → (errand : Errand) (out out' : Outputs) (old new : Parts g) (visited : Visited)
      → VisitsPlace g errand out out' old.lying new.lying visited → is_doubtful visited ≡ false
      → new.is_certain ≡ old.is_certain → new.refused_calls ≡ old.refused_calls → new.intake ≡ None
      → VisitsRegister errand out out' old new visited
  visits_sure stays errand out out' old new visited visits sure same =
      visits_by stays errand out out' old new visited visits (λ _. sure) (λ certain. sym same ∙ certain) (λ _. same)
      (λ doubtful. absurd (true≢false (sym doubtful ∙ sure)))

  pub visits_unsure : SeenMayStay g → (errand : Errand) (out out' : Outputs) (old new : Parts g) (visited : Visited)
      → VisitsPlace g errand out out' old.lying new.lying visited → is_doubtful visited ≡ true → new.is_certain ≡ false
      → new.refused_calls ≡ old.refused_calls → new.intake ≡ None
      → VisitsRegister errand out out' old new visited
  visits_unsure stays errand out out' old new visited visits doubtful unsure =
      visits_by stays errand out out' old new visited visits
      (λ certain. absurd (true≢false (sym certain ∙ unsure)))
      (λ certain. absurd (true≢false (sym certain ∙ unsure)))
      (λ sure. absurd (true≢false (sym doubtful ∙ sure))) (λ _. unsure)
