-- What is kept while a register is opened and closed.
use Rattle.std.proofs.Common.{◌≡◌, ℕ, Bool, true, false, true≢false, List, [], length, Option, Some, None, Result, Ok}
use Rattle.std.proofs.Common.{Err, IsSome, OnOk, refl, sym, ◌∙◌, ap, ap₂, subst}
use Rattle.std.specs.Prelude.{◌↔◌, is_err, if◌then◌else◌, IfErr, IfSome}
use Rattle.sqlite_disk.specs.declared.Disk.{Ghosts}
use Rattle.sqlite_disk.specs.declared.Files.{Files}
use Rattle.sqlite_store.specs.declared.store.FileStore.{FileStore}
use Rattle.sqlite.specs.Held.{Held}
use Rattle.sqlite.specs.declared.error.Error.{Error}
use Rattle.sqlite.specs.Files.{file_state, over_files}
use Rattle.filing_model.specs.Request.{Request}
use Rattle.register_tables.specs.Registers.{IsRegisterOf}
use Rattle.intake_core.specs.declared.intake.Intake.{Intake}
use Rattle.intake_core.specs.Held.{limit_of, has_stopped}
use Rattle.table_rows.proofs.CleanLemmas.{always_clean}
use Rattle.table_rows.specs.Standing.{HasCommitted}
use Rattle.sqlite_wal.proofs.LogLemmas.{SeenMayStay}
use Rattle.command_line.specs.declared.fault.DatabaseFault.TheVariants.{Missing}
use Rattle.database_places.proofs.Certainty.{sure_after}
use Rattle.database_places.proofs.Finding.{found_lying, read_lying}
use Rattle.database_places.proofs.Leaving.{closed_leaves}
use Rattle.database_places.proofs.Lying.{came_empty, gives_back, lie_left, stayed}
use Rattle.database_places.proofs.Options.{not_some}
pub use Rattle.database_places.proofs.Options.{none_of}
use Rattle.database_places.specs.Closing.{IsClosedIn, IsNotClosed, IsGivenUp}
use Rattle.database_places.specs.Opening.{ComesFrom, StaysIn}
use Rattle.database_places.specs.Places.{IsHonest}
use Rattle.database_places.specs.Places as place
use Rattle.intake_process.specs.declared.beginning.Totals.{Totals}
use Rattle.register_extracts.specs.declared.fault.Why.{Why}
use Rattle.register_extracts.specs.declared.fault.Why.TheVariants as why
use Rattle.intake_process.specs.declared.fault.Refusal.{Refusal}
use Rattle.intake_process.specs.Fault.{leaves_doubt}
use Rattle.intake_process.specs.declared.process.Closed.{Closed}
use Rattle.intake_process.specs.declared.process.AnsweredBy.{AnsweredBy}
use Rattle.intake_process.specs.declared.process.AnsweredBy.TheVariants as outcome
use Rattle.intake_process.specs.Beginning.{HoldsAs, AreTotals, FindsIntake, MakesIntake, IsNotBegun}
use Rattle.connection_hall.specs.declared.stream.Stream.{Ghosts as Streams}
use Rattle.gateway_rounds.specs.Ports.{Port}
use Rattle.intake_process.specs.Process.{Parts, IsAwake, IsUp, AnswersPortBy, KeepsBy, IsNotOpened, without_files}
use Rattle.intake_process.specs.Process.{HoldRegisterWithLog, IsLeftBy, Leaves, OpensOver, OpensProcess}
use Rattle.intake_process.specs.Process.{ClosesProcess}
use Rattle.intake_process.proofs.Left.{keeps_left, none_left, unopened_leaves}

pub not_true : (b : Bool) → (b ≡ true → ⊥) → b ≡ false
not_true true other = absurd (other refl)
not_true false other = refl

pub then_ok : {A E X : Type 0} (r : Result A E) → X → OnOk r X
then_ok (Ok a) x = x
then_ok (Err e) x = tt

pub not_ok : {A E : Type 0} (X : Type 0) (r : Result A E) → is_err r ≡ true → OnOk r X
not_ok X (Ok a) is = absurd (true≢false (sym is))
not_ok X (Err e) is = tt

pub ok_gives : {A E X : Type 0} (r : Result A E) → is_err r ≡ false → OnOk r X → X
ok_gives (Ok a) is x = x
ok_gives (Err e) is x = absurd (true≢false is)

module _ {D : Type 0} (g : Ghosts D) where
  -- files that lay there lie there
  back_of : (has : Bool) (old new : Option (Option (Files D))) (was_taken : Bool) (it : Why)
      → IsNotOpened g has old new was_taken it → (there : Files D) → old ≡ Some (Some there)
      → (files : Files D) × (new ≡ Some (Some files))
  back_of has old new was_taken (why.Files fault) is there lies = stayed g old new fault was_taken is.refused there lies
  back_of has old new was_taken other is there lies = lie_left old new is.1 is.4 there lies

  -- the files of a place that has none are missing
  none_missing : (has : Bool) (old new : Option (Option (Files D))) (was_taken : Bool) (it : Why)
      → IsNotOpened g has old new was_taken it → old ≡ Some None → it ≡ why.Files Missing → was_taken ≡ false
      → new ≡ Some None
  none_missing has old new was_taken it unopened none is untaken =
      let refusal : IsNotOpened g has old new false (why.Files Missing) =
      subst (λ f. IsNotOpened g has old new false f) is
      (subst (λ b. IsNotOpened g has old new b it) untaken unopened) in
      subst (λ l. StaysIn g l new Missing false) none refusal.refused

module _ {D : Type 0} {g : Ghosts D} where
  -- ---- it is opened

  -- a refusal that leaves no doubt and no files, where none lay, leaves all as it was
  unchanged : (old new : Parts g) (doubt : Bool) → new.is_certain ≡ (if doubt then false else old.is_certain)
      → doubt ≡ false → old.intake ≡ None → new.intake ≡ None → new.refused_calls ≡ old.refused_calls
      → old.lying ≡ Some None → new.lying ≡ Some None → new ≡ old
  unchanged old new doubt certain sure none closed calls lay lies =
      let same : new.is_certain ≡ old.is_certain =
      subst (λ d. new.is_certain ≡ (if d then false else old.is_certain)) sure certain in
      λ i. record {
        intake = (closed ∙ sym none) i;
        lying = (lies ∙ sym lay) i;
        is_certain = same i;
        refused_calls = calls i;
      }

  -- a refusal leaves it closed, and what lay there, unless it leaves doubt
  pub refuses : SeenMayStay g → (has : Bool) (limit : ℕ) (old new : Parts g) (was_taken : Bool) (refusal : Refusal)
      → new.is_certain ≡ (if leaves_doubt was_taken refusal.why then false else old.is_certain)
      → old.intake ≡ None → new.intake ≡ None → new.refused_calls ≡ old.refused_calls
      → IsNotOpened g has old.lying new.lying was_taken refusal.why
      → (has ≡ true → old.lying ≡ Some None → (refusal ≡ without_files Missing) × (was_taken ≡ false))
      → OpensProcess g has limit old new (Err refusal)
  refuses stays has limit old new was_taken refusal certain none closed calls unopened absent =
      let it = refusal.why in
      let is_missing : has ≡ true → old.lying ≡ Some None → it ≡ why.Files Missing =
      λ is lies. ap (λ (r : Refusal). r.why) (absent is lies).0 in
      let sure = sure_after (leaves_doubt was_taken it) old.is_certain new.is_certain certain in
      let left = λ (honest : IsHonest g) (is : new.is_certain ≡ true).
      unopened_leaves honest stays has old.lying new.lying was_taken it unopened (sure is).0 in
      let leaves : IsHonest g → Leaves limit old new =
      λ honest. record {
        kept = λ old_style F keeps is.
            subst (λ i. KeepsBy {g = g} i new.lying limit old_style F) (sym closed)
            (keeps_left old.lying new.lying (left honest is) limit old_style F
            (subst (λ i. KeepsBy {g = g} i old.lying limit old_style F) none (keeps (sure is).1)));
        certain = λ is. (sure is).1;
      } in
      record {
        leaves = λ honest is. leaves honest;
        counted = λ honest is certain old_style F keeps. tt;
        made = λ honest is none known. tt;
        unmade = leaves;
        left = left;
        absent = λ _ is lies. (
          unchanged old new (leaves_doubt was_taken it) certain
              (ap₂ leaves_doubt (absent is lies).1 (is_missing is lies)) none closed calls lies
              (none_missing g has old.lying new.lying was_taken it unopened lies (is_missing is lies)
              (absent is lies).1),
          ap (λ (r : Refusal). Err r) (absent is lies).0,
        );
        nothing = λ honest _ lay is.
            unchanged old new (leaves_doubt was_taken it) certain (sure is).0 none closed calls lay
            (none_left g honest has old.lying new.lying was_taken it unopened lay (λ there. is_missing there lay)
            (sure is).0);
        read = λ honest _ files lies. tt;
        certain = tt;
        is_open = tt;
        limited = λ _. tt;
        up = λ _. tt;
        already = λ some. not_some old.intake none some;
        calls = calls;
        why = (was_taken, unopened, certain);
        refused = closed;
        back = back_of g has old.lying new.lying was_taken it unopened;
      }

  -- nothing happens to one that is open
  pub is_open : (has : Bool) (limit : ℕ) (process : Parts g) → IsSome process.intake
      → OpensProcess g has limit process process (Ok None)
  is_open has limit process some = record {
    leaves = λ honest is. record { kept = λ old_style F keeps. keeps; certain = λ certain. certain };
    counted = λ honest is certain old_style F keeps. tt;
    made = λ honest is none known. not_some process.intake none some;
    unmade = λ honest. tt;
    left = λ honest is. tt;
    absent = λ none is lies. not_some process.intake none some;
    nothing = λ honest _ lies is. tt;
    read = λ honest none files lies. not_some process.intake none some;
    certain = refl;
    is_open = some;
    limited = λ none. not_some process.intake none some;
    up = λ none. not_some process.intake none some;
    already = λ _. (refl, refl);
    calls = refl;
    why = tt;
    refused = tt;
    back = tt;
  }

  -- no intake began over the database of the place, which was given up
  pub not_begun : (has : Bool) (old mid new : Option (Option (Files D))) (conn back : Held (FileStore D g))
      (files : Files D) (it : Why) → ComesFrom old mid conn → IsNotBegun over_files has conn it back
      → place.Leaves mid new files → IsGivenUp back files → IsNotOpened g has old new true it
  not_begun has old mid new conn back files (why.Files fault) comes is leaves given = absurd is
  not_begun has old mid new conn back files other comes is leaves given =
      gives_back old mid new conn back files comes is leaves given

  found_there : (has : Bool) (limit : ℕ) (old new : Parts g) (conn : Held (FileStore D g))
      (intake : Intake (FileStore D g)) (totals : Totals) → old.intake ≡ None → ComesFrom old.lying new.lying conn
      → FindsIntake over_files conn limit intake totals
      → IsHonest g → (old_style : ℕ) (F : List Request) → KeepsBy old.intake old.lying limit old_style F
      → (HoldsAs over_files limit old_style F intake × AreTotals F totals) × (new.lying ≡ Some None)
  found_there has limit old new conn intake totals none comes finds_it honest old_style F keeps =
      let lies = subst (λ i. KeepsBy {g = g} i old.lying limit old_style F) none keeps in
      let hold = lies.1.2 in
      let found =
      found_lying honest old.lying new.lying conn comes hold.db (lies.1.0, lies.1.1, hold.held) in (
        finds_it.holds (always_clean honest intake.store.conn) old_style F lies.0
            (subst (IsRegisterOf old_style F) (sym found.1) hold.register),
        found.2,
      )

  opens_over : (has : Bool) (limit : ℕ) (new : Parts g) (conn : Held (FileStore D g))
      (intake : Intake (FileStore D g)) (totals : Totals) → new.intake ≡ Some intake → IsHonest g
      → new.lying ≡ Some None → (has ≡ true → FindsIntake over_files conn limit intake totals)
      → (has ≡ false → MakesIntake over_files conn limit intake totals)
      → OpensOver has limit conn new
  opens_over true limit new conn intake totals up honest taken found made =
      let clean = always_clean honest intake.store.conn in (
        (found refl).is_one clean,
        λ old_style requests once is. subst (λ i. KeepsBy i new.lying limit old_style requests) (sym up)
            (((found refl).holds clean old_style requests once is).0, taken),
      )
  opens_over false limit new conn intake totals up honest taken found made = (made refl).0

  -- it is open
  pub opens : (has : Bool) (limit : ℕ) (old new : Parts g) (conn : Held (FileStore D g))
      (intake : Intake (FileStore D g)) (totals : Totals) → old.intake ≡ None → new.intake ≡ Some intake
      → new.is_certain ≡ old.is_certain → new.refused_calls ≡ old.refused_calls → has_stopped intake ≡ false
      → ComesFrom old.lying new.lying conn
      → (has ≡ true → FindsIntake over_files conn limit intake totals)
      → (has ≡ false → MakesIntake over_files conn limit intake totals) → limit_of intake ≡ limit
      → (has ≡ true → old.lying ≡ Some None → ⊥) → OpensProcess g has limit old new (Ok (Some totals))
  opens has limit old new conn intake totals none up same calls awake comes found made limited there = record {
    leaves = λ honest is. record {
      kept = λ old_style F keeps certain.
          let held =
          found_there has limit old new conn intake totals none comes (found is) honest old_style F
          (keeps (sym same ∙ certain)) in
          subst (λ i. KeepsBy i new.lying limit old_style F) (sym up) (held.0.0, held.1);
      certain = λ certain. sym same ∙ certain;
    };
    counted =
        λ honest is certain old_style F keeps. (found_there has limit old new conn intake totals none comes (found is)
        honest old_style F (keeps certain)).0.1;
    made = λ honest is closed known certain. subst (λ i. KeepsBy i new.lying limit 0 []) (sym up)
        (((made is).1 (always_clean honest intake.store.conn)).0, came_empty old.lying new.lying conn known comes);
    unmade = λ honest. tt;
    left = λ honest is. tt;
    absent = λ _ is lies. absurd (there is lies);
    nothing = λ honest _ lies is. tt;
    read = λ honest _ files lies.
        let read = read_lying honest old.lying new.lying conn comes files lies in (
          conn,
          subst (λ l. ComesFrom old.lying l conn) read.1 comes,
          read.0,
          opens_over has limit new conn intake totals up honest read.1 found made,
        );
    certain = same;
    is_open = subst (λ i. IsSome i) (sym up) refl;
    limited = λ _. subst (λ i. IfSome i (λ intake. limit_of intake ≡ limit)) (sym up) limited;
    up = λ _. subst (λ i. IsUp i) (sym up) awake;
    already = λ some. not_some old.intake none some;
    calls = calls;
    why = tt;
    refused = tt;
    back = tt;
  }

  -- ---- it is closed

  -- what was committed is in the files that it leaves
  pub copied : (conn : Held (FileStore D g)) (files : Files D) → IsHonest g → IsClosedIn g conn files
      → (old_style : ℕ) (requests : List Request) → HasCommitted (IsRegisterOf old_style requests) (file_state conn)
      → HoldRegisterWithLog g files old_style requests
  copied conn files honest closed old_style requests stands =
      let left =
      closed_leaves honest conn files closed stands (λ db (it : IsRegisterOf old_style requests db). it.sound) in
      record { db = (file_state conn).now; register = left.0; held = left.1 }

  kept_closed : (intake : Intake (FileStore D g)) (files : Files D) (lying lying' : Option (Option (Files D)))
      → IsHonest g → IsClosedIn g intake.store.conn files → place.Leaves lying lying' files
      → (limit old_style : ℕ) (F : List Request) → KeepsBy (Some intake) lying limit old_style F
      → KeepsBy {g = g} None lying' limit old_style F
  kept_closed intake files lying lying' honest closed leaves limit old_style F keeps =
      let conn = intake.store.conn in
      let stands =
      subst (λ n. HasCommitted (IsRegisterOf n F) (file_state conn)) keeps.0.old_style_is keeps.0.holds.rows.stands in (
        keeps.0.holds.firsts',
        (
          files,
          subst (λ l. place.Leaves l lying' files) keeps.1 leaves,
          copied conn files honest closed old_style F stands,
        ),
      )

  counts : (intake : Intake (FileStore D g)) (old : Parts g) → old.intake ≡ Some intake
      → (limit old_style : ℕ) (F : List Request) → KeepsBy old.intake old.lying limit old_style F
      → intake.store.kept ≡ length F
  counts intake old up limit old_style F keeps =
      (subst (λ i. KeepsBy i old.lying limit old_style F) up keeps).0.holds.rows.kept_is

  abbrev Left : Intake (FileStore D g) → Parts g → Parts g → Closed → Type 0
  Left intake old new closed =
      (files : Files D) × place.Leaves old.lying new.lying files × IsLeftBy g intake.store.conn files closed.outcome

  -- how the files were left
  pub left_by : (conn : Held (FileStore D g)) (old new : Option (Option (Files D))) (outcome : Result (Unit {0}) Error)
      → OnOk outcome ((files : Files D) × place.Leaves old new files × IsClosedIn g conn files)
      → IfErr outcome (λ error. (files : Files D) × place.Leaves old new files × IsNotClosed conn files error)
      → (files : Files D) × place.Leaves old new files × IsLeftBy g conn files outcome
  left_by conn old new (Ok done) closed failed = closed
  left_by conn old new (Err error) closed failed = failed

  -- nothing happens to one that is closed
  pub closes_none : (old new : Parts g) (closed : Closed) → old.intake ≡ None → new ≡ old → closed.outcome ≡ Ok tt
      → ClosesProcess g old new closed
  closes_none old new closed none same is = record {
    leaves = λ honest limit. subst (λ p. Leaves limit old p) (sym same)
        (record { kept = λ old_style F keeps. keeps; certain = λ certain. certain });
    counted = λ honest some certain limit old_style F keeps. not_some old.intake none some;
    certain = then_ok closed.outcome (ap (λ (p : Parts g). p.is_certain) same);
    files = subst (λ i. IfSome i (λ intake. Left intake old new closed)) (sym none) tt;
    is_closed = ap (λ (p : Parts g). p.intake) same ∙ none;
    already = λ _. (same, is);
    calls = ap (λ (p : Parts g). p.refused_calls) same;
  }

  not_both : {X : Type 0} (old : Parts g) (intake : Intake (FileStore D g)) → old.intake ≡ Some intake
      → old.intake ≡ None → X
  not_both old intake up none = absurd (let no : None ≡ Some intake = sym none ∙ up in cc)

  pub closes : (intake : Intake (FileStore D g)) (files : Files D) (old new : Parts g) (closed : Closed)
      → old.intake ≡ Some intake → new.intake ≡ None → new.is_certain ≡ old.is_certain
      → new.refused_calls ≡ old.refused_calls → closed.kept ≡ intake.store.kept → IsClosedIn g intake.store.conn files
      → place.Leaves old.lying new.lying files → Left intake old new closed
      → ClosesProcess g old new closed
  closes intake files old new closed up shut same calls kept is leaves left = record {
    leaves = λ honest limit. record {
      kept = λ old_style F keeps certain.
          subst (λ i. KeepsBy {g = g} i new.lying limit old_style F) (sym shut)
          (kept_closed intake files old.lying new.lying honest is leaves limit old_style F
          (subst (λ i. KeepsBy i old.lying limit old_style F) up (keeps (sym same ∙ certain))));
      certain = λ certain. sym same ∙ certain;
    };
    counted =
        λ honest some certain limit old_style F keeps. kept ∙ counts intake old up limit old_style F (keeps certain);
    certain = then_ok closed.outcome same;
    files = subst (λ i. IfSome i (λ it. Left it old new closed)) (sym up) left;
    is_closed = shut;
    already = not_both old intake up;
    calls = calls;
  }

  pub not_closes : (intake : Intake (FileStore D g)) (old new : Parts g) (closed : Closed) → old.intake ≡ Some intake
      → new.intake ≡ None → new.is_certain ≡ false → new.refused_calls ≡ old.refused_calls
      → closed.kept ≡ intake.store.kept → is_err closed.outcome ≡ true → Left intake old new closed
      → ClosesProcess g old new closed
  not_closes intake old new closed up shut unsure calls kept failed left = record {
    leaves = λ honest limit. record {
      kept = λ old_style F keeps certain. absurd (true≢false (sym certain ∙ unsure));
      certain = λ certain. absurd (true≢false (sym certain ∙ unsure));
    };
    counted =
        λ honest some certain limit old_style F keeps. kept ∙ counts intake old up limit old_style F (keeps certain);
    certain = not_ok _ closed.outcome failed;
    files = subst (λ i. IfSome i (λ it. Left it old new closed)) (sym up) left;
    is_closed = shut;
    already = not_both old intake up;
    calls = calls;
  }

  -- ---- its database refused a call, or not

  awake_by : (o : AnsweredBy) (intake : Intake (FileStore D g)) (last new : Option (Intake (FileStore D g)))
      → last ≡ Some intake → (o ≡ outcome.Failed) ↔ (has_stopped intake ≡ true) → (o ≡ outcome.Failed → new ≡ None)
      → ((o ≡ outcome.Failed → ⊥) → new ≡ last) → IsAwake new
  awake_by outcome.Served intake last new is stops closed others =
      let other : outcome.Served ≡ outcome.Failed → ⊥ = λ e. cc in
      subst (λ i. IsAwake i) (sym (others other ∙ is))
      (not_true (has_stopped intake) (λ stopped. other (stops.1 stopped)))
  awake_by outcome.Failed intake last new is stops closed others = subst (λ i. IsAwake i) (sym (closed refl)) tt
  awake_by outcome.TurnedAway intake last new is stops closed others =
      let other : outcome.TurnedAway ≡ outcome.Failed → ⊥ = λ e. cc in
      subst (λ i. IsAwake i) (sym (others other ∙ is))
      (not_true (has_stopped intake) (λ stopped. other (stops.1 stopped)))

  -- it is closed after that
  pub awake : {S N : Type 0} (s : Streams S N) (port port' : Port S) (first last new : Option (Intake (FileStore D g)))
      (by : AnsweredBy) → AnswersPortBy s port port' first last by → (by ≡ outcome.Failed → new ≡ None)
      → ((by ≡ outcome.Failed → ⊥) → new ≡ last) → IsAwake new
  awake s port port' (Some intake) last new by answered closed others =
      awake_by by answered.0 last new answered.1 answered.3 closed others
  awake s port port' None last new by answered closed others =
      let other : by ≡ outcome.Failed → ⊥ =
      λ failed. (let no : outcome.TurnedAway ≡ outcome.Failed = sym answered.2 ∙ failed in cc) in
      subst (λ i. IsAwake i) (sym (others other ∙ answered.0)) tt
