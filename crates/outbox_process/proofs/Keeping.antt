-- What is kept while an outbox is opened and closed.
use Rattle.std.proofs.Common.{◌≡◌, true, false, true≢false, Option, Some, None, Result, Ok, Err, IsSome, IfErr, OnOk}
use Rattle.std.proofs.Common.{inl, inr, refl, sym, ◌∙◌, ap, subst}
use Rattle.std.specs.Prelude.{Bool, if◌then◌else◌, is_err}
use Rattle.sqlite_disk.specs.declared.Disk.{Ghosts}
use Rattle.sqlite_disk.specs.declared.Files.{Files}
use Rattle.sqlite_store.specs.declared.store.FileStore.{FileStore}
use Rattle.sqlite_wal.proofs.LogLemmas.{SeenMayStay}
use Rattle.sqlite.specs.Held.{Held}
use Rattle.sqlite.specs.Files.{file_state, over_files}
use Rattle.sqlite.specs.declared.error.Error.{Error}
use Rattle.sqlite.specs.Effect.{Database}
use Rattle.table_rows.specs.Standing.{HasCommitted}
use Rattle.table_rows.proofs.CleanLemmas.{always_clean}
use Rattle.outbox_tables.specs.Earlier.{IsAlone, IsEarlierOf}
use Rattle.outbox_tables.specs.Entries.{Contents, contents_of}
use Rattle.outbox_tables.specs.Rows.{IsOutboxOf}
use Rattle.outbox_core.specs.OutboxParts.{OutboxParts}
use Rattle.command_line.specs.declared.fault.DatabaseFault.TheVariants.{Missing}
use Rattle.database_places.specs.Closing.{IsClosedIn, IsGivenUp, IsNotClosed}
use Rattle.database_places.specs.Opening.{ComesFrom}
use Rattle.database_places.specs.Places.{IsHonest}
use Rattle.database_places.specs.Places as place
use Rattle.database_places.proofs.Certainty.{sure_after}
use Rattle.database_places.proofs.Finding.{found_lying, read_lying}
use Rattle.database_places.proofs.Leaving.{closed_leaves}
use Rattle.database_places.proofs.Lying.{came_empty, gives_back, lie_left, stayed}
use Rattle.database_places.proofs.Options.{not_some}
use Rattle.outbox_process.specs.declared.beginning.Beginning.{Beginning}
use Rattle.outbox_process.specs.declared.beginning.Beginning.TheVariants.{Found, Made, Migrated}
use Rattle.outbox_process.specs.declared.fault.NotOpened.{NotOpened}
use Rattle.outbox_process.specs.declared.fault.Why.{Why}
use Rattle.outbox_process.specs.Beginning.{HasContents, BeginsOutbox}
use Rattle.outbox_process.specs.Process.{Parts, KeepsBy, Keeps, Leaves, BeginsWith, IsNotOpened, IsUp}
use Rattle.outbox_process.specs.Faults.{leaves_doubt}
use Rattle.outbox_process.specs.Process.{has_to_be_there, without_files, OpensOver, OpensProcess}
use Rattle.outbox_process.specs.Process.{ClosesProcess}
use Rattle.outbox_process.specs.Refusals.{RefusesOutbox}
use Rattle.outbox_process.proofs.Refusing.{lies_still, of_current, still_vacant}

-- files that lay there lie there
back_of : {D : Type 0} (g : Ghosts D) (beginning : Beginning) (old new : Option (Option (Files D)))
    (was_taken : Bool) (why : Why) → IsNotOpened g beginning old new was_taken why → (there : Files D)
    → old ≡ Some (Some there) → (files : Files D) × (new ≡ Some (Some files))
back_of g beginning old new taken why (inl is) there lies = stayed g old new is.0 taken is.2.refused there lies
back_of g beginning old new taken why (inr is) there lies = lie_left old new is.1 is.4 there lies

module _ {D : Type 0} {g : Ghosts D} where
  -- ---- it is opened

  -- what was kept is kept after a refusal that leaves no doubt
  still_keeps : IsHonest g → SeenMayStay g → (beginning : Beginning) (old new : Parts g) (was_taken : Bool)
      (why : Why) → old.outbox ≡ None → new.outbox ≡ None
      → new.is_certain ≡ (if leaves_doubt was_taken why then false else old.is_certain)
      → IsNotOpened g beginning old.lying new.lying was_taken why → Leaves old new
  still_keeps honest stays beginning old new was_taken why none closed by is = record {
    kept = λ it keeps certain.
        let both = sure_after (leaves_doubt was_taken why) old.is_certain new.is_certain by certain in
        let lie = subst (λ o. KeepsBy {g = g} o old.lying it) none (keeps both.1) in
        subst (λ o. KeepsBy {g = g} o new.lying it) (sym closed)
        (lies_still honest stays beginning old.lying new.lying it lie was_taken why both.0 is);
    certain = λ certain. (sure_after (leaves_doubt was_taken why) old.is_certain new.is_certain by certain).1;
  }

  -- a refusal leaves it closed
  pub refuses : SeenMayStay g → (beginning : Beginning) (old new : Parts g) (was_taken : Bool) (refusal : NotOpened)
      → new.is_certain ≡ (if leaves_doubt was_taken refusal.why then false else old.is_certain)
      → old.outbox ≡ None → new.outbox ≡ None → IsNotOpened g beginning old.lying new.lying was_taken refusal.why
      → (has_to_be_there beginning ≡ true → old.lying ≡ Some None → refusal ≡ without_files Missing)
      → OpensProcess g beginning old new (Err refusal)
  refuses stays beginning old new was_taken refusal by none closed is absent = record {
    keeps = λ honest it begins. tt;
    absent = λ _ has lies. ap (λ (f : NotOpened). Err f) (absent has lies);
    read = λ honest _ files lies. tt;
    current = λ honest migrated none certain it keeps. (
      tt,
      of_current honest old.lying new.lying was_taken refusal.why it
          (subst (λ b. IsNotOpened g b old.lying new.lying was_taken refusal.why) migrated is)
          (subst (λ o. KeepsBy {g = g} o old.lying it) none (keeps certain)),
    );
    certain = tt;
    is_open = tt;
    up = λ _. tt;
    already = λ some. not_some old.outbox none some;
    refused = (was_taken, is, closed, by);
    unharmed = λ honest. still_keeps honest stays beginning old new was_taken refusal.why none closed by is;
    back = back_of g beginning old.lying new.lying was_taken refusal.why is;
    vacant = λ honest _ lies certain.
        still_vacant g honest beginning new.lying was_taken refusal.why
        (sure_after (leaves_doubt was_taken refusal.why) old.is_certain new.is_certain by certain).0
        (subst (λ l. IsNotOpened g beginning l new.lying was_taken refusal.why) lies is)
        (λ has. ap (λ (f : NotOpened). f.why) (absent has lies));
  }

  keeps_open : (beginning : Beginning) (process : Parts g) (it : Contents) → IsSome process.outbox
      → BeginsWith beginning process it → Keeps process it
  keeps_open Found process it some begins = begins
  keeps_open (Made filer) process it some begins = not_some process.outbox begins.0 some
  keeps_open Migrated process it some begins = not_some process.outbox begins.0 some

  -- nothing happens to one that is open
  pub is_open : (beginning : Beginning) (process : Parts g) → IsSome process.outbox
      → OpensProcess g beginning process process (Ok tt)
  is_open beginning process some = record {
    keeps = λ honest it begins. keeps_open beginning process it some begins;
    absent = λ none has lies. not_some process.outbox none some;
    read = λ honest none files lies. not_some process.outbox none some;
    current = λ honest is none certain it keeps. not_some process.outbox none some;
    certain = refl;
    is_open = some;
    up = λ none. not_some process.outbox none some;
    already = λ _. (refl, refl);
    refused = tt;
    unharmed = λ honest. tt;
    back = tt;
    vacant = λ honest none lies. tt;
  }

  -- no outbox began over the database of the place, which was given up
  pub not_begun : (beginning : Beginning) (old mid new : Option (Option (Files D)))
      (conn back : Held (FileStore D g)) (files : Files D) (why : Why) → ComesFrom old mid conn
      → RefusesOutbox over_files beginning conn back why → place.Leaves mid new files → IsGivenUp back files
      → IsNotOpened g beginning old new true why
  not_begun beginning old mid new conn back files why comes is leaves given =
      inr (gives_back old mid new conn back files comes is leaves given)

  keeps_begun : (beginning : Beginning) (old new : Parts g) (conn : Held (FileStore D g))
      (outbox : OutboxParts (FileStore D g)) → old.outbox ≡ None → new.is_certain ≡ old.is_certain
      → ComesFrom old.lying new.lying conn → BeginsOutbox over_files beginning conn outbox
      → IsHonest g → (it : Contents) → BeginsWith beginning old it → new.is_certain ≡ true
      → HasContents over_files outbox it × (new.lying ≡ Some None)
  keeps_begun Found old new conn outbox none same comes begun honest it begins certain =
      let lie = subst (λ o. KeepsBy {g = g} o old.lying it) none (begins (sym same ∙ certain)) in
      let shown = found_lying honest old.lying new.lying conn comes lie.2.db (lie.0, lie.1, lie.2.held) in
      (begun.only (always_clean honest outbox.conn) it (subst (IsOutboxOf it) (sym shown.1) lie.2.outbox), shown.2)
  keeps_begun (Made filer) old new conn outbox none same comes begun honest it begins certain = (
    subst (HasContents over_files outbox) (sym begins.2) (begun.1 (always_clean honest outbox.conn)),
    came_empty old.lying new.lying conn begins.1 comes,
  )
  keeps_begun Migrated old new conn outbox none same comes begun honest it begins certain =
      let lie = begins.1 in
      let shown = found_lying honest old.lying new.lying conn comes lie.2.db (lie.0, lie.1, lie.2.held) in (
        (begun (always_clean honest outbox.conn)).0.1 it
            (subst (λ (db : Database). IsAlone db.schema) (sym shown.1) lie.2.alone)
            (subst (IsEarlierOf it) (sym shown.1) lie.2.earlier),
        shown.2,
      )

  opens_over : (beginning : Beginning) (new : Parts g) (conn : Held (FileStore D g))
      (outbox : OutboxParts (FileStore D g)) → new.outbox ≡ Some outbox → IsHonest g → new.lying ≡ Some None
      → BeginsOutbox over_files beginning conn outbox → OpensOver beginning conn new
  opens_over Found new conn outbox up honest taken begun =
      let is_one = begun.is_one (always_clean honest outbox.conn) in (
        (outbox.filer, is_one.0),
        λ declared.
            let one = is_one.1 declared in
            (one.0, one.1, subst (λ o. KeepsBy o new.lying one.0) (sym up) (one.2, taken)),
      )
  opens_over (Made filer) new conn outbox up honest taken begun = begun.0
  opens_over Migrated new conn outbox up honest taken begun = λ alone.
      let one = (begun (always_clean honest outbox.conn)).0.0 alone in
      (one.0, one.1, subst (λ o. KeepsBy o new.lying one.0) (sym up) (one.2, taken))

  not_current : (old new : Parts g) (conn : Held (FileStore D g)) (outbox : OutboxParts (FileStore D g))
      → old.outbox ≡ None → ComesFrom old.lying new.lying conn → BeginsOutbox over_files Migrated conn outbox
      → IsHonest g → (it : Contents) → KeepsBy old.outbox old.lying it → ⊥
  not_current old new conn outbox none comes begun honest it keeps =
      let lie = subst (λ o. KeepsBy {g = g} o old.lying it) none keeps in
      let shown = found_lying honest old.lying new.lying conn comes lie.2.db (lie.0, lie.1, lie.2.held) in
      (begun (always_clean honest outbox.conn)).1 it (subst (IsOutboxOf it) (sym shown.1) lie.2.outbox)

  -- it is open
  pub opens : (beginning : Beginning) (old new : Parts g) (conn : Held (FileStore D g))
      (outbox : OutboxParts (FileStore D g)) → old.outbox ≡ None → new.outbox ≡ Some outbox
      → new.is_certain ≡ old.is_certain → ComesFrom old.lying new.lying conn
      → BeginsOutbox over_files beginning conn outbox → outbox.has_failed ≡ false
      → (has_to_be_there beginning ≡ true → old.lying ≡ Some None → ⊥)
      → OpensProcess g beginning old new (Ok tt)
  opens beginning old new conn outbox none up same comes begun able there = record {
    keeps = λ honest it begins certain. subst (λ o. KeepsBy o new.lying it) (sym up)
        (keeps_begun beginning old new conn outbox none same comes begun honest it begins certain);
    absent = λ _ has lies. absurd (there has lies);
    read = λ honest _ files lies.
        let read = read_lying honest old.lying new.lying conn comes files lies in (
          conn,
          subst (λ l. ComesFrom old.lying l conn) read.1 comes,
          read.0,
          opens_over beginning new conn outbox up honest read.1 begun,
        );
    current = λ honest is none certain it keeps. (
      not_current old new conn outbox none comes (subst (λ b. BeginsOutbox over_files b conn outbox) is begun) honest
          it (keeps certain),
      tt,
    );
    certain = same;
    is_open = subst (λ o. IsSome o) (sym up) refl;
    up = λ _. subst (λ o. IsUp o) (sym up) able;
    already = λ some. not_some old.outbox none some;
    refused = tt;
    unharmed = λ honest. tt;
    back = tt;
    vacant = λ honest none lies. tt;
  }

  -- ---- it is closed

  copied : (outbox : OutboxParts (FileStore D g)) (files : Files D) (lying lying' : Option (Option (Files D)))
      → IsHonest g → IsClosedIn g outbox.conn files → place.Leaves lying lying' files → (it : Contents)
      → KeepsBy (Some outbox) lying it → KeepsBy {g = g} None lying' it
  copied outbox files lying lying' honest closed leaves it keeps =
      let conn = outbox.conn in
      let stands =
      subst (λ filer. HasCommitted (IsOutboxOf (contents_of filer it.entries)) (file_state conn)) keeps.0.1
      keeps.0.0.stands in
      let left = closed_leaves honest conn files closed stands (λ db (is : IsOutboxOf it db). is.sound) in (
        files,
        subst (λ l. place.Leaves l lying' files) keeps.1 leaves,
        record { db = (file_state conn).now; outbox = left.0; held = left.1 },
      )

  pub closes : (outbox : OutboxParts (FileStore D g)) (files : Files D) (old new : Parts g) → old.outbox ≡ Some outbox
      → new.outbox ≡ None → new.is_certain ≡ old.is_certain → IsClosedIn g outbox.conn files
      → place.Leaves old.lying new.lying files → ClosesProcess g old new (Ok tt)
  closes outbox files old new up shut same is leaves = record {
    leaves = λ honest. record {
      kept = λ it keeps certain.
          subst (λ o. KeepsBy {g = g} o new.lying it) (sym shut)
          (copied outbox files old.lying new.lying honest is leaves it
          (subst (λ o. KeepsBy o old.lying it) up (keeps (sym same ∙ certain))));
      certain = λ certain. sym same ∙ certain;
    };
    certain = same;
    unsure = tt;
    files = rw up (files, leaves, is);
    is_closed = shut;
    already = λ none. not_some old.outbox none (rw up refl);
  }

  pub not_closes : (outbox : OutboxParts (FileStore D g)) (files : Files D) (old new : Parts g) (error : Error)
      → old.outbox ≡ Some outbox → new.outbox ≡ None → new.is_certain ≡ false → place.Leaves old.lying new.lying files
      → IsNotClosed outbox.conn files error → ClosesProcess g old new (Err error)
  not_closes outbox files old new error up shut unsure leaves is = record {
    leaves = λ honest. record {
      kept = λ it keeps certain. absurd (true≢false (sym certain ∙ unsure));
      certain =
          λ certain. absurd (true≢false (sym certain ∙ unsure));
    };
    certain = tt;
    unsure = unsure;
    files = rw up (files, leaves, is);
    is_closed = shut;
    already = λ none. not_some old.outbox none (rw up refl);
  }

  -- by what came of the close
  pub ends : (outbox : OutboxParts (FileStore D g)) (old new : Parts g) (result : Result (Unit {0}) Error)
      → old.outbox ≡ Some outbox → new.outbox ≡ None → (is_err result ≡ true → new.is_certain ≡ false)
      → (is_err result ≡ false → new.is_certain ≡ old.is_certain)
      → OnOk result ((files : Files D) × place.Leaves old.lying new.lying files × IsClosedIn g outbox.conn files)
      → IfErr result (λ error. (files : Files D) × place.Leaves old.lying new.lying files
      × IsNotClosed outbox.conn files error) → ClosesProcess g old new result
  ends outbox old new (Ok done) up shut unsure same closed failed =
      closes outbox closed.0 old new up shut (same refl) closed.2 closed.1
  ends outbox old new (Err error) up shut unsure same closed failed =
      not_closes outbox failed.0 old new error up shut (unsure refl) failed.1 failed.2
