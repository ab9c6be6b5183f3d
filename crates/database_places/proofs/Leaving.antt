-- What the files hold that a store leaves, by what the store allows.
use Rattle.std.proofs.Common.{◌≡◌, inl, inr, ℕ, IsTrue, refl, sym, ap, subst, ◌∙◌}
use Rattle.std.proofs.Math.Logic.{∥∥₁_elim, ∥∥₁_map}
use mathlib.Core.HLevel.{Σ_prop_path}
use Rattle.sqlite_disk.specs.declared.Disk.{Ghosts}
use Rattle.sqlite_disk.specs.declared.Files.{Files}
use Rattle.sqlite_pages.specs.PageMap.{PageMap}
use Rattle.sqlite_wal.specs.Recovery.{Image}
use Rattle.sqlite_wal.proofs.LogLemmas.{SeenMayStay}
use Rattle.sqlite_pool.specs.Pool as pool
use Rattle.sqlite_pool.specs.Stored.{Recovers}
use Rattle.sqlite_pool.specs.StoredLaws.{recovers_once}
use Rattle.sqlite_pool.proofs.PoolLemmas.{pages_from}
use Rattle.sqlite_pool.proofs.ResealLemmas.{adopts_of}
use Rattle.sqlite_pool.proofs.StateLemmas.{size_is_allowed, may_leave_is}
use Rattle.sqlite_store.specs.declared.store.FileStore.{FileStore}
use Rattle.sqlite_store.specs.Laws.{settled_at}
use Rattle.sqlite_store.specs.Listing.{IsOurs}
use Rattle.sqlite_store.specs.FileStore.{state, view, schema_in, reading, recovers}
use Rattle.sqlite_store.specs.FileStore as store
use Rattle.sqlite_trees.specs.Tree.{Trees}
use Rattle.sqlite_trees.specs.View.{IsClean, doubt}
use Rattle.sqlite_schema.specs.declared.schema.Schema.{Schema}
use Rattle.sqlite_catalog.specs.Listing.{IsSound}
use Rattle.sqlite.specs.Effect.{Database, IsDatabase}
use Rattle.sqlite.specs.Held.{Held, AreDatabases}
use Rattle.sqlite.specs.declared.error.Error.{Error}
use Rattle.sqlite.specs.Files.{image_of, file_state, HoldsDatabase, IsOpened}
use Rattle.table_rows.proofs.CleanLemmas.{always_clean, are_clean}
use Rattle.table_rows.specs.Files.{HoldsDatabase as HoldsClosed}
use Rattle.table_rows.specs.Standing.{CommitsNothing, HasCommitted}
use Rattle.database_places.specs.Closing.{IsClosedIn, IsGivenUp, IsNotClosed}
use Rattle.database_places.specs.Places.{IsHonest}
use Rattle.database_places.specs.Left.{AreLeftByKill, AreLeftByStop, AreLeftBy, IsNumbered, IsLastOf, EndsIn}
use Rattle.database_places.specs.Left.{HoldWithLog}

-- the pages that an image recovers to are known, since there is one such map at most
pages_of : {X : PageMap → Type 0} (size : ℕ) (left : Image)
    → ∥ ((pages : PageMap) × Recovers size left pages × X pages) ∥₁
    → (pages : PageMap) × ∥ Recovers size left pages ∥₁
pages_of size left found =
    ∥∥₁_elim found (λ a b. Σ_prop_path (λ pages. squash₁)
    (pages_from a.0 b.0 a.1 (λ x. pages_from a.0 b.0 b.1 (λ y. recovers_once size left a.0 b.0 x y))))
    (λ it. (it.0, ∣ it.1 ∣₁))

module _ {D : Type 0} {g : Ghosts D} where
  pub store_is_clean : IsHonest g → (it : FileStore D g) → IsClean (view it)
  unfolding pool.state doubt
  store_is_clean honest it = rw (honest it.pool.backing.pager.log.log, honest it.pool.backing.pager.log.db) refl

  module _ (it : FileStore D g) where
    -- Each image that a crash may leave holds a database, which is one of those that the store allows, and is known.
    leaves_one : IsNumbered it → AreDatabases (recovers it) → (left : Image) → (state it).may_leave left
        → (db : Trees) × recovers it db × ∥ HoldsDatabase left db ∥₁
    leaves_one numbered sound left may =
        let found = pages_of (state it).page_size left (∥∥₁_map it.safe (λ all. all left may)) in
        let db = reading it found.0 in
        let allowed : recovers it db = (left, found.0, may, found.1, refl) in
        let schema = sound db allowed in (
          db,
          allowed,
          ∥∥₁_elim it.safe squash₁ (λ all. let ours = all left may in
              ∥∥₁_elim found.1 squash₁ (λ recovered. ∥∥₁_elim (size_is_allowed it.pool) squash₁ (λ size.
              let same : ours.0 ≡ found.0 = recovers_once (state it).page_size left ours.0 found.0 ours.1 recovered in
              ∥∥₁_map (subst (λ pages. ∥ IsOurs (state it).page_size it.is_numbered (schema_in it pages) pages ∥₁) same
              ours.2) (λ is. let r : HoldsDatabase left db = (
                (state it).page_size,
                size,
                record {
                  pages = found.0;
                  wanted = schema_in it found.0;
                  schema = schema.0;
                  found = adopts_of _ left found.0 recovered;
                  reads = refl;
                  sound = schema.1;
                  ours = subst (λ b. IsOurs (state it).page_size b (schema_in it found.0) found.0) numbered is;
                },
              ) in r)))),
        )

    module _ (stays : SeenMayStay g) (files : Files D) where
      -- what a killed process leaves is what a stop of the machine may leave
      pub killed_as_stopped : AreLeftByKill it files → AreLeftByStop it files
      killed_as_stopped left = record {
        log = subst (g.may_leave (store.files it).0) (sym left.log) (stays (store.files it).0);
        db = subst (g.may_leave (store.files it).1) (sym left.db) (stays (store.files it).1);
      }

    module _ (honest : IsHonest g) (stays : SeenMayStay g) (files : Files D) where
      stopped_may_be_left : AreLeftByStop it files → (state it).may_leave (image_of g files)
      stopped_may_be_left left =
          may_leave_is it.pool (image_of g files) (are_clean g honest (store.files it).0 (store.files it).1) (
            left.log,
            left.db,
          )

      may_be_left : AreLeftBy it files → (state it).may_leave (image_of g files)
      may_be_left (inl killed) = stopped_may_be_left (killed_as_stopped stays files killed)
      may_be_left (inr stopped) = stopped_may_be_left stopped

      -- The files hold one of the databases that the store allows, and of it holds what is known of each of these.
      holds_one : IsNumbered it → AreLeftBy it files → {X : Trees → Type 0} → ((db : Trees) → recovers it db → X db)
          → ((db : Trees) → X db → (schema : Schema) × IsSound schema db)
          → (db : Trees) × X db × ∥ HoldsDatabase (image_of g files) db ∥₁
      holds_one numbered left each sound =
          let found =
          leaves_one numbered (λ db allowed. sound db (each db allowed)) (image_of g files) (may_be_left left) in
          (found.0, each found.0 found.1, found.2)

  -- a close that failed leaves what a kill of the process after it leaves
  pub closed_as_killed : (conn : Held (FileStore D g)) (files : Files D) (error : Error)
      (failed : IsNotClosed conn files error) → AreLeftByKill failed.last files
  closed_as_killed conn files error failed = record {
    log = ap (λ (p : D × D). g.seen p.0) (sym failed.same);
    db = ap (λ (p : D × D). g.seen p.1) (sym failed.same);
  }

  module _ (honest : IsHonest g) (stays : SeenMayStay g) (conn : Held (FileStore D g)) where
    last_recovers : (last : FileStore D g) → IsLastOf conn last → (db : Trees) → recovers last db
        → recovers conn.store db
    last_recovers last (inl same) db allowed = subst (λ it. recovers it db) same allowed
    last_recovers last (inr closed) db allowed = closed.quiet.outcomes db allowed

    -- The files that a connection's process leaves hold one of the databases that a crash leaves of it.
    pub ends_with_one : (files : Files D) → EndsIn conn files → {X : Trees → Type 0}
        → ((db : Trees) → recovers conn.store db → X db) → ((db : Trees) → X db → (schema : Schema) × IsSound schema db)
        → (db : Trees) × X db × ∥ HoldsDatabase (image_of g files) db ∥₁
    ends_with_one files ends each sound =
        holds_one ends.last honest stays files ends.numbered ends.left
        (λ db allowed. each db (last_recovers ends.last ends.is_last db allowed)) sound

    -- while the connection is open, what was committed is all that a crash leaves
    pub leaves_now : IsTrue (file_state conn).is_open → (file_state conn).committed ≡ (file_state conn).now
        → (db : Trees) → recovers conn.store db → db ≡ (file_state conn).now.trees
    leaves_now is_open committed db allowed =
        settled_at conn.store stays db is_open allowed ∙ ap (λ (d : Database). d.trees) committed

    given_ends : (files : Files D) → IsGivenUp conn files → EndsIn conn files
    given_ends files given = record {
      last = given.last;
      is_last = inr given.closed;
      numbered = given.numbered (store_is_clean honest given.last);
      left = inl (record {
        log = ap (λ (p : D × D). g.seen p.0) (sym given.same);
        db = ap (λ (p : D × D). g.seen p.1) (sym given.same);
      });
    }

  -- A connection to a database, to which nothing was committed, leaves that database if it is given up.
  pub given_up : IsHonest g → SeenMayStay g → (old new : Held (FileStore D g)) (files : Files D) → IsOpened old
      → CommitsNothing (file_state old) (file_state new) → IsGivenUp new files
      → HoldWithLog g files (file_state old).now
  given_up honest stays old new files opened nothing given =
      let db = (file_state old).now in
      let sound = (opened.1 opened.0.is_open).0 in
      let is_open = opened.0.is_open in
      let one =
      ends_with_one honest stays new files (given_ends honest stays new files given) {X = λ trees. trees ≡ db.trees}
      (λ trees allowed. elim (nothing.crash (always_clean honest new) trees allowed)
      [ inl was ↦ leaves_now honest stays old is_open (sym opened.0.clean) trees was | inr none ↦ absurd none ])
      (λ trees is. (db.schema, subst (IsSound db.schema) (sym is) sound)) in
      record {
        sound = sound;
        held = subst (λ trees. ∥ HoldsDatabase (image_of g files) trees ∥₁) one.1 one.2;
      }

  -- files that were closed hold their database so, since the database file does alone
  pub closed_with_log : (files : Files D) (db : Database) → HoldsClosed g files db → HoldWithLog g files db
  closed_with_log files db it = record { sound = it.sound; held = it.held.both }

  -- So files that a connection was closed in hold what it had committed.
  pub closed_leaves : IsHonest g → (conn : Held (FileStore D g)) (files : Files D) → IsClosedIn g conn files
      → {Is : Database → Type 0} → HasCommitted Is (file_state conn) → ((db : Database) → Is db → IsDatabase db)
      → Is (file_state conn).now × HoldWithLog g files (file_state conn).now
  closed_leaves honest conn files closed stands sound =
      let clean = are_clean g honest files.log files.db in
      let is_open = (closed.copied clean).was_open in
      let now = (file_state conn).now in
      let is = stands.now is_open in
      (is, closed_with_log files now (closed.holds clean now (sound now is) (stands.committed is_open)))
