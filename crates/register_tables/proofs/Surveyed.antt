-- What is known of a database in which a register in an earlier form was found.
use Rattle.std.proofs.Common.{◌≡◌, ◌≢◌, ◌⊎◌, inl, inr, ◌≤◌, ℕ, Bool, true, false, List, [], ◌∷◌, length, Result, Ok}
use Rattle.std.proofs.Common.{Err}
use Rattle.std.proofs.Common.{refl, Some, None}
use Rattle.std.proofs.Common.{sym, ap, subst, ◌∙◌, true≢false, arith, IsTrue, replicate}
use Rattle.std.proofs.lemmas.List.{length-replicate}
use Rattle.sqlite.specs.Schema.{Schema}
use Rattle.sqlite.specs.Effect.{Database, IsDatabase}
use Rattle.sqlite.specs.Store.{Ghosts}
use Rattle.sqlite.specs.Held.{Held, state}
use Rattle.sqlite.specs.Listing.{understood, listing_schema}
use Rattle.sqlite.specs.State.{State, IsLive, IsUnchanged, HasCleanDisk}
use Rattle.sqlite_resolve.specs.declared.compiled.Compiled.{Compiled}
use Rattle.sqlite_resolve.specs.declared.error.CompileError.{CompileError}
use Rattle.sqlite_schema.specs.Names.{same_name}
use Rattle.sqlite_tied.specs.Compute.{everything}
use Rattle.filing_model.specs.Request.{Request}
use Rattle.filing_model.specs.Register.{register}
use Rattle.table_rows.specs.Leaving.{Ending, IsLeft, Leaves}
use Rattle.table_rows.specs.Leaving.Ending.{Asked, Ended}
use Rattle.table_rows.proofs.LeavingLemmas.{asked_then, clean_before, ended, passed}
use Rattle.table_rows.specs.Standing.{AddsNothing, HasCommitted}
use Rattle.table_rows.specs.Statements.{begun, AreDone, AreTreesOf}
use Rattle.table_rows.specs.Tables.{BeginsWith}
use Rattle.register_tables.specs.declared.opening.form.Earlier.{Earlier}
use Rattle.register_tables.specs.declared.opening.form.Earlier.TheVariants.{Second, Third, Fourth}
use Rattle.register_tables.specs.declared.opening.Counts.{Counts}
use Rattle.register_tables.specs.declared.fault.OpenFault.{OpenFault}
use Rattle.register_tables.specs.declared.fault.OpenFault.TheVariants as fault
use Rattle.register_tables.specs.Earlier.{form_number, tables_of, is_blocked, IsAlone, IsDamaged, HasOldStyle, HoldsIn}
use Rattle.register_tables.specs.Earlier.{IsEarlierOf}
use Rattle.register_tables.specs.Faults.{IsFailure}
use Rattle.register_tables.specs.Migrating.{IsNotSurveyed, IsSurveyed, IsMigrated, Migrates, MigratesTo, migrating}
use Rattle.register_tables.specs.Opening.{all_meta, all_migrated, all_amends, AreCountsOf, HasBeside, HasNoForm}
use Rattle.register_tables.specs.Opening.{IsHeldIn}
use Rattle.register_tables.specs.Opening.{IsRead, ReadsIn}
use Rattle.register_tables.specs.Reads.{IsKnown, IsOurs, StopsForDisk}
use Rattle.register_rows.specs.Register.{form_row}
use Rattle.register_tables.proofs.Ours.{disk_fails, disk_then, ours_then}
use Rattle.register_rows.specs.Catalogue.{catalogue_of, view_lines}
use Rattle.register_rows.specs.Received.{Received}
use Rattle.register_tables.specs.Registers.{IsRegisterOf, LeavesRegister, LeavesReceived}
use Rattle.sqlite.specs.Tree.{Trees}
use Rattle.register_tables.proofs.CommonLemmas.{has_common}
use Rattle.register_tables.proofs.CreateTexts.{fifth_schema, sixth_schema, seventh_schema, own_indexes}
use Rattle.register_tables.proofs.Holding.{earlier_of, holds_earlier}
use Rattle.register_tables.proofs.Migrates.{IsCurrent, makes_current}
use Rattle.register_tables.proofs.Opened.{form_said, form_sound, meta_held}
use Rattle.register_tables.proofs.OpenLemmas.{common_in}

pub alone_begins : (form : Earlier) (s : Schema) → IsAlone form s → BeginsWith (tables_of form) s
alone_begins Second s alone = record { tables = []; indexes = own_indexes; views = []; is = alone }
alone_begins Third s alone = record { tables = []; indexes = own_indexes; views = []; is = alone }
alone_begins Fourth s alone = record { tables = []; indexes = own_indexes; views = []; is = alone }

pub old_style_within : (form : Earlier) (db : Database) (old_style kept : ℕ) → HasOldStyle form db old_style kept
    → old_style ≤ kept
old_style_within Second db old_style kept is = omega (arith, is)
old_style_within Third db old_style kept has = has.1
old_style_within Fourth db old_style kept has = has.1

-- ---- in a form without it a table cannot be read

abbrev is_text : Result Compiled CompileError → Bool
is_text (Ok c) = true
is_text (Err e) = false

no_migrated : is_text (understood fifth_schema all_migrated) ≡ false
unfolding understood listing_schema everything
no_migrated = refl

no_amends : is_text (understood sixth_schema all_amends) ≡ false
unfolding understood listing_schema everything
no_amends = refl

none_known : (schema known : Schema) (text : List ℕ) → is_text (understood schema text) ≡ false → known ≡ schema
    → IsKnown known text → ⊥
none_known schema known text none same h =
    true≢false (sym (ap is_text (ap (λ s. understood s text) (sym same) ∙ h.1)) ∙ none)

-- and in a form with it the name is in use of a table that an earlier one has not

third_blocks : is_blocked sixth_schema Second ≡ true
unfolding same_name
third_blocks = refl

fourth_blocks : is_blocked seventh_schema Second ≡ true
unfolding same_name
fourth_blocks = refl

fourth_blocks_third : is_blocked seventh_schema Third ≡ true
unfolding same_name
fourth_blocks_third = refl

-- ---- after the form was read

module _ {S : Type 0} (g : Ghosts S) (a b e : Held S) (form : Earlier) (unlimited : a.step_limit ≡ None)
    (one : HasCleanDisk (state g b) → IsRead g all_meta a b (form_row (form_number form) ∷ []))
    (first : Leaves Asked (state g a) (state g b)) where
  ours : (clean : HasCleanDisk (state g b)) → BeginsWith (tables_of form) (state g a).now.schema
      → IsOurs (tables_of form) (state g b)
  ours clean d =
      let same = first.left clean in
      ours_then {tables = tables_of form} {a = state g a} same first.survives.limit (record {
        alive = same.0.was_open;
        declared = d;
        unlimited = unlimited;
      })

  pub surveyed : (counts : Counts) → ReadsIn g (Some form) b e (Ok counts) → HasCleanDisk (state g e)
      → IsSurveyed g form counts a e
  surveyed counts r clean =
      let mid : HasCleanDisk (state g b) = clean_before r.leaves clean in
      let now = (first.left mid).0.now_is in
      record {
        same = (asked_then first r.leaves).left clean;
        says = (b, one mid);
        has = subst (λ (db : Database). HasBeside (Some form) db.schema) now (r.has clean);
        counted = λ d. subst (IsHeldIn (Some form) counts) now (r.reads.told clean (ours mid d));
      }

  pub not_surveyed : (why : OpenFault) → ReadsIn g (Some form) b e (Err why) → HasCleanDisk (state g e)
      → IsNotSurveyed g why a e
  not_surveyed why r clean = go why r.reads.ours r.reads.disk (λ d. r.reads.refused clean (ours mid d))
    where
      mid : HasCleanDisk (state g b)
      mid = clean_before r.leaves clean

      go : (why : OpenFault) → why ≢ fault.NotOurs → (why ≡ fault.Disk → StopsForDisk (state g b) (state g e))
          → (BeginsWith (tables_of form) (state g a).now.schema
          → IsFailure why ⊎ ((row : ℕ) × (why ≡ fault.Damaged row) × IsDamaged (Some form) (state g b).now row))
          → IsNotSurveyed g why a e
      go fault.NotOurs named stops h = absurd (named refl)
      go (fault.Damaged row) named stops h = (form, (b, one mid), λ d. told (h d))
        where
          told : IsFailure (fault.Damaged row) ⊎ ((at : ℕ) × (fault.Damaged row ≡ fault.Damaged at)
              × IsDamaged (Some form) (state g b).now at) → IsDamaged (Some form) (state g a).now row
          told (inl (inl is)) = cc
          told (inl (inr is)) = cc
          told (inr bad) =
              let same : row ≡ bad.0 = cc in
              subst (λ n. IsDamaged (Some form) (state g a).now n) (sym same)
              (subst (λ db. IsDamaged (Some form) db bad.0) (first.left mid).0.now_is bad.2)
      go fault.Memory named stops h = tt
      go fault.Disk named stops h = disk_fails clean (disk_then (passed first) (stops refl))

-- and where none was read
pub without_form : {S : Type 0} (g : Ghosts S) (a b : Held S) (why : OpenFault) → HasNoForm g why a b
    → IsNotSurveyed g why a b
without_form g a b fault.NotOurs h = inl h
without_form g a b (fault.Damaged row) h = absurd h
without_form g a b fault.Memory h = tt
without_form g a b fault.Disk h = h

-- ---- a register in an earlier form

module _ {S : Type 0} (g : Ghosts S) (a : Held S) where
  module _ (e : Held S) (form : Earlier) (counts : Counts) (s : IsSurveyed g form counts a e) where
    pub to_end : IsUnchanged (state g a) (state g e)
    to_end = s.same

    -- it is a register in that form
    pub survey_finds : BeginsWith (tables_of form) (state g a).now.schema → IsDatabase (state g a).now
        → (F : List Request) × IsEarlierOf form counts.old_style F (state g a).now × AreCountsOf counts F
    survey_finds d sound =
        let it = s.counted d in
        let meta = meta_held g a (common_in (Some form) (state g a).now.schema d) (Some form) s.says in (
          it.requests,
          record {
            sound = sound;
            rows = earlier_of counts.old_style it.requests (state g a).now form d meta it.holds;
          },
          it.counts_are,
        )

    -- and no other
    pub form_only : (f : Earlier) (old_style : ℕ) (F : List Request) → IsEarlierOf f old_style F (state g a).now
        → form ≡ f
    form_only f old_style F is =
        let same =
        form_said g a (common_in (Some f) (state g a).now.schema is.rows.declared) (Some form) (Some f) s.says
        is.rows.meta_is in cc

    -- one in the present form is none
    pub not_current : (old_style : ℕ) (F : List Request) → IsRegisterOf old_style F (state g a).now → ⊥
    not_current old_style F is =
        let same =
        form_said g a (has_common (state g a).now.schema is.rows.rows.declared) (Some form) None s.says
        is.rows.rows.meta_is in cc

    pub survey_only : (old_style : ℕ) (F : List Request) → IsEarlierOf form old_style F (state g a).now
        → (counts.old_style ≡ old_style) × AreCountsOf counts F
    survey_only old_style F is =
        (s.counted is.rows.declared).only old_style F (holds_earlier old_style F (state g a).now form is.rows)

    -- the tables are those of the form that it tells
    pub form_alone : (f : Earlier) → IsAlone f (state g a).now.schema → is_blocked (state g e).now.schema form ≡ false
        → form ≡ f
    form_alone f alone free =
        go form f s.has alone (subst (λ (db : Database). is_blocked db.schema form ≡ false) to_end.0.now_is free)
      where
        blocked : (form : Earlier) (schema : Schema) → is_blocked schema form ≡ true → (state g a).now.schema ≡ schema
            → is_blocked (state g a).now.schema form ≡ false → ⊥
        blocked form schema blocks alone free =
            true≢false (sym blocks ∙ ap (λ t. is_blocked t form) (sym alone) ∙ free)

        go : (form f : Earlier) → HasBeside (Some form) (state g a).now.schema
            → IsAlone f (state g a).now.schema → is_blocked (state g a).now.schema form ≡ false → form ≡ f
        go Second Second has alone free = refl
        go Second Third has alone free = absurd (blocked Second sixth_schema third_blocks alone free)
        go Second Fourth has alone free = absurd (blocked Second seventh_schema fourth_blocks alone free)
        go Third Second has alone free =
            absurd (none_known fifth_schema (state g a).now.schema all_migrated no_migrated alone has.0)
        go Third Third has alone free = refl
        go Third Fourth has alone free = absurd (blocked Third seventh_schema fourth_blocks_third alone free)
        go Fourth Second has alone free =
            absurd (none_known fifth_schema (state g a).now.schema all_migrated no_migrated alone has.0)
        go Fourth Third has alone free =
            absurd (none_known sixth_schema (state g a).now.schema all_amends no_amends alone has.1)
        go Fourth Fourth has alone free = refl

  -- where the rows stand for requests, a refusal is by memory or disk
  pub survey_sound : (last : Held S) → a.step_limit ≡ None → (why : OpenFault) → IsNotSurveyed g why a last
      → (f : Earlier) (old_style : ℕ) (F : List Request) → IsEarlierOf f old_style F (state g a).now → IsFailure why
  survey_sound last unlimited fault.NotOurs (inl none) f old_style F is =
      form_sound g a (common_in (Some f) (state g a).now.schema is.rows.declared) last (Some f) unlimited
      is.rows.meta_is fault.NotOurs none
  survey_sound last unlimited fault.NotOurs (inr current) f old_style F is =
      absurd (let same : None ≡ Some f = form_said g a
      (common_in (Some f) (state g a).now.schema is.rows.declared) None (Some f) current is.rows.meta_is in cc)
  survey_sound last unlimited (fault.Damaged row) bad f old_style F is =
      let same : Some bad.0 ≡ Some f =
      form_said g a (common_in (Some f) (state g a).now.schema is.rows.declared) (Some bad.0) (Some f) bad.1
      is.rows.meta_is in
      let form : f ≡ bad.0 = cc in
      absurd ((bad.2 (subst (λ k. BeginsWith (tables_of k) (state g a).now.schema) form is.rows.declared)).none
      old_style
      F (subst (λ k. HoldsIn (Some k) (state g a).now old_style F) form
      (holds_earlier old_style F (state g a).now f is.rows)))
  survey_sound last unlimited fault.Memory bad f old_style F is = inl refl
  survey_sound last unlimited fault.Disk bad f old_style F is = inr refl

  -- ---- after the statements

  pub trees_current : (e : Held S) (form : Earlier) (counts : Counts) (s : IsSurveyed g form counts a e) (old_style : ℕ)
      (F : List Request) (last : Held S) → AreDone g (migrating form counts.old_style) (begun e) last
      → IsAlone form (state g a).now.schema → IsEarlierOf form old_style F (state g a).now
      → counts.old_style ≡ old_style → IsCurrent old_style F (state g last).now
  trees_current e form counts s old_style F last done alone is same =
      let there = to_end e form counts s in
      makes_current old_style F g (begun e) last form
      (subst (λ n. AreDone g (migrating form n) (begun e) last) same done)
      (subst (λ (db : Database). IsAlone form db.schema) (sym there.0.now_is) alone)
      (subst (IsEarlierOf form old_style F) (sym there.0.now_is) is)

  pub stands_current : (z : Held S) (form : Earlier) (counts : Counts) (m : IsMigrated g form counts a z)
      → z.in_transaction ≡ false → (old_style : ℕ) (F : List Request)
      → IsAlone form (state g a).now.schema → IsEarlierOf form old_style F (state g a).now
      → counts.old_style ≡ old_style → HasCommitted (IsCurrent old_style F) (state g z)
  stands_current z form counts m idle old_style F alone is same =
      let w = m.written in
      let made = trees_current m.mid form counts m.surveyed old_style F w.last w.done alone is same in
      record {
        autocommit = idle;
        now = λ _. subst (IsCurrent old_style F) (sym w.now_is) made;
        committed =
            λ _. w.committed_is ∙ sym w.now_is;
      }

  the_register : (old_style : ℕ) (F : List Request) (z : State) → HasCommitted (IsCurrent old_style F) z
      → HasCommitted (IsRegisterOf old_style F) z
  the_register old_style F z has =
      record { autocommit = has.autocommit; now = λ alive. (has.now alive).register; committed = has.committed }

  the_moments : (old_style : ℕ) (F : List Request) (z : State) → HasCommitted (IsCurrent old_style F) z
      → HasCommitted (λ db. Received db (replicate (length F) None)) z
  the_moments old_style F z has =
      record { autocommit = has.autocommit; now = λ alive. (has.now alive).undated; committed = has.committed }

  pub migrates : (z : Held S) (form f : Earlier) (counts : Counts) → IsMigrated g form counts a z
      → z.in_transaction ≡ false → IsLive (state g a) → IsAlone f (state g a).now.schema → Migrates g f counts a z
  migrates z form f counts m idle live alone =
      let same = form_alone m.mid form counts m.surveyed f alone m.free in
      go (subst (λ k. IsMigrated g k counts a z) same m)
    where
      go : IsMigrated g f counts a z → Migrates g f counts a z
      go n =
          let found =
          survey_finds n.mid f counts n.surveyed (alone_begins f (state g a).now.schema alone)
          (live (to_end n.mid f counts n.surveyed).0.was_open).0 in
          let stands = stands_current z f counts n idle counts.old_style found.0 alone found.1 refl in
          record {
            requests = found.0;
            were = found.1;
            are = the_register counts.old_style found.0 (state g z) stands;
            undated = the_moments counts.old_style found.0 (state g z) stands;
            kept_is = found.2.0;
            filings_is = found.2.1;
            catalogue_is = found.2.2;
          }

  module _ (z : Held S) (form f : Earlier) (counts : Counts) (m : IsMigrated g form counts a z)
      (idle : z.in_transaction ≡ false) (old_style : ℕ) (F : List Request) (alone : IsAlone f (state g a).now.schema)
      (is : IsEarlierOf f old_style F (state g a).now) where
    it_was : IsMigrated g f counts a z
    it_was = subst (λ k. IsMigrated g k counts a z) (form_only m.mid form counts m.surveyed f old_style F is) m

    pub current_only : HasCommitted (IsCurrent old_style F) (state g z)
    current_only =
        stands_current z f counts it_was idle old_style F alone is
        (survey_only it_was.mid f counts it_was.surveyed old_style F is).0

    pub migrates_only : (counts.old_style ≡ old_style)
        × HasCommitted (IsRegisterOf old_style F) (state g z) × (counts.kept ≡ length F)
        × (counts.filings ≡ length (register F)) × (view_lines counts.catalogue ≡ catalogue_of F)
    migrates_only =
        let only = survey_only it_was.mid f counts it_was.surveyed old_style F is in
        (only.0, the_register old_style F (state g z) current_only, only.1.0, only.1.1, only.1.2)

  -- what a crash leaves of them
  module _ (trees : Trees) (m : MigratesTo g a trees) (f : Earlier) (old_style : ℕ) (F : List Request)
      (alone : IsAlone f (state g a).now.schema) (is : IsEarlierOf f old_style F (state g a).now) where
    pub leaves_undated : LeavesReceived old_style F (replicate (length F) None) trees
    leaves_undated = go m.form m.surveyed m.written (form_only m.mid m.form m.counts m.surveyed f old_style F is)
      where
        go : (form : Earlier) → IsSurveyed g form m.counts a m.mid
            → AreTreesOf g (migrating form m.counts.old_style) m.mid trees → form ≡ f
            → LeavesReceived old_style F (replicate (length F) None) trees
        go form s w same =
            let t = subst (λ k. IsSurveyed g k m.counts a m.mid) same s in
            let v = subst (λ k. AreTreesOf g (migrating k m.counts.old_style) m.mid trees) same w in
            let current =
            trees_current m.mid f m.counts t old_style F v.last v.done alone is
            (survey_only m.mid f m.counts t old_style F is).0 in
            record {
              db = (state g v.last).now;
              is = v.is;
              register = current.register;
              one_each = length-replicate (length F) None;
              received = current.undated;
            }

    pub leaves_migrated : LeavesRegister old_style F trees
    leaves_migrated = record { db = leaves_undated.db; is = leaves_undated.is; register = leaves_undated.register }

  -- ---- a name that is in the way

  pub not_blocked : (e : Held S) (form : Earlier) (counts : Counts) → IsSurveyed g form counts a e
      → (f : Earlier) (old_style : ℕ) (F : List Request) → IsEarlierOf f old_style F (state g a).now
      → is_blocked (state g a).now.schema f ≡ false → is_blocked (state g e).now.schema form ≡ true → ⊥
  not_blocked e form counts s f old_style F is free used =
      let same = form_only e form counts s f old_style F is in
      let there = to_end e form counts s in
      true≢false (sym used ∙ ap (λ (db : Database). is_blocked db.schema form) there.0.now_is
      ∙ ap (is_blocked (state g a).now.schema) same ∙ free)

-- ---- a call that wrote nothing

pub adds_nothing : {l : Ending} {old new : State} → (IsTrue old.is_open → old.now ≡ old.committed) → Leaves l old new
    → HasCleanDisk new → AddsNothing old new
adds_nothing {l} {old} {new} settled p clean = go ((ended p).left clean)
  where
    go : IsLeft Ended old new → AddsNothing old new
    go (inl u) =
        record {
          was_open = u.was_open;
          now = λ alive. (u.same (u.was_open alive)).0.now_is
              ∙ settled (u.was_open alive);
          committed = λ alive. (u.same (u.was_open alive)).0.committed_is;
        }
    go (inr back) =
        record {
          was_open = back.was_open;
          now = λ alive. (back.undone alive).0;
          committed =
              λ alive. (back.undone alive).1;
        }

pub nothing_then : (a b e : State) → IsUnchanged a b → AddsNothing b e → AddsNothing a e
nothing_then a b e same h = record {
  was_open = λ _. same.0.was_open;
  now = λ alive. h.now alive ∙ same.0.committed_is;
  committed = λ alive. h.committed alive ∙ same.0.committed_is;
}
