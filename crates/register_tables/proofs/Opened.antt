-- What an opening finds, and why it refuses.
use Rattle.std.proofs.Common.{◌≡◌, ◌≢◌, ◌⊎◌, inl, inr, ℕ, false, List, [], ◌∷◌, length, Option, Some, None, IsTrue}
use Rattle.std.proofs.Common.{Result, Ok, Err, IfOk, IfErr, OnOk, refl, sym, subst, arith}
use Rattle.sqlite.specs.Effect.{Database}
use Rattle.sqlite.specs.Store.{Ghosts}
use Rattle.sqlite.specs.Held.{Held, state}
use Rattle.sqlite.specs.State.{HasCleanDisk, IsLive, IsUnchanged}
use Rattle.filing_model.specs.Request.{Request}
use Rattle.table_rows.specs.Leaving.{Leaves, OnlyReads}
use Rattle.table_rows.specs.Leaving.Ending.{Asked, Ended}
use Rattle.table_rows.specs.Rows.{TableHas}
use Rattle.table_rows.specs.Standing.{HasCommitted}
use Rattle.table_rows.proofs.LeavingLemmas.{asked_then, clean_before, keeps_commit, passed}
use Rattle.table_rows.proofs.StandLemmas.{stands_on}
use Rattle.register_rows.specs.Register.{form_row, meta_row}
use Rattle.register_rows.specs.Schema.{IsDeclared, HasCommon, meta_table, register_tables}
use Rattle.register_tables.specs.declared.fault.OpenFault.{OpenFault}
use Rattle.register_tables.specs.declared.fault.OpenFault.TheVariants as fault
use Rattle.register_tables.specs.declared.opening.Counts.{Counts}
use Rattle.register_tables.specs.declared.opening.form.Earlier.{Earlier}
use Rattle.register_tables.specs.declared.opening.form.Earlier.TheVariants.{Second, Third, Fourth}
use Rattle.register_tables.specs.Earlier.{number_of_form, tables_in, IsDamaged}
use Rattle.register_tables.specs.Faults.{IsFailure}
use Rattle.filing_model.specs.Register.{register}
use Rattle.register_rows.specs.Catalogue.{catalogue_of, view_lines}
use Rattle.register_tables.specs.Opening.{all_meta, HasNoForm, IsCounted, IsHeldIn, IsRead, IsRefused, ReadsIn}
use Rattle.register_tables.specs.Opening.{ReadsRegister, SaysForm}
use Rattle.register_tables.specs.Reads.{CanBeRead, IsOurs, StopsForDisk}
use Rattle.register_tables.specs.Registers.{ForRows, IsRegisterOf}
use Rattle.register_tables.proofs.Calls.{kept_on_err, same_on_ok, then_ok}
use Rattle.register_tables.proofs.CommonLemmas.{has_common}
use Rattle.table_rows.proofs.QuestionLemmas.{question_fails}
use Rattle.register_tables.proofs.ReadTexts.{asks_meta}
use Rattle.register_tables.proofs.Holding.{holds_register, register_of}
use Rattle.register_tables.proofs.Ours.{disk_fails, disk_then, ours_then}
use Rattle.register_tables.proofs.OpenLemmas.{got_meta}

pub same_number : (m n : ℕ) → form_row m ∷ [] ≡ form_row n ∷ [] → m ≡ n
same_number m n rows = cc

pub same_form : (f h : Option Earlier) → number_of_form f ≡ number_of_form h → f ≡ h
same_form (Some Second) (Some Second) e = refl
same_form (Some Second) (Some Third) e = absurd (omega (arith, e))
same_form (Some Second) (Some Fourth) e = absurd (omega (arith, e))
same_form (Some Second) None e = absurd (omega (arith, e))
same_form (Some Third) (Some Second) e = absurd (omega (arith, e))
same_form (Some Third) (Some Third) e = refl
same_form (Some Third) (Some Fourth) e = absurd (omega (arith, e))
same_form (Some Third) None e = absurd (omega (arith, e))
same_form (Some Fourth) (Some Second) e = absurd (omega (arith, e))
same_form (Some Fourth) (Some Third) e = absurd (omega (arith, e))
same_form (Some Fourth) (Some Fourth) e = refl
same_form (Some Fourth) None e = absurd (omega (arith, e))
same_form None (Some Second) e = absurd (omega (arith, e))
same_form None (Some Third) e = absurd (omega (arith, e))
same_form None (Some Fourth) e = absurd (omega (arith, e))
same_form None None e = refl

-- ---- in which form

module _ {S : Type 0} (g : Ghosts S) (a : Held S) (d : HasCommon (state g a).now.schema) where
  -- the database says the form that its row of `intake_meta` has
  pub form_said : (form f : Option Earlier) → SaysForm g form a
      → TableHas (state g a).now meta_table (form_row (number_of_form f) ∷ []) → form ≡ f
  form_said form f says meta =
      same_form form f (same_number (number_of_form form) (number_of_form f)
      ((got_meta (state g a) (state g says.0) (form_row (number_of_form form) ∷ []) d says.1.shown).ordered
      (form_row (number_of_form f) ∷ []) meta (tt, tt)))

  pub meta_held : (form : Option Earlier) → SaysForm g form a
      → TableHas (state g a).now meta_table (form_row (number_of_form form) ∷ [])
  meta_held form says =
      (got_meta (state g a) (state g says.0) (form_row (number_of_form form) ∷ []) d says.1.shown).held

  -- one that has such a row is not refused for the form
  pub form_sound : (b : Held S) (f : Option Earlier) → a.step_limit ≡ None
      → TableHas (state g a).now meta_table (form_row (number_of_form f) ∷ []) → (why : OpenFault)
      → HasNoForm g why a b → IsFailure why
  form_sound b f unlimited meta fault.NotOurs (inl h) =
      absurd (question_fails asks_meta (state g a) (state g b) d unlimited h.0 h.1 h.2)
  form_sound b f unlimited meta fault.NotOurs (inr h) =
      absurd (h.2 f ((got_meta (state g a) (state g b) h.0 d h.1.shown).ordered (form_row (number_of_form f) ∷ []) meta
      (tt, tt)))
  form_sound b f unlimited meta (fault.Damaged row) h = absurd h
  form_sound b f unlimited meta fault.Memory h = inl refl
  form_sound b f unlimited meta fault.Disk h = inr refl

-- ---- why it refuses

module _ {S : Type 0} (g : Ghosts S) (a last : Held S) (unlimited : a.step_limit ≡ None) where
  pub refusal_sound : (why : OpenFault) → IsRefused g why a last → ForRows g a (λ _ _. IsFailure why)
  refusal_sound fault.NotOurs (inl none) old_style F is =
      form_sound g a (has_common (state g a).now.schema is.rows.rows.declared) last None unlimited
      is.rows.rows.meta_is fault.NotOurs none
  refusal_sound fault.NotOurs (inr other) old_style F is =
      absurd (let same : Some other.0 ≡ None = form_said g a
      (has_common (state g a).now.schema is.rows.rows.declared) (Some other.0) None other.1 is.rows.rows.meta_is in cc)
  refusal_sound (fault.Damaged row) bad old_style F is =
      absurd ((bad.1 is.rows.rows.declared).none old_style F (holds_register old_style F (state g a).now is))
  refusal_sound fault.Memory bad old_style F is = inl refl
  refusal_sound fault.Disk bad old_style F is = inr refl

  -- ---- after the form was read

  pub no_form : (why : OpenFault) → HasNoForm g why a last → IsRefused g why a last
  no_form fault.NotOurs h = inl h
  no_form (fault.Damaged row) h = absurd h
  no_form fault.Memory h = tt
  no_form fault.Disk h = h

module _ {S : Type 0} (g : Ghosts S) (a b e : Held S) (live : IsLive (state g a)) (idle : a.in_transaction ≡ false)
    (unlimited : a.step_limit ≡ None) (settled : IsTrue (state g a).is_open
    → (state g a).now ≡ (state g a).committed)
    (one : HasCleanDisk (state g b) → IsRead g all_meta a b (meta_row ∷ []))
    (first : Leaves Asked (state g a) (state g b)) (result : Result Counts OpenFault)
    (r : ReadsIn g None b e result) where
  mid_clean : HasCleanDisk (state g e) → HasCleanDisk (state g b)
  mid_clean clean = clean_before r.leaves clean

  mid_same : HasCleanDisk (state g e) → IsUnchanged (state g a) (state g b)
  mid_same clean = first.left (mid_clean clean)

  says : HasCleanDisk (state g e) → SaysForm g None a
  says clean = (b, one (mid_clean clean))

  ours : HasCleanDisk (state g e) → IsDeclared (state g a).now.schema → IsOurs (tables_in None) (state g b)
  ours clean d =
      let same = mid_same clean in
      ours_then {tables = register_tables} {a = state g a} same first.survives.limit (record {
        alive = same.0.was_open;
        declared = d;
        unlimited = unlimited;
      })

  all_leaves : OnlyReads g a e result
  all_leaves = asked_then first r.leaves

  -- what is counted is held, and is committed then
  stood : HasCleanDisk (state g e) → IsUnchanged (state g a) (state g e) → (old_style : ℕ) (F : List Request)
      → IsRegisterOf old_style F (state g a).now → HasCommitted (IsRegisterOf old_style F) (state g e)
  stood clean same old_style F here =
      stands_on (IsRegisterOf old_style F) (state g a) (state g e) (inl same)
      (record { autocommit = idle; now = λ _. here; committed = λ alive. sym (settled alive) })

  refused_then : HasCleanDisk (state g e) → (why : OpenFault) → why ≢ fault.NotOurs
      → (why ≡ fault.Disk → StopsForDisk (state g b) (state g e))
      → (IsDeclared (state g a).now.schema → IsFailure why ⊎ ((row : ℕ) × (why ≡ fault.Damaged row)
      × IsDamaged None (state g a).now row)) → IsRefused g why a e
  refused_then clean fault.NotOurs named stops h = absurd (named refl)
  refused_then clean (fault.Damaged row) named stops h = (says clean, λ d. go (h d))
    where
      go : IsFailure (fault.Damaged row) ⊎ ((at : ℕ) × (fault.Damaged row ≡ fault.Damaged at)
          × IsDamaged None (state g a).now at) → IsDamaged None (state g a).now row
      go (inl (inl is)) = cc
      go (inl (inr is)) = cc
      go (inr bad) = let same : row ≡ bad.0 = cc in subst (IsDamaged None (state g a).now) (sym same) bad.2
  refused_then clean fault.Memory named stops h = tt
  refused_then clean fault.Disk named stops h = disk_fails clean (disk_then (passed first) (stops refl))

  refused_all : HasCleanDisk (state g e) → IfErr result (λ why. IsRefused g why a e)
  refused_all clean = go result r.reads.refused r.reads.ours r.reads.disk
    where
      go : (result : Result Counts OpenFault)
          → (HasCleanDisk (state g e) → IsOurs (tables_in None) (state g b)
          → IfErr result (λ why. IsFailure why ⊎ ((row : ℕ) × (why ≡ fault.Damaged row)
          × IsDamaged None (state g b).now row)))
          → IfErr result (λ why. why ≢ fault.NotOurs)
          → IfErr result (λ why. why ≡ fault.Disk → StopsForDisk (state g b) (state g e))
          → IfErr result (λ why. IsRefused g why a e)
      go (Ok counts) bad named stops = tt
      go (Err why) bad named stops =
          refused_then clean why named stops (λ d. subst (λ db. IsFailure why ⊎ ((row : ℕ) × (why ≡ fault.Damaged row)
          × IsDamaged None db row)) (mid_same clean).0.now_is (bad clean (ours clean d)))

  held : HasCleanDisk (state g e) → IsDeclared (state g a).now.schema
      → IfOk result (λ counts. IsHeldIn None counts (state g a).now)
  held clean d =
      subst (λ db. IfOk result (λ counts. IsHeldIn None counts db)) (mid_same clean).0.now_is
      (r.reads.told clean (ours clean d))

  meta : HasCleanDisk (state g e) → IsDeclared (state g a).now.schema
      → TableHas (state g a).now meta_table (meta_row ∷ [])
  meta clean d = meta_held g a (has_common (state g a).now.schema d) None (says clean)

  pub reads_register : ReadsRegister g a e result
  reads_register = record {
    found = λ clean d. found_ok clean d result all_leaves (held clean d);
    only = λ clean. only_ok clean result all_leaves (λ d. held clean d);
    says = λ clean. then_ok result (says clean);
    few = r.few;
    refused = refused_all;
    sound = λ clean. sound_all result (refused_all clean);
    same = same_on_ok result all_leaves;
    keeps = kept_on_err result all_leaves;
    mode = all_leaves.mode idle;
    survives = all_leaves.survives;
    known = λ clean. subst (λ (db : Database). OnOk result (CanBeRead db.schema)) (mid_same clean).0.now_is
        (r.known clean);
  }
    where
      found_ok : HasCleanDisk (state g e) → IsDeclared (state g a).now.schema → (result : Result Counts OpenFault)
          → OnlyReads g a e result → IfOk result (λ counts. IsHeldIn None counts (state g a).now)
          → IfOk result (λ counts. (F : List Request) × IsRegisterOf counts.old_style F (state g a).now
          × HasCommitted (IsRegisterOf counts.old_style F) (state g e) × (counts.kept ≡ length F)
          × (counts.filings ≡ length (register F)) × (view_lines counts.catalogue ≡ catalogue_of F))
      found_ok clean d (Ok counts) leaves h =
          let same = leaves.left clean in
          let here =
          register_of counts.old_style h.requests (state g a).now (live same.0.was_open).0 d (meta clean d) h.holds in (
            h.requests,
            here,
            stood clean same counts.old_style h.requests here,
            h.counts_are.0,
            h.counts_are.1,
            h.counts_are.2,
          )
      found_ok clean d (Err why) leaves h = tt

      only_ok : HasCleanDisk (state g e) → (result : Result Counts OpenFault) → OnlyReads g a e result
          → (IsDeclared (state g a).now.schema → IfOk result (λ counts. IsHeldIn None counts (state g a).now))
          → IfOk result (λ counts. ForRows g a (IsCounted g e counts))
      only_ok clean (Ok counts) leaves h = λ old_style F is.
          let told = (h is.rows.rows.declared).only old_style F (holds_register old_style F (state g a).now is) in
          (told.0, stood clean (leaves.left clean) old_style F is, told.1.0, told.1.1, told.1.2)
      only_ok clean (Err why) leaves h = tt

      sound_all : (result : Result Counts OpenFault) → IfErr result (λ why. IsRefused g why a e)
          → IfErr result (λ why. ForRows g a (λ _ _. IsFailure why))
      sound_all (Ok counts) bad = tt
      sound_all (Err why) bad = refusal_sound g a e unlimited why bad

-- a refusal before the tables were read
pub not_opened : {S : Type 0} (g : Ghosts S) (a last : Held S) → a.step_limit ≡ None → a.in_transaction ≡ false
    → (why : OpenFault) → (HasCleanDisk (state g last) → IsRefused g why a last)
    → Leaves Ended (state g a) (state g last) → ReadsRegister g a last (Err why)
not_opened g a last unlimited idle why refused leaves = record {
  found = λ clean d. tt;
  only = λ clean. tt;
  says = λ clean. tt;
  few = tt;
  refused = refused;
  sound = λ clean. refusal_sound g a last unlimited why (refused clean);
  same = λ clean. tt;
  keeps = λ clean. keeps_commit leaves clean;
  mode = leaves.mode idle;
  survives = leaves.survives;
  known = λ clean. tt;
}
