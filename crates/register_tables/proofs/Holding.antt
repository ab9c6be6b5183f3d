-- What the tables hold that were read, in any form.
use Rattle.std.proofs.Common.{◌≡◌, ◌≤◌, ◌^◌, ℕ, ◌+◌, inl, inr, List, [], ◌∷◌, length, Option, Some, None, MatchOption}
use Rattle.std.proofs.Common.{IfSome}
use Rattle.std.proofs.Common.{IsSomeAnd, refl, sym, ap, subst, ◌∙◌, arith}
use Rattle.std.specs.Prelude.{Vec}
use Rattle.std.specs.declared.alloc.Global.{Global}
use Rattle.sqlite.specs.Order.{Row}
use Rattle.sqlite.specs.Effect.{Database, IsDatabase}
use Rattle.filing_model.specs.Request.{Request}
use Rattle.filing_model.specs.Register.{kept}
use Rattle.table_rows.specs.Rows.{TableHas}
use Rattle.table_rows.specs.Tables.{BeginsWith}
use Rattle.table_rows.proofs.OrderLemmas.{counted_rise}
use Rattle.register_rows.specs.Catalogue.{view_lines}
use Rattle.register_rows.specs.Dates.{AreDates, IsUndatedAt, SaysMoments, SaysNoMoments}
use Rattle.register_rows.specs.Received.{received_row, received_rows, Received}
use Rattle.register_rows.specs.Register.{form_row, meta_row, migrated_row, amends_rows, joined_from}
use Rattle.register_rows.specs.Schema.{IsDeclared, meta_table, migrated_table, amends_table, received_table}
use Rattle.register_rows.specs.declared.dates.Dates.{Dates}
use Rattle.register_rows.proofs.MomentLemmas.{length-all_moments}
use Rattle.register_tables.specs.declared.opening.Beside.{Beside}
use Rattle.register_tables.specs.declared.opening.Counts.{Counts}
use Rattle.register_tables.specs.declared.opening.form.Earlier.{Earlier}
use Rattle.register_tables.specs.declared.opening.form.Earlier.TheVariants.{Second, Third, Fourth}
use Rattle.register_tables.specs.declared.opening.walk.Totals.{Totals}
use Rattle.register_tables.specs.Earlier.{form_number, tables_of, HasOldStyleIn, HasTargetsIn, HasMomentsIn, HoldsIn}
use Rattle.register_tables.specs.Earlier.{IsDamaged, SaysAmends, StandsForEarlier}
use Rattle.register_tables.specs.Opening.{AreCountsOf, AreWithin, CountsIn, IsDamagedIn, IsHeldIn}
use Rattle.register_tables.specs.Opening.{SaysBeside, SaysDates, SaysMigrated, SaysNothing, SaysOldStyle}
use Rattle.register_tables.specs.Reads.{HasInOrder, by_first}
use Rattle.register_tables.specs.Registers.{IsRegisterOf}
use Rattle.register_tables.specs.Walk.{AreAllOf, Amounts, IsUnsound}
use Rattle.register_tables.proofs.KeptOrder.{only_these}
use Rattle.register_tables.proofs.ListLemmas.{amends_rise}

-- ---- the rows beside those of kept requests, where the tables hold requests

module _ (db : Database) (old_style kept_are : ℕ) where
  one_row : (rows : List Row) → HasInOrder migrated_table rows db
      → TableHas db migrated_table (migrated_row old_style ∷ []) × (old_style ≤ kept_are)
      → SaysOldStyle kept_are old_style rows
  one_row rows says has =
      record { migrated_is = says.ordered (migrated_row old_style ∷ []) has.0 (tt, tt); within = has.1 }

  -- the row of `migrated` fits
  old_style_fits : (form : Option Earlier) (migrated : Option (Vec Row Global)) → SaysMigrated form migrated db
      → HasOldStyleIn form db old_style kept_are
      → MatchOption migrated (old_style ≡ kept_are) (λ rows. SaysOldStyle kept_are old_style rows.items)
  old_style_fits (Some Second) migrated says h =
      subst (λ m. MatchOption m (old_style ≡ kept_are) (λ rows. SaysOldStyle kept_are old_style rows.items)) (sym says)
      h
  old_style_fits (Some Third) None says h = absurd says
  old_style_fits (Some Third) (Some rows) says h = one_row rows.items says h
  old_style_fits (Some Fourth) None says h = absurd says
  old_style_fits (Some Fourth) (Some rows) says h = one_row rows.items says h
  old_style_fits None None says h = absurd says
  old_style_fits None (Some rows) says h = one_row rows.items says h

module _ (db : Database) (old_style : ℕ) (F : List Request) where
  pub amends_same : (form : Option Earlier) (amends : List Row) → SaysAmends form amends db
      → HoldsIn form db old_style F → amends ≡ joined_from amends_rows 1 (kept F)
  amends_same (Some Second) amends says h = says ∙ sym h.targets ∙ h.are.amends_is
  amends_same (Some Third) amends says h = says ∙ sym h.targets ∙ h.are.amends_is
  amends_same (Some Fourth) amends says h =
      says.ordered (joined_from amends_rows 1 (kept F)) (subst (TableHas db amends_table) h.are.amends_is h.targets)
      (amends_rise 1 (kept F))
  amends_same None amends says h =
      says.ordered (joined_from amends_rows 1 (kept F)) (subst (TableHas db amends_table) h.are.amends_is h.targets)
      (amends_rise 1 (kept F))

  pub all_of : (form : Option Earlier) (amends : List Row) → SaysAmends form amends db → HoldsIn form db old_style F
      → AreAllOf F amends db
  all_of form amends says h =
      subst (λ l. AreAllOf F l db) (h.are.amends_is ∙ sym (amends_same form amends says h)) h.are

  -- and so do those of `received`
  moments_fit : (rows : List Row) → HasInOrder received_table rows db → (moments : List (Option ℕ))
      → length moments ≡ length F → (m : Received db moments) → SaysMoments (length F) rows moments
  moments_fit rows says moments one_each m =
      let all = ap length m.is in
      let parts = length-all_moments m.undated m.dated in
      record {
        undated = m.undated;
        dated = m.dated;
        is = m.is;
        one_each = omega (arith, all, parts, one_each);
        within = m.within;
        rows_are = says.ordered (received_rows m.undated m.dated) m.rows
            (counted_rise received_row by_first (λ _ _. refl) (m.undated + 1) m.dated);
      }

-- the table `amends` has these rows, as far as this form has it
targets_in : (form : Option Earlier) (amends : List Row) (db : Database) → SaysAmends form amends db
    → HasTargetsIn form db amends
targets_in (Some Second) amends db says = says
targets_in (Some Third) amends db says = says
targets_in (Some Fourth) amends db says = says.held
targets_in None amends db says = says.held

-- so much is within the bounds of the totals
pub within_so : (totals : Totals) (beside : Beside) (counts : Counts) → CountsIn totals beside counts
    → totals.kept ≤ 2 ^ 62 → totals.filings ≤ totals.kept → AreWithin counts
within_so totals beside counts fits most fewer =
    let kept_is = fits.kept_is in
    let filings_is = fits.filings_is in
    let low = go beside.migrated fits.old_style_is in
    (omega (arith, kept_is, most), omega (arith, kept_is, filings_is, fewer), omega (arith, kept_is, low))
  where
    go : (migrated : Option (Vec Row Global)) → MatchOption migrated (counts.old_style ≡ totals.kept)
        (λ rows. SaysOldStyle totals.kept counts.old_style rows.items) → counts.old_style ≤ totals.kept
    go None same = omega (arith, same)
    go (Some rows) told = told.within

-- ---- what is held with these totals

module _ (form : Option Earlier) (beside : Beside) (totals : Totals) (db : Database)
    (says : SaysBeside form beside db) (amounts : Amounts totals beside.amends.items db) where
  abbrev R : List Request
  R = amounts.requests

  -- no other requests
  same_requests_as : (old_style : ℕ) (F : List Request) → HoldsIn form db old_style F → R ≡ F
  same_requests_as old_style F h =
      let are = all_of db old_style F form beside.amends.items says.1 h in
      only_these R beside.amends.items db amounts.are F are.distinct are.kept_is are.amends_is

  many_as : (old_style : ℕ) (F : List Request) → HoldsIn form db old_style F → length F ≡ totals.kept
  many_as old_style F h = ap length (sym (same_requests_as old_style F h)) ∙ sym amounts.kept_is

  -- the row of `migrated` that fits
  fits_as : (old_style : ℕ) (F : List Request) → HoldsIn form db old_style F
      → MatchOption beside.migrated (old_style ≡ totals.kept) (λ rows. SaysOldStyle totals.kept old_style rows.items)
  fits_as old_style F h =
      old_style_fits db old_style totals.kept form beside.migrated says.0
      (subst (HasOldStyleIn form db old_style) (many_as old_style F h) h.old_style_is)

  module _ (old_style : ℕ) where
    row_held : (rows : List Row) → HasInOrder migrated_table rows db → SaysOldStyle totals.kept old_style rows
        → TableHas db migrated_table (migrated_row old_style ∷ []) × (old_style ≤ length R)
    row_held rows has told = (
      subst (TableHas db migrated_table) told.migrated_is has.held,
      subst (λ n. old_style ≤ n) amounts.kept_is told.within,
    )

    old_style_held : (f : Option Earlier) (migrated : Option (Vec Row Global)) → SaysMigrated f migrated db
        → MatchOption migrated (old_style ≡ totals.kept) (λ rows. SaysOldStyle totals.kept old_style rows.items)
        → HasOldStyleIn f db old_style (length R)
    old_style_held (Some Second) migrated has told =
        subst (λ m. MatchOption m (old_style ≡ totals.kept)
        (λ rows. SaysOldStyle totals.kept old_style rows.items)) has told ∙ amounts.kept_is
    old_style_held (Some Third) None has told = absurd has
    old_style_held (Some Third) (Some rows) has told = row_held rows.items has told
    old_style_held (Some Fourth) None has told = absurd has
    old_style_held (Some Fourth) (Some rows) has told = row_held rows.items has told
    old_style_held None None has told = absurd has
    old_style_held None (Some rows) has told = row_held rows.items has told

  -- where it fits, it says a number of old style
  old_style_said : (migrated : Option (Vec Row Global)) → SaysMigrated form migrated db
      → IfSome migrated (λ rows. (old_style : ℕ) × SaysOldStyle totals.kept old_style rows.items)
      → (old_style : ℕ) × HasOldStyleIn form db old_style (length R)
  old_style_said None has told = (totals.kept, old_style_held totals.kept form None has refl)
  old_style_said (Some rows) has told = (told.0, old_style_held told.0 form (Some rows) has told.1)

  module _ (counts : Counts) (fits : CountsIn totals beside counts) where
    moments_held : (f : Option Earlier) (dates : Option Dates) → SaysDates f dates db
        → IfSome dates (λ it. (rows : List Row) → AreDates rows it
        → (moments : List (Option ℕ)) × SaysMoments totals.kept rows moments) → HasMomentsIn f db (length R)
    moments_held (Some f) dates has told = tt
    moments_held None None has told = absurd has
    moments_held None (Some it) has told =
        let m = told has.0 has.2 in (
          m.0,
          ap length m.1.is ∙ length-all_moments m.1.undated m.1.dated ∙ m.1.one_each ∙ amounts.kept_is,
          record {
            undated = m.1.undated;
            dated = m.1.dated;
            is = m.1.is;
            within = m.1.within;
            rows =
                subst (TableHas db received_table) m.1.rows_are has.1.held;
          },
        )

    counts_of_them : AreCountsOf counts R
    counts_of_them = (
      fits.kept_is ∙ amounts.kept_is,
      fits.filings_is ∙ amounts.filings_is,
      ap (λ c. view_lines c) fits.catalogue_is ∙ amounts.catalogue_is,
    )

    same_old_style : (old_style : ℕ) (migrated : Option (Vec Row Global))
        → MatchOption migrated (old_style ≡ totals.kept) (λ rows. SaysOldStyle totals.kept old_style rows.items)
        → MatchOption migrated (counts.old_style ≡ totals.kept)
        (λ rows. SaysOldStyle totals.kept counts.old_style rows.items) → counts.old_style ≡ old_style
    same_old_style old_style None one two = two ∙ sym one
    same_old_style old_style (Some rows) one two =
        let both : migrated_row counts.old_style ∷ [] ≡ migrated_row old_style ∷ [] =
        sym two.migrated_is ∙ one.migrated_is in cc

    pub held_so : IsHeldIn form counts db
    held_so = record {
      requests = R;
      holds = record {
        amends = beside.amends.items;
        targets = targets_in form beside.amends.items db says.1;
        are = amounts.are;
        old_style_is = old_style_held counts.old_style form beside.migrated says.0 fits.old_style_is;
        moments = moments_held form beside.received says.2 fits.moments_are;
      };
      counts_are = counts_of_them;
      only = λ old_style F h. (
        same_old_style old_style beside.migrated (fits_as old_style F h) fits.old_style_is,
        subst (AreCountsOf counts) (same_requests_as old_style F h) counts_of_them,
      );
    }

  -- the rows beside those of kept requests do not fit
  pub damaged_beside : (row : ℕ) → IsDamagedIn totals.kept beside row → IsDamaged form db row
  damaged_beside row (inl none) = record {
    none = λ old_style F h. refuted beside.migrated none.1 old_style (fits_as old_style F h);
    amends_are = beside.amends.items;
    targets = says.1;
    told = inr (
      R,
      amounts.are,
      inl (
        none.0,
        λ old_style has. refuted beside.migrated none.1 old_style
            (old_style_fits db old_style totals.kept form beside.migrated says.0
            (subst (HasOldStyleIn form db old_style) (sym amounts.kept_is) has)),
      ),
    );
  }
    where
      refuted : (migrated : Option (Vec Row Global)) → IsSomeAnd migrated (λ rows. SaysNothing totals.kept rows.items)
          → (old_style : ℕ) → MatchOption migrated (old_style ≡ totals.kept)
          (λ rows. SaysOldStyle totals.kept old_style rows.items) → ⊥
      refuted None nothing old_style told = nothing
      refuted (Some rows) nothing old_style told = nothing old_style told
  damaged_beside row (inr undated) = go form beside.received says.2 undated.1
      (λ old_style F h. (h.moments, many_as old_style F h))
    where
      go : (f : Option Earlier) (dates : Option Dates) → SaysDates f dates db
          → IsSomeAnd dates (λ it. (rows : List Row) → AreDates rows it
          → SaysNoMoments totals.kept rows × IsUndatedAt totals.kept rows row)
          → ((old_style : ℕ) (F : List Request) → HoldsIn form db old_style F → HasMomentsIn f db (length F)
          × (length F ≡ totals.kept)) → IsDamaged form db row
      go (Some f) dates has bad holds = absurd (subst (λ d. IsSomeAnd d (λ it. (rows : List Row) → AreDates rows it
          → SaysNoMoments totals.kept rows × IsUndatedAt totals.kept rows row)) has bad)
      go None None has bad holds = absurd has
      go None (Some it) has bad holds =
          let told = bad has.0 has.2 in
          record {
            none = λ old_style F h.
                let m = holds old_style F h in
                told.0 m.0.0 (subst (λ n. SaysMoments n has.0 m.0.0) m.1
                (moments_fit db old_style F has.0 has.1 m.0.0 m.0.1 m.0.2));
            amends_are = beside.amends.items;
            targets = says.1;
            told = inr (
              R,
              amounts.are,
              inr (
                old_style_said beside.migrated says.0 undated.0,
                has.0,
                has.1,
                subst (λ n. IsUndatedAt n has.0 row) amounts.kept_is told.1,
              ),
            );
          }

-- the rows of kept requests do not
pub damaged_among : (form : Option Earlier) (beside : Beside) (db : Database) → SaysBeside form beside db → (row : ℕ)
    → IsUnsound beside.amends.items row db → IsDamaged form db row
damaged_among form beside db says row bad = record {
  none = λ old_style F h. bad.none F (all_of db old_style F form beside.amends.items says.1 h);
  amends_are = beside.amends.items;
  targets = says.1;
  told = inl bad;
}

-- ---- as registers

module _ (old_style : ℕ) (F : List Request) (db : Database) where
  pub register_of : IsDatabase db → IsDeclared db.schema → TableHas db meta_table (meta_row ∷ [])
      → HoldsIn None db old_style F → IsRegisterOf old_style F db
  register_of sound declared meta h = record {
    sound = sound;
    rows = record {
      distinct = h.are.distinct;
      completed = h.are.completed;
      within = h.old_style_is.1;
      moments = h.moments.0;
      one_each = h.moments.1;
      received = h.moments.2;
      rows = record {
        declared = declared;
        meta_is = meta;
        kept_is = h.are.kept_is;
        finding_is = h.are.finding_is;
        filing_is = h.are.filing_is;
        fact_is = h.are.fact_is;
        migrated_is = h.old_style_is.0;
        amends_is = subst (TableHas db amends_table) h.are.amends_is h.targets;
      };
    };
  }

  pub holds_register : IsRegisterOf old_style F db → HoldsIn None db old_style F
  holds_register is = record {
    amends = joined_from amends_rows 1 (kept F);
    targets = is.rows.rows.amends_is;
    are = record {
      distinct = is.rows.distinct;
      completed = is.rows.completed;
      kept_is = is.rows.rows.kept_is;
      finding_is = is.rows.rows.finding_is;
      filing_is = is.rows.rows.filing_is;
      fact_is = is.rows.rows.fact_is;
      amends_is = refl;
    };
    old_style_is = (is.rows.rows.migrated_is, is.rows.within);
    moments = (is.rows.moments, is.rows.one_each, is.rows.received);
  }

  pub earlier_of : (form : Earlier) → BeginsWith (tables_of form) db.schema
      → TableHas db meta_table (form_row (form_number form) ∷ []) → HoldsIn (Some form) db old_style F
      → StandsForEarlier form db old_style F
  earlier_of form declared meta h = record {
    declared = declared;
    meta_is = meta;
    amends = h.amends;
    targets = h.targets;
    are = h.are;
    old_style_is = h.old_style_is;
  }

  pub holds_earlier : (form : Earlier) → StandsForEarlier form db old_style F → HoldsIn (Some form) db old_style F
  holds_earlier form stands = record {
    amends = stands.amends;
    targets = stands.targets;
    are = stands.are;
    old_style_is = stands.old_style_is;
    moments = tt;
  }
