-- The rows of a register, with those that a table gained.
use Rattle.std.proofs.Common.{◌≡◌, ◌≢◌, ℕ, suc, ◌+◌, List, [], ◌∷◌, ◌++◌, append_assoc, length, map, replicate}
use Rattle.std.proofs.Common.{Option, Some, None, sym, ap, subst, ◌∙◌, arith}
use Rattle.std.specs.List.{AllByRecursion}
use Rattle.std.proofs.lemmas.List.{map-append}
use Rattle.sqlite.specs.Table.{Table}
use Rattle.sqlite.specs.Order.{Row}
use Rattle.sqlite.specs.Effect.{Database}
use Rattle.table_rows.specs.Rows.{Gains, TableHas}
use Rattle.table_rows.proofs.GainLemmas.{holds_more, same_rows, still_declared}
use Rattle.table_rows.proofs.StepLemmas.{counted_push}
use Rattle.register_rows.specs.Received.{IsMoment, Received, received_row, received_rows}
use Rattle.register_rows.specs.Schema.{register_tables, meta_table, kept_table, finding_table, filing_table, fact_table}
use Rattle.register_rows.specs.Schema.{migrated_table, amends_table, received_table}
use Rattle.register_rows.specs.Register.{HasRows}
use Rattle.register_rows.proofs.MomentLemmas.{length-all_moments}

module _ (old new : Database) (old_style : ℕ) (ks fs gs hs ts rows : List Row)
    (has : HasRows old old_style ks fs gs hs ts) where
  pub kept_grows : Gains register_tables kept_table rows old new → HasRows new old_style (ks ++ rows) fs gs hs ts
  kept_grows g =
      let o = g.others in
      record {
        declared = still_declared register_tables old new g.schema_is has.declared;
        meta_is = same_rows meta_table _ old new (o.0 (λ e. absurd (omega (arith, e)))) has.meta_is;
        kept_is = holds_more register_tables kept_table ks rows old new has.kept_is g;
        finding_is = same_rows finding_table fs old new (o.1.1.0 (λ e. absurd (omega (arith, e)))) has.finding_is;
        filing_is = same_rows filing_table gs old new (o.1.1.1.0 (λ e. absurd (omega (arith, e)))) has.filing_is;
        fact_is = same_rows fact_table hs old new (o.1.1.1.1.0 (λ e. absurd (omega (arith, e)))) has.fact_is;
        migrated_is =
            same_rows migrated_table _ old new (o.1.1.1.1.1.0 (λ e. absurd (omega (arith, e)))) has.migrated_is;
        amends_is = same_rows amends_table ts old new (o.1.1.1.1.1.1.0 (λ e. absurd (omega (arith, e)))) has.amends_is;
      }

  pub finding_grows : Gains register_tables finding_table rows old new → HasRows new old_style ks (fs ++ rows) gs hs ts
  finding_grows g =
      let o = g.others in
      record {
        declared = still_declared register_tables old new g.schema_is has.declared;
        meta_is = same_rows meta_table _ old new (o.0 (λ e. absurd (omega (arith, e)))) has.meta_is;
        kept_is = same_rows kept_table ks old new (o.1.0 (λ e. absurd (omega (arith, e)))) has.kept_is;
        finding_is = holds_more register_tables finding_table fs rows old new has.finding_is g;
        filing_is = same_rows filing_table gs old new (o.1.1.1.0 (λ e. absurd (omega (arith, e)))) has.filing_is;
        fact_is = same_rows fact_table hs old new (o.1.1.1.1.0 (λ e. absurd (omega (arith, e)))) has.fact_is;
        migrated_is =
            same_rows migrated_table _ old new (o.1.1.1.1.1.0 (λ e. absurd (omega (arith, e)))) has.migrated_is;
        amends_is = same_rows amends_table ts old new (o.1.1.1.1.1.1.0 (λ e. absurd (omega (arith, e)))) has.amends_is;
      }

  pub filing_grows : Gains register_tables filing_table rows old new → HasRows new old_style ks fs (gs ++ rows) hs ts
  filing_grows g =
      let o = g.others in
      record {
        declared = still_declared register_tables old new g.schema_is has.declared;
        meta_is = same_rows meta_table _ old new (o.0 (λ e. absurd (omega (arith, e)))) has.meta_is;
        kept_is = same_rows kept_table ks old new (o.1.0 (λ e. absurd (omega (arith, e)))) has.kept_is;
        finding_is = same_rows finding_table fs old new (o.1.1.0 (λ e. absurd (omega (arith, e)))) has.finding_is;
        filing_is = holds_more register_tables filing_table gs rows old new has.filing_is g;
        fact_is = same_rows fact_table hs old new (o.1.1.1.1.0 (λ e. absurd (omega (arith, e)))) has.fact_is;
        migrated_is =
            same_rows migrated_table _ old new (o.1.1.1.1.1.0 (λ e. absurd (omega (arith, e)))) has.migrated_is;
        amends_is = same_rows amends_table ts old new (o.1.1.1.1.1.1.0 (λ e. absurd (omega (arith, e)))) has.amends_is;
      }

  pub fact_grows : Gains register_tables fact_table rows old new → HasRows new old_style ks fs gs (hs ++ rows) ts
  fact_grows g =
      let o = g.others in
      record {
        declared = still_declared register_tables old new g.schema_is has.declared;
        meta_is = same_rows meta_table _ old new (o.0 (λ e. absurd (omega (arith, e)))) has.meta_is;
        kept_is = same_rows kept_table ks old new (o.1.0 (λ e. absurd (omega (arith, e)))) has.kept_is;
        finding_is = same_rows finding_table fs old new (o.1.1.0 (λ e. absurd (omega (arith, e)))) has.finding_is;
        filing_is = same_rows filing_table gs old new (o.1.1.1.0 (λ e. absurd (omega (arith, e)))) has.filing_is;
        fact_is = holds_more register_tables fact_table hs rows old new has.fact_is g;
        migrated_is =
            same_rows migrated_table _ old new (o.1.1.1.1.1.0 (λ e. absurd (omega (arith, e)))) has.migrated_is;
        amends_is = same_rows amends_table ts old new (o.1.1.1.1.1.1.0 (λ e. absurd (omega (arith, e)))) has.amends_is;
      }

  pub amends_grows : Gains register_tables amends_table rows old new → HasRows new old_style ks fs gs hs (ts ++ rows)
  amends_grows g =
      let o = g.others in
      record {
        declared = still_declared register_tables old new g.schema_is has.declared;
        meta_is = same_rows meta_table _ old new (o.0 (λ e. absurd (omega (arith, e)))) has.meta_is;
        kept_is = same_rows kept_table ks old new (o.1.0 (λ e. absurd (omega (arith, e)))) has.kept_is;
        finding_is = same_rows finding_table fs old new (o.1.1.0 (λ e. absurd (omega (arith, e)))) has.finding_is;
        filing_is = same_rows filing_table gs old new (o.1.1.1.0 (λ e. absurd (omega (arith, e)))) has.filing_is;
        fact_is = same_rows fact_table hs old new (o.1.1.1.1.0 (λ e. absurd (omega (arith, e)))) has.fact_is;
        migrated_is =
            same_rows migrated_table _ old new (o.1.1.1.1.1.0 (λ e. absurd (omega (arith, e)))) has.migrated_is;
        amends_is = holds_more register_tables amends_table ts rows old new has.amends_is g;
      }

  -- `received` is beside them
  pub received_grows : Gains register_tables received_table rows old new → HasRows new old_style ks fs gs hs ts
  received_grows g =
      let o = g.others in
      record {
        declared = still_declared register_tables old new g.schema_is has.declared;
        meta_is = same_rows meta_table _ old new (o.0 (λ e. absurd (omega (arith, e)))) has.meta_is;
        kept_is = same_rows kept_table ks old new (o.1.0 (λ e. absurd (omega (arith, e)))) has.kept_is;
        finding_is = same_rows finding_table fs old new (o.1.1.0 (λ e. absurd (omega (arith, e)))) has.finding_is;
        filing_is = same_rows filing_table gs old new (o.1.1.1.0 (λ e. absurd (omega (arith, e)))) has.filing_is;
        fact_is = same_rows fact_table hs old new (o.1.1.1.1.0 (λ e. absurd (omega (arith, e)))) has.fact_is;
        migrated_is =
            same_rows migrated_table _ old new (o.1.1.1.1.1.0 (λ e. absurd (omega (arith, e)))) has.migrated_is;
        amends_is = same_rows amends_table ts old new (o.1.1.1.1.1.1.0 (λ e. absurd (omega (arith, e)))) has.amends_is;
      }

-- ---- the moments

within_more : (xs : List ℕ) (x : ℕ) → AllByRecursion IsMoment xs → IsMoment x → AllByRecursion IsMoment (xs ++ x ∷ [])
within_more [] x all one = (one, tt)
within_more (y ∷ xs) x all one = (all.0, within_more xs x all.1 one)

module _ (old new : Database) (moments : List (Option ℕ)) (had : Received old moments) where
  -- another table gained rows
  pub received_stays : (table : Table) (rows : List Row) → received_table.tree ≢ table.tree
      → Gains register_tables table rows old new → Received new moments
  received_stays table rows apart g = record {
    undated = had.undated;
    dated = had.dated;
    is = had.is;
    within = had.within;
    rows = same_rows received_table _ old new (g.others.1.1.1.1.1.1.1.0 apart) had.rows;
  }

  -- a request more, with its moment
  pub received_more : (moment : ℕ) → IsMoment moment
      → Gains register_tables received_table (received_row (suc (length moments)) moment ∷ []) old new
      → Received new (moments ++ Some moment ∷ [])
  received_more moment fits g =
      let many : length moments ≡ had.undated + length had.dated =
      ap length had.is ∙ length-all_moments had.undated had.dated in
      let place : had.undated + 1 + length had.dated ≡ suc (length moments) = omega (arith, many) in
      record {
        undated = had.undated;
        dated = had.dated ++ moment ∷ [];
        is =
            ap (λ l. l ++ Some moment ∷ []) had.is
            ∙ append_assoc (replicate had.undated None) (map Some had.dated) (Some moment ∷ [])
            ∙ ap (λ l. replicate had.undated None ++ l) (sym (map-append Some had.dated (moment ∷ [])));
        within = within_more had.dated moment had.within fits;
        rows =
            subst (TableHas new received_table)
            (sym (counted_push received_row (had.undated + 1) had.dated moment
            ∙ ap (λ n. received_rows had.undated had.dated ++ received_row n moment ∷ []) place))
            (holds_more register_tables received_table (received_rows had.undated had.dated)
            (received_row (suc (length moments)) moment ∷ []) old new had.rows g);
      }
