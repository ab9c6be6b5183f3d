-- The statements of a migration in turn, and the register that they make.
use Rattle.std.proofs.Common.{◌≡◌, ◌≤◌, ℕ, List, [], ◌∷◌, length, replicate, None, refl, sym, subst, ◌∙◌, arith}
use Rattle.std.proofs.lemmas.List.{append-nil, length-replicate}
use Rattle.sqlite.specs.Order.{Row}
use Rattle.sqlite.specs.Effect.{Database}
use Rattle.sqlite.specs.Store.{Ghosts}
use Rattle.sqlite.specs.Held.{Held, state}
use Rattle.filing_model.specs.Request.{Request}
use Rattle.table_rows.specs.Rows.{TableHas, Gains}
use Rattle.table_rows.proofs.CreateLemmas.{none_held, IsBeside, creates_beside}
use Rattle.table_rows.proofs.GainLemmas.{same_rows}
use Rattle.register_tables.specs.declared.opening.form.Earlier.{Earlier}
use Rattle.register_tables.specs.declared.opening.form.Earlier.TheVariants.{Second, Third, Fourth}
use Rattle.register_tables.specs.Earlier.{IsAlone, IsEarlierOf}
use Rattle.register_tables.specs.Making.{create_migrated, create_amends, create_received}
use Rattle.register_tables.specs.Migrating.{migrating}
use Rattle.table_rows.specs.Statements.{AreDone}
use Rattle.register_rows.specs.Received.{Received}
use Rattle.register_rows.specs.Register.{form_row, migrated_row}
use Rattle.register_rows.specs.Schema.{IsDeclared, register_tables, meta_table, kept_table, finding_table, filing_table}
use Rattle.register_rows.specs.Schema.{fact_table, migrated_table, amends_table, received_table}
use Rattle.register_tables.specs.Registers.{IsRegisterOf}
use Rattle.register_tables.specs.Walk.{AreAllOf}
use Rattle.register_tables.proofs.CreateTexts.{creates_migrated, creates_amends, creates_received}
use Rattle.register_tables.proofs.CreateTexts.{fifth_schema, sixth_schema, seventh_schema, own_indexes}
use Rattle.register_tables.proofs.MigrateTexts.{IsRaised, old_style_gains, raises, whole_schema}

-- all tables are there, with the rows of these requests, but `intake_meta` still tells the form of before
pub record HasAll (form old_style : ℕ) (F : List Request) (db : Database) : Type 0 where
  pub schema_is : db.schema ≡ whole_schema
  pub meta_is : TableHas db meta_table (form_row form ∷ [])
  pub amends : List Row
  pub are : AreAllOf F amends db
  pub migrated_is : TableHas db migrated_table (migrated_row old_style ∷ [])
  pub amends_is : TableHas db amends_table amends
  pub received_is : TableHas db received_table []
  pub within : old_style ≤ length F

-- it is a register of these requests, and no moment is known of them
pub record IsCurrent (old_style : ℕ) (F : List Request) (db : Database) : Type 0 where
  pub register : IsRegisterOf old_style F db
  pub undated : Received db (replicate (length F) None)

same_four : (F : List Request) (amends : List Row) (old new : Database) → new.trees 1 ≡ old.trees 1
    → new.trees 3 ≡ old.trees 3 → new.trees 5 ≡ old.trees 5 → new.trees 7 ≡ old.trees 7 → AreAllOf F amends old
    → AreAllOf F amends new
same_four F amends old new a b c d are = record {
  distinct = are.distinct;
  completed = are.completed;
  kept_is = same_rows kept_table _ old new a are.kept_is;
  finding_is = same_rows finding_table _ old new b are.finding_is;
  filing_is = same_rows filing_table _ old new c are.filing_is;
  fact_is = same_rows fact_table _ old new d are.fact_is;
  amends_is = are.amends_is;
}

no_moments : (db : Database) (count : ℕ) → TableHas db received_table [] → Received db (replicate count None)
no_moments db count none = record {
  undated = count;
  dated = [];
  is = sym (append-nil (replicate count None));
  within = tt;
  rows = none;
}

module _ (old_style : ℕ) (F : List Request) where
  raised_register : (form : ℕ) (old new : Database) → HasAll form old_style F old → IsRaised old new
      → IsCurrent old_style F new
  raised_register form old new has r =
      let o = r.others in
      let none =
      no_moments new (length F)
      (same_rows received_table [] old new (o.1.1.1.1.1.1.1.0 (λ e. absurd (omega (arith, e)))) has.received_is) in
      record {
        register = record {
          sound = r.sound;
          rows = record {
            distinct = has.are.distinct;
            completed = has.are.completed;
            within = has.within;
            moments = replicate (length F) None;
            one_each = length-replicate (length F) None;
            received = none;
            rows = record {
              declared = record { tables = []; indexes = own_indexes; views = []; is = r.schema_is };
              meta_is = r.meta_is;
              kept_is = same_rows kept_table _ old new (o.1.0 (λ e. absurd (omega (arith, e)))) has.are.kept_is;
              finding_is =
                  same_rows finding_table _ old new (o.1.1.0 (λ e. absurd (omega (arith, e)))) has.are.finding_is;
              filing_is =
                  same_rows filing_table _ old new (o.1.1.1.0 (λ e. absurd (omega (arith, e)))) has.are.filing_is;
              fact_is = same_rows fact_table _ old new (o.1.1.1.1.0 (λ e. absurd (omega (arith, e)))) has.are.fact_is;
              migrated_is =
                  same_rows migrated_table _ old new (o.1.1.1.1.1.0 (λ e. absurd (omega (arith, e)))) has.migrated_is;
              amends_is =
                  subst (TableHas new amends_table) has.are.amends_is
                  (same_rows amends_table _ old new (o.1.1.1.1.1.1.0 (λ e. absurd (omega (arith, e)))) has.amends_is);
            };
          };
        };
        undated = none;
      }

  -- the fourth form lacks one table
  fourth_all : (old new : Database) → IsBeside seventh_schema (record received_table { tree = 0 }) old new
      → IsEarlierOf Fourth old_style F old → HasAll 4 old_style F new
  fourth_all old new b is =
      let o = b.others in
      record {
        schema_is = b.schema_is;
        meta_is = same_rows meta_table _ old new o.0 is.rows.meta_is;
        amends = is.rows.amends;
        are = same_four F is.rows.amends old new o.1.0 o.1.1.0 o.1.1.1.0 o.1.1.1.1.0 is.rows.are;
        migrated_is = same_rows migrated_table _ old new o.1.1.1.1.1.0 is.rows.old_style_is.0;
        amends_is = same_rows amends_table _ old new o.1.1.1.1.1.1.0 is.rows.targets;
        received_is = none_held received_table new new b.empty refl;
        within = is.rows.old_style_is.1;
      }

  -- the third lacks two
  third_all : (old one new : Database) → IsBeside sixth_schema (record amends_table { tree = 0 }) old one
      → IsBeside seventh_schema (record received_table { tree = 0 }) one new
      → IsEarlierOf Third old_style F old → HasAll 3 old_style F new
  third_all old one new b c is =
      let o = b.others in
      let p = c.others in
      record {
        schema_is = c.schema_is;
        meta_is = same_rows meta_table _ old new (p.0 ∙ o.0) is.rows.meta_is;
        amends = is.rows.amends;
        are = same_four F is.rows.amends old new (p.1.0 ∙ o.1.0) (p.1.1.0 ∙ o.1.1.0) (p.1.1.1.0
            ∙ o.1.1.1.0) (p.1.1.1.1.0 ∙ o.1.1.1.1.0) is.rows.are;
        migrated_is = same_rows migrated_table _ old new (p.1.1.1.1.1.0 ∙ o.1.1.1.1.1.0) is.rows.old_style_is.0;
        amends_is =
            subst (TableHas new amends_table) (sym is.rows.targets)
            (none_held amends_table one new b.empty p.1.1.1.1.1.1.0);
        received_is = none_held received_table new new c.empty refl;
        within = is.rows.old_style_is.1;
      }

  -- the second lacks three, and the row of one of them
  second_all : (old one two three new : Database) → IsBeside fifth_schema (record migrated_table { tree = 0 }) old one
      → IsBeside sixth_schema (record amends_table { tree = 0 }) one two
      → IsBeside seventh_schema (record received_table { tree = 0 }) two three
      → Gains register_tables migrated_table (migrated_row old_style ∷ []) three new
      → IsEarlierOf Second old_style F old → HasAll 2 old_style F new
  second_all old one two three new b c d g is =
      let o = b.others in
      let p = c.others in
      let q = d.others in
      let r = g.others in
      record {
        schema_is = g.schema_is ∙ d.schema_is;
        meta_is =
            same_rows meta_table _ old new (r.0 (λ e. absurd (omega (arith, e))) ∙ q.0 ∙ p.0 ∙ o.0) is.rows.meta_is;
        amends = is.rows.amends;
        are = same_four F is.rows.amends old new (r.1.0 (λ e. absurd (omega (arith, e))) ∙ q.1.0 ∙ p.1.0
            ∙ o.1.0) (r.1.1.0 (λ e. absurd (omega (arith, e))) ∙ q.1.1.0 ∙ p.1.1.0 ∙ o.1.1.0)
            (r.1.1.1.0 (λ e. absurd (omega (arith, e))) ∙ q.1.1.1.0 ∙ p.1.1.1.0
            ∙ o.1.1.1.0) (r.1.1.1.1.0 (λ e. absurd (omega (arith, e))) ∙ q.1.1.1.1.0 ∙ p.1.1.1.1.0
            ∙ o.1.1.1.1.0) is.rows.are;
        migrated_is = rw (q.1.1.1.1.1.0 ∙ p.1.1.1.1.1.0 ∙ b.empty) at g.gained;
        amends_is =
            subst (TableHas new amends_table) (sym is.rows.targets)
            (none_held amends_table two new c.empty (r.1.1.1.1.1.1.0 (λ e. absurd (omega (arith, e)))
            ∙ q.1.1.1.1.1.1.0));
        received_is =
            none_held received_table three new d.empty (r.1.1.1.1.1.1.1.0 (λ e. absurd (omega (arith, e))));
        within = omega (arith, is.rows.old_style_is);
      }

  module _ {S : Type 0} (g : Ghosts S) (a z : Held S) where
    -- inside one transaction
    pub makes_current : (form : Earlier) → AreDone g (migrating form old_style) a z
        → IsAlone form (state g a).now.schema → IsEarlierOf form old_style F (state g a).now
        → IsCurrent old_style F (state g z).now
    makes_current Second (b, p, (c, q, (d, r, (e, s, (last, t, end))))) alone is =
        let one =
        creates_beside fifth_schema create_migrated (record migrated_table { tree = 0 }) (state g a) (state g b) p.0
        creates_migrated refl alone p.1.0 in
        let two =
        creates_beside sixth_schema create_amends (record amends_table { tree = 0 }) (state g b) (state g c) q.0
        creates_amends refl one.schema_is q.1.0 in
        let three =
        creates_beside seventh_schema create_received (record received_table { tree = 0 }) (state g c) (state g d) r.0
        creates_received refl two.schema_is r.1.0 in
        let there : IsDeclared (state g d).now.schema =
        record { tables = []; indexes = own_indexes; views = []; is = three.schema_is } in
        let four = (old_style_gains (state g d) (state g e) old_style s.0 s.1).gains there in
        let all =
        second_all (state g a).now (state g b).now (state g c).now (state g d).now (state g e).now one two three four
        is in
        let five = raises 2 (state g e) (state g last) t.0 all.schema_is all.meta_is t.1.0 in
        subst (λ k. IsCurrent old_style F (state g k).now) end
        (raised_register 2 (state g e).now (state g last).now all five)
    makes_current Third (b, p, (c, q, (last, r, end))) alone is =
        let one =
        creates_beside sixth_schema create_amends (record amends_table { tree = 0 }) (state g a) (state g b) p.0
        creates_amends refl alone p.1.0 in
        let two =
        creates_beside seventh_schema create_received (record received_table { tree = 0 }) (state g b) (state g c) q.0
        creates_received refl one.schema_is q.1.0 in
        let all = third_all (state g a).now (state g b).now (state g c).now one two is in
        let three = raises 3 (state g c) (state g last) r.0 all.schema_is all.meta_is r.1.0 in
        subst (λ k. IsCurrent old_style F (state g k).now) end
        (raised_register 3 (state g c).now (state g last).now all three)
    makes_current Fourth (b, p, (last, q, end)) alone is =
        let one =
        creates_beside seventh_schema create_received (record received_table { tree = 0 }) (state g a) (state g b) p.0
        creates_received refl alone p.1.0 in
        let all = fourth_all (state g a).now (state g b).now one is in
        let two = raises 4 (state g b) (state g last) q.0 all.schema_is all.meta_is q.1.0 in
        subst (λ k. IsCurrent old_style F (state g k).now) end
        (raised_register 4 (state g b).now (state g last).now all two)
