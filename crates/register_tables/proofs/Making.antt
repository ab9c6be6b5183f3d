-- The statements that make the tables of a register, in turn.
use Rattle.std.proofs.Common.{◌≡◌, [], ◌∷◌, refl, subst, ◌∙◌, arith}
use Rattle.sqlite.specs.Effect.{Database, IsDatabase}
use Rattle.sqlite.specs.State.{State}
use Rattle.sqlite.specs.Store.{Ghosts}
use Rattle.sqlite.specs.Held.{Held, state}
use Rattle.sqlite.specs.Tree.{Trees}
use Rattle.filing_model.specs.Request.{firsts}
use Rattle.filing_model.specs.Register.{kept, kept_after, register, filings}
use Rattle.table_rows.specs.Tables.{no_schema, schema_with}
use Rattle.table_rows.specs.Rows.{Gains}
use Rattle.table_rows.specs.Statements.{begun, AreDone, AreTreesOf}
use Rattle.table_rows.proofs.CreateLemmas.{IsFreshly, creates, none_held}
use Rattle.table_rows.proofs.GainLemmas.{same_rows, still_declared}
use Rattle.register_rows.specs.Schema.{register_tables, IsDeclared, meta_table, kept_table, finding_table, filing_table}
use Rattle.register_rows.specs.Schema.{fact_table, migrated_table, amends_table, received_table}
use Rattle.register_rows.specs.Received.{Received}
use Rattle.register_rows.specs.Register.{HasRows, StandsFor, meta_row, migrated_row}
use Rattle.register_tables.specs.Making.{create_meta, create_kept, create_finding, create_filing, create_fact}
use Rattle.register_tables.specs.Making.{create_migrated, create_amends, create_received, making}
use Rattle.register_tables.specs.Registers.{IsRegisterOf, LeavesRegister}
use Rattle.register_tables.proofs.CreateTexts.{creates_meta, creates_kept, creates_finding, creates_filing}
use Rattle.register_tables.proofs.CreateTexts.{creates_fact, creates_migrated, creates_amends, creates_received}
use Rattle.register_tables.proofs.CreateTexts.{first_schema, second_schema, third_schema, fourth_schema, fifth_schema}
use Rattle.register_tables.proofs.CreateTexts.{sixth_schema, seventh_schema, own_indexes}
use Rattle.register_tables.proofs.OurGains.{meta_gains, none_old_style_gains}

-- inside a transaction, which goes on, there are the tables of a register with no request
pub record MakesTables (old new : State) : Type 0 where
  pub rows : HasRows new.now 0 [] [] [] [] []
  pub received : Received new.now []
  pub sound : IsDatabase new.now
  pub committed : new.committed ≡ old.committed

-- the tables, then the meta row, and then the row that tells of none before
has_no_rows : (old mid new : Database) → IsFreshly (schema_with register_tables [] own_indexes []) old
    → Gains register_tables meta_table (meta_row ∷ []) old mid
    → Gains register_tables migrated_table (migrated_row 0 ∷ []) mid new → HasRows new 0 [] [] [] [] []
has_no_rows old mid new fresh g h =
    let e = fresh.empty in
    let o = g.others in
    let p = h.others in
    record {
      declared =
          record { tables = []; indexes = own_indexes; views = []; is = h.schema_is ∙ g.schema_is ∙ fresh.schema_is };
      meta_is = same_rows meta_table _ mid new (p.0 (λ same. absurd (omega (arith, same)))) (rw e.0 at g.gained);
      kept_is =
          none_held kept_table old new e.1.0 (p.1.0 (λ same. absurd (omega (arith, same)))
          ∙ o.1.0 (λ same. absurd (omega (arith, same))));
      finding_is =
          none_held finding_table old new e.1.1.0 (p.1.1.0 (λ same. absurd (omega (arith, same)))
          ∙ o.1.1.0 (λ same. absurd (omega (arith, same))));
      filing_is =
          none_held filing_table old new e.1.1.1.0 (p.1.1.1.0 (λ same. absurd (omega (arith, same)))
          ∙ o.1.1.1.0 (λ same. absurd (omega (arith, same))));
      fact_is =
          none_held fact_table old new e.1.1.1.1.0 (p.1.1.1.1.0 (λ same. absurd (omega (arith, same)))
          ∙ o.1.1.1.1.0 (λ same. absurd (omega (arith, same))));
      migrated_is = rw (o.1.1.1.1.1.0 (λ same. absurd (omega (arith, same))) ∙ e.1.1.1.1.1.0) at h.gained;
      amends_is =
          none_held amends_table old new e.1.1.1.1.1.1.0 (p.1.1.1.1.1.1.0 (λ same. absurd (omega (arith, same)))
          ∙ o.1.1.1.1.1.1.0 (λ same. absurd (omega (arith, same))));
    }

has_no_moments : (old mid new : Database) → IsFreshly (schema_with register_tables [] own_indexes []) old
    → Gains register_tables meta_table (meta_row ∷ []) old mid
    → Gains register_tables migrated_table (migrated_row 0 ∷ []) mid new → Received new []
has_no_moments old mid new fresh g h = record {
  undated = 0;
  dated = [];
  is = refl;
  within = tt;
  rows =
      none_held received_table old new fresh.empty.1.1.1.1.1.1.1.0
      (h.others.1.1.1.1.1.1.1.0 (λ same. absurd (omega (arith, same)))
      ∙ g.others.1.1.1.1.1.1.1.0 (λ same. absurd (omega (arith, same))));
}

module _ {S : Type 0} (g : Ghosts S) (a z : Held S) where
  -- inside one transaction
  pub makes_all : AreDone g making a z → (state g a).now.schema ≡ no_schema → MakesTables (state g a) (state g z)
  makes_all (b, p, (c, q, (d, r, (e, s, (f, t, (h, u, (i, v, (l, y, (j, w, (last, x, end)))))))))) none =
      let one =
      creates no_schema create_meta meta_table (state g a) (state g b) p.0 creates_meta refl
      (record { schema_is = none; empty = tt }) p.1.0 in
      let two =
      creates first_schema create_kept (record kept_table { tree = 0 }) (state g b) (state g c) q.0 creates_kept
      refl one q.1.0 in
      let three =
      creates second_schema create_finding (record finding_table { tree = 0 }) (state g c) (state g d) r.0
      creates_finding refl two r.1.0 in
      let four =
      creates third_schema create_filing (record filing_table { tree = 0 }) (state g d) (state g e) s.0
      creates_filing refl three s.1.0 in
      let five =
      creates fourth_schema create_fact (record fact_table { tree = 0 }) (state g e) (state g f) t.0 creates_fact
      refl four t.1.0 in
      let six =
      creates fifth_schema create_migrated (record migrated_table { tree = 0 }) (state g f) (state g h) u.0
      creates_migrated refl five u.1.0 in
      let seven =
      creates sixth_schema create_amends (record amends_table { tree = 0 }) (state g h) (state g i) v.0
      creates_amends refl six v.1.0 in
      let eight =
      creates seventh_schema create_received (record received_table { tree = 0 }) (state g i) (state g l) y.0
      creates_received refl seven y.1.0 in
      let there : IsDeclared (state g l).now.schema =
      record { tables = []; indexes = own_indexes; views = []; is = eight.schema_is } in
      let nine = meta_gains (state g l) (state g j) w.0 there w.1 in
      let meta = nine.0.gains there in
      let ten = none_old_style_gains (state g j) (state g last) x.0 x.1 in
      let sooner = ten.gains (still_declared register_tables (state g l).now (state g j).now meta.schema_is there) in
      let made : MakesTables (state g a) (state g last) = record {
        rows = has_no_rows (state g l).now (state g j).now (state g last).now eight meta sooner;
        received = has_no_moments (state g l).now (state g j).now (state g last).now eight meta sooner;
        sound = sooner.sound nine.1;
        committed =
            ten.committed ∙ nine.0.committed ∙ y.1.1.committed_is ∙ v.1.1.committed_is ∙ u.1.1.committed_is
            ∙ t.1.1.committed_is ∙ s.1.1.committed_is ∙ r.1.1.committed_is ∙ q.1.1.committed_is ∙ p.1.1.committed_is;
      } in
      subst (λ k. MakesTables (state g a) (state g k)) end made

-- ---- no request

none_kept : kept [] ≡ []
unfolding firsts kept_after
none_kept = refl

pub none_registered : register [] ≡ []
unfolding firsts kept_after filings
none_registered = refl

pub stands_for_none : (db : Database) → HasRows db 0 [] [] [] [] [] → Received db [] → StandsFor db 0 []
unfolding firsts
stands_for_none db has none = record {
  distinct = refl;
  completed = tt;
  within = omega arith;
  moments = [];
  one_each = refl;
  received = none;
  rows = rw none_kept has;
}

-- where there was no table before, the statements make an empty register
pub makes_empty : {S : Type 0} (g : Ghosts S) (a z : Held S) → AreDone g making (begun a) z
    → (state g a).now.schema ≡ no_schema → IsRegisterOf 0 [] (state g z).now
makes_empty g a z ran none = let made = makes_all g (begun a) z ran none in
    record { sound = made.sound; rows = stands_for_none _ made.rows made.received }

pub leaves_empty : {S : Type 0} (g : Ghosts S) (a : Held S) (trees : Trees) → AreTreesOf g making a trees
    → (state g a).now.schema ≡ no_schema → LeavesRegister 0 [] trees
leaves_empty g a trees m none =
    record { db = (state g m.last).now; is = m.is; register = makes_empty g a m.last m.done none }
