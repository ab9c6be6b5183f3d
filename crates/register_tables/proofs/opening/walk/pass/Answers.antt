use Rattle.std.proofs.Common.{◌≡◌, ◌∷◌, ◌∙◌, [], false, subst, sym, Ok, Err, IsTrue, rules}
use Rattle.table_rows.specs.Picking.{has_number, Picks}
use Rattle.register_rows.specs.Schema.{kept_table}
use Rattle.register_tables.specs.Faults.{table_fault}
use Rattle.register_tables.specs.Reads.{Never}
use Rattle.register_tables.proofs.Ours.{after, asked, concludes, not_read, reads_then, says_so}
use Rattle.register_tables.proofs.WalkLemmas.{alone_row, none_passes, not_found, passes_row}
use Rattle.register_tables.proofs.opening.walk.pass.Goals as goal

pub returns-clause-reads : goal.returns-clause-reads
returns-clause-reads g c =
    let seq = c.args.seq in
    let left = c.args.left in
    let row = c.in-Some.row.now in
    let told = rw c.in-Some.is at c.only_row.ensures in
    let is : c.in_ok-rows.rows.items ≡ row ∷ [] = sym c.deref.ensures.value ∙ told in
    let so : IsTrue c.in_ok-is_alone.field-0 = search rules in
    says_so g.S.Store _ _ c.pass_judged.result
    (λ passed db h F at.
    passes_row F seq left db row (subst (λ l. Picks kept_table (has_number seq) l db) is h.0.0) c.pass_judged.new.filed
    passed (h.0.1.0 so) (h.1 F at)) (λ row db never. never.1)
    (reads_then g.S.Store c.in_ok-is_alone.field-0 c.pass_judged.result
    (reads_then g.S.Store c.in_ok-rows.rows (Ok c.in_ok-is_alone.field-0)
    (asked g.S.Store c.in_ok-rows.rows c.in_ok-rows.ensures.asks)
    (asked g.S.Store c.in_ok-is_alone.field-0 c.in_ok-is_alone.ensures)) c.pass_judged.ensures.reads)

pub returns-then-not-branch-clause-reads : goal.returns-then-not-branch-clause-reads
returns-then-not-branch-clause-reads g c =
    let seq = c.args.seq in
    let left = c.args.left in
    let row = c.in-Some.row.now in
    let told = rw c.in-Some.is at c.only_row.ensures in
    let is : c.in_ok-rows.rows.items ≡ row ∷ [] = sym c.deref.ensures.value ∙ told in
    let other : c.in_ok-is_alone.field-0 ≡ false = search rules in
    concludes g.S.Store _ Never c.in_ok-is_alone.field-0 (Ok _) tt
    (λ db h. (
      λ F at r tail p. not_found c.in_ok-is_alone.field-0 other h.1
          (alone_row F seq left db row (subst (λ l. Picks kept_table (has_number seq) l db) is h.0) r tail p),
      tt,
    ))
    (reads_then g.S.Store c.in_ok-rows.rows (Ok c.in_ok-is_alone.field-0)
    (asked g.S.Store c.in_ok-rows.rows c.in_ok-rows.ensures.asks)
    (asked g.S.Store c.in_ok-is_alone.field-0 c.in_ok-is_alone.ensures))

pub returns-in_default-clause-reads : goal.returns-in_default-clause-reads
returns-in_default-clause-reads g c =
    let many = rw (c.in_default.is, c.deref.ensures.value) at c.only_row.ensures in
    concludes g.S.Store _ Never c.in_ok-rows.rows (Ok _) tt
    (λ db picked. (λ F at. none_passes F c.args.seq c.args.left db c.in_ok-rows.rows.items picked many, tt))
    (asked g.S.Store c.in_ok-rows.rows c.in_ok-rows.ensures.asks)

pub returns-in_err-is_alone-clause-reads : goal.returns-in_err-is_alone-clause-reads
returns-in_err-is_alone-clause-reads g c =
    let why = table_fault c.in_err-is_alone.field-0.0 in
    let told : c.from_residual-in_err-is_alone.result ≡ Err why = search rules in
    rw told (after g.S.Store c.in_ok-rows.rows (Err why) (asked g.S.Store c.in_ok-rows.rows c.in_ok-rows.ensures.asks)
    (not_read g.S.Store _ Never c.in_err-is_alone.field-0.0 c.in_err-is_alone.ensures))
