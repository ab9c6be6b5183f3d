use Rattle.std.proofs.Common.{false, ◌≡◌, ◌<◌, ◌≤◌, length, inr, Ok, Err, IsTrue, [], refl, sym, subst, rules, ◌∙◌}
use Rattle.sqlite.specs.Held.{state}
use Rattle.sqlite.specs.State.{HasCleanDisk}
use Rattle.table_rows.proofs.LeavingLemmas.{clean_before}
use Rattle.register_tables.specs.Faults.{table_fault}
use Rattle.register_tables.specs.Walk.{Amounts, IsFirstUnsound, IsUnsound, Walked}
use Rattle.register_tables.proofs.Ours.{after, asked, concludes, not_read, reads_then, refuses_so}
use Rattle.register_tables.proofs.WalkEnds.{all_walked, none_out, unsound_early, unsound_first, unsound_left}
use Rattle.register_tables.proofs.WalkEnds.{unsound_stray}
use Rattle.register_tables.proofs.WalkLemmas.{not_found}
use Rattle.register_tables.proofs.opening.walk.count_by_walk.Goals as goal

pub returns-then-branch-clause-reads : goal.returns-then-branch-clause-reads
returns-then-branch-clause-reads g c =
    let early : IsTrue c.in_ok-has_early.field-0 = search rules in
    concludes g.S.Store (λ counts db. Amounts counts c.args.amends.now db)
    (λ row db. IsUnsound c.args.amends.now row db)
    c.in_ok-has_early.field-0 (Err _) (λ is. cc, λ is. cc)
    (λ db says. (tt, inr (1, refl, unsound_early c.args.amends.now db (says.0 early))))
    (after g.S.Store c.in_ok-try_tables.field-0 (Ok c.in_ok-has_early.field-0)
    (asked g.S.Store c.in_ok-try_tables.field-0 c.in_ok-try_tables.ensures.asks)
    (after g.S.Store c.in_ok-sizes.field-0 (Ok c.in_ok-has_early.field-0)
    (asked g.S.Store c.in_ok-sizes.field-0 c.in_ok-sizes.ensures.reads)
    (asked g.S.Store c.in_ok-has_early.field-0 c.in_ok-has_early.ensures)))

pub returns-in_err-left-clause-reads : goal.returns-in_err-left-clause-reads
returns-in_err-left-clause-reads g c =
    let late : c.in_ok-has_early.field-0 ≡ false = search rules in
    let rows = c.args.amends.now in
    let sizes = c.in-Some.sizes in
    let why = c.in_err-left.field-0.0 in
    let first = rw c.in-Some.is at c.in_ok-sizes.ensures.first in
    let same = first.1 ∙ c.from_first-targets.ensures in
    let told : c.from_residual-in_err-left.result ≡ Err why = search rules in
    rw told (refuses_so g.S.Store (λ counts db. Amounts counts rows db) (λ row db. IsUnsound rows row db) why
    (λ row db h.
    let start = rw c.in-Some.is at h.0.0 in
    let begins = subst (λ l. Walked l sizes.kept 0 sizes.others db []) (sym first.1) start in
    unsound_first rows row db (not_found c.in_ok-has_early.field-0 late h.0.1)
    (subst (λ l. IsFirstUnsound l row db) same (h.1 begins)))
    (after g.S.Store c.in_ok-try_tables.field-0 (Err why)
    (asked g.S.Store c.in_ok-try_tables.field-0 c.in_ok-try_tables.ensures.asks)
    (reads_then g.S.Store c.in_ok-has_early.field-0 (Err why)
    (reads_then g.S.Store c.in_ok-sizes.field-0 (Ok c.in_ok-has_early.field-0)
    (asked g.S.Store c.in_ok-sizes.field-0 c.in_ok-sizes.ensures.reads)
    (asked g.S.Store c.in_ok-has_early.field-0 c.in_ok-has_early.ensures)) c.in_err-left.ensures.reads)))

pub returns-then-targets-amends-clause-reads : goal.returns-then-targets-amends-clause-reads
returns-then-targets-amends-clause-reads g c =
    let late : c.in_ok-has_early.field-0 ≡ false = search rules in
    let rows = c.args.amends.now in
    let sizes = c.in-Some.sizes in
    let left = c.in_ok-left.left in
    let catalogue = c.in_ok-left.catalogue in
    let first = rw c.in-Some.is at c.in_ok-sizes.ensures.first in
    let same = first.1 ∙ c.from_first-targets.ensures in
    let fewer : length c.from_first-targets.result.now < length rows = search rules in
    concludes g.S.Store (λ counts db. Amounts counts rows db) (λ row db. IsUnsound rows row db) (left, catalogue)
    (Err _) (λ is. cc, λ is. cc)
    (λ db h.
    let start = rw c.in-Some.is at h.0.0 in
    let begins = subst (λ l. Walked l sizes.kept 0 sizes.others db []) (sym first.1) start in
    let walked = h.1 begins in (
      tt,
      inr (
        0,
        refl,
        unsound_stray rows sizes.kept left db (not_found c.in_ok-has_early.field-0 late h.0.1) walked.0
            (subst (λ l. Walked l sizes.kept sizes.kept left db walked.0) same walked.1)
            (subst (λ l. length l < length rows) c.from_first-targets.ensures fewer),
      ),
    ))
    (after g.S.Store c.in_ok-try_tables.field-0 (Ok (left, catalogue))
    (asked g.S.Store c.in_ok-try_tables.field-0 c.in_ok-try_tables.ensures.asks)
    (reads_then g.S.Store c.in_ok-has_early.field-0 (Ok (left, catalogue))
    (reads_then g.S.Store c.in_ok-sizes.field-0 (Ok c.in_ok-has_early.field-0)
    (asked g.S.Store c.in_ok-sizes.field-0 c.in_ok-sizes.ensures.reads)
    (asked g.S.Store c.in_ok-has_early.field-0 c.in_ok-has_early.ensures)) c.in_ok-left.ensures.reads))

pub returns-in_default-totals_of-clause-reads : goal.returns-in_default-totals_of-clause-reads
returns-in_default-totals_of-clause-reads g c =
    let late : c.in_ok-has_early.field-0 ≡ false = search rules in
    let rows = c.args.amends.now in
    let sizes = c.in-Some.sizes in
    let left = c.in_ok-left.left in
    let catalogue = c.in_ok-left.catalogue in
    let first = rw c.in-Some.is at c.in_ok-sizes.ensures.first in
    let same = first.1 ∙ c.from_first-targets.ensures in
    let over = rw c.in_default-totals_of.is at c.totals_of.ensures in
    concludes g.S.Store (λ counts db. Amounts counts rows db) (λ row db. IsUnsound rows row db) (left, catalogue)
    (Err _) (λ is. cc, λ is. cc)
    (λ db h.
    let start = rw c.in-Some.is at h.0.0 in
    let begins = subst (λ l. Walked l sizes.kept 0 sizes.others db []) (sym first.1) start in
    let walked = h.1 begins in (
      tt,
      inr (
        0,
        refl,
        unsound_left rows sizes.kept left db (not_found c.in_ok-has_early.field-0 late h.0.1) walked.0
            (subst (λ l. Walked l sizes.kept sizes.kept left db walked.0) same walked.1) over,
      ),
    ))
    (after g.S.Store c.in_ok-try_tables.field-0 (Ok (left, catalogue))
    (asked g.S.Store c.in_ok-try_tables.field-0 c.in_ok-try_tables.ensures.asks)
    (reads_then g.S.Store c.in_ok-has_early.field-0 (Ok (left, catalogue))
    (reads_then g.S.Store c.in_ok-sizes.field-0 (Ok c.in_ok-has_early.field-0)
    (asked g.S.Store c.in_ok-sizes.field-0 c.in_ok-sizes.ensures.reads)
    (asked g.S.Store c.in_ok-has_early.field-0 c.in_ok-has_early.ensures)) c.in_ok-left.ensures.reads))

pub returns-clause-reads : goal.returns-clause-reads
returns-clause-reads g c =
    let rows = c.args.amends.now in
    let sizes = c.in-Some.sizes in
    let left = c.in_ok-left.left in
    let catalogue = c.in_ok-left.catalogue in
    let totals = c.in-Some-totals_of.totals in
    let first = rw c.in-Some.is at c.in_ok-sizes.ensures.first in
    let same = first.1 ∙ c.from_first-targets.ensures in
    let says = rw c.in-Some-totals_of.is at c.totals_of.ensures in
    let most : length rows ≤ length c.from_first-targets.result.now = search rules in
    let all = none_out rows (subst (λ l. length rows ≤ length l) c.from_first-targets.ensures most) in
    concludes g.S.Store (λ counts db. Amounts counts rows db) (λ row db. IsUnsound rows row db) (left, catalogue)
    (Ok totals) tt
    (λ db h.
    let start = rw c.in-Some.is at h.0.0 in
    let begins = subst (λ l. Walked l sizes.kept 0 sizes.others db []) (sym first.1) start in
    let walked = h.1 begins in (
      all_walked rows sizes.kept left db walked.0
          (subst (λ l. Walked l sizes.kept sizes.kept left db walked.0) (same ∙ all) walked.1) catalogue walked.2
          totals says,
      tt,
    ))
    (after g.S.Store c.in_ok-try_tables.field-0 (Ok (left, catalogue))
    (asked g.S.Store c.in_ok-try_tables.field-0 c.in_ok-try_tables.ensures.asks)
    (reads_then g.S.Store c.in_ok-has_early.field-0 (Ok (left, catalogue))
    (reads_then g.S.Store c.in_ok-sizes.field-0 (Ok c.in_ok-has_early.field-0)
    (asked g.S.Store c.in_ok-sizes.field-0 c.in_ok-sizes.ensures.reads)
    (asked g.S.Store c.in_ok-has_early.field-0 c.in_ok-has_early.ensures)) c.in_ok-left.ensures.reads))

pub returns-in_err-sizes-clause-reads : goal.returns-in_err-sizes-clause-reads
returns-in_err-sizes-clause-reads g c =
    let why = table_fault c.in_err-sizes.field-0.0 in
    let told : c.from_residual-in_err-sizes.result ≡ Err why = search rules in
    rw told (after g.S.Store c.in_ok-try_tables.field-0 (Err why)
    (asked g.S.Store c.in_ok-try_tables.field-0 c.in_ok-try_tables.ensures.asks)
    (not_read g.S.Store _ (λ row db. IsUnsound c.args.amends.now row db) c.in_err-sizes.field-0.0
    c.in_err-sizes.ensures.reads))

pub returns-in_err-has_early-clause-reads : goal.returns-in_err-has_early-clause-reads
returns-in_err-has_early-clause-reads g c =
    let why = table_fault c.in_err-has_early.field-0.0 in
    let told : c.from_residual-in_err-has_early.result ≡ Err why = search rules in
    rw told (after g.S.Store c.in_ok-try_tables.field-0 (Err why)
    (asked g.S.Store c.in_ok-try_tables.field-0 c.in_ok-try_tables.ensures.asks)
    (after g.S.Store c.in_ok-sizes.field-0 (Err why)
    (asked g.S.Store c.in_ok-sizes.field-0 c.in_ok-sizes.ensures.reads)
    (not_read g.S.Store _ (λ row db. IsUnsound c.args.amends.now row db) c.in_err-has_early.field-0.0
    c.in_err-has_early.ensures)))

pub returns-clause-known : goal.returns-clause-known
returns-clause-known g c clean =
    let early : HasCleanDisk (state g.S.Store c.has_early.new.conn) =
    clean_before c.in_ok-left.ensures.reads.leaves clean in
    let sized : HasCleanDisk (state g.S.Store c.count_tables.new.conn) =
    clean_before c.in_ok-has_early.ensures.leaves early in
    let tried : HasCleanDisk (state g.S.Store c.try_tables.new.conn) =
    clean_before c.in_ok-sizes.ensures.reads.leaves sized in
    c.in_ok-try_tables.ensures.known tried
