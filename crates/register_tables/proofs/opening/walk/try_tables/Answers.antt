use Rattle.std.proofs.Common.{subst}
use Rattle.sqlite.specs.Effect.{Database}
use Rattle.sqlite.specs.Held.{state}
use Rattle.sqlite.specs.State.{HasCleanDisk}
use Rattle.table_rows.proofs.LeavingLemmas.{asked_then, clean_before}
use Rattle.register_tables.specs.Reads.{IsKnown}
use Rattle.register_tables.specs.declared.select.picks.TheConstants.{FACTS_NUMBERED, FILINGS_OF, FINDINGS_AT}
use Rattle.register_tables.proofs.opening.walk.try_tables.Goals as goal

pub returns-clause-known : goal.returns-clause-known
returns-clause-known g c clean =
    let three : HasCleanDisk (state g.S.Store c.filings_of.new.conn) =
    clean_before c.in_ok-facts_numbered.ensures.asks.leaves clean in
    let two : HasCleanDisk (state g.S.Store c.findings_at.new.conn) =
    clean_before c.in_ok-filings_of.ensures.asks.leaves three in
    let one : HasCleanDisk (state g.S.Store c.kept_at.new.conn) =
    clean_before c.in_ok-findings_at.ensures.asks.leaves two in
    let first = c.in_ok-kept_at.ensures.asks.leaves in
    let second = asked_then first c.in_ok-findings_at.ensures.asks.leaves in
    let third = asked_then second c.in_ok-filings_of.ensures.asks.leaves in
    record {
      kept = c.in_ok-kept_at.ensures.known one;
      finding = subst (λ (db : Database). IsKnown db.schema FINDINGS_AT.now) (first.left one).0.now_is
          (c.in_ok-findings_at.ensures.known two);
      filing = subst (λ (db : Database). IsKnown db.schema FILINGS_OF.now) (second.left two).0.now_is
          (c.in_ok-filings_of.ensures.known three);
      fact = subst (λ (db : Database). IsKnown db.schema FACTS_NUMBERED.now) (third.left three).0.now_is
          (c.in_ok-facts_numbered.ensures.known clean);
    }
