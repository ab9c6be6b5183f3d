use Rattle.std.proofs.Common.{Ok}
use Rattle.std.proofs.lemmas.Option.{IfSome_then}
use Rattle.register_tables.proofs.Ours.{asked_so, asks_then}
use Rattle.register_tables.proofs.WalkLemmas.{start_of}
use Rattle.register_tables.proofs.opening.walk.count_tables.Goals as goal

pub returns-clause-reads : goal.returns-clause-reads
returns-clause-reads g c =
    asked_so g.S.Store _ c.in_ok-facts.facts c.sizes_of.result
    (λ db h. start_of c.args.amends.now c.in_ok-kept.kept c.in_ok-findings.findings c.in_ok-filings.filings
    c.in_ok-facts.facts db h.0.0.0 h.0.0.1 h.0.1 h.1 c.sizes_of.result c.sizes_of.ensures)
    (asks_then g.S.Store c.in_ok-filings.filings (Ok c.in_ok-facts.facts)
    (asks_then g.S.Store c.in_ok-findings.findings (Ok c.in_ok-filings.filings)
    (asks_then g.S.Store c.in_ok-kept.kept (Ok c.in_ok-findings.findings) c.in_ok-kept.ensures
    c.in_ok-findings.ensures) c.in_ok-filings.ensures) c.in_ok-facts.ensures)

pub returns-clause-first : goal.returns-clause-first
returns-clause-first g c = IfSome_then c.sizes_of.result c.sizes_of.ensures (λ s h. (h.4, h.5))
