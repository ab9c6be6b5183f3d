use Rattle.sqlite.specs.Held.{state}
use Rattle.register_tables.specs.declared.select.picks.TheConstants.{FACTS_NUMBERED}
use Rattle.register_tables.proofs.PickTexts.{asks_facts_numbered}
use Rattle.register_tables.proofs.PickLemmas.{knows_on_ok, picks_facts_numbered}
use Rattle.register_tables.proofs.Questions.{asks_ours}
use Rattle.register_tables.proofs.select.picks.facts_numbered.Goals as goal

pub returns-clause-asks : goal.returns-clause-asks
returns-clause-asks g c =
    let new = c.numbered.new.conn in
    asks_ours g.S.Store c.args.conn.now new (asks_facts_numbered c.args.number) (λ d. d) c.numbered.result
    (λ d rows h. picks_facts_numbered (state g.S.Store c.args.conn.now) (state g.S.Store new) d rows.items
    c.args.number h)
    c.numbered.ensures.shown c.numbered.ensures.failed c.numbered.ensures.leaves

pub returns-clause-known : goal.returns-clause-known
returns-clause-known g c clean =
    let new = c.numbered.new.conn in
    knows_on_ok FACTS_NUMBERED.now _ (state g.S.Store c.args.conn.now) (state g.S.Store new) c.numbered.result
    (c.numbered.ensures.shown clean)

pub numbered-requires-clause-text : goal.numbered-requires-clause-text
numbered-requires-clause-text g c = (asks_facts_numbered c.args.number).reads
