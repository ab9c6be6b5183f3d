use Rattle.sqlite.specs.Held.{state}
use Rattle.register_tables.specs.declared.select.picks.TheConstants.{KEPT_AT}
use Rattle.register_tables.proofs.PickTexts.{asks_kept_at}
use Rattle.register_tables.proofs.PickLemmas.{knows_on_ok, picks_kept_at}
use Rattle.register_tables.proofs.Questions.{asks_ours}
use Rattle.register_tables.proofs.select.picks.kept_at.Goals as goal

pub returns-clause-asks : goal.returns-clause-asks
returns-clause-asks g c =
    let new = c.numbered.new.conn in
    asks_ours g.S.Store c.args.conn.now new (asks_kept_at c.args.seq) (λ d. d) c.numbered.result
    (λ d rows h. picks_kept_at (state g.S.Store c.args.conn.now) (state g.S.Store new) d rows.items c.args.seq h)
    c.numbered.ensures.shown c.numbered.ensures.failed c.numbered.ensures.leaves

pub returns-clause-known : goal.returns-clause-known
returns-clause-known g c clean =
    let new = c.numbered.new.conn in
    knows_on_ok KEPT_AT.now _ (state g.S.Store c.args.conn.now) (state g.S.Store new) c.numbered.result
    (c.numbered.ensures.shown clean)

pub numbered-requires-clause-text : goal.numbered-requires-clause-text
numbered-requires-clause-text g c = (asks_kept_at c.args.seq).reads
