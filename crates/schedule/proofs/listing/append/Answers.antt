use Rattle.std.proofs.Common.{◌≡◌, ◌++◌, ◌∙◌, ◌+◌, suc, map, take, ap, sym, subst, arith}
use Rattle.std.proofs.lemmas.List.{append-nil, take_all}
use Rattle.schedule.specs.OutboxListed.{listed}
use Rattle.schedule.specs.Listed.{view_listed}
use Rattle.schedule.proofs.GoingThrough.{listed_next}
use Rattle.schedule.proofs.listing.append.Goals as goal

pub loop-entry-init : goal.loop-entry-init
loop-entry-init c = sym (append-nil _)

pub loop-entry-preserved : goal.loop-entry-preserved
loop-entry-preserved c =
    let next : c.loop-entry.entry-index + 1 ≡ suc c.loop-entry.entry-index = omega arith in
    subst (λ n. map view_listed c.push_reserved.new.self.items ≡ map view_listed c.args.list.now.items
    ++ map (listed c.args.outbox) (take n c.args.states.now)) (sym next)
    (listed_next c.args.outbox c.args.states.now c.loop-entry.entry-index _ c.args.list.now.items
    c.loop-entry.list.items c.push_reserved.new.self.items c.loop-entry-test.true c.loop-entry.invariant
    (rw c.reserve.ensures.items at c.push_reserved.ensures.items))

pub returns-clause-list : goal.returns-clause-list
returns-clause-list c =
    c.loop-entry.invariant ∙ ap (λ l. map view_listed c.args.list.now.items ++ map (listed c.args.outbox) l)
    (take_all c.loop-entry.entry-index c.args.states.now c.loop-entry-test.false)
