use Rattle.std.proofs.Common.{◌≡◌, ◌∙◌, ◌+◌, suc, map, filter_map, take, ap, sym, subst, arith}
use Rattle.std.proofs.lemmas.List.{take_all}
use Rattle.filing_world.specs.Headline.{number_in}
use Rattle.schedule.specs.Listed.{view_listed}
use Rattle.schedule.proofs.GoingThrough.{confirmed_next}
use Rattle.schedule.proofs.listing.confirmed_of.Goals as goal

pub loop-entry-init : goal.loop-entry-init
loop-entry-init c = c.new-list.ensures.items

pub loop-entry-preserved : goal.loop-entry-preserved
loop-entry-preserved c =
    let next : c.loop-entry.entry-index + 1 ≡ suc c.loop-entry.entry-index = omega arith in
    subst (λ n. c.append_confirmed.new.list.items ≡ filter_map number_in (map view_listed (take n c.args.states.now)))
    (sym next)
    (confirmed_next c.args.states.now c.loop-entry.entry-index _ c.loop-entry.list.items
    c.append_confirmed.new.list.items c.loop-entry-test.true c.loop-entry.invariant
    c.in_ok-append_confirmed.ensures)

pub returns : goal.returns
returns c =
    c.loop-entry.invariant ∙ ap (λ l. filter_map number_in (map view_listed l))
    (take_all c.loop-entry.entry-index c.args.states.now c.loop-entry-test.false)
