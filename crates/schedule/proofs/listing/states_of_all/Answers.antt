use Rattle.std.proofs.Common.{rules, ◌≡◌, ◌++◌, ◌∙◌, ◌+◌, ◌<◌, suc, length, map, drop, ap, sym, subst, refl, arith, []}
use Rattle.std.proofs.Common.{slice_get, Some}
use Rattle.std.proofs.lemmas.Grind.{common_steps}
use Rattle.std.proofs.lemmas.List.{append-nil, length-map}
use Rattle.filing_world.specs.Headline.{states_from}
use Rattle.schedule.specs.Filers.{boxes}
use Rattle.schedule.specs.Listed.{view_listed}
use Rattle.schedule.proofs.GoingThrough.{same_length, states_next, there_is}
use Rattle.schedule.proofs.Steps.{box_there}
use Rattle.schedule.proofs.listing.states_of_all.Goals as goal

pub loop-at-init : goal.loop-at-init
loop-at-init g c = record {
  same = refl;
  stays = refl;
  list = ap (λ l. map view_listed l ++ states_from 1 (boxes c.args.filers.now.items)) c.new-list.ensures.items;
}

pub append_states-requires : goal.append_states-requires
append_states-requires g c =
    let within : c.loop-at.at < length c.args.filers.now.items = search rules in
    subst (λ n. c.loop-at.at < n) (same_length (λ f. f.box) c.args.filers.now.items c.loop-at.filers.items
    (sym c.loop-at.invariant.same)) within

pub loop-at-preserved : goal.loop-at-preserved
loop-at-preserved g c =
    let all = boxes c.args.filers.now.items in
    let at = c.loop-at.at in
    let within : at < length c.args.filers.now.items = search rules in
    let found =
    there_is c.loop-at.filers.items at (subst (λ n. at < n)
    (same_length (λ f. f.box) c.args.filers.now.items c.loop-at.filers.items (sym c.loop-at.invariant.same))
    within) in
    let there : slice_get all at ≡ Some found.0.box =
    ap (λ bs. slice_get bs at) (sym c.loop-at.invariant.same)
    ∙ box_there c.loop-at.filers.items at found.0 found.1 in
    let next : at + 1 ≡ suc at = omega arith in
    record {
      same = c.in_ok-append_states.ensures.same ∙ c.loop-at.invariant.same;
      stays = c.in_ok-append_states.ensures.stays ∙ c.loop-at.invariant.stays;
      list = subst (λ n. map view_listed c.append_states.new.list.items ++ states_from (suc n) (drop n all)
          ≡ states_from 1 all) (sym next)
          (states_next all at found.0.box (states_from 1 all) (map view_listed c.loop-at.list.items)
          (map view_listed c.append_states.new.list.items) there c.loop-at.invariant.list
          (c.in_ok-append_states.ensures.list found.0 found.1));
    }

pub returns-clause-list : goal.returns-clause-list
returns-clause-list g c =
    let all = boxes c.args.filers.now.items in
    let none : drop c.loop-at.at all ≡ [] =
    let many : length all ≡ length c.args.filers.now.items = length-map c.args.filers.now.items (λ f. f.box) in
    grind (arith, common_steps, many) in
    sym (append-nil _) ∙ ap (λ bs. map view_listed c.loop-at.list.items ++ states_from (suc c.loop-at.at) bs) (sym none)
    ∙ c.loop-at.invariant.list

pub returns-clause-same : goal.returns-clause-same
returns-clause-same g c = c.loop-at.invariant.same

pub returns-clause-stays : goal.returns-clause-stays
returns-clause-stays g c = c.loop-at.invariant.stays
