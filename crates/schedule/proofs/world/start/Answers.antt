use Rattle.std.proofs.Common.{◌≡◌, ◌∙◌, ◌||◌, ap, map, refl, sym, subst}
use Rattle.filing_world.specs.Headline.{start}
use Rattle.filing_world.specs.Invariant.{Keeps}
use Rattle.filing_world.proofs.Keeping.{keeps_start}
use Rattle.schedule.specs.Filers.{is_any_taken}
use Rattle.schedule.specs.Played.{world_of}
use Rattle.schedule.specs.Served.{Served}
use Rattle.schedule.proofs.Steps.{world_with}
use Rattle.schedule.proofs.world.start.Goals as goal

pub invariant_of-result : goal.invariant_of-result
invariant_of-result g c = λ none.
    let codes = map (λ f. f.now) c.args.filers.now in
    let first : world_of c.in_ok-server.server c.new-sent.result.items c.new-outputs.result.items
    c.in_ok-filers.filers.items ≡ start codes c.args.limit =
    λ i. world_with (c.in_ok-server.ensures.made i) (c.new-sent.ensures.items i) (c.new-outputs.ensures.items i)
    (c.in_ok-filers.ensures.outboxes i) in
    subst Keeps (sym first) (keeps_start codes c.args.limit c.requires.filers c.requires.limit)

pub returns-clause-fresh : goal.returns-clause-fresh
returns-clause-fresh g c = (
  refl,
  refl,
  ap (λ (s : Served). s.taken || is_any_taken c.in_ok-filers.filers.items) c.in_ok-server.ensures.made
      ∙ c.in_ok-filers.ensures.there,
)
