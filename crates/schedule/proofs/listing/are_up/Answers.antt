use Rattle.std.proofs.Common.{rules, tests, sym, ◌∙◌}
use Rattle.std.proofs.lemmas.Iterator.{YieldsList-from_slice}
use Rattle.std.proofs.lemmas.Iterator.Search.{all_from_yields_List}
use Rattle.std.proofs.lemmas.List.Folds.{list_all-map}
use Rattle.filing_world.specs.World.{Outbox}
use Rattle.schedule.specs.Filers.{FilerParts}
use Rattle.schedule.proofs.listing.are_up.Goals as goal

pub returns : goal.returns
returns g c =
    all_from_yields_List (λ (filer : FilerParts). filer.box.up) _ _ c.all.result c.all.ensures.ran
    (YieldsList-from_slice c.args.filers.now c.iter.ensures.rest) (λ x b q k. search (rules, tests))
    ∙ sym (list_all-map (λ (box : Outbox). box.up) (λ filer. filer.box) c.args.filers.now)
