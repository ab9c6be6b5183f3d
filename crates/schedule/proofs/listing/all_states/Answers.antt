use Rattle.std.proofs.Common.{inl, ap, sym, ◌∙◌}
use Rattle.schedule.specs.Filers.{boxes}
use Rattle.schedule.specs.Listed.{are_up}
use Rattle.schedule.proofs.listing.all_states.Goals as goal

pub returns-else-are_up-clause-store : goal.returns-else-are_up-clause-store
returns-else-are_up-clause-store g c =
    λ e. inl (ap (λ filers. are_up (boxes filers)) (sym c.as_slice.ensures.value) ∙ sym c.are_up.ensures
    ∙ c.if-are_up.false)
