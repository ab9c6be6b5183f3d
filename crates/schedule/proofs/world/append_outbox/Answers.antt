use Rattle.std.proofs.Common.{◌∙◌, ap}
use Rattle.schedule.specs.Filers.{is_any_taken}
use Rattle.schedule.proofs.Steps.{none_taken_more}
use Rattle.schedule.proofs.world.append_outbox.Goals as goal

pub returns-clause-there : goal.returns-clause-there
returns-clause-there g c = λ none.
    ap is_any_taken c.push_reserved.ensures.items ∙ none_taken_more c.reserve.new.self.items c.in_ok-new.field-0
    (ap is_any_taken c.reserve.ensures.items ∙ none) c.in_ok-new.ensures.there
