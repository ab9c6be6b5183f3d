use Rattle.std.proofs.Common.{◌∙◌, [], sym, append-nil}
use Rattle.register_tables.proofs.opening.walk.are_items.Goals as goal

pub returns-in-None : goal.returns-in-None
returns-in-None g c =
    let none = rw c.in-None.is at c.after_items.ensures in
    (λ yes. cc, λ is. absurd (none [] (is ∙ sym (append-nil _))))
