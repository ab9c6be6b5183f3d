-- Connections that are served, one behind another.
use Rattle.std.proofs.Common.{List, [], ◌∷◌, ◌++◌, ℕ, subst}
use Rattle.filing_model.specs.Request.{Request}
use Rattle.filing_model.specs.Serving.{keeping}
use Rattle.gateway_server.specs.Connections.{Connection, ServeInTurn}

-- some, and then more
pub turns_join : (limit : ℕ) (old_style before between after : List Request) (cs ds : List Connection)
    → ServeInTurn (keeping limit old_style before between) cs → ServeInTurn (keeping limit old_style between after) ds
    → ServeInTurn (keeping limit old_style before after) (cs ++ ds)
turns_join limit old_style before between after [] ds first second =
    subst (λ b. ServeInTurn (keeping limit old_style b after) ds) first second
turns_join limit old_style before between after (c ∷ cs) ds first second =
    (first.0, first.1, turns_join limit old_style first.0 between after cs ds first.2 second)
