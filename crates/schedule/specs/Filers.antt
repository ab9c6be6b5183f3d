-- A filer's end as contracts see it: its outbox in the world, whether the outbox answers, and whether there is one.
use Rattle.std.specs.Prelude.{Bool, List, map}
use Rattle.std.specs.List.{list_any}
use Rattle.filing_world.specs.World.{Outbox}

-- The outbox as the world has it, whether the process is asleep (down, or with a database that refused a call), and
-- whether a fault took the process.
pub record FilerParts : Type 0 where
  pub box : Outbox
  pub asleep : Bool
  pub taken : Bool

-- the outboxes of these filers, as the world has them
abbrev pub boxes : List FilerParts → List Outbox
boxes = map (λ f. f.box)

-- which of them are asleep
abbrev pub sleepers : List FilerParts → List Bool
sleepers = map (λ f. f.asleep)

-- which of them a fault took
abbrev pub takens : List FilerParts → List Bool
takens = map (λ f. f.taken)

abbrev pub is_any_taken : List FilerParts → Bool
is_any_taken filers = list_any (λ taken. taken) (takens filers)
