-- What a world sees of its intake.
use Rattle.std.specs.Prelude.{ℕ, Bool, List}
use Rattle.filing_model.specs.Request.{Request}

-- A limit, the requests that were completed so far, whether the intake is up, and whether a fault took the process that
-- it runs in.
pub record Served : Type 0 where
  pub limit : ℕ
  pub done : List Request
  pub up : Bool
  pub taken : Bool
