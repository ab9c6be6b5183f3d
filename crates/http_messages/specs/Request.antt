-- A request, apart from its bytes.
use Rattle.std.specs.Prelude.{ℕ, List}
use Rattle.http_messages.specs.Head.{RequestParts}

-- a head and a body
pub record Request : Type 0 where
  pub head : RequestParts
  pub body : List ℕ
