-- Connections that are over, and what it means that they are served one after another; own rules.
use Rattle.std.specs.Prelude.{◌≡◌, ℕ, List, [], ◌∷◌}
use Rattle.filing_model.specs.declared.served.Mark.{Mark}
use Rattle.filing_model.specs.declared.served.Ended.{Ended}
use Rattle.filing_model.specs.Request.{Request}
use Rattle.filing_model.specs.Serving.{Keeping, Serves}

-- what became of a connection that is over: what was marked, how it ended, and what was written
pub record Output : Type 0 where
  pub marks : List Mark
  pub ended : Ended
  pub bytes : List ℕ

-- a connection that is over: what was read of it, and what it came to
pub record Connection : Type 0 where
  pub read : List ℕ
  pub output : Output

-- each is served after the requests that the one before it left
abbrev pub ServeInTurn : Keeping → List Connection → Type 0
ServeInTurn requests [] = requests.after ≡ requests.before
ServeInTurn requests (connection ∷ connections) =
    (between : List Request) × Serves (record requests { after = between }) connection.read connection.output.marks
    connection.output.ended connection.output.bytes
    × ServeInTurn (record requests { before = between }) connections
