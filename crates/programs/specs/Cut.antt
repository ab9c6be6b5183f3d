-- A connection that is served by itself, cut into its pieces; own rules.
use Rattle.std.specs.Prelude.{◌≡◌, ◌≤◌, ℕ, List, ◌++◌, length}
use Rattle.std.specs.List.{AllByRecursion}
use Rattle.filing_model.specs.declared.served.Mark.{Mark}
use Rattle.filing_model.specs.Request.{Request}
use Rattle.filing_model.specs.Serving.{Keeping}
use Rattle.filing_model.specs.Stopping.{Crash, No, Before, After, IsStopped}
use Rattle.gateway_server.specs.Connections.{Connection, ServeInTurn}
use Rattle.programs.specs.Pieces.{joined_reads, joined_marks, joined_texts, ended_of}

-- each has one arrival at most
abbrev pub HaveOneEach : List Connection → Type 0
HaveOneEach pieces = AllByRecursion (λ piece. length piece.output.marks ≤ 1) pieces

-- Connections that are served in turn, each with one arrival at most. Together they are the connection.
pub record IsInPieces (requests : Keeping) (connection : Connection) : Type 0 where
  pub pieces : List Connection
  pub in_turn : ServeInTurn requests pieces
  pub one_each : HaveOneEach pieces
  pub read : connection.read ≡ joined_reads pieces
  pub marks : connection.output.marks ≡ joined_marks pieces
  pub written : connection.output.bytes ≡ joined_texts pieces
  pub ended : connection.output.ended ≡ ended_of pieces

-- such a stop at the first arrival
abbrev pub at_first_arrival : Crash → Crash
at_first_arrival No = No
at_first_arrival (Before number) = Before 1
at_first_arrival (After number) = After 1

-- Such connections, and behind them one that was stopped at its first arrival. Together they are the connection that
-- was stopped.
pub record IsStoppedInPieces (requests : Keeping) (bytes : List ℕ) (crash : Crash) (marks : List Mark) (out : List ℕ)
    : Type 0 where
  pub pieces : List Connection
  pub between : List Request
  pub in_turn : ServeInTurn (record requests { after = between }) pieces
  pub one_each : HaveOneEach pieces
  pub last_read : List ℕ
  pub last_marks : List Mark
  pub last_written : List ℕ
  pub stopped : IsStopped (record requests { before = between }) last_read (at_first_arrival crash) last_marks
      last_written
  pub read : bytes ≡ joined_reads pieces ++ last_read
  pub marks_are : marks ≡ joined_marks pieces ++ last_marks
  pub written : out ≡ joined_texts pieces ++ last_written
