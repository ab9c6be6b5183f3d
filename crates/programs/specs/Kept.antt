-- A connection that carried several messages, as several items and deliveries; own rules.
use Rattle.std.specs.Prelude.{◌≡◌, ℕ, suc, List, [], ◌∷◌, ◌++◌, length}
use Rattle.filing_model.specs.declared.served.Mark.{Mark}
use Rattle.filing_model.specs.Stopping.{Crash}
use Rattle.gateway_server.specs.Connections.{Connection}
use Rattle.programs.specs.Cut.{HaveOneEach, at_first_arrival}
use Rattle.programs.specs.Pieces.{joined_reads, joined_marks, joined_texts, ended_of}
use Rattle.programs.specs.Happenings.{Situation, Happening, Stranger, Serving, Killing, Happen}

-- Each piece is written by itself, as an item of this number and those behind it, and served by itself. What happens
-- behind them goes by the number of the next item.
abbrev pub by_pieces : ℕ → List Connection → (ℕ → List Happening) → List Happening
by_pieces item [] behind = behind item
by_pieces item (piece ∷ pieces) behind =
    Stranger piece.read ∷ Serving (record { item = item; given = length piece.read }) piece
    ∷ by_pieces (suc item) pieces behind

-- nothing happens behind them
abbrev pub nothing_behind : ℕ → List Happening
nothing_behind item = []

-- these bytes are written, and the intake is killed as it serves them
abbrev pub killed_behind : List ℕ → Crash → List Mark → List ℕ → ℕ → List Happening
killed_behind bytes crash marks written item =
    Stranger bytes ∷ Killing (record { item = item; given = length bytes }) crash marks written ∷ []

-- Pieces of the connection, each with one message at most, were written and served one after another. Together they are
-- the connection, and the same is kept.
pub record HappensByPieces (limit : ℕ) (old : Situation) (connection : Connection) (new : Situation) : Type 0 where
  pub pieces : List Connection
  pub one_each : HaveOneEach pieces
  pub read : connection.read ≡ joined_reads pieces
  pub marks : connection.output.marks ≡ joined_marks pieces
  pub written : connection.output.bytes ≡ joined_texts pieces
  pub ended : connection.output.ended ≡ ended_of pieces
  pub next : Situation
  pub happen : Happen limit old (by_pieces (suc (length old.sent)) pieces nothing_behind) next
  pub requests : next.requests ≡ new.requests
  pub outboxes : next.outboxes ≡ new.outboxes

-- So were the pieces before the one at whose message the intake was killed, and it was killed as it served that one.
-- Together they are what came, what was marked and what was written, and the same is kept.
pub record IsKilledByPieces (limit : ℕ) (old : Situation) (came : List ℕ) (crash : Crash) (marks : List Mark)
    (written : List ℕ) (new : Situation) : Type 0 where
  pub pieces : List Connection
  pub one_each : HaveOneEach pieces
  pub last_read : List ℕ
  pub last_marks : List Mark
  pub last_written : List ℕ
  pub read : came ≡ joined_reads pieces ++ last_read
  pub marks_are : marks ≡ joined_marks pieces ++ last_marks
  pub written_is : written ≡ joined_texts pieces ++ last_written
  pub next : Situation
  pub happen : Happen limit old (by_pieces (suc (length old.sent)) pieces (killed_behind last_read (at_first_arrival
      crash) last_marks last_written)) next
  pub requests : next.requests ≡ new.requests
  pub outboxes : next.outboxes ≡ new.outboxes
