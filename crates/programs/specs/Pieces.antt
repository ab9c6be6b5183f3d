-- The pieces of a connection, one behind another.
use Rattle.std.specs.Prelude.{ℕ, List, [], ◌∷◌, ◌++◌}
use Rattle.filing_model.specs.declared.served.Ended.{Ended}
use Rattle.filing_model.specs.declared.served.Ended.TheVariants.{InputEnded}
use Rattle.filing_model.specs.declared.served.Mark.{Mark}
use Rattle.gateway_server.specs.Connections.{Connection}

-- what was read of the pieces, one behind another
abbrev pub joined_reads : List Connection → List ℕ
joined_reads [] = []
joined_reads (piece ∷ pieces) = piece.read ++ joined_reads pieces

-- the marks that they got
abbrev pub joined_marks : List Connection → List Mark
joined_marks [] = []
joined_marks (piece ∷ pieces) = piece.output.marks ++ joined_marks pieces

-- what was written for them
abbrev pub joined_texts : List Connection → List ℕ
joined_texts [] = []
joined_texts (piece ∷ pieces) = piece.output.bytes ++ joined_texts pieces

-- how the last of them ended
abbrev pub ended_of : List Connection → Ended
ended_of [] = InputEnded
ended_of (last ∷ []) = last.output.ended
ended_of (piece ∷ next ∷ pieces) = ended_of (next ∷ pieces)
