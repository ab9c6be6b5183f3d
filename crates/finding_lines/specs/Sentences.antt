-- The line that reports a finding to people.
use Rattle.std.specs.Prelude.{ℕ, List, ◌++◌, codes}
use Rattle.std.specs.Fmt.{decimal}
use Rattle.std.specs.Str.Lossy.{utf8_lossy}
use Rattle.report_places.specs.declared.position.Position.{Position}
use Rattle.xbrl_report.specs.CodeNumber.{text_of}
use Rattle.xbrl_report.specs.Pair.{Pair}
use Rattle.xbrl_report.specs.declared.code.Code.{Code}
use Rattle.terminal_text.specs.OneLine.{one_line}

-- FILE:LINE:COLUMN: CODE:
abbrev pub head : List ℕ → Position → Code → List ℕ
head file position code =
    one_line file ++ codes ":" ++ decimal position.line ++ codes ":" ++ decimal position.column ++ codes ": "
    ++ text_of code ++ codes ": "

-- (PLACE)
abbrev pub tail : List ℕ → List ℕ
tail pointer = codes " (" ++ one_line pointer ++ codes ")\n"

-- the words of a message, with U+FFFD for bytes that are not UTF-8
abbrev pub shown_message : List ℕ → List ℕ
shown_message words = one_line (utf8_lossy words)

-- FILE:LINE:COLUMN: CODE: MESSAGE (PLACE)
abbrev pub sentence : List ℕ → Position → Pair → List ℕ → List ℕ
sentence file position pair words = head file position pair.code ++ shown_message words ++ tail pair.place
