-- The lines that show what came of a script: one for each filing, one for each entry, and one that counts the completed
-- requests.
use Rattle.std.specs.Prelude.{ℕ, List, [], ◌++◌, codes, Option, Some, None}
use Rattle.std.specs.Fmt.{decimal}
use Rattle.key_string.specs.Key.{spelling}
use Rattle.filing_model.specs.Outbox.{State, state_words}

-- replaces K, behind a space, if the filing replaces another
abbrev pub replaces_words : Option ℕ → List ℕ
replaces_words None = []
replaces_words (Some number) = codes " replaces " ++ decimal number

-- filing N FILER KEY, and which one it replaces
abbrev pub filing_line : ℕ → List ℕ → List ℕ → Option ℕ → List ℕ
filing_line number filer key replaces =
    codes "filing " ++ decimal number ++ codes " " ++ filer ++ codes " " ++ spelling key ++ replaces_words replaces
    ++ codes "\n"

-- entry O ID STATE
abbrev pub entry_line : ℕ → ℕ → State → List ℕ
entry_line outbox entry state =
    codes "entry " ++ decimal outbox ++ codes " " ++ decimal entry ++ codes " " ++ state_words state ++ codes "\n"

-- done K
abbrev pub done_line : ℕ → List ℕ
done_line count = codes "done " ++ decimal count ++ codes "\n"
