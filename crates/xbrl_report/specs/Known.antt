-- Dimensions that are known to be right, so that an equal one need not be judged again. No public clause cites this
-- file.
use Rattle.std.specs.Prelude.{◌≡◌, ℕ, List, [], ◌∷◌, Bool, Option, Some, None, option_and_then}
use Rattle.std.specs.List.{flat_map}
use Rattle.serde_json.specs.Data.{Data, Members}
use Rattle.serde_json.specs.Find.{as_object, as_str}
use Rattle.xbrl_values.specs.Text.{same, text_passes}
use Rattle.xbrl_report.specs.Pair.{Pair}
use Rattle.xbrl_report.specs.Tree.{entries}
use Rattle.xbrl_report.specs.Walk.{dimension_pairs}

-- in none of these entries is anything found, whatever the fact
abbrev pub AreRight : List ℕ → Option Data → List (List ℕ × Data) → Type 0
AreRight filer namespaces es = flat_map (dimension_pairs filer namespaces []) es ≡ []

-- both are texts, and equal
abbrev pub is_same_text : Data → Data → Bool
is_same_text d e = text_passes (λ s. text_passes (same s) (as_str e)) (as_str d)

-- the entries of the last fact, or those known before if it has none
abbrev pub entries_else : Option Members → List (List ℕ × Data) → List (List ℕ × Data)
entries_else None known = known
entries_else (Some ms) known = entries ms

-- the entries that are known to be right after a fact with that value at its dimensions, with those pairs gathered so
-- far
abbrev pub known_after : List Pair → Option Data → List (List ℕ × Data) → List (List ℕ × Data)
known_after [] dimensions known = entries_else (option_and_then as_object dimensions) known
known_after (x ∷ xs) dimensions known = known
