-- What is found in a report that is to replace a filing.
use Rattle.std.specs.Prelude.{◌≡◌, ◌⊎◌, ℕ, Bool, false, IsTrue, List, [], Option}
use Rattle.serde_json.specs.Data.{Data}
use Rattle.xbrl_report.specs.declared.code.Code.TheVariants.{NotReplaceable}
use Rattle.xbrl_report.specs.Finding.{IsFinding}
use Rattle.xbrl_report.specs.Findings.{AreFindings, tree}
use Rattle.xbrl_report.specs.InOrder.{list_of}
use Rattle.xbrl_report.specs.Pair.{Pair, pair_at}
use Rattle.xbrl_report.specs.Tree.{is_object}

-- own rule: if the filing is not free to be replaced, a report that is an object has one finding more
abbrev pub IsAmendmentFinding : List ℕ → Bool → Option Data → Pair → Type 0
IsAmendmentFinding filer free d x =
    IsFinding filer d x ⊎ ((x ≡ pair_at [] NotReplaceable) × (free ≡ false) × IsTrue (is_object d))

abbrev pub IsAmendmentFindings : List ℕ → Bool → Option Data → List Pair → Type 0
IsAmendmentFindings filer free d = AreFindings (IsAmendmentFinding filer free d)

-- the one list that `IsAmendmentFindings` allows for a body
unfoldable pub amendment_findings : List ℕ → List ℕ → Bool → List Pair
amendment_findings filer body free = list_of filer free (tree body)
