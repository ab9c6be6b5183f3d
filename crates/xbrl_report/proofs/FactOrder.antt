-- The facts of a body ascend by identifier.
use Rattle.std.proofs.Common.{◌≡◌, ℕ, Bool, true, false, List, [], ◌∷◌, Option, Some, None, map, option_and_then, refl}
use Rattle.std.proofs.Common.{sym, ap, subst, if◌then◌else◌}
use Rattle.std.specs.Cmp.Lexicographic.{slice_cmp}
use Rattle.std.specs.List.Sorted.{IsStrictlySortedBy}
use Rattle.std.specs.Ordering.{nat_cmp}
use Rattle.std.specs.Str.{is_utf8}
use Rattle.serde_json.specs.Data.{Data}
use Rattle.serde_json.specs.Read.{read}
use Rattle.xbrl_report.specs.FactRecord.{FactRecord, fact_record}
use Rattle.xbrl_report.specs.Findings.{tree}
use Rattle.xbrl_report.specs.Ordered.{IsOrderedData}
use Rattle.xbrl_report.specs.Paths as path
use Rattle.xbrl_report.specs.ReportParts.{facts}
use Rattle.xbrl_report.specs.Tree.{entries_of, value_at}
use Rattle.xbrl_report.proofs.Members.{names}
use Rattle.xbrl_report.proofs.Ordered.{ordered-read, ordered_tree}

abbrev ids : List FactRecord → List (List ℕ)
ids = map (λ (fact : FactRecord). fact.id)

-- the identifiers are the names of the members
ids-names : (es : List (List ℕ × Data)) → ids (map fact_record es) ≡ names es
ids-names [] = refl
ids-names (e ∷ es) = ap (λ (ns : List (List ℕ)). e.0 ∷ ns) (ids-names es)

abbrev IsOrderedOption : Option Data → Type 0
IsOrderedOption None = Unit {0}
IsOrderedOption (Some d) = IsOrderedData d

ascend_by : (t : Option Data) → IsOrderedOption t
    → IsStrictlySortedBy (slice_cmp nat_cmp) (ids
    (map fact_record (entries_of (option_and_then (value_at path.facts) t))))
unfolding IsStrictlySortedBy
ascend_by None h = tt
ascend_by (Some d) h =
    subst (IsStrictlySortedBy (slice_cmp nat_cmp)) (sym (ids-names (entries_of (value_at path.facts d))))
    (ordered_tree d h path.facts)

ordered_if : (b : Bool) (text : List ℕ) (o : Option Data) → read text ≡ o → IsOrderedOption (if b then o else None)
ordered_if true text None e = tt
ordered_if true text (Some d) e = ordered-read text d e
ordered_if false text o e = tt

-- the facts of a body ascend
pub facts-ascend : (body : List ℕ)
    → IsStrictlySortedBy (slice_cmp nat_cmp) (map (λ (fact : FactRecord). fact.id) (facts body))
facts-ascend body = ascend_by (tree body) (ordered_if (is_utf8 body) body (read body) refl)
