-- A unit of one measure whose prefix is bound or not.
use Rattle.std.proofs.Common.{◌≡◌, ℕ, List, ◌||◌, not, Bool, true, false, Option, refl}
use Rattle.serde_json.specs.Data.{Data}
use Rattle.xbrl_values.specs.QName.{prefix_of}
use Rattle.xbrl_values.specs.Unit.{is_measure}
use Rattle.xbrl_values.proofs.Measures.{measure-is_qname, measure-is_unit, measure-over, measure-under}
use Rattle.xbrl_report.specs.Dimension.{is_bound, is_unbound_unit}

module _ (s : List ℕ) (measure : is_measure s ≡ true) where
  pub unbound_measure : (namespaces : Option Data)
      → is_unbound_unit namespaces s ≡ not (is_bound namespaces (prefix_of s))
  unfolding is_unbound_unit
  unbound_measure namespaces =
      rw (
        measure-is_unit s measure,
        measure-over s measure,
        measure-under s measure,
        measure-is_qname s measure,
      ) (alone (not (is_bound namespaces (prefix_of s))))
    where
      alone : (b : Bool) → (b || false) ≡ b
      alone true = refl
      alone false = refl
