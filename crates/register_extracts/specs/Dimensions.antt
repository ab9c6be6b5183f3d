-- The dimensions of a fact, as the columns of a record have them (own rule).
use Rattle.std.specs.Prelude.{◌≡◌, ℕ, List, Bool, true, ◌&&◌, ◌||◌, not, Option, Some, option_map, option_and_then}
use Rattle.std.specs.Prelude.{if◌then◌else◌}
use Rattle.serde_json.specs.Data.{Data, object, Members, no_members, member}
use Rattle.serde_json.specs.Find.{as_str, as_object, get}
use Rattle.xbrl_report.specs.Dimension.{is_core}
use Rattle.xbrl_report.specs.Tree.{is_text, is_null}

-- the text of the dimension of this name, if there is one
abbrev pub dimension : Option Data → List ℕ → Option (List ℕ)
dimension tree name = option_and_then (λ t. option_and_then as_str (get name t)) tree

-- the value of a taxonomy-defined dimension is a text or null (xBRL-JSON 1.0, dimension names and values)
abbrev pub is_text_or_null : Data → Bool
is_text_or_null d = is_text (Some d) || is_null (Some d)

-- the members that are no core dimensions, which have columns of their own; each with its value, in the same order
abbrev pub others : Members → Members
others no_members = no_members
others (member name d ms) = if not (is_core name) && is_text_or_null d then member name d (others ms) else others ms

-- the dimensions without columns of their own, as an object
abbrev pub other_dimensions : Option Data → Option Data
other_dimensions tree = option_map (λ ms. object (others ms)) (option_and_then as_object tree)

-- the dimensions of a fact of a valid report: a core dimension has a text, and another a text or null
abbrev pub AreDimensions : Members → Type 0
AreDimensions no_members = Unit {0}
AreDimensions (member name d ms) =
    ((if is_core name then is_text (Some d) else is_text_or_null d) ≡ true) × AreDimensions ms

-- the columns of the dimensions are the same of both
pub record AgreeInColumns (ms ns : Members) : Type 0 where
  pub core : (name : List ℕ) → is_core name ≡ true
      → dimension (Some (object ms)) name ≡ dimension (Some (object ns)) name
  pub others : others ms ≡ others ns
