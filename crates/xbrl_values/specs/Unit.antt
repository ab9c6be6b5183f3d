-- Units (OIM 1.0, unit core dimension; its string representation in xBRL-JSON 1.0).
use Rattle.std.specs.Prelude.{ℕ, ◌-◌, ◌==◌, ◌&&◌, ◌||◌, nat_lt, not, Bool, List, [], ◌∷◌, length, take, slice_index}
use Rattle.std.specs.Prelude.{Option, None, Some, option_and_then, unwrap_or, if◌then◌else◌}
use Rattle.std.specs.List.{list_all, list_any, before_first, after_first, slice_split}
use Rattle.xbrl_values.specs.Period.{is_slash}
use Rattle.xbrl_values.specs.QName.{is_qname}
use Rattle.xbrl_values.specs.Text.{text_passes}

-- an asterisk, a slash or a parenthesis
abbrev pub is_unit_mark : ℕ → Bool
is_unit_mark b = (b == 42) || (b == 47) || (b == 40) || (b == 41)

-- own rule: a qualified name without these marks, so that these marks alone separate the parts of a unit
unfoldable pub is_measure : List ℕ → Bool
is_measure s = is_qname s && not (list_any is_unit_mark s)

-- the parts that asterisks separate
abbrev pub factors : List ℕ → List (List ℕ)
factors = slice_split (λ b. b == 42)

-- one or more measures, joined by asterisks
unfoldable pub is_measure_list : List ℕ → Bool
is_measure_list s = list_all is_measure (factors s)

-- what follows a parenthesis at the start, and what stands before one at the end
abbrev pub after_opening : List ℕ → Option (List ℕ)
after_opening [] = None
after_opening (x ∷ xs) = if x == 40 then Some xs else None

abbrev pub before_closing : List ℕ → Option (List ℕ)
before_closing s =
    if nat_lt 0 (length s) && (slice_index s (length s - 1) == 41) then Some (take (length s - 1) s) else None

unfoldable pub inside : List ℕ → Option (List ℕ)
inside s = option_and_then before_closing (after_opening s)

-- a measure, or a list in parentheses
unfoldable pub is_side : List ℕ → Bool
is_side s = is_measure s || text_passes is_measure_list (inside s)

-- two sides joined by a slash; a list; or a list in parentheses
unfoldable pub is_unit : List ℕ → Bool
is_unit s =
    if list_any is_slash s then is_side (before_first is_slash s) && is_side (after_first is_slash s)
    else is_measure_list s || text_passes is_measure_list (inside s)

-- the measures of a side or of a list
abbrev pub measures_of : List ℕ → List (List ℕ)
measures_of s = factors (unwrap_or (inside s) s)

-- the measures that a unit multiplies, and those by which it divides
unfoldable pub over : List ℕ → List (List ℕ)
over s = if list_any is_slash s then measures_of (before_first is_slash s) else measures_of s

unfoldable pub under : List ℕ → List (List ℕ)
under s = if list_any is_slash s then measures_of (after_first is_slash s) else []
