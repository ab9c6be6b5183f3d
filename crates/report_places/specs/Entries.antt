-- Members of an object in a list, looked up by name. No public clause cites this file.
use Rattle.std.specs.Prelude.{◌≡◌, ℕ, Bool, true, false, not, List, [], ◌∷◌, Option, Some, None}
use Rattle.std.specs.Borrow.{Bor}
use Rattle.std.specs.Cmp.Lexicographic.{slice_cmp}
use Rattle.std.specs.List.{filter}
use Rattle.std.specs.List.Sorted.{IsSortedByKey, IsPartitionPoint}
use Rattle.std.specs.Ordering.{is_lt, nat_cmp}
use Rattle.std.specs.Str.{bytes_eq}

-- a name, and the token at which its value begins
abbrev pub Entry : Type 0
Entry = Bor (List ℕ) × ℕ

abbrev pub or_earlier : Option ℕ → Option ℕ → Option ℕ
or_earlier None earlier = earlier
or_earlier (Some at) earlier = Some at

abbrev pub last_value : List Entry → Option ℕ
last_value [] = None
last_value (e ∷ es) = or_earlier (last_value es) (Some e.1)

-- the last of those that have the name
abbrev pub value_at : List Entry → List ℕ → Option ℕ
value_at es name = last_value (filter (λ e. bytes_eq e.0.now name) es)

abbrev pub AreByName : List Entry → Type 0
AreByName = IsSortedByKey (λ e. e.0.now) (slice_cmp nat_cmp)

-- the name of the member is that name or before it
abbrev pub is_at_most : List ℕ → Entry → Bool
is_at_most name e = not (is_lt (slice_cmp nat_cmp name e.0.now))

-- so many members, and no other, have that name or one before it
abbrev pub IsEndOf : List ℕ → List Entry → ℕ → Type 0
IsEndOf name = IsPartitionPoint (λ e. is_at_most name e ≡ true) (λ e. is_at_most name e ≡ false)
