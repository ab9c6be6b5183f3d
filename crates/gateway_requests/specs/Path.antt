-- What a path names.
use Rattle.std.specs.Prelude.{ℕ, Bool, not, nat_lt, length, slice_index, ◌&&◌, ◌==◌, List, Option}
use Rattle.std.specs.Char.{is_ascii_digit}
use Rattle.std.specs.List.{list_all}
use Rattle.gateway_requests.specs.declared.path.FilingsPath.{FilingsPath}

-- the filer, and the number if there is one
abbrev pub view_path : FilingsPath → List ℕ × Option ℕ
view_path named = (named.filer.now, named.number)

-- digits, the first of them not 0
abbrev pub is_decimal : List ℕ → Bool
is_decimal text = nat_lt 0 (length text) && not (slice_index text 0 == 48) && list_all is_ascii_digit text
