-- What the code reads in the comma-separated parts of a value.
use Rattle.std.specs.Prelude.{◌≡◌, ◌==◌, ℕ, ◌+◌, true, false, List, Option, min, drop, MatchOption}
use Rattle.std.specs.List.{prefix_len}
use Rattle.httparse.specs.Ascii.{digit_zero}
use Rattle.http_messages.specs.Head.{agree, agreed_number}
use Rattle.http_messages.specs.Response.{max_content_len}

-- the number that all parts write, or one more than a content may have in place of any larger one; nothing if they
-- don't agree
abbrev pub IsAgreed : List (List ℕ) → Option ℕ → Type 0
IsAgreed parts declared =
    MatchOption declared (agree parts ≡ false) (λ n. (agree parts ≡ true)
    × (n ≡ min (agreed_number parts) (max_content_len + 1)))

-- the digits that are left of a number without its leading zeros
abbrev pub significant : List ℕ → List ℕ
significant part = drop (prefix_len (λ d. d == digit_zero) part) part
