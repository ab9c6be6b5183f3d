-- Where in the bytes of a text its tokens begin, by the lexer of `json`.
use Rattle.std.specs.Prelude.{◌≡◌, ℕ, ◌+◌, List, take, count_by, Bool, true, false}
use Rattle.json.specs.Lex.{Lexeme, token, comma, colon, lex, between}

-- commas and colons are no tokens
abbrev pub is_token : Lexeme → Bool
is_token (token t) = true
is_token comma = false
is_token colon = false

-- how many tokens begin in these bytes
abbrev pub token_count : List ℕ → ℕ
token_count bytes = count_by is_token (lex between bytes)

-- Token number k of the text, counted from 0, begins at that offset: k tokens begin before it, and one more with the
-- byte there.
pub record BeginsAt (text : List ℕ) (k offset : ℕ) : Type 0 where
  pub before : token_count (take offset text) ≡ k
  pub with_it : token_count (take (offset + 1) text) ≡ k + 1
