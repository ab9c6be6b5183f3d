-- What a call writes to a JSON writer.
use Rattle.std.specs.Prelude.{◌≡◌, ◌++◌, ℕ, List, [], ◌∷◌, Option, Some, None, Result, OnOk, decimal}
use Rattle.json.specs.Token.{Token, key, number}
use Rattle.json.specs.Written.{Written}

-- these tokens were appended behind what was written before
pub record AppendsTokens {E : Type 0} (old new : Written) (tokens : List Token) (result : Result (Unit {0}) E)
    : Type 0 where
  pub more : OnOk result (new.tokens ≡ old.tokens ++ tokens)
  pub before : new.before ≡ old.before

-- the tokens of a member with a number, if there is one
abbrev pub number_tokens : List ℕ → Option ℕ → List Token
number_tokens name None = []
number_tokens name (Some n) = key name ∷ number (decimal n) ∷ []
