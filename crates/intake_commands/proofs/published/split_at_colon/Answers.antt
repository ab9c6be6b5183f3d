use Rattle.std.proofs.Common.{◌≡◌, ◌<◌, ℕ, List, [], length, lit<, arith, Option, Some, None, Bor, eqb}
use Rattle.std.specs.List.{position_or_len, before_first, after_first}
use Rattle.std.specs.Option.{MatchOption}
use Rattle.std.proofs.Math.ListN.{drop_of_length-le}
use Rattle.std.proofs.lemmas.Str.Pattern.{split_once_first}
use Rattle.intake_commands.specs.Words.{before_colon, after_colon}
use Rattle.intake_commands.proofs.published.split_at_colon.Goals as goal

-- where there is no colon, nothing stands behind one
parts : (s : List ℕ) (r : Option (Bor (List ℕ) × Bor (List ℕ)))
    → MatchOption r (position_or_len (λ b. eqb b 58) s ≡ length s) (λ x. (position_or_len (λ b. eqb b 58) s < length s)
    × (x.0.now ≡ before_first (λ b. eqb b 58) s) × (x.1.now ≡ after_first (λ b. eqb b 58) s))
    → MatchOption r (after_colon s ≡ []) (λ x. (x.0.now ≡ before_colon s) × (x.1.now ≡ after_colon s))
unfolding before_colon after_colon
parts s None h = drop_of_length-le s (omega (arith, h))
parts s (Some x) h = (h.1, h.2)

pub returns : goal.returns
returns c =
    parts c.args.text.now c.split_once.result (split_once_first 58 c.args.text.now c.split_once.result
    c.split_once.ensures.cases (lit< tt))
