use Rattle.std.proofs.Common.{◌≡◌, ◌<◌, ℕ, List, length, true, false, lit<, Option, Some, None, Bor, eqb}
use Rattle.std.specs.List.{position_or_len, before_first, after_first, list_any}
use Rattle.std.specs.Option.{MatchOption}
use Rattle.std.proofs.lemmas.Str.Pattern.{split_once_first}
use Rattle.xbrl_values.proofs.FirstPassing.{none_from_position, some_from_position}
use Rattle.xbrl_values.specs.Period.{is_slash}
use Rattle.xbrl_values.proofs.period.split_at_slash.Goals as goal

parts : (s : List ℕ) (r : Option (Bor (List ℕ) × Bor (List ℕ)))
    → MatchOption r (position_or_len (λ b. eqb b 47) s ≡ length s) (λ x. (position_or_len (λ b. eqb b 47) s < length s)
    × (x.0.now ≡ before_first (λ b. eqb b 47) s) × (x.1.now ≡ after_first (λ b. eqb b 47) s))
    → MatchOption r (list_any is_slash s ≡ false) (λ x. (list_any is_slash s ≡ true)
    × (x.0.now ≡ before_first is_slash s) × (x.1.now ≡ after_first is_slash s))
parts s None h = none_from_position is_slash s h
parts s (Some x) h = (some_from_position is_slash s h.0, h.1, h.2)

pub returns : goal.returns
returns c =
    parts c.args.text.now c.split_once.result (split_once_first 47 c.args.text.now c.split_once.result
    c.split_once.ensures.cases (lit< tt))
