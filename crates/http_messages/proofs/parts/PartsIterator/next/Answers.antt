use Rattle.std.proofs.Common.{◌≡◌, ◌++◌, ◌∙◌, arith, rules}
use Rattle.std.specs.List.{flat_map}
use Rattle.std.proofs.lemmas.Grind.{common_steps}
use Rattle.std.specs.Prelude.{option_copied}
use Rattle.http_messages.specs.FieldsNamed.{values_left}
use Rattle.http_messages.specs.Head.{comma_parts}
use Rattle.http_messages.specs.PartsLeft.{parts_left}
use Rattle.http_messages.proofs.PartLemmas.{parts-turn}
use Rattle.http_messages.proofs.parts.PartsIterator.next.Goals as goal
use Rattle.http_messages.proofs.parts.PartsIterator.next.Goals.{in-Some, in-None+in_ok-value-in-None}

pub returns-clause-steps : goal.returns-clause-steps
returns-clause-steps c =
    let later = flat_map comma_parts (values_left c.match-self.self.values) in
    let begun : parts_left c.args.self.now ≡ comma_parts c.match-self.value.now ++ later =
    elim c.match-self.branch [
      | in-Some w ↦ grind (
        arith,
        common_steps,
      )
      | in-None+in_ok-value-in-None w ↦ grind (arith, common_steps)
    ] in
    begun ∙ parts-turn c.match-self.value.now c.split_at_first.result.0.now c.trim_ows.result.now
    (option_copied c.split_at_first.result.1) later c.split_at_first.ensures.parts c.trim_ows.ensures

pub returns-clause-goes : goal.returns-clause-goes
returns-clause-goes c =
    let steps = returns-clause-steps c in
    search (rules, steps)
