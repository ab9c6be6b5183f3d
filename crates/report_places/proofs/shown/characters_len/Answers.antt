use Rattle.std.proofs.Common.{◌+◌, ◌-◌, ◌++◌, ℕ, take, drop, sym, ap, ◌∙◌, arith}
use Rattle.report_places.specs.Shown.{first_characters}
use Rattle.report_places.proofs.Strings.{one_character, same_character, no_more, all_of_them}
use Rattle.report_places.proofs.shown.characters_len.Goals as goal
use Rattle.report_places.proofs.shown.characters_len.Goals.{then-begins_character+else-left-eq0, else-begins_character}

pub returns-then-left-eq0-clause-value : goal.returns-then-left-eq0-clause-value
returns-then-left-eq0-clause-value c =
    let l = c.loop-index in
    no_more c.args.bytes.now _ l.index l.left l.invariant (omega arith) (sym c.begins_character.ensures
    ∙ c.if-begins_character.true) c.if-left-eq0.true

pub loop-index-preserved : goal.loop-index-preserved
loop-index-preserved c =
    let l = c.loop-index in
    let bytes = c.args.bytes.now in
    let left = λ (n : ℕ). take (l.index + 1) bytes ++ first_characters n (drop (l.index + 1) bytes) in
    elim c.if-begins_character.branch [
      | then-begins_character+else-left-eq0 w ↦
          one_character bytes _ l.index l.left l.invariant (l.left - 1) (omega arith) (sym c.begins_character.ensures
          ∙ w.if-begins_character.true) (omega arith) ∙ ap left (sym w.left-is)
      | else-begins_character w ↦
          same_character bytes _ l.index l.left l.invariant (omega arith) (sym c.begins_character.ensures
          ∙ w.if-begins_character.false) ∙ ap left (sym w.left-is)
    ]

pub returns-clause-value : goal.returns-clause-value
returns-clause-value c = let l = c.loop-index in all_of_them c.args.bytes.now _ l.index l.left l.invariant (omega arith)
