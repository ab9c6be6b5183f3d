use Rattle.std.proofs.Common.{◌+◌, ◌-◌, ℕ, drop, sym, ap, ◌∙◌, arith}
use Rattle.register_pages.specs.Short.{first_bytes}
use Rattle.register_pages.proofs.Characters.{all_of_them, no_more, one_character, same_character}
use Rattle.register_pages.proofs.short.first_bytes.Goals as goal
use Rattle.register_pages.proofs.short.first_bytes.Goals.{then-begins_character+else-left-eq0, else-begins_character}

pub returns-then-left-eq0-clause-value : goal.returns-then-left-eq0-clause-value
returns-then-left-eq0-clause-value c =
    let l = c.loop-index in
    no_more c.args.bytes.now _ l.index l.left l.invariant (omega arith) (sym c.begins_character.ensures
    ∙ c.if-begins_character.true) c.if-left-eq0.true

pub loop-index-preserved : goal.loop-index-preserved
loop-index-preserved c =
    let l = c.loop-index in
    let bytes = c.args.bytes.now in
    let left = λ (n : ℕ). l.index + 1 + first_bytes n (drop (l.index + 1) bytes) in
    elim c.if-begins_character.branch [
      | then-begins_character+else-left-eq0 w ↦
          one_character bytes _ l.index l.left l.invariant (l.left - 1) (omega arith) (sym c.begins_character.ensures
          ∙ w.if-begins_character.true) (omega arith) ∙ ap left (sym w.left-is)
      | else-begins_character w ↦
          same_character bytes _ l.index l.left l.invariant (omega arith) (sym c.begins_character.ensures
          ∙ w.if-begins_character.false) ∙ ap left (sym w.left-is)
    ]

pub returns-clause-value : goal.returns-clause-value
returns-clause-value c =
    let l = c.loop-index in all_of_them c.args.bytes.now _ l.index l.left l.invariant (omega arith) (omega arith)
