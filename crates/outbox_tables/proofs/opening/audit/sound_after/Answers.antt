use Rattle.std.proofs.Common.{◌≡◌, ◌+◌, suc, length, true, false, sym, subst, ◌∙◌, arith}
use Rattle.outbox_tables.specs.Audit.{is_entry}
use Rattle.outbox_tables.specs.Tally.{sound_from}
use Rattle.outbox_tables.proofs.TallyLemmas.{sound_on, sound_past}
use Rattle.outbox_tables.proofs.opening.audit.sound_after.Goals.{else-sound-count-via-then-sound-count+else-is_entry}
use Rattle.outbox_tables.proofs.opening.audit.sound_after.Goals.{else-sound-count-via-else-sound-count}
use Rattle.outbox_tables.proofs.opening.audit.sound_after.Goals as goal

pub returns-then-is_entry : goal.returns-then-is_entry
returns-then-is_entry c rows count sound =
    let row = c.args.row.now in
    let all : sound_from 1 rows ≡ length rows = sym sound ∙ c.if-sound-count.true ∙ count in
    let place : c.args.count + 1 ≡ 1 + length rows = omega (arith, count) in
    let next : c.args.count + 1 ≡ suc (length rows) = omega (arith, count) in
    let is = subst (λ n. is_entry n row ≡ true) place (sym c.is_entry.ensures ∙ c.if-is_entry.true) in
    next ∙ sym (sound_on 1 rows row true all is)

pub returns-else-sound-count : goal.returns-else-sound-count
returns-else-sound-count c rows count sound =
    let row = c.args.row.now in
    elim c.else-sound-count.branch [
      | else-sound-count-via-then-sound-count+else-is_entry w ↦
          let all : sound_from 1 rows ≡ length rows = sym sound ∙ w.if-sound-count.true ∙ count in
          let place : c.args.count + 1 ≡ 1 + length rows = omega (arith, count) in
          let is = subst (λ n. is_entry n row ≡ false) place (sym w.is_entry.ensures ∙ w.if-is_entry.false) in
          sound ∙ all ∙ sym (sound_on 1 rows row false all is)
      | else-sound-count-via-else-sound-count w ↦
          sound ∙ sym (sound_past 1 rows row (λ all. w.if-sound-count.false (sound ∙ all ∙ sym count)))
    ]
