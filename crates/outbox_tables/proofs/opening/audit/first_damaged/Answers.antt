use Rattle.std.proofs.Common.{◌≡◌, ◌<◌, ◌≤◌, ◌+◌, suc, Some, length, inl, inr, true, false, ap, sym, subst, ◌∙◌, arith}
use Rattle.outbox_tables.specs.Audit.{is_target, with_id}
use Rattle.outbox_tables.specs.Tally.{sound_from}
use Rattle.outbox_tables.proofs.TallyLemmas.{IsUnsound, fit_on, damaged_at, none_damaged}
use Rattle.outbox_tables.proofs.opening.audit.first_damaged.Goals.{then-at-tally-via-then-at-tally}
use Rattle.outbox_tables.proofs.opening.audit.first_damaged.Goals.{then-at-tally-via-else-at-tally+then-not-is_fit}
use Rattle.outbox_tables.proofs.opening.audit.first_damaged.Goals as goal

pub returns-then-at-tally : goal.returns-then-at-tally
returns-then-at-tally c targets rows is each =
    let at = c.loop-at.at in
    let sound : c.args.tally.sound ≡ sound_from 1 rows = ap (λ t. t.sound) is in
    let long : length c.args.said.now ≡ length rows = sym c.requires ∙ ap (λ t. t.count) is in
    let within : at < length rows = omega (arith, c.loop-at-test.true, long) in
    let low : at ≤ sound_from 1 rows = omega (arith, c.loop-at.invariant.0, sound) in
    let fit = c.loop-at.invariant.1 targets (λ place d small. each place d (omega (arith, small, long))) in
    let next : suc at ≡ 1 + at = omega arith in
    let one : at + 1 ≡ 1 + at = omega arith in
    let unsound : IsUnsound targets 1 rows at = elim c.then-at-tally.branch [
      | then-at-tally-via-then-at-tally w ↦ inl (w.if-at-tally.true ∙ sound)
      | then-at-tally-via-else-at-tally+then-not-is_fit w ↦
          let told = w.is_fit.ensures (with_id (suc at) targets) (each at _ within) in
          inr (subst (λ n. is_target (with_id n targets) ≡ false) next (sym told ∙ w.if-not-is_fit.true))
    ] in
    ap Some one ∙ sym (damaged_at targets 1 rows at within low fit unsound)

pub returns : goal.returns
returns c targets rows is each =
    let sound : c.args.tally.sound ≡ sound_from 1 rows = ap (λ t. t.sound) is in
    let long : length c.args.said.now ≡ length rows = sym c.requires ∙ ap (λ t. t.count) is in
    let past : length rows ≤ c.loop-at.at = omega (arith, c.loop-at-test.false, long) in
    let all : length rows ≤ sound_from 1 rows = omega (arith, past, c.loop-at.invariant.0, sound) in
    let fit = c.loop-at.invariant.1 targets (λ place d small. each place d (omega (arith, small, long))) in
    sym (none_damaged targets 1 rows all (λ place low. fit place (omega (arith, low, past))))

pub loop-at-preserved : goal.loop-at-preserved
loop-at-preserved c = (
  omega (arith, c.loop-at.invariant.0, c.if-at-tally.false),
  λ targets each.
      let at = c.loop-at.at in
      let next : suc at ≡ 1 + at = omega arith in
      let told = c.is_fit.ensures (with_id (suc at) targets) (each at _ c.loop-at-test.true) in
      fit_on targets 1 at (c.loop-at.invariant.1 targets each)
      (subst (λ n. is_target (with_id n targets) ≡ true) next (sym told ∙ c.if-not-is_fit.false)),
)
