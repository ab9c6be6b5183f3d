use Rattle.std.proofs.Common.{◌≡◌, ◌<◌, ◌⊎◌, inl, inr, ◌+◌, ◌-◌, arith}
use Rattle.register_rows.proofs.MomentLemmas.{undated_none, says_none, says_all, told_many, told_first, told_later}
use Rattle.register_rows.proofs.dates.Dates.first_undated.Goals as goal
use Rattle.register_rows.proofs.dates.Dates.first_undated.Goals.{then-self-eq0-2-via-then-self-eq0-2}
use Rattle.register_rows.proofs.dates.Dates.first_undated.Goals.{then-self-eq0-2-via-else-self-eq0-2+then-self-place}

pub returns-then-self-kept-clause-told : goal.returns-then-self-kept-clause-told
returns-then-self-kept-clause-told c rows are =
    let told = told_many rows c.args.self are c.args.kept (omega (arith, c.if-self-kept.true)) in
    (undated_none c.args.kept 0 rows told, told)

pub returns-then-self-eq0-clause-sound : goal.returns-then-self-eq0-clause-sound
returns-then-self-eq0-clause-sound c none rows are =
    says_none rows c.args.self are c.args.kept (omega (arith, c.if-self-eq0.true))

pub returns-then-self-eq0-2-clause-told : goal.returns-then-self-eq0-2-clause-told
returns-then-self-eq0-2-clause-told c rows are =
    let place = c.args.kept - c.args.self.rows + 1 in
    let why : (c.args.self.sound ≡ 0) ⊎ (place < c.args.self.first) =
    elim c.then-self-eq0-2.branch [
      | then-self-eq0-2-via-then-self-eq0-2 w ↦ inl (omega (arith, w.if-self-eq0-2.true))
      | then-self-eq0-2-via-else-self-eq0-2+then-self-place w ↦ inr (omega (arith, w.if-self-place.true))
    ] in
    let told =
    told_first rows c.args.self are c.args.kept (omega (arith, c.if-self-kept.false))
    (omega (arith, c.if-self-eq0.false)) why in
    (undated_none c.args.kept place rows told, told)

pub returns-then-self-kept-2-clause-told : goal.returns-then-self-kept-2-clause-told
returns-then-self-kept-2-clause-told c rows are =
    let told =
    told_later rows c.args.self are c.args.kept (omega (arith, c.if-self-kept.false))
    (omega (arith, c.if-self-eq0-2.false)) (omega (
      arith,
      c.if-self-kept.false,
      c.if-self-eq0.false,
      c.if-self-place.false,
      c.if-self-kept-2.true,
    )) in
    (undated_none c.args.kept (c.args.self.first + c.args.self.sound) rows told, told)

pub returns-else-self-kept-2-clause-sound : goal.returns-else-self-kept-2-clause-sound
returns-else-self-kept-2-clause-sound c none rows are =
    says_all rows c.args.self are c.args.kept (omega (arith, c.if-self-kept.false))
    (omega (arith, c.if-self-eq0.false)) (omega (arith, c.if-self-place.false)) (omega (arith, c.if-self-kept-2.false))
