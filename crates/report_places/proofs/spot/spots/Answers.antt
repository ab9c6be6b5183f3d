use Rattle.std.proofs.Common.{◌+◌, ◌≤◌, get_or, sym, ap, ◌∙◌, true, false, arith}
use Rattle.report_places.specs.Position.{start}
use Rattle.report_places.specs.Scan.{mode_of, spots_from}
use Rattle.json.specs.Lex.{between}
use Rattle.report_places.proofs.Spots.{turn, last_spots, step_bound}
use Rattle.report_places.proofs.spot.spots.Goals as goal
use Rattle.report_places.proofs.spot.spots.Goals.{then-begins_token+in_ok-push, else-begins_token}

pub loop-offset-preserved : goal.loop-offset-preserved
loop-offset-preserved c =
    let l = c.loop-offset in
    let text = c.args.text.now in
    let bound =
    step_bound l.position (get_or text l.offset 0) (l.offset + 1) l.invariant.1 l.invariant.2 (omega arith) in
    let line : c.after-position.result.line ≤ l.offset + 1 + 1 =
    omega (arith, ap (λ p. p.line) c.after-position.ensures, bound.0) in
    let column : c.after-position.result.column ≤ l.offset + 1 + 1 =
    omega (arith, ap (λ p. p.column) c.after-position.ensures, bound.1) in (
      elim c.if-begins_token.branch [
        | then-begins_token+in_ok-push w ↦
            turn text l.offset (mode_of l.mode) l.position l.spots.items (spots_from between start 0 text) (omega arith)
            true c.if-begins_token.spots.items (mode_of c.after-mode.result) c.after-position.result
            (sym c.begins_token.ensures ∙ w.if-begins_token.true) (ap (λ v. v.items) w.spots-is
            ∙ w.in_ok-push.ensures.items) c.after-mode.ensures c.after-position.ensures l.invariant.0
        | else-begins_token w ↦
            turn text l.offset (mode_of l.mode) l.position l.spots.items (spots_from between start 0 text) (omega arith)
            false c.if-begins_token.spots.items (mode_of c.after-mode.result) c.after-position.result
            (sym c.begins_token.ensures ∙ w.if-begins_token.false) (ap (λ v. v.items) w.spots-is) c.after-mode.ensures
            c.after-position.ensures l.invariant.0
      ],
      line,
      column,
    )

pub returns : goal.returns
returns c = let l =
    c.loop-offset in last_spots c.args.text.now l.offset (mode_of l.mode) l.position l.spots.items
    (spots_from between start 0 c.args.text.now) (omega arith) l.invariant.0
