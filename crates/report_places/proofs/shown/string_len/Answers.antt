use Rattle.std.proofs.Common.{◌+◌, cond, Bool, sym, ap, ◌∙◌, arith}
use Rattle.json.specs.Lex.{in_string, in_escape}
use Rattle.json.specs.Align.{span}
use Rattle.std.proofs.Common.{drop}
use Rattle.report_places.proofs.Strings.{past_escaped, past_byte, at_quote, at_end}
use Rattle.report_places.proofs.shown.string_len.Goals as goal
use Rattle.report_places.proofs.shown.string_len.Goals.{then-is_escaped, else-is_escaped+else-byte-eq34}

pub returns-then-byte-eq34-clause-value : goal.returns-then-byte-eq34-clause-value
returns-then-byte-eq34-clause-value c =
    let l = c.loop-index in
    let bytes = c.args.bytes.now in
    at_quote bytes l.index (omega arith) c.if-byte-eq34.true (l.invariant
    ∙ ap (λ b. l.index + span (cond b in_escape in_string) (drop l.index bytes)) c.if-is_escaped.false)

pub loop-index-preserved : goal.loop-index-preserved
loop-index-preserved c =
    let l = c.loop-index in
    let bytes = c.args.bytes.now in
    let as_is = λ (b : Bool). l.index + span (cond b in_escape in_string) (drop l.index bytes) in
    elim c.if-is_escaped.branch [
      | then-is_escaped w ↦
          past_escaped bytes l.index (omega arith) (l.invariant ∙ ap as_is w.if-is_escaped.true)
          ∙ ap (λ b. l.index + 1 + span (cond b in_escape in_string) (drop (l.index + 1) bytes)) (sym w.is_escaped-is)
      | else-is_escaped+else-byte-eq34 w ↦
          past_byte bytes l.index (omega arith) w.if-byte-eq34.false (l.invariant ∙ ap as_is w.if-is_escaped.false)
          ∙ ap (λ b. l.index + 1 + span (cond b in_escape in_string) (drop (l.index + 1) bytes)) (sym w.is_escaped-is)
    ]

pub returns-clause-value : goal.returns-clause-value
returns-clause-value c = let l = c.loop-index in
    at_end c.args.bytes.now l.index (cond l.is_escaped in_escape in_string) (omega arith) (omega arith) l.invariant
