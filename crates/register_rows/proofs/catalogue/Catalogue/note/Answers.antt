use Rattle.std.proofs.Common.{◌≡◌, ◌<◌, ◌-◌, ◌∷◌, ◌++◌, [], suc, length, get_or, set, ap, ◌∙◌, arith}
use Rattle.std.specs.Option.{unwrap_or}
use Rattle.register_rows.specs.declared.catalogue.Line.{Line}
use Rattle.register_rows.proofs.CatalogueLemmas.{noted, noted_replacing, replaces_earlier}
use Rattle.register_rows.proofs.catalogue.Catalogue.note.Goals as goal
use Rattle.register_rows.proofs.catalogue.Catalogue.note.Goals.{else-number-gt0-via-then-number-gt0+else-number-next}
use Rattle.register_rows.proofs.catalogue.Catalogue.note.Goals.{else-number-gt0-via-else-number-gt0}

pub returns-then-number-next-clause-lines : goal.returns-then-number-next-clause-lines
returns-then-number-next-clause-lines c F r held next =
    let old = c.args.self.now.lines.items in
    let line : Line =
    record { seq = c.args.seq; facts = c.args.facts; replaces = unwrap_or c.args.target 0; replaced_by = 0 } in
    let pushed : c.push_reserved.new.self.items ≡ old ++ line ∷ [] =
    c.push_reserved.ensures.items
    ∙ ap (λ n. old ++ record { seq = c.args.seq; facts = c.args.facts; replaces = n; replaced_by = 0 } ∷ [])
    c.unwrap_or.ensures in
    let at = c.in-Some.number - 1 in
    let item = c.index_mut.result.now in
    let many : c.len-next.result ≡ suc (length old) =
    omega (arith, c.len-next.ensures, c.push_reserved.ensures.len, c.args.self.now.lines.ok.0) in
    let low : at < length old = omega (arith, many, c.if-number-gt0.true, c.if-number-next.true) in
    noted_replacing F r c.args.seq c.args.facts c.args.target next old held c.in-Some.number at c.in-Some.is
    (omega (arith, c.if-number-gt0.true)) low item
    (c.index_mut.ensures.value ∙ ap (λ l. get_or l at item) pushed) c.len-next.result many _
    (ap (λ l. set l at (record {
      seq = item.seq;
      facts = item.facts;
      replaces = item.replaces;
      replaced_by =
          c.len-next.result;
    })) pushed)

pub returns-else-number-gt0-clause-lines : goal.returns-else-number-gt0-clause-lines
returns-else-number-gt0-clause-lines c F r held next =
    let old = c.args.self.now.lines.items in
    let told = replaces_earlier F r c.args.seq c.args.facts c.args.target next old held c.in-Some.number c.in-Some.is in
    let many : c.len-next.result ≡ suc (length old) =
    omega (arith, c.len-next.ensures, c.push_reserved.ensures.len, c.args.self.now.lines.ok.0) in
    elim c.else-number-gt0.branch [
      | else-number-gt0-via-then-number-gt0+else-number-next w ↦
          absurd (omega (arith, told.1, many, w.if-number-next.false))
      | else-number-gt0-via-else-number-gt0 w ↦ absurd (omega (arith, told.0, w.if-number-gt0.false))
    ]

pub returns-in_default-clause-lines : goal.returns-in_default-clause-lines
returns-in_default-clause-lines c F r held next =
    let old = c.args.self.now.lines.items in
    noted F r c.args.seq c.args.facts c.args.target next old held c.in_default.is _
    (c.push_reserved.ensures.items
    ∙ ap (λ n. old ++ record { seq = c.args.seq; facts = c.args.facts; replaces = n; replaced_by = 0 } ∷ [])
    c.unwrap_or.ensures)
