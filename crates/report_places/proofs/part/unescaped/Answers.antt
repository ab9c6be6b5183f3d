use Rattle.std.proofs.Common.{◌≡◌, [], ◌++◌, length, drop, sym, ap, ◌∙◌, arith, append-nil}
use Rattle.std.proofs.lemmas.List.{drop_all}
use Rattle.serde_json.specs.Find.{unescape}
use Rattle.report_places.proofs.part.unescaped.Goals as goal

pub returns : goal.returns
unfolding unescape
returns c =
    let l = c.loop-at in
    let part = c.args.part.now in
    let none : unescape (drop l.at part) ≡ [] =
    ap unescape (drop_all l.at part (omega (arith, ap length c.as_bytes-bytes.ensures.value, c.loop-at-test.false))) in
    sym (append-nil l.name.items) ∙ ap (λ rest. l.name.items ++ rest) (sym none) ∙ l.invariant.1
