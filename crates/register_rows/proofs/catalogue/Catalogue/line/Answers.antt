use Rattle.std.proofs.Common.{◌≡◌, ◌-◌, suc, ap, sym, ◌∙◌, arith}
use Rattle.register_rows.specs.Catalogue.{entry_numbered, view_lines}
use Rattle.register_rows.proofs.CatalogueLemmas.{line_at}
use Rattle.register_rows.proofs.catalogue.Catalogue.line.Goals as goal

pub returns : goal.returns
returns c =
    let place : c.args.number ≡ suc (c.args.number - 1) = omega (arith, c.if-number-eq0.false) in
    line_at c.args.self.now.lines.items (c.args.number - 1) c.get.result
    (rw c.deref.ensures.value at c.get.ensures.lookup)
    ∙ sym (ap (entry_numbered (view_lines c.args.self.now)) place)
