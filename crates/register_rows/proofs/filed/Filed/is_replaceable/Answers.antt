use Rattle.std.proofs.Common.{◌≡◌, ◌-◌, ◌+◌, ◌<◌, inl, inr, true, false, suc, Some, length, refl, ap, ap₂, sym, ◌∙◌}
use Rattle.std.proofs.Common.{arith}
use Rattle.std.specs.Prelude.{string_bytes, bytes_eq}
use Rattle.filing_model.specs.Register.{is_replaceable, register}
use Rattle.register_rows.specs.Catalogue.{entry_numbered, view_line, view_lines}
use Rattle.register_rows.proofs.Filings.{none_told}
use Rattle.register_rows.proofs.HeldLemmas.{not_none, not_there, replaceable_there}
use Rattle.register_rows.proofs.filed.Filed.is_replaceable.Goals as goal
use Rattle.register_rows.proofs.filed.Filed.is_replaceable.Goals.{then-number-eq0-via-then-number-eq0}
use Rattle.register_rows.proofs.filed.Filed.is_replaceable.Goals.{then-number-eq0-via-else-number-eq0+then-number-len}

pub returns-then-number-eq0 : goal.returns-then-number-eq0
returns-then-number-eq0 c F are = elim c.then-number-eq0.branch [
  | then-number-eq0-via-then-number-eq0 w ↦ sym (not_there F c.args.self.now are c.args.filer.now c.args.number
      (inl (omega (arith, w.if-number-eq0.true))))
  | then-number-eq0-via-else-number-eq0+then-number-len w ↦
      sym (not_there F c.args.self.now are c.args.filer.now c.args.number
      (inr (omega (arith, w.len.ensures, w.if-number-len.true))))
]

pub returns-then-eq : goal.returns-then-eq
returns-then-eq c F are =
    let owner = c.index-owner.result.now in
    let at = c.args.number - 1 in
    let number : c.args.number ≡ at + 1 = omega (arith, c.if-number-eq0.false) in
    let place : c.args.number ≡ suc at = omega (arith, c.if-number-eq0.false) in
    let low : at < length c.args.self.now.filers.items =
    omega (arith, c.if-number-eq0.false, c.if-number-len.false, c.len.ensures) in
    let line = c.in-Some.line.now in
    let said : Some (view_line line) ≡ entry_numbered (view_lines c.args.self.now.catalogue) (suc at) =
    c.in-Some.ensures ∙ ap (entry_numbered (view_lines c.args.self.now.catalogue)) place in
    let there =
    ap (is_replaceable (register F) c.args.filer.now) number
    ∙ replaceable_there F c.args.self.now are at low c.args.filer.now owner line c.index-owner.ensures said in
    let same : bytes_eq (string_bytes owner) c.args.filer.now ≡ true =
    sym (ap₂ bytes_eq c.as_bytes.ensures.value c.as_bytes-in-Some.ensures.value) ∙ sym c.eq.ensures
    ∙ c.if-eq.true in
    none_told (view_line line).replaced_by c.is_none.result (rw c.replaced_by.ensures at c.is_none.ensures)
    ∙ sym (there ∙ rw same refl)

pub returns-else-eq : goal.returns-else-eq
returns-else-eq c F are =
    let owner = c.index-owner.result.now in
    let at = c.args.number - 1 in
    let number : c.args.number ≡ at + 1 = omega (arith, c.if-number-eq0.false) in
    let place : c.args.number ≡ suc at = omega (arith, c.if-number-eq0.false) in
    let low : at < length c.args.self.now.filers.items =
    omega (arith, c.if-number-eq0.false, c.if-number-len.false, c.len.ensures) in
    let line = c.in-Some.line.now in
    let said : Some (view_line line) ≡ entry_numbered (view_lines c.args.self.now.catalogue) (suc at) =
    c.in-Some.ensures ∙ ap (entry_numbered (view_lines c.args.self.now.catalogue)) place in
    let there =
    ap (is_replaceable (register F) c.args.filer.now) number
    ∙ replaceable_there F c.args.self.now are at low c.args.filer.now owner line c.index-owner.ensures said in
    let same : bytes_eq (string_bytes owner) c.args.filer.now ≡ false =
    sym (ap₂ bytes_eq c.as_bytes.ensures.value c.as_bytes-in-Some.ensures.value) ∙ sym c.eq.ensures
    ∙ c.if-eq.false in
    c.if-eq.false ∙ sym (there ∙ rw same refl)

pub returns-in-None : goal.returns-in-None
returns-in-None c F are =
    let at = c.args.number - 1 in
    let place : c.args.number ≡ suc at = omega (arith, c.if-number-eq0.false) in
    let low : at < length c.args.self.now.filers.items =
    omega (arith, c.if-number-eq0.false, c.if-number-len.false, c.len.ensures) in
    absurd (not_none F c.args.self.now are at low (c.in-None.ensures
    ∙ ap (entry_numbered (view_lines c.args.self.now.catalogue)) place))
