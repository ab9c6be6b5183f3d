use Rattle.std.proofs.Common.{◌≡◌, ◌∙◌, sym, Err, rules, arith}
use Rattle.std.proofs.lemmas.Bool.Decides.{nat_tests}
use Rattle.register_tables.proofs.Ours.{asked_so, not_asked}
use Rattle.register_tables.proofs.opening.walk.is_alone.Goals as goal

pub returns : goal.returns
returns g c =
    asked_so g.S.Store _ c.in_ok-count.count _
    (λ db counted.
    let told = rw (c.text_at.ensures, c.text_at-2.ensures) at counted in (
      λ alone. let one : c.in_ok-count.count ≡ 1 = grind (arith, nat_tests, alone) in sym told ∙ one,
      λ one. grind (arith, nat_tests, told, one),
    )) c.in_ok-count.ensures

pub returns-in_err-count : goal.returns-in_err-count
returns-in_err-count g c =
    let told : c.from_residual.result ≡ Err c.in_err-count.field-0.0 = search rules in
    rw told (not_asked g.S.Store _ c.in_err-count.field-0.0 c.in_err-count.ensures)
