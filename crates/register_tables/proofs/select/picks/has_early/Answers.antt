use Rattle.std.proofs.Common.{◌≡◌, ◌∙◌, Err, refl, rules, arith, sym}
use Rattle.std.proofs.lemmas.Bool.Decides.{nat_tests}
use Rattle.sqlite.specs.Held.{state}
use Rattle.register_tables.proofs.PickTexts.{asks_count_early}
use Rattle.register_tables.proofs.PickLemmas.{counts_early, many_early}
use Rattle.register_tables.proofs.Questions.{not_asked}
use Rattle.register_tables.proofs.select.picks.has_early.Goals as goal

pub returns-in-Some : goal.returns-in-Some
returns-in-Some g c = record {
  told = λ clean ours.
      let it = c.in_ok-found.ensures.shown clean in
      let is = (rw c.in-Some.is at it.value).1 in
      let both =
      counts_early (state g.S.Store c.args.conn.now) (state g.S.Store c.counted.new.conn) ours.declared it.rows it.shown
      c.in-Some.count is in (
        λ some. both.0 (grind (arith, nat_tests, some)),
        λ early. let some = both.1 early in grind (arith, nat_tests, some),
      );
  fails = λ clean ours. tt;
  leaves = c.in_ok-found.ensures.leaves;
}

pub returns-in-None : goal.returns-in-None
returns-in-None g c = record {
  told = λ clean ours.
      let it = c.in_ok-found.ensures.shown clean in (
        λ _. many_early (state g.S.Store c.args.conn.now) (state g.S.Store c.counted.new.conn) ours.declared it.rows
            it.shown (λ count low is. let told = sym c.in-None.is ∙ it.complete count low is in cc),
        λ _. refl,
      );
  fails = λ clean ours. tt;
  leaves = c.in_ok-found.ensures.leaves;
}

pub returns-in_err-found : goal.returns-in_err-found
returns-in_err-found g c =
    let told : c.from_residual.result ≡ Err c.in_err-found.field-0.0 = search rules in
    rw told (not_asked g.S.Store c.args.conn.now c.counted.new.conn asks_count_early (λ d. d) c.in_err-found.field-0.0
    c.in_err-found.ensures.failed c.in_err-found.ensures.leaves)

pub counted-requires : goal.counted-requires
counted-requires g c = asks_count_early.reads
