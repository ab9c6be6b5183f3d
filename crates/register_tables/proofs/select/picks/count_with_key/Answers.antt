use Rattle.std.proofs.Common.{◌≡◌, ◌∙◌, length, Err, rules}
use Rattle.sqlite.specs.Held.{state}
use Rattle.register_tables.proofs.PickTexts.{asks_with_key}
use Rattle.register_tables.proofs.PickLemmas.{counts_with_key}
use Rattle.register_tables.proofs.Questions.{not_asked}
use Rattle.register_tables.proofs.select.picks.count_with_key.Goals as goal

pub returns : goal.returns
returns g c = record {
  told = λ clean ours.
      let many : c.len.result ≡ length c.in_ok-rows.rows.items = search rules in
      many ∙ counts_with_key (state g.S.Store c.args.conn.now) (state g.S.Store c.select.new.conn) ours.declared
      c.in_ok-rows.rows.items c.args.filer.now c.args.key.now (c.in_ok-rows.ensures.shown clean);
  fails = λ clean ours. tt;
  leaves = c.in_ok-rows.ensures.leaves;
}

pub returns-in_err-rows : goal.returns-in_err-rows
returns-in_err-rows g c =
    let told : c.from_residual.result ≡ Err c.in_err-rows.field-0.0 = search rules in
    rw told (not_asked g.S.Store c.args.conn.now c.select.new.conn
    (asks_with_key c.args.filer.now c.args.key.now) (λ d. d) c.in_err-rows.field-0.0 c.in_err-rows.ensures.failed
    c.in_err-rows.ensures.leaves)

pub select-requires : goal.select-requires
select-requires g c = (asks_with_key c.args.filer.now c.args.key.now).reads
