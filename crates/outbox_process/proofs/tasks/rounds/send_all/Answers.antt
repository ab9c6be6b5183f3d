use Rattle.std.proofs.Common.{◌≡◌, ◌∙◌, sym, length, inl, inr, arith, vec_len, true≢false}
use Rattle.std.proofs.lemmas.Bool.{eqb-true, eq-eqb}
use Rattle.std.proofs.lemmas.Result.{err_from_is_err_and}
use Rattle.outbox_process.proofs.Turns.{whole_none, found_none, sent_each}
use Rattle.outbox_process.proofs.tasks.rounds.send_all.Goals as goal

pub returns-then-is_empty : goal.returns-then-is_empty
returns-then-is_empty g c =
    let none : vec_len c.in_ok-ids.ids ≡ 0 =
    eqb-true (vec_len c.in_ok-ids.ids) 0 (sym c.is_empty.ensures ∙ c.if-is_empty.true) in
    let empty : length c.in_ok-ids.ids.items ≡ 0 = omega (arith, c.in_ok-ids.ids.ok.0, none) in
    whole_none g.S.Store c.in_ok-ids.ids.items c.args.outbox.now c.open_entries.new.outbox
    (λ clean entries had. (
      c.in_ok-ids.ensures.found clean entries had,
      c.open_entries.ensures.kept clean entries had,
    ))
    c.open_entries.ensures.filer c.open_entries.ensures.clean (g.N.Dial.traffic c.args.network.now)
    (g.O.Write.contents c.args.output.now) (g.O.Write.contents c.print_none.new.output) empty
    c.in_ok-print_none.ensures.printed

pub returns-in_err-print_none : goal.returns-in_err-print_none
returns-in_err-print_none g c =
    let told =
    err_from_is_err_and c.from_residual-in_err-print_none.result c.from_residual-in_err-print_none.ensures.1 in
    let none : vec_len c.in_ok-ids.ids ≡ 0 =
    eqb-true (vec_len c.in_ok-ids.ids) 0 (sym c.is_empty.ensures ∙ c.if-is_empty.true) in
    let empty : length c.in_ok-ids.ids.items ≡ 0 = omega (arith, c.in_ok-ids.ids.ok.0, none) in
    rw told.1
    (inr (inl (found_none g.S.Store c.in_ok-ids.ids.items c.args.outbox.now c.open_entries.new.outbox
    (λ clean entries had. (
      c.in_ok-ids.ensures.found clean entries had,
      c.open_entries.ensures.kept clean entries had,
    ))
    c.open_entries.ensures.filer c.open_entries.ensures.clean (g.N.Dial.traffic c.args.network.now) told.0 empty
    (rw told.2 c.in_err-print_none.ensures.refused))))

pub returns : goal.returns
returns g c =
    sent_each g.S.Store c.as_slice.result.now c.args.outbox.now c.open_entries.new.outbox
    (λ clean entries had. (
      c.as_slice.ensures.value ∙ c.in_ok-ids.ensures.found clean entries had,
      c.open_entries.ensures.kept clean entries had,
    )) c.open_entries.ensures.filer c.open_entries.ensures.clean
    (g.N.Dial.traffic c.args.network.now) (g.N.Dial.traffic c.send_each.new.network) c.send_each.new.outbox
    (g.O.Write.contents c.args.output.now) (g.O.Write.contents c.send_each.new.output) c.send_each.result
    (λ empty. true≢false (sym (eq-eqb (vec_len c.in_ok-ids.ids) 0 (sym c.as_slice.ensures.len ∙ empty))
    ∙ (sym c.is_empty.ensures ∙ c.if-is_empty.false)))
    c.send_each.ensures
