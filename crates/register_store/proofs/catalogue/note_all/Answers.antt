use Rattle.std.proofs.Common.{◌≡◌, ◌+◌, ◌-◌, ◌++◌, take, map, length, [], ◌∷◌, append-nil, sym, ap, subst, ◌∙◌}
use Rattle.std.proofs.Common.{arith, rules}
use Rattle.std.proofs.Math.Seq.{take-length}
use Rattle.std.proofs.lemmas.List.{take_more}
use Rattle.std.proofs.lemmas.Grind.{common_steps}
use Rattle.register_rows.specs.Catalogue.{catalogue_of}
use Rattle.register_store.specs.NewRows.{AreNew, request_of}
use Rattle.register_store.proofs.SeveralLemmas.{kept_many, new_before, new_last, requests_more}
use Rattle.register_store.proofs.catalogue.note_all.Goals as goal

pub each-init : goal.each-init
each-init c = record {
  at = omega arith;
  room = omega (arith, c.requires.room);
  lines = λ F was place new. was ∙ ap catalogue_of (sym (append-nil F));
}

pub each-preserved : goal.each-preserved
each-preserved c =
    let i = c.each.row-index in
    let row = c.row-item.result in
    let first = take i c.args.rows.now in
    let longer : take (i + 1) c.args.rows.now ≡ first ++ row ∷ [] =
    take_more c.args.rows.now i row c.each-test.true ∙ ap (λ r. first ++ r ∷ []) (sym c.row-item.is) in
    let size : length first ≡ i = grind (arith, common_steps, c.each-test.true) in
    record {
      at = omega (arith, c.each.invariant.at);
      room = c.note.ensures.room (length c.args.rows.now - (i + 1))
          (omega (arith, c.each.invariant.room, c.each-test.true));
      lines = λ F was place new.
          let all = subst (AreNew F) longer new in
          let before = new_before F first row all in
          let last = new_last F first row all in
          c.note.ensures.lines (F ++ map request_of first) (c.each.invariant.lines F was place before)
          (omega (arith, c.each.invariant.at, place, kept_many F first before, size)) last.key last.judged
          ∙ ap catalogue_of (sym (requests_more F first row)
          ∙ ap (λ rows. F ++ map request_of rows) (sym longer));
    }

pub returns : goal.returns
returns c F was place new =
    let end : c.each.row-index ≡ length c.args.rows.now = search rules in
    let whole = ap (λ n. take n c.args.rows.now) end ∙ take-length c.args.rows.now in
    c.each.invariant.lines F was place (subst (AreNew F) (sym whole) new)
    ∙ ap (λ rows. catalogue_of (F ++ map request_of rows)) whole
