use Rattle.std.proofs.Common.{◌≡◌, ◌+◌, ◌++◌, take, map, length, [], ◌∷◌, refl, sym, ap, ◌∙◌, arith, rules}
use Rattle.std.proofs.Math.Seq.{take-length}
use Rattle.std.proofs.lemmas.List.{map-append, take_more}
use Rattle.filing_model.specs.Views.{view_outcome}
use Rattle.register_store.specs.Outcomes.{outcomes_from}
use Rattle.register_store.proofs.SeveralLemmas.{outcomes_more, past_more}
use Rattle.register_store.proofs.outcome.outcomes_of.Goals as goal

pub each-init : goal.each-init
each-init c = record { next_is = refl; few = omega arith; are = ap (map view_outcome) c.new-outcomes.ensures.items }

pub each-preserved : goal.each-preserved
each-preserved c =
    let i = c.each.row-index in
    let row = c.row-item.result in
    let first = take i c.args.rows.now in
    let longer : take (i + 1) c.args.rows.now ≡ first ++ row ∷ [] =
    take_more c.args.rows.now i row c.each-test.true ∙ ap (λ r. first ++ r ∷ []) (sym c.row-item.is) in
    let made = c.in_ok-outcome.ensures in
    let many = c.filings_of-next.ensures.count c.each.next in
    record {
      next_is =
          rw (longer, past_more c.args.number first row, ← c.each.invariant.next_is) (ap (λ n. c.each.next + n) many);
      few = omega (arith, c.each.invariant.few, c.filings_of-next.ensures.few);
      are =
          ap (map view_outcome) c.in_ok-push.ensures.items
          ∙ map-append view_outcome c.each.outcomes.items _
          ∙ rw (longer, outcomes_more c.args.number first row, ← c.each.invariant.next_is, made, c.each.invariant.are)
          refl;
    }

pub returns : goal.returns
returns c =
    let end : c.each.row-index ≡ length c.args.rows.now = search rules in
    let whole = ap (λ n. take n c.args.rows.now) end ∙ take-length c.args.rows.now in
    c.each.invariant.are ∙ ap (outcomes_from c.args.number) whole
