use Rattle.std.proofs.Common.{◌≡◌, ◌<◌, ◌≤◌, ◌+◌, ◌-◌, ◌/◌, suc, true, false, ⊎_elim, Some, None, length, sym, ap, ◌∙◌}
use Rattle.std.proofs.Common.{arith}
use Rattle.std.specs.Prelude.{nat_lt, option_map, slice_get}
use Rattle.std.proofs.lemmas.Option.{slice_get_past}
use Rattle.std.proofs.lemmas.Bool.{cases_Bool}
use Rattle.std.proofs.lemmas.Bool.Decides.{nat_tests}
use Rattle.register_rows.specs.Catalogue.{catalogue_of, entry_numbered, view_line}
use Rattle.register_store.proofs.CatalogueLemmas.{none_here, numbered_here, rising_to, told_equal, told_greater}
use Rattle.register_store.proofs.CatalogueLemmas.{told_less}
use Rattle.register_store.proofs.select.catalogued.number_at.Goals as goal

pub search-init : goal.search-init
search-init c = record {
  within = omega (arith, c.len-high.ensures);
  lower = λ F is i e low there. absurd (omega (arith, low));
  upper = λ F is i e high there. absurd (let past =
      slice_get_past (catalogue_of F) i (omega (arith, high, c.len-high.ensures, ap length is)) in
      let none : None ≡ Some e = sym past ∙ there in cc none);
}

pub search-preserved-in-Less : goal.search-preserved-in-Less
search-preserved-in-Less c =
    let middle = c.search.low + (c.search.high - c.search.low) / 2 in
    let had = c.search.invariant in record {
      within = had.within;
      lower = λ F is i e low there.
          let next : middle + 1 ≡ suc middle = omega arith in
          let here : slice_get (catalogue_of F) middle ≡ Some (view_line c.in_ok-line.line.now)
          = sym (ap (option_map (λ l. view_line l.now)) (sym c.in_ok-line.was) ∙ c.line.ensures
          ∙ ap (λ es. entry_numbered es (middle + 1)) is ∙ ap (entry_numbered (catalogue_of F)) next) in
          let less : c.seq.result < c.args.place = told_less _ _ (sym c.cmp.ensures ∙ c.in-Less.is) in
          omega (
            arith,
            rising_to F i middle e (view_line c.in_ok-line.line.now) (omega (arith, low)) there here,
            less,
            c.seq.ensures,
          );
      upper = had.upper;
    }

pub search-preserved : goal.search-preserved
search-preserved c =
    let middle = c.search.low + (c.search.high - c.search.low) / 2 in
    let had = c.search.invariant in record {
      within = omega (arith, had.within, c.search-test.true);
      lower = had.lower;
      upper = λ F is i e high there.
          let next : middle + 1 ≡ suc middle = omega arith in
          let here : slice_get (catalogue_of F) middle ≡ Some (view_line c.in_ok-line.line.now)
          = sym (ap (option_map (λ l. view_line l.now)) (sym c.in_ok-line.was) ∙ c.line.ensures
          ∙ ap (λ es. entry_numbered es (middle + 1)) is ∙ ap (entry_numbered (catalogue_of F)) next) in
          let more : c.args.place < c.seq.result = told_greater _ _ (sym c.cmp.ensures ∙ c.in-Greater.is) in
          omega (
            arith,
            rising_to F middle i (view_line c.in_ok-line.line.now) e (omega (arith, high)) here there,
            more,
            c.seq.ensures,
          );
    }

pub returns-in-Equal : goal.returns-in-Equal
returns-in-Equal c F k is placed =
    let middle = c.search.low + (c.search.high - c.search.low) / 2 in
    let next : middle + 1 ≡ suc middle = omega arith in
    let here : slice_get (catalogue_of F) middle ≡ Some (view_line c.in_ok-line.line.now)
    = sym (ap (option_map (λ l. view_line l.now)) (sym c.in_ok-line.was) ∙ c.line.ensures
    ∙ ap (λ es. entry_numbered es (middle + 1)) is ∙ ap (entry_numbered (catalogue_of F)) next) in
    let same = told_equal _ _ (sym c.cmp.ensures ∙ c.in-Equal.is) in
    sym (numbered_here F middle c.args.place k (view_line c.in_ok-line.line.now) here (sym c.seq.ensures ∙ same) placed
    ∙ ap Some (omega arith))

pub returns : goal.returns
returns c F k is placed =
    let had = c.search.invariant in
    none_here F c.args.place k placed (λ i e there at. ⊎_elim
    (λ (t : nat_lt i c.search.low ≡ true). let low : i < c.search.low = grind (arith, nat_tests, t) in
    omega (arith, had.lower F is i e low there, at))
    (λ (t : nat_lt i c.search.low ≡ false). let high : c.search.high ≤ i =
    grind (arith, nat_tests, t, c.search-test.false) in omega (arith, had.upper F is i e high there, at))
    (cases_Bool (nat_lt i c.search.low)))
