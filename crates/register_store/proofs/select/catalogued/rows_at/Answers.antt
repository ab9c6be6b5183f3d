use Rattle.std.proofs.Common.{◌≡◌, ◌<◌, ◌++◌, ◌∷◌, [], map, take, filter, length, get_or, sym, ap, subst, ◌∙◌, arith}
use Rattle.std.proofs.lemmas.List.{map-append, take_all}
use Rattle.filing_model.specs.Listing.{listing}
use Rattle.filing_model.specs.Register.{filings, kept, register}
use Rattle.filing_model.specs.Views.{view_row}
use Rattle.register_store.specs.Found.{IsPlaced}
use Rattle.register_store.proofs.CatalogueLemmas.{row_step}
use Rattle.register_store.proofs.OwnLemmas.{own_listed}
use Rattle.register_store.proofs.OwnRows.{are_own, is_filers}
use Rattle.register_store.proofs.ReplaceLemmas.{AreAt, as_many_at, at_place, no_kept, own_default}
use Rattle.register_store.proofs.select.catalogued.rows_at.Goals.{in-Some+in_ok-push, in_default}
use Rattle.register_store.proofs.select.catalogued.rows_at.Goals as goal

pub loop-place-init : goal.loop-place-init
unfolding filings
loop-place-init c F filer is rows = ap (map view_row) c.new-rows.ensures.items

pub loop-place-preserved : goal.loop-place-preserved
loop-place-preserved c F filer is rows =
    let i = c.loop-place.place-index in
    let gs = filter (is_filers filer) (kept F) in
    let are : AreAt 1 (kept F) c.args.places.now gs = rw rows (are_own filer 1 (kept F)) in
    let low : i < length gs = omega (arith, c.loop-place-test.true, as_many_at 1 (kept F) gs c.args.places.now are) in
    let k = get_or gs i no_kept in
    let there =
    at_place 1 i (kept F) gs c.args.places.now c.place-item.result k are c.loop-place-test.true c.place-item.is
    (own_default gs i no_kept low) in
    let place = c.in_ok-place_in.ensures there.0 there.2 in
    let found = c.row_at.ensures F k is (subst (λ n. IsPlaced 1 n (kept F) k) (sym place) there.1) in
    let step = row_step (register F) gs i low c.row_at.result found in
    let had = c.loop-place.invariant F filer is rows in
    elim c.match-row_at.branch [
      | in-Some+in_ok-push w ↦ rw w.rows-is
          (ap (map view_row) w.in_ok-push.ensures.items
          ∙ map-append view_row c.loop-place.rows.items (w.in-Some.row ∷ [])
          ∙ ap (λ l. l ++ view_row w.in-Some.row ∷ []) had ∙ sym (rw w.in-Some.is at step))
      | in_default w ↦ rw w.rows-is (had ∙ sym (rw w.in_default.is at step))
    ]

pub returns : goal.returns
returns c F filer is rows =
    let gs = filter (is_filers filer) (kept F) in
    let are : AreAt 1 (kept F) c.args.places.now gs = rw rows (are_own filer 1 (kept F)) in
    let all : take c.loop-place.place-index gs ≡ gs =
    take_all c.loop-place.place-index gs (omega (
      arith,
      c.loop-place-test.false,
      as_many_at 1 (kept F) gs c.args.places.now are,
    )) in
    c.loop-place.invariant F filer is rows ∙ ap (λ ks. map (listing (register F)) (filings ks)) all
    ∙ ap (map (listing (register F))) (own_listed filer (kept F))
