use Rattle.std.proofs.Common.{◌≡◌, ℕ, ◌<◌, List, [], ◌∷◌, ◌++◌, length, map, take, drop, get_or, sym, ap, ◌∙◌, subst}
use Rattle.std.proofs.Common.{arith, rules}
use Rattle.std.proofs.lemmas.List.{length-map}
use Rattle.json.specs.Lex.{between}
use Rattle.json.specs.Tape.{node_token}
use Rattle.json.specs.Tree.{json_tokens}
use Rattle.json.proofs.Unique.Spelling.{tokens-document}
use Rattle.report_places.specs.Position.{start}
use Rattle.report_places.specs.Scan.{spots_from}
use Rattle.report_places.specs.Place.{ArePlacesOf}
use Rattle.report_places.proofs.Tapes.{within_nodes}
use Rattle.report_places.specs.declared.place.ValuePlace.{ValuePlace}
use Rattle.report_places.proofs.Lists.{push_place, one_pointer_more}
use Rattle.report_places.proofs.Spots.{length-spots, place_is}
use Rattle.report_places.proofs.Tokens.{length-tokens}
use Rattle.report_places.proofs.place.places_on.Goals as goal

pub index-spot-requires : goal.index-spot-requires
index-spot-requires c =
    let text = c.args.text.now in
    let value = c.requires.0 in
    let spelled = tokens-document text value c.requires.1 in
    let on_tape : map node_token c.nodes-nodes.result.now ≡ json_tokens value =
    c.nodes-nodes.ensures.tokens ∙ c.requires.2 ∙ spelled in
    let spots : c.in_ok-spots.spots.items ≡ spots_from between start 0 text =
    c.in_ok-spots.ensures ∙ ap (spots_from between start 0) c.as_bytes.ensures.value in
    omega (
      arith,
      within_nodes c.nodes-nodes.result.now c.in_ok-lead.lead.token _ _
          (c.in_ok-lead.ensures.stands value on_tape).1,
      ap length on_tape,
      length-map c.nodes-nodes.result.now node_token,
      ap length spelled,
      length-tokens text value spelled,
      ap length spots,
      length-spots text,
    )

pub loop-pointer-preserved : goal.loop-pointer-preserved
loop-pointer-preserved c = (
  λ value doc.
      let text = c.args.text.now in
      let spelled = tokens-document text value doc in
      let on_tape : map node_token c.nodes-nodes.result.now ≡ json_tokens value =
      c.nodes-nodes.ensures.tokens ∙ c.requires.2 ∙ spelled in
      let spots : c.in_ok-spots.spots.items ≡ spots_from between start 0 text =
      c.in_ok-spots.ensures ∙ ap (spots_from between start 0) c.as_bytes.ensures.value in
      let lead = c.in_ok-lead.lead in
      let stands = c.in_ok-lead.ensures.stands value on_tape in
      let spot = c.index-spot.result.now in
      let within : lead.token < length (spots_from between start 0 text) =
      omega (
        arith,
        within_nodes c.nodes-nodes.result.now c.in_ok-lead.lead.token _ _
            (c.in_ok-lead.ensures.stands value on_tape).1,
        ap length on_tape,
        length-map c.nodes-nodes.result.now node_token,
        ap length spelled,
        length-tokens text value spelled,
        length-spots text,
      ) in
      let place : ValuePlace = record { offset = spot.offset; position = spot.position; is_there = lead.is_there } in
      let is = place_is text value _ lead spot spelled (c.in_ok-lead.ensures.same value on_tape) (
        stands.0,
        ap (drop lead.token) (sym (c.nodes-nodes.ensures.tokens ∙ c.requires.2))
            ∙ stands.1,
      ) (c.index-spot.ensures ∙ ap (λ l. get_or l lead.token spot) spots) within in
      let before = map (λ pointer. pointer.now) (take c.loop-pointer.pointer-index c.args.pointers.now) in
      let pushed =
      push_place text value before c.loop-pointer.places.items _ place (c.loop-pointer.invariant.0 value doc) is in
      let P : List (List ℕ) → List ValuePlace → Type 0 = ArePlacesOf text value in
      subst (P _) (sym c.in_ok-push.ensures.items) (subst
      (λ ps. ArePlacesOf text value ps (c.loop-pointer.places.items ++ place ∷ []))
      (sym (one_pointer_more c.args.pointers.now c.loop-pointer.pointer-index _ (omega arith))) pushed),
  search rules,
)
