use Rattle.std.proofs.Common.{◌≡◌, ℕ, zero, suc, ◌+◌, ◌-◌, ◌<◌, ◌++◌, ◌∷◌, [], length, map, sym, ap, ◌∙◌, subst}
use Rattle.std.proofs.Common.{arith, true≢false, slice_get, length-append, Some}
use Rattle.std.proofs.lemmas.List.{length-drop, length-map}
use Rattle.json.specs.Tape.{node_token}
use Rattle.json.specs.Tree.{json_tokens}
use Rattle.report_places.specs.Lead.{behind, element_of}
use Rattle.report_places.specs.OnTape.{left_at, IsFound}
use Rattle.report_places.proofs.Lists.{skip_front, behind-behind, one_element_more, each_element}
use Rattle.report_places.proofs.Tapes.{first_item, no_item}
use Rattle.report_places.proofs.children.elements.Goals as goal

pub elements-preserved : goal.elements-preserved
elements-preserved c = (
  omega (arith, c.elements.invariant.0, c.after-at.ensures.later),
  λ vs rest e.
      let l = c.elements in
      let from = c.args.from in
      let all = map node_token c.args.nodes.now in
      let now = l.invariant.1 vs rest e in
      let has = c.begins_element.ensures.0 c.elements-test.true in
      let f = first_item (left_at c.args.nodes.now l.at) now.0 rest has.1 now.1 in
      let next = c.after-at.ensures.value f.0 _ f.3 in
      let size = length (json_tokens f.0) in
      let far : l.at - from + size ≡ c.after-at.result - from = omega (arith, next, l.invariant.0) in
      let n = length l.tokens.items in
      let here : element_of n vs ≡ behind (l.at - from) (element_of zero now.0) =
      subst (λ k. element_of k vs ≡ behind (l.at - from) (element_of zero now.0)) (omega arith) (now.2 zero) in
      let last : IsFound all from (element_of n vs) (Some l.at) = (
        (l.at - from + 0, f.0),
        here ∙ ap (λ x. behind (l.at - from) (element_of zero x)) f.2,
        record { token = omega (arith, l.invariant.0); rest = _; begins = f.3 },
      ) in (
        f.1,
        skip_front all l.at c.after-at.result (json_tokens f.0) _ f.3 next,
        λ i.
            let further : length (l.tokens.items ++ l.at ∷ []) + i ≡ n + suc i =
            omega (arith, length-append l.tokens.items (l.at ∷ [])) in
            ap (λ xs. element_of (length xs + i) vs) c.in_ok-push.ensures.items
            ∙ ap (λ k. element_of k vs) further ∙ now.2 (suc i)
            ∙ ap (λ x. behind (l.at - from) (element_of (suc i) x)) f.2
            ∙ behind-behind (l.at - from) size (element_of i f.1) ∙ ap (λ k. behind k (element_of i f.1)) far,
        subst (λ xs. (i : ℕ) → i < length xs → IsFound all from (element_of i vs) (slice_get xs i))
            (sym c.in_ok-push.ensures.items)
            (one_element_more all from (λ i. element_of i vs) l.tokens.items l.at now.3 last),
      ),
)

pub returns : goal.returns
returns c items rest e =
    let l = c.elements in
    let nodes = c.args.nodes.now in
    let now = l.invariant.1 items rest e in
    let over = no_item (left_at nodes l.at) now.0 rest
    (λ h. true≢false (sym (c.begins_element.ensures.1
    (omega (arith, h.0, length-drop l.at (map node_token nodes), length-map nodes node_token), h.1))
    ∙ c.elements-test.false)) now.1 in
    each_element (map node_token nodes) c.args.from (λ i. element_of i items) l.tokens.items
    (λ i. now.2 i ∙ ap (λ vs. behind (l.at - c.args.from) (element_of i vs)) over) now.3
