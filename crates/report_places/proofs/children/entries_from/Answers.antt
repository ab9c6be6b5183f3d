use Rattle.std.proofs.Common.{◌≡◌, ◌∷◌, ◌+◌, ◌-◌, length, map, cond, Some, None, refl, sym, ap, ◌∙◌, subst, arith}
use Rattle.json.specs.Token.{key}
use Rattle.std.specs.Str.{bytes_eq}
use Rattle.json.specs.Tape.{node_token}
use Rattle.json.specs.Tree.{json_tokens}
use Rattle.report_places.specs.Lead.{Found, behind, later_or, member_of}
use Rattle.report_places.specs.Entries.{value_at}
use Rattle.report_places.specs.OnTape.{left_at, IsFound, StandsAt}
use Rattle.report_places.proofs.ByName.{value_at-push}
use Rattle.report_places.proofs.Lists.{from_here, skip_front, one_name_more, one_value_more}
use Rattle.report_places.proofs.Tapes.{first_member}
use Rattle.report_places.proofs.children.entries_from.Goals as goal

pub members-init : goal.members-init
members-init c = (
  omega arith,
  λ ms rest e. (
    ms,
    λ name. None,
    e,
    λ name. from_here _ (member_of name ms) (omega arith),
    λ name. subst (IsFound (map node_token c.args.nodes.now) c.args.from None)
        (sym (ap (λ es. value_at es name) c.new-entries.ensures.items)) refl,
  ),
)

pub members-preserved : goal.members-preserved
members-preserved c = (
  omega (arith, c.members.invariant.0, c.after-at.ensures.later),
  λ ms rest e.
      let l = c.members in
      let from = c.args.from in
      let nodes = c.args.nodes.now in
      let all = map node_token nodes in
      let name_is = c.as_bytes.ensures.value in
      let said = c.as_bytes.result.now in
      let begins = subst (λ k. left_at nodes l.at ≡ key k ∷ left_at nodes (l.at + 1)) (sym name_is)
      c.in-Some.ensures.1 in
      let now = l.invariant.1 ms rest e in
      let f = first_member said (left_at nodes (l.at + 1)) now.0 rest (sym begins ∙ now.2) in
      let next = c.after-at.ensures.value f.0 _ f.3 in
      let size = length (json_tokens f.0) in
      let far : l.at - from + (1 + size) ≡ c.after-at.result - from = omega (arith, next, l.invariant.0) in
      let there : Found = (l.at - from + 1, f.0) in
      let stands : StandsAt all from there (l.at + 1) =
      record { token = omega (arith, l.invariant.0); rest = _; begins = f.3 } in (
        f.1,
        λ name. cond (bytes_eq said name) (Some there) (now.1 name),
        skip_front all (l.at + 1) c.after-at.result (json_tokens f.0) _ f.3 next,
        λ name.
            now.3 name ∙ ap (λ x. later_or (behind (l.at - from) (member_of name x)) (now.1 name)) f.2
            ∙ one_name_more (bytes_eq said name) (l.at - from) size _ f.0 (member_of name f.1) (now.1 name) far,
        λ name. one_value_more all from there (l.at + 1) stands (bytes_eq said name) (now.1 name) _ _
            (ap (λ es. value_at es name) c.in_ok-push.ensures.items
            ∙ value_at-push name l.entries.items (c.as_bytes.result, l.at + 1)) (now.4 name),
      ),
)
