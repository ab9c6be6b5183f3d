use Rattle.std.proofs.Common.{◌≡◌, ℕ, List, [], ◌++◌, drop, map, Option, Some, None, sym, ap, ◌∙◌, subst, arith, rules}
use Rattle.std.proofs.Common.{append-nil}
use Rattle.std.proofs.lemmas.Str.Pattern.{strip_prefix_char, split_parts}
use Rattle.json.specs.Json.{Json}
use Rattle.json.specs.Tape.{node_token}
use Rattle.json.specs.Token.{Token}
use Rattle.json.specs.Tree.{json_tokens}
use Rattle.report_places.specs.Lead.{Found, along, child, go_on, lead, parts_of}
use Rattle.report_places.specs.OnTape.{led, IsFound}
use Rattle.report_places.proofs.Parts.{along_part, along_last, empty, no_slash}
use Rattle.report_places.proofs.lead.lead_of.Goals as goal

turned : (ts : List Token) (at : ℕ) (found : Option Found) (a b : Option ℕ) → a ≡ b → IsFound ts at found a
    → IsFound ts at found b
turned ts at found a b same is = subst (IsFound ts at found) same is

pub returns-then-is_empty-clause-stands : goal.returns-then-is_empty-clause-stands
returns-then-is_empty-clause-stands c value e =
    let none = empty c.args.pointer.now (grind arith) in
    ([], e ∙ sym (append-nil (json_tokens value)) ∙ ap (λ p. json_tokens (lead p value).value ++ []) (sym none))

pub returns-in_default : goal.returns-in_default
returns-in_default c =
    let pointer = c.args.pointer.now in
    let other =
    rw c.in_default.is at (strip_prefix_char 47 pointer c.strip_prefix.result c.strip_prefix.ensures.cases
    (omega arith)) in
    record {
      index = c.requires.index;
      same = λ value e. sym (ap led (no_slash pointer value (grind arith) other));
      stands = λ value e. (
        [],
        e ∙ sym (append-nil (json_tokens value))
            ∙ ap (λ r. json_tokens r.value ++ []) (sym (no_slash pointer value (grind arith) other)),
      );
    }

pub parts-init : goal.parts-init
parts-init c =
    let pointer = c.args.pointer.now in
    let cut =
    rw c.in-Some.is at (strip_prefix_char 47 pointer c.strip_prefix.result c.strip_prefix.ensures.cases
    (omega arith)) in (
      λ value e. (value, [], e ∙ sym (append-nil (json_tokens value)), ap (λ p. lead p value) cut),
      search rules,
      c.requires.index,
    )

pub returns-in_default-found : goal.returns-in_default-found
returns-in_default-found c =
    let l = c.parts in
    let all = map node_token c.args.nodes.now in
    let cut =
    rw c.in-Some-split_once.is at (split_parts 47 l.rest.now c.split_once.result c.split_once.ensures.cases
    (omega arith)) in
    let more = c.in-Some-split_once.more.now in
    let part = c.in-Some-split_once.part.now in
    let gone = λ (v : Json) (after : List Token) (begins : drop l.token all ≡ json_tokens v ++ after).
    turned all l.token (child part v) c.in_ok-found.found None c.in_default-found.is
    (c.in_ok-found.ensures.found v after begins) in
    record {
      index = c.child.ensures.index;
      same = λ value e.
          (let now = l.invariant.0 value e in
          sym (ap led (now.3 ∙ along_part l.rest.now part more l.token now.0 cut.0 cut.1
          ∙ ap (λ o. go_on l.token now.0 o (along (parts_of [] more))) (gone now.0 now.1 now.2))));
      stands = λ value e.
          (let now = l.invariant.0 value e in
          let is = now.3 ∙ along_part l.rest.now part more l.token now.0 cut.0 cut.1
          ∙ ap (λ o. go_on l.token now.0 o (along (parts_of [] more))) (gone now.0 now.1 now.2) in
          (now.1, now.2 ∙ ap (λ r. json_tokens r.value ++ now.1) (sym is)));
    }

pub parts-preserved : goal.parts-preserved
parts-preserved c = (
  λ value e.
      let l = c.parts in
      let all = map node_token c.args.nodes.now in
      let cut =
      rw c.in-Some-split_once.is at (split_parts 47 l.rest.now c.split_once.result c.split_once.ensures.cases
      (omega arith)) in
      let now = l.invariant.0 value e in
      let more = c.in-Some-split_once.more.now in
      let part = c.in-Some-split_once.part.now in
      let f = turned all l.token (child part now.0) c.in_ok-found.found (Some c.in-Some-found.next) c.in-Some-found.is
      (c.in_ok-found.ensures.found now.0 now.1 now.2) in (
        f.0.1,
        f.2.rest,
        f.2.begins,
        now.3 ∙ along_part l.rest.now part more l.token now.0 cut.0 cut.1
            ∙ ap (λ o. go_on l.token now.0 o (along (parts_of [] more))) f.1
            ∙ ap (λ k. along (parts_of [] more) k f.0.1) (sym f.2.token),
      ),
  search rules,
  c.child.ensures.index,
)

pub returns-in-Some-end : goal.returns-in-Some-end
returns-in-Some-end c =
    let l = c.parts in
    let all = map node_token c.args.nodes.now in
    let whole =
    rw c.in_default-split_once.is at (split_parts 47 l.rest.now c.split_once.result c.split_once.ensures.cases
    (omega arith)) in
    let found = λ (v : Json) (after : List Token) (begins : drop l.token all ≡ json_tokens v ++ after).
    turned all l.token (child l.rest.now v) c.in_ok-end.end (Some c.in-Some-end.last) c.in-Some-end.is
    (c.in_ok-end.ensures.found v after begins) in
    record {
      index = c.child-2.ensures.index;
      same = λ value e.
          (let now = l.invariant.0 value e in
          let f = found now.0 now.1 now.2 in
          sym (ap led (now.3 ∙ along_last l.rest.now l.token now.0 whole
          ∙ ap (λ o. go_on l.token now.0 o (along [])) f.1 ∙ ap (λ k. along [] k f.0.1) (sym f.2.token))));
      stands = λ value e.
          (let now = l.invariant.0 value e in
          let f = found now.0 now.1 now.2 in
          let is = now.3 ∙ along_last l.rest.now l.token now.0 whole ∙ ap (λ o. go_on l.token now.0 o (along [])) f.1 in
          (f.2.rest, f.2.begins ∙ ap (λ r. json_tokens r.value ++ f.2.rest) (sym is)));
    }

pub returns-in-None : goal.returns-in-None
returns-in-None c =
    let l = c.parts in
    let all = map node_token c.args.nodes.now in
    let whole =
    rw c.in_default-split_once.is at (split_parts 47 l.rest.now c.split_once.result c.split_once.ensures.cases
    (omega arith)) in
    let gone = λ (v : Json) (after : List Token) (begins : drop l.token all ≡ json_tokens v ++ after).
    turned all l.token (child l.rest.now v) c.in_ok-end.end None c.in-None.is
    (c.in_ok-end.ensures.found v after begins) in
    record {
      index = c.child-2.ensures.index;
      same = λ value e.
          (let now = l.invariant.0 value e in
          sym (ap led (now.3 ∙ along_last l.rest.now l.token now.0 whole
          ∙ ap (λ o. go_on l.token now.0 o (along [])) (gone now.0 now.1 now.2))));
      stands = λ value e.
          (let now = l.invariant.0 value e in
          let is = now.3 ∙ along_last l.rest.now l.token now.0 whole
          ∙ ap (λ o. go_on l.token now.0 o (along [])) (gone now.0 now.1 now.2) in
          (now.1, now.2 ∙ ap (λ r. json_tokens r.value ++ now.1) (sym is)));
    }
