use Rattle.std.proofs.Common.{◌≡◌, ◌∷◌, ◌++◌, [], ◌+◌, Err, List, take, map, length, vec_len, refl, sym, ap, ◌∙◌}
use Rattle.std.proofs.Common.{arith, append_assoc, rules}
use Rattle.std.proofs.Math.Seq.{take-length}
use Rattle.std.proofs.lemmas.List.{take_more, map-append}
use Rattle.filing_model.specs.Request.{Request}
use Rattle.intake_core.specs.declared.intake.Unavailable.TheVariants.{Store}
use Rattle.intake_core.specs.Group.{Given}
use Rattle.intake_core.proofs.intake.Intake.refuse_group.Goals as goal

pub loop-request-preserved : goal.loop-request-preserved
loop-request-preserved g c =
    let refuse : Request → Given = λ _. Err Store in
    let all = c.args.requests.now in
    let i = c.loop-request._request-index in
    record {
      are =
          c.push_reserved.ensures.items
          ∙ ap (λ (xs : List Given). xs ++ Err Store ∷ []) c.loop-request.invariant.are
          ∙ append_assoc c.args.results.now.items (map refuse (take i all)) (Err Store ∷ [])
          ∙ ap (λ (xs : List Given). c.args.results.now.items ++ xs)
          (sym (ap (map refuse) (take_more all i c._request-item.result c.loop-request-test.true)
          ∙ map-append refuse (take i all) _));
      len = omega (arith, c.push_reserved.ensures.len, c.loop-request.invariant.len);
      room = c.push_reserved.ensures.capacity ∙ c.loop-request.invariant.room;
    }

pub push_reserved-requires : goal.push_reserved-requires
push_reserved-requires g c =
    omega (
      arith,
      c.requires,
      c.loop-request-test.true,
      c.loop-request.invariant.len,
      c.loop-request.invariant.room,
    )

pub returns : goal.returns
returns g c =
    let end : c.loop-request._request-index ≡ length c.args.requests.now = search rules in
    let whole : take c.loop-request._request-index c.args.requests.now ≡ c.args.requests.now =
    ap (λ n. take n c.args.requests.now) end ∙ take-length c.args.requests.now in
    record {
      are =
          c.loop-request.invariant.are
          ∙ ap (λ rs. c.args.results.now.items ++ map (λ _. Err Store) rs) whole;
      len = c.loop-request.invariant.len ∙ ap (λ n. vec_len c.args.results.now + n) end;
      room = c.loop-request.invariant.room;
      down = refl;
    }
