use Rattle.std.proofs.Common.{◌≡◌, ◌+◌, ◌++◌, ◌∷◌, [], ℕ, List, take, sym, ap, ◌∙◌, length-append}
use Rattle.std.proofs.lemmas.List.{take_more}
use Rattle.std.proofs.lemmas.List.Elements.{All-push}
use Rattle.std.proofs.lemmas.Slice.Zip.{all_zipped_more}
use Rattle.intake_core.specs.Group.{Given}
use Rattle.gateway_server.specs.Decided.{IsOfGiven, IsPhrased}
use Rattle.gateway_server.proofs.group.tell.Goals as goal

pub loop-at-preserved : goal.loop-at-preserved
loop-at-preserved c =
    let i = c.loop-at.at in
    let all : List Given = c.args.results.now in
    let given : Given = c.index-results-at.result in
    let longer : take (i + 1) all ≡ take i all ++ given ∷ [] =
    take_more all i given c.loop-at-test.true ∙ ap (λ (x : Given). take i all ++ x ∷ []) (sym c.index-results-at.is) in
    record {
      many = rw c.push_reserved.ensures.items (length-append c.loop-at.all.items (c.decided_by.result ∷ [])
          ∙ ap (λ (n : ℕ). n + 1) c.loop-at.invariant.many);
      are = rw (longer, c.push_reserved.ensures.items)
          (all_zipped_more IsOfGiven (take i all) c.loop-at.all.items given c.decided_by.result
          c.loop-at.invariant.are c.decided_by.ensures.given);
      phrases = rw c.push_reserved.ensures.items
          (All-push IsPhrased c.loop-at.all.items c.decided_by.result c.loop-at.invariant.phrases
          c.decided_by.ensures.phrase);
      room = rw c.push_reserved.ensures.capacity c.loop-at.invariant.room;
    }
