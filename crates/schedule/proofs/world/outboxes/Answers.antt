use Rattle.std.proofs.Common.{◌≡◌, ◌∙◌, ◌+◌, suc, map, take, refl, ap, sym, subst, arith}
use Rattle.std.proofs.lemmas.List.{take_all}
use Rattle.key_string.specs.Filer.{is_filer}
use Rattle.filing_world.specs.World.{new_outbox}
use Rattle.schedule.specs.Filers.{boxes, is_any_taken}
use Rattle.schedule.proofs.GoingThrough.{code_at, outboxes_next}
use Rattle.schedule.proofs.world.outboxes.Goals as goal

pub loop-code-init : goal.loop-code-init
loop-code-init g c = record {
  each = ap boxes c.new-list.ensures.items;
  there = ap is_any_taken c.new-list.ensures.items;
}

pub append_outbox-requires : goal.append_outbox-requires
append_outbox-requires g c =
    code_at is_filer (λ f. f.now) c.args.filers.now c.loop-code.code-index _ c.loop-code-test.true c.requires

pub loop-code-preserved : goal.loop-code-preserved
loop-code-preserved g c =
    let next : c.loop-code.code-index + 1 ≡ suc c.loop-code.code-index = omega arith in
    record {
      each = subst (λ n. boxes c.append_outbox.new.list.items
          ≡ map new_outbox (map (λ f. f.now) (take n c.args.filers.now))) (sym next)
          (outboxes_next (λ f. f.now) c.args.filers.now c.loop-code.code-index _ (boxes c.loop-code.list.items)
          (boxes c.append_outbox.new.list.items) _ c.loop-code-test.true c.loop-code.invariant.each refl
          c.in_ok-append_outbox.ensures.appended);
      there = c.in_ok-append_outbox.ensures.there c.loop-code.invariant.there;
    }

pub returns-clause-outboxes : goal.returns-clause-outboxes
returns-clause-outboxes g c =
    c.loop-code.invariant.each ∙ ap (λ l. map new_outbox (map (λ f. f.now) l))
    (take_all c.loop-code.code-index c.args.filers.now c.loop-code-test.false)
