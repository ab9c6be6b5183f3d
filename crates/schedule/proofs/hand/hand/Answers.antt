use Rattle.std.proofs.Common.{rules, ◌≡◌, ◌∙◌, ap, sym, take, subst, Some, None, slice_get, ◌<◌, refl, inr}
use Rattle.event_script.specs.Events.{view_crash}
use Rattle.filing_world.specs.World.{Output, numbered}
use Rattle.filing_world.specs.Step.{IsAway}
use Rattle.schedule.proofs.Entries.{element_at}
use Rattle.schedule.specs.Filers.{boxes}
use Rattle.schedule.proofs.Steps.{element_is, named, up_there, can_hand, hand_step, set_same}
use Rattle.schedule.proofs.hand.hand.Goals as goal

some-none : {X : Type 0} (x : X) → Some x ≡ None → ⊥
some-none x e = cc

pub returns-clause-step : goal.returns-clause-step
returns-clause-step g c =
    let filers = c.args.filers.now.items in
    let from = c.index-outputs-at.result in
    let sender = c.in_ok-outbox.ensures.some in
    let up = c.in-Some-up_at.ensures.some in
    let there : slice_get filers c.in-Some-up_at.index ≡ Some up.1 =
    subst (λ bs. slice_get bs c.in-Some-up_at.index ≡ Some up.1) c.as_slice.ensures.value up.2 in
    let filer = c.index_mut.result.now in
    let same : filer ≡ up.1 = element_is filers c.in-Some-up_at.index up.1 filer there c.index_mut.ensures.value in
    let here =
    named c.args.outputs.now c.args.output c.in-Some.at from c.in-Some.ensures.some.0
    (element_at c.args.outputs.now c.in-Some.at from c.in-Some.ensures.some.1 c.index-outputs-at.is) in
    let given : c.first.result.now ≡ take c.args.bytes from.bytes =
    c.first.ensures ∙ ap (take c.args.bytes) (c.as_slice-2.ensures.value
    ∙ ap (λ (o : Output). o.bytes) c.from.view_is) in
    let item_is : c.from.inside.item ≡ from.item = ap (λ (o : Output). o.item) c.from.view_is in
    let item_here = subst (λ n. numbered c.args.sent.now n ≡ Some sender.0) item_is sender.1 in
    hand_step filers c.in-Some-up_at.index c.in_ok-outbox.outbox up.0 filer (rw same there) (rw same up.3)
    c.args.sent.now c.args.outputs.now c.args.output c.args.bytes c.in_ok-outbox.entry (view_crash c.args.crash)
    from sender.0 here item_here sender.2
    c.hand.new.self (rw given at c.in_ok-hand.ensures.heard)

pub index_mut-requires : goal.index_mut-requires
index_mut-requires g c = subst (λ n. c.in-Some-up_at.index < n) c.as_slice.ensures.len c.in-Some-up_at.ensures.some.4

pub hand-requires : goal.hand-requires
hand-requires g c =
    let filers = c.args.filers.now.items in
    let up = c.in-Some-up_at.ensures.some in
    let there : slice_get filers c.in-Some-up_at.index ≡ Some up.1 =
    subst (λ bs. slice_get bs c.in-Some-up_at.index ≡ Some up.1) c.as_slice.ensures.value up.2 in
    let same : c.index_mut.result.now ≡ up.1 =
    element_is filers c.in-Some-up_at.index up.1 c.index_mut.result.now there c.index_mut.ensures.value in
    rw same up.3

pub returns-in_default-up_at-clause-no_such : goal.returns-in_default-up_at-clause-no_such
returns-in_default-up_at-clause-no_such g c = λ e server.
    let from = c.index-outputs-at.result in
    let here =
    named c.args.outputs.now c.args.output c.in-Some.at from c.in-Some.ensures.some.0
    (element_at c.args.outputs.now c.in-Some.at from c.in-Some.ensures.some.1 c.index-outputs-at.is) in
    let sender = c.in_ok-outbox.ensures.some in
    let item_is : c.from.inside.item ≡ from.item = ap (λ (o : Output). o.item) c.from.view_is in
    let item_here = subst (λ n. numbered c.args.sent.now n ≡ Some sender.0) item_is sender.1 in
    inr (
      from,
      sender.0,
      here,
      item_here,
      inr (
        c.in_ok-outbox.outbox,
        c.in_ok-outbox.entry,
        sender.2,
        subst (λ fs. IsAway (boxes fs) c.in_ok-outbox.outbox) c.as_slice.ensures.value
            (c.in_default-up_at.ensures.none refl),
      ),
    )

pub returns-in_err-hand-clause-reopen : goal.returns-in_err-hand-clause-reopen
returns-in_err-hand-clause-reopen g c = λ e.
    let filers = c.args.filers.now.items in
    let from = c.index-outputs-at.result in
    let sender = c.in_ok-outbox.ensures.some in
    let up = c.in-Some-up_at.ensures.some in
    let there : slice_get filers c.in-Some-up_at.index ≡ Some up.1 =
    subst (λ bs. slice_get bs c.in-Some-up_at.index ≡ Some up.1) c.as_slice.ensures.value up.2 in
    let here =
    named c.args.outputs.now c.args.output c.in-Some.at from c.in-Some.ensures.some.0
    (element_at c.args.outputs.now c.in-Some.at from c.in-Some.ensures.some.1 c.index-outputs-at.is) in
    let item_is : c.from.inside.item ≡ from.item = ap (λ (o : Output). o.item) c.from.view_is in
    let item_here = subst (λ n. numbered c.args.sent.now n ≡ Some sender.0) item_is sender.1 in (
      c.in_err-hand.ensures.reopen (search rules),
      can_hand c.args.sent.now c.args.outputs.now filers c.args.output c.args.bytes c.in_ok-outbox.outbox
          c.in_ok-outbox.entry (view_crash c.args.crash) from sender.0 here item_here sender.2
          (up_there filers c.in_ok-outbox.outbox c.in-Some-up_at.index up.1 up.0 there up.3),
    )

pub returns-in_err-hand-clause-store : goal.returns-in_err-hand-clause-store
returns-in_err-hand-clause-store g c = λ e server keeps.
    let filers = c.args.filers.now.items in
    let from = c.index-outputs-at.result in
    let sender = c.in_ok-outbox.ensures.some in
    let up = c.in-Some-up_at.ensures.some in
    let there : slice_get filers c.in-Some-up_at.index ≡ Some up.1 =
    subst (λ bs. slice_get bs c.in-Some-up_at.index ≡ Some up.1) c.as_slice.ensures.value up.2 in
    let here =
    named c.args.outputs.now c.args.output c.in-Some.at from c.in-Some.ensures.some.0
    (element_at c.args.outputs.now c.in-Some.at from c.in-Some.ensures.some.1 c.index-outputs-at.is) in
    let item_is : c.from.inside.item ≡ from.item = ap (λ (o : Output). o.item) c.from.view_is in
    let item_here = subst (λ n. numbered c.args.sent.now n ≡ Some sender.0) item_is sender.1 in (
      c.in_err-hand.ensures.store (search rules),
      (
        c.in_ok-outbox.outbox,
        (from, sender.0, c.in_ok-outbox.entry, here, item_here, sender.2),
        up_there filers c.in_ok-outbox.outbox c.in-Some-up_at.index up.1 up.0 there up.3,
      ),
    )

pub returns-in_err-outbox-clause-store : goal.returns-in_err-outbox-clause-store
returns-in_err-outbox-clause-store g c = λ e server keeps.
    let from = c.index-outputs-at.result in
    let lies =
    keeps.outputs c.in-Some.at from (element_at c.args.outputs.now c.in-Some.at from c.in-Some.ensures.some.1
    c.index-outputs-at.is) in
    let item_is : c.from.inside.item ≡ from.item = ap (λ (o : Output). o.item) c.from.view_is in
    let gone : numbered c.args.sent.now from.item ≡ None =
    subst (λ n. numbered c.args.sent.now n ≡ None) item_is (c.in_err-outbox.ensures.gone (search rules)) in
    absurd (some-none lies.item (sym lies.here ∙ gone))

pub returns-clause-stays : goal.returns-clause-stays
returns-clause-stays g c =
    let filers = c.args.filers.now.items in
    let at = c.in-Some-up_at.index in
    let up = c.in-Some-up_at.ensures.some in
    let there : slice_get filers at ≡ Some up.1 =
    subst (λ bs. slice_get bs at ≡ Some up.1) c.as_slice.ensures.value up.2 in
    let filer = c.index_mut.result.now in
    let same : filer ≡ up.1 = element_is filers at up.1 filer there c.index_mut.ensures.value in
    set_same (λ f. f.taken) filers at filer c.hand.new.self (rw same there) c.in_ok-hand.ensures.stays
