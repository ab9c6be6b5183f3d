use Rattle.std.proofs.Common.{◌≡◌, subst, Some, slice_get, ◌<◌, refl, inl, inr}
use Rattle.filing_world.specs.Step.{IsAway}
use Rattle.schedule.specs.Filers.{boxes}
use Rattle.schedule.proofs.Steps.{up_there, element_is, send_step, set_same, no_entry, no_request}
use Rattle.schedule.proofs.send.send.Goals as goal

pub returns-clause-step : goal.returns-clause-step
returns-clause-step g c =
    let filers = c.args.filers.now.items in
    let up = c.in-Some.ensures.some in
    let there : slice_get filers c.in-Some.at ≡ Some up.1 =
    subst (λ bs. slice_get bs c.in-Some.at ≡ Some up.1) c.as_slice.ensures.value up.2 in
    let filer = c.index_mut.result.now in
    let same : filer ≡ up.1 = element_is filers c.in-Some.at up.1 filer there c.index_mut.ensures.value in
    send_step filers c.in-Some.at c.args.outbox up.0 filer (rw same there) (rw same up.3) c.args.entry
    c.in-Some-2.bytes.items c.args.sent.now.items c.push_reserved.new.self.items c.request.new.self
    (rw c.in-Some-2.is at c.in_ok-bytes.ensures.bytes) c.in_ok-bytes.ensures.same
    (rw c.reserve.ensures.items at c.push_reserved.ensures.items)

pub index_mut-requires : goal.index_mut-requires
index_mut-requires g c = subst (λ n. c.in-Some.at < n) c.as_slice.ensures.len c.in-Some.ensures.some.4

pub request-requires : goal.request-requires
request-requires g c =
    let filers = c.args.filers.now.items in
    let up = c.in-Some.ensures.some in
    let there : slice_get filers c.in-Some.at ≡ Some up.1 =
    subst (λ bs. slice_get bs c.in-Some.at ≡ Some up.1) c.as_slice.ensures.value up.2 in
    let same : c.index_mut.result.now ≡ up.1 =
    element_is filers c.in-Some.at up.1 c.index_mut.result.now there c.index_mut.ensures.value in
    rw same up.3

pub returns-in_default-clause-no_such : goal.returns-in_default-clause-no_such
returns-in_default-clause-no_such g c = λ e server outputs.
    inl (subst (λ fs. IsAway (boxes fs) c.args.outbox) c.as_slice.ensures.value (c.in_default.ensures.none refl))

pub returns-in_default-2-clause-no_such : goal.returns-in_default-2-clause-no_such
returns-in_default-2-clause-no_such g c = λ e server outputs.
    let filers = c.args.filers.now.items in
    let up = c.in-Some.ensures.some in
    let there : slice_get filers c.in-Some.at ≡ Some up.1 =
    subst (λ bs. slice_get bs c.in-Some.at ≡ Some up.1) c.as_slice.ensures.value up.2 in
    let filer = c.index_mut.result.now in
    let same : filer ≡ up.1 = element_is filers c.in-Some.at up.1 filer there c.index_mut.ensures.value in
    inr (no_entry filers c.in-Some.at c.args.outbox up.0 filer (rw same there) c.args.entry
    (no_request filer.box.filer filer.box.entries c.args.entry
    (rw c.in_default-2.is at c.in_ok-bytes.ensures.bytes)))

pub returns-in_err-bytes-clause-store : goal.returns-in_err-bytes-clause-store
returns-in_err-bytes-clause-store g c = λ e.
    let filers = c.args.filers.now.items in
    let up = c.in-Some.ensures.some in
    let there : slice_get filers c.in-Some.at ≡ Some up.1 =
    subst (λ bs. slice_get bs c.in-Some.at ≡ Some up.1) c.as_slice.ensures.value up.2 in
    up_there filers c.args.outbox c.in-Some.at up.1 up.0 there up.3

pub returns-clause-stays : goal.returns-clause-stays
returns-clause-stays g c =
    let filers = c.args.filers.now.items in
    let at = c.in-Some.at in
    let up = c.in-Some.ensures.some in
    let there : slice_get filers at ≡ Some up.1 =
    subst (λ bs. slice_get bs at ≡ Some up.1) c.as_slice.ensures.value up.2 in
    let filer = c.index_mut.result.now in
    let same : filer ≡ up.1 = element_is filers at up.1 filer there c.index_mut.ensures.value in
    set_same (λ f. f.taken) filers at filer c.request.new.self (rw same there) c.request.ensures.stays
