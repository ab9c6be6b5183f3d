use Rattle.std.proofs.Common.{◌≡◌, subst, Some, slice_get, ◌<◌, refl}
use Rattle.outbox_core.specs.Entries.{opened}
use Rattle.filing_world.specs.Step.{IsAway}
use Rattle.schedule.specs.Filers.{boxes}
use Rattle.schedule.proofs.Steps.{up_there, element_is, put_step, set_same}
use Rattle.schedule.proofs.put.put.Goals as goal

pub returns-clause-step : goal.returns-clause-step
returns-clause-step g c =
    let filers = c.args.filers.now.items in
    let up = c.in-Some.ensures.some in
    let there : slice_get filers c.in-Some.at ≡ Some up.1 =
    subst (λ bs. slice_get bs c.in-Some.at ≡ Some up.1) c.as_slice.ensures.value up.2 in
    let filer = c.index_mut.result.now in
    let same : filer ≡ up.1 = element_is filers c.in-Some.at up.1 filer there c.index_mut.ensures.value in
    put_step filers c.in-Some.at c.args.outbox up.0 filer (rw same there) (rw same up.3)
    (opened c.args.key.now c.args.target c.args.body.now) c.put.new.self c.in_ok-put.ensures.put
    c.in_ok-put.ensures.key c.requires

pub returns-in_default-clause-no_such : goal.returns-in_default-clause-no_such
returns-in_default-clause-no_such g c = λ e server sent outputs.
    subst (λ fs. IsAway (boxes fs) c.args.outbox) c.as_slice.ensures.value (c.in_default.ensures.none refl)

pub index_mut-requires : goal.index_mut-requires
index_mut-requires g c = subst (λ n. c.in-Some.at < n) c.as_slice.ensures.len c.in-Some.ensures.some.4

pub put-requires : goal.put-requires
put-requires g c =
    let filers = c.args.filers.now.items in
    let up = c.in-Some.ensures.some in
    let there : slice_get filers c.in-Some.at ≡ Some up.1 =
    subst (λ bs. slice_get bs c.in-Some.at ≡ Some up.1) c.as_slice.ensures.value up.2 in
    let same : c.index_mut.result.now ≡ up.1 =
    element_is filers c.in-Some.at up.1 c.index_mut.result.now there c.index_mut.ensures.value in
    record { up = rw same up.3; target = c.requires }

pub returns-in_err-put-clause-store : goal.returns-in_err-put-clause-store
returns-in_err-put-clause-store g c = λ e.
    let filers = c.args.filers.now.items in
    let up = c.in-Some.ensures.some in
    let there : slice_get filers c.in-Some.at ≡ Some up.1 =
    subst (λ bs. slice_get bs c.in-Some.at ≡ Some up.1) c.as_slice.ensures.value up.2 in
    up_there filers c.args.outbox c.in-Some.at up.1 up.0 there up.3

pub returns-clause-stays : goal.returns-clause-stays
returns-clause-stays g c =
    let filers = c.args.filers.now.items in
    let at = c.in-Some.at in
    let up = c.in-Some.ensures.some in
    let there : slice_get filers at ≡ Some up.1 =
    subst (λ bs. slice_get bs at ≡ Some up.1) c.as_slice.ensures.value up.2 in
    let filer = c.index_mut.result.now in
    let same : filer ≡ up.1 = element_is filers at up.1 filer there c.index_mut.ensures.value in
    set_same (λ f. f.taken) filers at filer c.put.new.self (rw same there) c.put.ensures.stays
