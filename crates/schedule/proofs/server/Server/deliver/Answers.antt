use Rattle.std.proofs.Common.{◌≡◌, List, ◌++◌, ◌∙◌, sym, ap, subst, true, Some, length, ◌≤◌}
use Rattle.std.specs.Prelude.{is_some}
use Rattle.http_messages.specs.Message.{Arrival}
use Rattle.event_script.specs.Events.{view_crash}
use Rattle.filing_model.specs.Request.{firsts}
use Rattle.filing_model.specs.Stopping.{ServesUntil}
use Rattle.filing_model.specs.Text.{completed}
use Rattle.filing_world.specs.Step.{is_no}
use Rattle.gateway_server.specs.Stopping.{view_stop}
use Rattle.gateway_server.proofs.Whole.{marked_arrivals}
use Rattle.schedule.specs.Processes.{KeepsSurely, Keeps, is_taken, is_up}
use Rattle.schedule.specs.Served.{Served}
use Rattle.schedule.proofs.server.Server.deliver.Given.{Over}
use Rattle.schedule.proofs.server.Server.deliver.Goals.{In_ok-stop_by}
use Rattle.schedule.proofs.server.Server.deliver.Goals as goal

-- what came was served up to the stop, the requests that it completed are kept, and the intake is up as the crash says
delivered : (g : Over) (c : In_ok-stop_by g) → (arrivals : List Arrival)
    × ServesUntil c.self.inside.limit c.self.inside.done.items c.args.bytes.now (view_stop c.stop_of.result) arrivals
    c.in_ok-exchange.exchange.marks.items c.in_ok-exchange.exchange.ended c.in_ok-exchange.exchange.text.items
    × (c.append_completed.new.done.items ≡ c.self.inside.done.items
    ++ completed arrivals c.in_ok-exchange.exchange.marks.items)
    × KeepsSurely c.stop_by.new.process c.self.inside.limit (firsts c.append_completed.new.done.items)
    × (is_some c.stop_by.new.process.intake ≡ is_no (view_crash c.args.crash))
delivered g c =
    let limit = c.self.inside.limit in
    let done = c.self.inside.done.items in
    let exchange = c.in_ok-exchange.exchange in
    let marks = exchange.marks.items in
    let there : c.self.inside.process ≡ Some c.in-Some.process = sym c.take.ensures.value ∙ c.in-Some.is in
    let keeps : KeepsSurely c.in-Some.process limit (firsts done) =
    subst (λ p. Keeps p limit (firsts done)) there c.self.invariant.1 in
    let up : is_some c.in-Some.process.intake ≡ true =
    sym (ap is_up there) ∙ ap (λ (s : Served). s.up) c.self.view_is ∙ c.requires in
    let came = c.in_ok-exchange.ensures.serves limit done keeps up in
    let arrivals = came.0 in
    let ending =
    marked_arrivals limit done c.args.bytes.now (view_stop c.stop_of.result) arrivals marks exchange.ended
    exchange.text.items came.1 in
    let more : c.append_completed.new.done.items ≡ done ++ completed arrivals marks =
    c.in_ok-append_completed.ensures arrivals ending.0 ending.1
    (subst (λ ms. length ms ≤ length arrivals) (sym c.as_slice.ensures.value) ending.2)
    ∙ ap (λ ms. done ++ completed arrivals ms) c.as_slice.ensures.value in (
      arrivals,
      came.1,
      more,
      subst (λ F. KeepsSurely c.stop_by.new.process limit F) (ap firsts (sym more))
          (c.in_ok-stop_by.ensures.kept limit (firsts (done ++ completed arrivals marks)) came.2),
      c.in_ok-stop_by.ensures.up (c.serve_bytes.ensures.up ∙ up),
    )

pub invariant_of-self-2 : goal.invariant_of-self-2
invariant_of-self-2 g c = (c.self.invariant.0, (delivered g (goal.at.invariant_of-self-2 g c).In_ok-stop_by).3)

pub returns-clause-delivered : goal.returns-clause-delivered
returns-clause-delivered g c =
    let limit = c.self.inside.limit in
    let done = c.self.inside.done.items in
    let exchange = c.in_ok-exchange.exchange in
    let came = delivered g (goal.at.returns-clause-delivered g c).In_ok-stop_by in
    let stopped =
    subst (λ k. ServesUntil limit done c.args.bytes.now k came.0 exchange.marks.items exchange.ended
    exchange.text.items) c.stop_of.ensures came.1 in
    let before : c.len-before.result ≡ length done = c.len-before.ensures ∙ c.self.inside.done.ok.0 in
    let there : c.self.inside.process ≡ Some c.in-Some.process = sym c.take.ensures.value ∙ c.in-Some.is in
    rw (sym c.self.view_is) (record {
      before = before;
      arrivals = came.0;
      serves = stopped;
      becomes =
          λ i. record { limit = limit; done = came.2 i; up = came.4 i; taken = sym (ap is_taken there) i };
    })
