use Rattle.std.proofs.Common.{◌≡◌, ℕ, ◌∙◌, ◌++◌, ◌∷◌, [], true, ap, sym, take, length, subst}
use Rattle.event_script.specs.Events.{view_crash}
use Rattle.filing_model.specs.Stopping.{ServesUntil}
use Rattle.filing_world.specs.World.{Sent, Output}
use Rattle.schedule.specs.Played.{world_of}
use Rattle.schedule.proofs.Entries.{element_at}
use Rattle.schedule.proofs.Steps.{named}
use Rattle.schedule.proofs.deliver.deliver.Goals as goal

pub returns-clause-step : goal.returns-clause-step
returns-clause-step g c = λ outboxes.
    let server = c.args.server.now in
    let old = c.args.outputs.now.items in
    let sent = c.args.sent.now in
    let from = c.index-sent-at.result in
    let at = c.in-Some.ensures.some in
    let parts = c.in_ok-before.field-0 in
    let served = c.in_ok-before.ensures.delivered in
    let up : server.up ≡ true = sym c.is_up.ensures ∙ c.if-not-is_up.false in
    let took = c.as_slice.ensures.value ∙ ap (λ (s : Sent). s.bytes) c.from.view_is in
    let given : c.first-given.result.now ≡ take c.args.bytes from.bytes =
    c.first-given.ensures ∙ ap (take c.args.bytes) took in
    let output : ℕ → ℕ → Output = λ given before.
    record {
      item = c.args.item;
      given = given;
      before = before;
      marks = parts.marks.items;
      ended = parts.ended;
      bytes =
          parts.text.items;
    } in
    let pushed : c.push_reserved.new.self.items ≡ old ++ output (length c.first-given.result.now) parts.before ∷ [] =
    rw c.reserve.ensures.items at c.push_reserved.ensures.items in
    let came = served.before in
    record {
      up = up;
      from = from;
      here = named sent c.args.item c.in-Some.at from at.0 (element_at sent c.in-Some.at from at.1 c.index-sent-at.is);
      arrivals = served.arrivals;
      marks = parts.marks.items;
      ended = parts.ended;
      out = parts.text.items;
      serves = subst (λ bytes. ServesUntil server.limit server.done bytes (view_crash c.args.crash) served.arrivals
          parts.marks.items parts.ended parts.text.items) given served.serves;
      becomes =
          let more = pushed ∙ λ i. old ++ output (length (given i)) (came i) ∷ [] in
          λ i. world_of (served.becomes i) sent (more i) outboxes;
    }
