use Rattle.std.proofs.Common.{None, Some, refl, rules}
use Rattle.gateway_server.proofs.Ending.{ReadsSome-join}
use Rattle.gateway_server.proofs.Written.{WritesTexts-same, WritesTexts-join}
use Rattle.gateway_server.proofs.serving.serve_arrivals.Goals as goal

-- where it was stopped, after the arrivals before
pub returns-in-Stopped-clause-serves : goal.returns-in-Stopped-clause-serves
returns-in-Stopped-clause-serves g c = λ clean first h.
    let goes = c.arrivals.invariant.goes (c.serve_arrival.ensures.setting.clean clean) first h in
    let served = rw (c.arrivals.invariant.setting.limit, goes.2) at (c.in-Stopped.ensures.serves clean goes.0 goes.1) in
    (served.0, served.1, served.2, λ before first' on. served.3 before first' (goes.3 before first' on))

pub returns-in-Stopped-clause-read : goal.returns-in-Stopped-clause-read
returns-in-Stopped-clause-read g c =
    ReadsSome-join _ _ _ c.args.inbox.now c.arrivals.inbox c.serve_arrival.new.inbox c.arrivals.invariant.read
    c.serve_arrival.ensures.read

pub returns-in-Stopped-clause-texts : goal.returns-in-Stopped-clause-texts
returns-in-Stopped-clause-texts g c =
    WritesTexts-join _ (g.W.Sink.written c.arrivals.writer) _ None c.arrivals.invariant.texts c.in-Stopped.ensures.texts

-- what the last arrival came to, after those before it
pub returns-in-Ended-clause-serves : goal.returns-in-Ended-clause-serves
returns-in-Ended-clause-serves g c = λ clean first h.
    let goes = c.arrivals.invariant.goes (c.serve_arrival.ensures.setting.clean clean) first h in
    let served = rw (c.arrivals.invariant.setting.limit, goes.2) at (c.in-Ended.ensures.serves clean goes.0 goes.1) in
    (served.0, served.1, served.2, λ before first' on. served.3 before first' (goes.3 before first' on))

pub returns-in-Ended-clause-read : goal.returns-in-Ended-clause-read
returns-in-Ended-clause-read g c =
    ReadsSome-join _ _ _ c.args.inbox.now c.arrivals.inbox c.serve_arrival.new.inbox c.arrivals.invariant.read
    c.serve_arrival.ensures.read

pub returns-in-Ended-clause-texts : goal.returns-in-Ended-clause-texts
returns-in-Ended-clause-texts g c =
    WritesTexts-join _ (g.W.Sink.written c.arrivals.writer) _ (Some c.in-Ended.ended) c.arrivals.invariant.texts
    c.in-Ended.ensures.texts

pub arrivals-init : goal.arrivals-init
arrivals-init g c = record {
  over = search rules;
  count = search rules;
  reads = search rules;
  writes = search rules;
  read = search rules;
  texts = WritesTexts-same (g.W.Sink.written c.args.writer.now) None refl;
  setting = search rules;
  goes = search rules;
}

pub arrivals-preserved : goal.arrivals-preserved
arrivals-preserved g c = record {
  over = search rules;
  count = search rules;
  reads = search rules;
  writes = search rules;
  read = ReadsSome-join _ _ _ c.args.inbox.now c.arrivals.inbox c.serve_arrival.new.inbox c.arrivals.invariant.read
      c.serve_arrival.ensures.read;
  texts = WritesTexts-join _ (g.W.Sink.written c.arrivals.writer) _ None c.arrivals.invariant.texts
      c.in-On.ensures.texts;
  setting = search rules;
  goes = λ clean first h.
      let goes = c.arrivals.invariant.goes (c.serve_arrival.ensures.setting.clean clean) first h in
      let served = rw (c.arrivals.invariant.setting.limit, goes.2) at (c.in-On.ensures.serves clean goes.0 goes.1) in
      (served.0, served.1, served.2, λ before first' on. served.3 before first' (goes.3 before first' on));
}
