use Rattle.std.proofs.Common.{rules, Err, ◌≡◌, ◌∙◌, ◌+◌, ◌++◌, ◌∷◌, [], suc, ◌<◌, length, sym, ap, map, take, subst}
use Rattle.std.proofs.Common.{arith}
use Rattle.std.proofs.Math.Seq.{take-suc}
use Rattle.std.proofs.lemmas.List.{get_or-map, map-append, take_all}
use Rattle.std.proofs.lemmas.List.Elements.{All-get_or}
use Rattle.event_script.specs.Events.{view_event, HasTarget}
use Rattle.filing_model.proofs.Lists.{length-map}
use Rattle.filing_world.specs.Headline.{start}
use Rattle.filing_world.specs.Step.{Run}
use Rattle.filing_world.proofs.Keeping.{run_push, holds_after}
use Rattle.schedule.specs.Played.{next_number, Tells}
use Rattle.schedule.specs.Ending.{Comes}
use Rattle.schedule.proofs.Ending.{next_is, comes_next, ends_at, not_made}
use Rattle.schedule.proofs.events.run.Goals as goal

pub loop-event-init : goal.loop-event-init
loop-event-init g c = record {
  run = c.in_ok-world.ensures.start;
  events = c.in_ok-world.ensures.fresh.0;
  fine = c.in_ok-world.ensures.fresh.1;
  there = c.in_ok-world.ensures.fresh.2;
}

pub loop-event-preserved : goal.loop-event-preserved
loop-event-preserved g c =
    let first = start (map (λ f. f.now) c.args.filers.now) c.args.limit in
    let events = c.args.events.now in
    let i = c.loop-event.event-index in
    let next : i + 1 ≡ suc i = omega arith in
    let new = c.play.new.self.world in
    let more =
    run_push first (map view_event (take i events)) c.loop-event.world.world (view_event c.event-item.result) new
    c.loop-event.invariant.run c.in_ok-play.ensures.step in
    let all : map view_event (take (suc i) events) ≡ map view_event (take i events)
    ++ view_event c.event-item.result ∷ [] =
    ap (map view_event) (take-suc events i c.event-item.result c.loop-event-test.true
    ∙ ap (λ e. take i events ++ e ∷ []) (sym c.event-item.is))
    ∙ map-append view_event (take i events) (c.event-item.result ∷ []) in
    record {
      run = subst (λ n. Run first (map view_event (take n events)) new) (sym next)
          (subst (λ es. Run first es new) (sym all) more);
      events = c.in_ok-play.ensures.counts c.loop-event.invariant.fine ∙ ap next_number c.loop-event.invariant.events
          ∙ next_is i (omega arith);
      fine = c.in_ok-play.ensures.goes_on.1;
      there = c.in_ok-play.ensures.stays ∙ c.loop-event.invariant.there;
    }

pub returns-clause-run : goal.returns-clause-run
returns-clause-run g c =
    subst (λ es. Run (start (map (λ f. f.now) c.args.filers.now) c.args.limit) (map view_event es)
    c.loop-event.world.world) (take_all c.loop-event.event-index c.args.events.now c.loop-event-test.false)
    c.loop-event.invariant.run

pub returns-clause-holds : goal.returns-clause-holds
returns-clause-holds g c =
    holds_after (map (λ f. f.now) c.args.filers.now) c.args.limit
    (map view_event (take c.loop-event.event-index c.args.events.now)) c.loop-event.world.world c.requires.filers
    c.requires.limit c.loop-event.invariant.run

pub returns-in_err-world-clause-ends : goal.returns-in_err-world-clause-ends
returns-in_err-world-clause-ends g c =
    let fault = c.in_err-world.field-0.0 in
    let told : c.from_residual.result ≡ Err fault = search rules in
    rw told (not_made (start (map (λ f. f.now) c.args.filers.now) c.args.limit) (map view_event c.args.events.now) fault
    c.in_err-world.ensures.making (λ n e. c.in_err-world.ensures.other n (ap Err e)))

pub returns-in_err-play-clause-ends : goal.returns-in_err-play-clause-ends
returns-in_err-play-clause-ends g c =
    let first = start (map (λ f. f.now) c.args.filers.now) c.args.limit in
    let events = c.args.events.now in
    let i = c.loop-event.event-index in
    let world = c.loop-event.world.world in
    let event = c.event-item.result in
    let fine = c.loop-event.invariant.fine in
    let fault = c.in_err-play.field-0.0 in
    let told : c.from_residual-in_err-play.result ≡ Err fault = search rules in
    let next : i + 1 ≡ suc i = omega arith in
    let number =
    c.in_err-play.ensures.counts fine ∙ ap next_number c.loop-event.invariant.events ∙ next_is i (omega arith)
    ∙ next in
    let comes =
    subst (λ e. Comes first (map view_event events) (suc i) world (view_event e)) (sym c.event-item.is)
    (comes_next view_event events i event first world c.loop-event-test.true c.loop-event.invariant.run) in
    rw told
    (ends_at first (map view_event events) (suc i) world (view_event event) fault comes
    (subst (λ n. Tells n fault) number (c.in_err-play.ensures.numbered fine))
    (λ n e. c.in_err-play.ensures.no_such n (ap Err e) fine) (λ n e. c.in_err-play.ensures.store n (ap Err e) fine)
    (λ n e. c.in_err-play.ensures.reopen n (ap Err e) fine))

pub play-requires : goal.play-requires
play-requires g c =
    let events = c.args.events.now in
    let i = c.loop-event.event-index in
    let event = c.event-item.result in
    let low : i < length (map view_event events) =
    omega (arith, c.loop-event-test.true, length-map view_event events) in
    subst HasTarget (get_or-map view_event events i event (view_event event) c.loop-event-test.true
    ∙ ap view_event (sym c.event-item.is)) (All-get_or HasTarget (map view_event events) i (view_event event) low
    c.requires.targets)
