use Rattle.std.proofs.Common.{◌≡◌, ◌∙◌, ◌||◌, Some, None, Err, sym, ap, refl, subst}
use Rattle.std.specs.List.{list_any}
use Rattle.event_script.specs.Events.{view_event}
use Rattle.filing_world.proofs.Keeping.{keeps_step, holds}
use Rattle.schedule.specs.declared.fault.Fault.TheVariants.{NoSuch, Store, Reopen}
use Rattle.schedule.specs.Played.{Played, next_number, Tells, world_of}
use Rattle.schedule.proofs.Telling.{no_such_why, store_why, reopen_why, tells_own}
use Rattle.schedule.proofs.world.World.play.Goals as goal

pub invariant_of-self : goal.invariant_of-self
invariant_of-self g c = λ none.
    let old = c.self.inside in
    let keeps = c.self.invariant none in
    let before = world_of old.server old.sent.items old.outputs.items old.filers.items in
    let after =
    world_of c.play_on-played.new.server c.play_on-played.new.sent.items c.play_on-played.new.outputs.items
    c.play_on-played.new.filers.items in
    keeps_step before (view_event c.args.event.now) after keeps (c.in-Ok.ensures.step keeps.own)

pub returns-in-Ok : goal.returns-in-Ok
returns-in-Ok g c =
    let none : c.self.inside.fault ≡ None = c.in_default.is in
    let fault_is = ap (λ (w : Played). w.fault) c.self.view_is in
    let old = c.self.inside in
    let keeps = c.self.invariant none in
    let before = world_of old.server old.sent.items old.outputs.items old.filers.items in
    let after =
    world_of c.play_on-played.new.server c.play_on-played.new.sent.items c.play_on-played.new.outputs.items
    c.play_on-played.new.filers.items in
    let stepped = c.in-Ok.ensures.step keeps.own in
    record {
      step = rw (sym c.self.view_is) stepped;
      holds = holds after (keeps_step before (view_event c.args.event.now) after keeps stepped);
      no_such = λ n e first. absurd (cc);
      store = λ n e first. absurd (cc);
      reopen = λ n e first. absurd (cc);
      counts = λ first. c.saturating_add-number.ensures ∙ ap (λ (w : Played). next_number w.events) c.self.view_is;
      numbered = λ first. tt;
      ended = λ fault e. absurd (let no : None ≡ Some fault = sym none ∙ fault_is ∙ e in cc);
      stops = tt;
      goes_on = (sym fault_is ∙ none, none);
      stays = rw (sym c.self.view_is)
          (λ i. c.in-Ok.ensures.stays.0 i || list_any (λ taken. taken) (c.in-Ok.ensures.stays.1 i));
    }

pub returns-in-Err : goal.returns-in-Err
returns-in-Err g c =
    let none : c.self.inside.fault ≡ None = c.in_default.is in
    let fault_is = ap (λ (w : Played). w.fault) c.self.view_is in
    record {
      step = tt;
      holds = tt;
      no_such = λ n e first.
          let told : c.of-fault.result ≡ NoSuch n = cc e in
          let is = no_such_why c.saturating_add-number.result n c.in-Err.why (sym c.of-fault.ensures ∙ told) in
          rw (sym c.self.view_is) (c.in-Err.ensures.no_such (ap Err is));
      store = λ n e first.
          let told : c.of-fault.result ≡ Store n = cc e in
          let is = store_why c.saturating_add-number.result n c.in-Err.why (sym c.of-fault.ensures ∙ told) in
          rw (sym c.self.view_is) (c.in-Err.ensures.store (ap Err is) (c.self.invariant none));
      reopen = λ n e first.
          let told : c.of-fault.result ≡ Reopen n = cc e in
          let is = reopen_why c.saturating_add-number.result n c.in-Err.why (sym c.of-fault.ensures ∙ told) in
          rw (sym c.self.view_is) (c.in-Err.ensures.reopen (ap Err is));
      counts = λ first. c.saturating_add-number.ensures ∙ ap (λ (w : Played). next_number w.events) c.self.view_is;
      numbered =
          λ first. subst (Tells c.saturating_add-number.result) (sym c.of-fault.ensures)
          (tells_own c.saturating_add-number.result c.in-Err.why);
      ended = λ fault e. absurd (let no : None ≡ Some fault = sym none ∙ fault_is ∙ e in cc);
      stops = refl;
      goes_on = tt;
      stays = tt;
    }

pub returns-in-Some : goal.returns-in-Some
returns-in-Some g c =
    let fault_is = ap (λ (w : Played). w.fault) c.self.view_is in
    record {
      step = tt;
      holds = tt;
      no_such = λ n e none. absurd (let no : Some c.in-Some.fault ≡ None = sym c.in-Some.is ∙ fault_is ∙ none in cc);
      store = λ n e none. absurd (let no : Some c.in-Some.fault ≡ None = sym c.in-Some.is ∙ fault_is ∙ none in cc);
      reopen = λ n e none. absurd (let no : Some c.in-Some.fault ≡ None = sym c.in-Some.is ∙ fault_is ∙ none in cc);
      counts = λ none. absurd (let no : Some c.in-Some.fault ≡ None = sym c.in-Some.is ∙ fault_is ∙ none in cc);
      numbered = λ none. absurd (let no : Some c.in-Some.fault ≡ None = sym c.in-Some.is ∙ fault_is ∙ none in cc);
      ended = λ fault e.
          let same : Some c.in-Some.fault ≡ Some fault = sym c.in-Some.is ∙ fault_is ∙ e in
          let is : c.in-Some.fault ≡ fault = cc same in
          (ap Err is, refl);
      stops = sym fault_is ∙ c.in-Some.is;
      goes_on = tt;
      stays = tt;
    }
