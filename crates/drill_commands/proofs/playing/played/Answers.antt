use Rattle.std.proofs.Common.{rules, ◌≡◌, Err, map, string_bytes, subst}
use Rattle.event_script.specs.Events.{view_event}
use Rattle.filing_world.specs.Headline.{start}
use Rattle.filing_world.specs.Step.{Run}
use Rattle.schedule.specs.Ending.{EndsBy}
use Rattle.drill_commands.specs.declared.fault.NotDone.TheVariants as fault
use Rattle.drill_commands.proofs.playing.played.Goals as goal

pub returns-clause-run : goal.returns-clause-run
returns-clause-run g c =
    let said = c.in_ok-script.ensures.said in
    let world = c.in_ok-run.field-0.world in
    let script = c.in_ok-script.script in
    let filers : map (λ f. f.now) c.as_slice.result.now ≡ map string_bytes script.filers.items = search rules in
    let events : c.as_slice-2.result.now ≡ script.events.items = search rules in
    let ran =
    subst (λ fs. Run (start fs script.limit) (map view_event c.as_slice-2.result.now) world) filers
    c.in_ok-run.ensures.run in
    let kept =
    subst (λ es. Run (start (map string_bytes script.filers.items) script.limit) (map view_event es) world) events
    ran in
    (said.0, said.1, subst (λ s. Run (start s.filers s.limit) s.events world) said.2 kept)

pub returns-in_err-run-clause-wrong : goal.returns-in_err-run-clause-wrong
returns-in_err-run-clause-wrong g c =
    let said = c.in_ok-script.ensures.said in
    let script = c.in_ok-script.script in
    let why = c.in_err-run.field-0.0 in
    let told : c.from_residual-in_err-run.result ≡ Err (fault.World why) = search rules in
    let filers : map (λ f. f.now) c.as_slice.result.now ≡ map string_bytes script.filers.items = search rules in
    let events : c.as_slice-2.result.now ≡ script.events.items = search rules in
    let ended =
    subst (λ fs. EndsBy (start fs script.limit) (map view_event c.as_slice-2.result.now) why) filers
    c.in_err-run.ensures.ends in
    let kept =
    subst (λ es. EndsBy (start (map string_bytes script.filers.items) script.limit) (map view_event es) why) events
    ended in
    rw told (said.0, said.1, subst (λ s. EndsBy (start s.filers s.limit) s.events why) said.2 kept)
