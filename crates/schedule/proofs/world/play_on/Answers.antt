use Rattle.std.proofs.Common.{List, refl, subst, sym}
use Rattle.event_script.specs.Events.{view_crash}
use Rattle.filing_world.specs.World.{Sent, Output, Deliver, Hand}
use Rattle.filing_world.specs.Step.{CannotPlay, Puts, Delivers, Hands}
use Rattle.filing_world.specs.Invariant.{AllOwn, Keeps}
use Rattle.outbox_core.specs.Entries.{opened}
use Rattle.schedule.specs.Filers.{boxes}
use Rattle.schedule.specs.Played.{world_of}
use Rattle.schedule.specs.Playing.{AsksOutbox}
use Rattle.schedule.proofs.Entries.{then_ok}
use Rattle.schedule.proofs.world.play_on.Goals as goal

pub returns-in-Put-clause-step : goal.returns-in-Put-clause-step
returns-in-Put-clause-step g c =
    let server = c.args.server.now in
    let sent = c.args.sent.now.items in
    let outputs = c.args.outputs.now.items in
    let old = world_of server sent outputs c.args.filers.now.items in
    let new = world_of server sent outputs c.put.new.filers.items in
    rw c.in-Put.is
    (then_ok c.put.result (λ puts own.
    subst (λ body. Puts old c.in-Put.outbox (opened c.in-Put.key c.in-Put.target body) new) c.deref.ensures.value
    (puts server sent outputs)) c.put.ensures.step)

pub returns-in-Send-clause-step : goal.returns-in-Send-clause-step
returns-in-Send-clause-step g c =
    rw c.in-Send.is (then_ok c.send.result (λ sends own. sends c.args.server.now c.args.outputs.now.items)
    c.send.ensures.step)

pub returns-in-Deliver-clause-step : goal.returns-in-Deliver-clause-step
returns-in-Deliver-clause-step g c =
    let boxes = c.args.filers.now.items in
    let given = c.in-Deliver in
    let old = λ (sent : List Sent). world_of c.args.server.now sent c.args.outputs.now.items boxes in
    let new = λ (sent : List Sent). world_of c.deliver.new.server sent c.deliver.new.outputs.items boxes in
    rw c.in-Deliver.is
    (then_ok c.deliver.result (λ delivers own.
    subst (λ sent. Delivers (old sent) given.item given.bytes (view_crash given.crash) (new sent))
    c.as_slice.ensures.value (delivers boxes)) c.deliver.ensures.step)

pub returns-in-Hand-clause-step : goal.returns-in-Hand-clause-step
returns-in-Hand-clause-step g c =
    let server = c.args.server.now in
    let filers = c.args.filers.now.items in
    let given = c.in-Hand in
    let old = λ (sent : List Sent) (outputs : List Output). world_of server sent outputs filers in
    let new = λ (sent : List Sent) (outputs : List Output). world_of server sent outputs c.hand.new.filers.items in
    let answered = c.as_slice-in-Hand-2.result.now in
    let sent_is = c.as_slice-in-Hand.ensures.value in
    rw c.in-Hand.is
    (then_ok c.hand.result (λ hands own.
    let its = hands server (subst (λ sent. AllOwn (boxes filers) sent) (sym sent_is) own) in
    let first =
    subst (λ sent. Hands (old sent answered) given.output given.bytes (view_crash given.crash) (new sent answered))
    sent_is its in
    subst (λ outputs. Hands (old c.args.sent.now.items outputs) given.output given.bytes (view_crash given.crash)
    (new c.args.sent.now.items outputs)) c.as_slice-in-Hand-2.ensures.value first)
    c.hand.ensures.step)

pub returns-in-RestartOutbox-clause-step : goal.returns-in-RestartOutbox-clause-step
returns-in-RestartOutbox-clause-step g c =
    rw c.in-RestartOutbox.is (then_ok c.restart_outbox.result
    (λ restarts own. restarts c.args.server.now c.args.sent.now.items c.args.outputs.now.items)
    c.restart_outbox.ensures.step)

pub returns-in-Put-clause-no_such : goal.returns-in-Put-clause-no_such
returns-in-Put-clause-no_such g c =
    λ e. rw c.in-Put.is (c.put.ensures.no_such e c.args.server.now c.args.sent.now.items c.args.outputs.now.items)

pub returns-in-Send-clause-no_such : goal.returns-in-Send-clause-no_such
returns-in-Send-clause-no_such g c =
    λ e. rw c.in-Send.is (c.send.ensures.no_such e c.args.server.now c.args.outputs.now.items)

pub returns-in-Deliver-clause-no_such : goal.returns-in-Deliver-clause-no_such
returns-in-Deliver-clause-no_such g c = λ e.
    let no = c.deliver.ensures.no_such e c.args.filers.now.items in
    rw c.in-Deliver.is (subst (λ sent. CannotPlay
    (world_of c.args.server.now sent c.args.outputs.now.items c.args.filers.now.items)
    (Deliver c.in-Deliver.item c.in-Deliver.bytes (view_crash c.in-Deliver.crash))) c.as_slice.ensures.value no)

pub returns-in-Hand-clause-no_such : goal.returns-in-Hand-clause-no_such
returns-in-Hand-clause-no_such g c = λ e.
    let no = c.hand.ensures.no_such e c.args.server.now in
    let event = Hand c.in-Hand.output c.in-Hand.bytes (view_crash c.in-Hand.crash) in
    let boxes = c.args.filers.now.items in
    let first =
    subst (λ sent. CannotPlay (world_of c.args.server.now sent c.as_slice-in-Hand-2.result.now boxes) event)
    c.as_slice-in-Hand.ensures.value no in
    rw c.in-Hand.is (subst (λ outputs. CannotPlay (world_of c.args.server.now c.args.sent.now.items outputs boxes)
    event) c.as_slice-in-Hand-2.ensures.value first)

pub returns-in-RestartOutbox-clause-no_such : goal.returns-in-RestartOutbox-clause-no_such
returns-in-RestartOutbox-clause-no_such g c =
    λ e. rw c.in-RestartOutbox.is (c.restart_outbox.ensures.no_such e c.args.server.now c.args.sent.now.items
    c.args.outputs.now.items)

pub returns-in-Put-clause-store : goal.returns-in-Put-clause-store
returns-in-Put-clause-store g c = λ e keeps. rw c.in-Put.is (c.put.ensures.store e)

pub returns-in-Send-clause-store : goal.returns-in-Send-clause-store
returns-in-Send-clause-store g c = λ e keeps. rw c.in-Send.is (c.send.ensures.store e)

pub returns-in-Deliver-clause-store : goal.returns-in-Deliver-clause-store
returns-in-Deliver-clause-store g c = λ e keeps. absurd (c.deliver.ensures.store e)

pub returns-in-Hand-clause-store : goal.returns-in-Hand-clause-store
returns-in-Hand-clause-store g c = λ e keeps.
    let event = Hand c.in-Hand.output c.in-Hand.bytes (view_crash c.in-Hand.crash) in
    let server = c.args.server.now in
    let boxes = c.args.filers.now.items in
    let answered = c.as_slice-in-Hand-2.ensures.value in
    let sent_is = c.as_slice-in-Hand.ensures.value in
    let whole : Keeps (world_of server c.as_slice-in-Hand.result.now c.as_slice-in-Hand-2.result.now boxes) =
    subst (λ w. Keeps w) (λ i. world_of server (sym sent_is i) (sym answered i) boxes) keeps in
    rw c.in-Hand.is (subst (λ w. AsksOutbox w event) (λ i. world_of server (sent_is i) (answered i) boxes)
    (c.hand.ensures.store e server whole))

pub returns-in-RestartOutbox-clause-store : goal.returns-in-RestartOutbox-clause-store
returns-in-RestartOutbox-clause-store g c = λ e keeps. absurd (c.restart_outbox.ensures.store e)

pub returns-in-Put-clause-reopen : goal.returns-in-Put-clause-reopen
returns-in-Put-clause-reopen g c = λ e. absurd (c.put.ensures.reopen e)

pub returns-in-Send-clause-reopen : goal.returns-in-Send-clause-reopen
returns-in-Send-clause-reopen g c = λ e. absurd (c.send.ensures.reopen e)

pub returns-in-Deliver-clause-reopen : goal.returns-in-Deliver-clause-reopen
returns-in-Deliver-clause-reopen g c = λ e.
    let closes = c.deliver.ensures.reopen e in
    let event = Deliver c.in-Deliver.item c.in-Deliver.bytes (view_crash c.in-Deliver.crash) in
    rw c.in-Deliver.is (
      closes.0,
      subst (λ sent. ¬ (CannotPlay (world_of c.args.server.now sent c.args.outputs.now.items c.args.filers.now.items)
          event)) c.as_slice.ensures.value (closes.1 c.args.filers.now.items),
    )

pub returns-in-Hand-clause-reopen : goal.returns-in-Hand-clause-reopen
returns-in-Hand-clause-reopen g c = λ e.
    let closes = c.hand.ensures.reopen e in
    let event = Hand c.in-Hand.output c.in-Hand.bytes (view_crash c.in-Hand.crash) in
    let server = c.args.server.now in
    let boxes = c.args.filers.now.items in
    let answered = c.as_slice-in-Hand-2.ensures.value in
    let sent_is = c.as_slice-in-Hand.ensures.value in
    rw c.in-Hand.is (
      closes.0,
      subst (λ w. ¬ (CannotPlay w event)) (λ i. world_of server (sent_is i) (answered i) boxes) (closes.1 server),
    )

pub returns-in-RestartOutbox-clause-reopen : goal.returns-in-RestartOutbox-clause-reopen
returns-in-RestartOutbox-clause-reopen g c =
    λ e. rw c.in-RestartOutbox.is (
      tt,
      c.restart_outbox.ensures.reopen e c.args.server.now c.args.sent.now.items c.args.outputs.now.items,
    )

pub returns-in-Put-clause-stays : goal.returns-in-Put-clause-stays
returns-in-Put-clause-stays g c = then_ok c.put.result (λ same. (refl, same)) c.put.ensures.stays

pub returns-in-Send-clause-stays : goal.returns-in-Send-clause-stays
returns-in-Send-clause-stays g c = then_ok c.send.result (λ same. (refl, same)) c.send.ensures.stays

pub returns-in-Deliver-clause-stays : goal.returns-in-Deliver-clause-stays
returns-in-Deliver-clause-stays g c = then_ok c.deliver.result (λ same. (same, refl)) c.deliver.ensures.stays

pub returns-in-Hand-clause-stays : goal.returns-in-Hand-clause-stays
returns-in-Hand-clause-stays g c = then_ok c.hand.result (λ same. (refl, same)) c.hand.ensures.stays

pub returns-in-RestartOutbox-clause-stays : goal.returns-in-RestartOutbox-clause-stays
returns-in-RestartOutbox-clause-stays g c =
    then_ok c.restart_outbox.result (λ same. (refl, same)) c.restart_outbox.ensures.stays
