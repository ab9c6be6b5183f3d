use Rattle.std.proofs.Common.{◌∙◌, ap, get_or, inl, inr, sym, refl, Some, None}
use Rattle.connection_hall.specs.declared.served.Served.{Served}
use Rattle.connection_hall.specs.Lending.{is_short}
use Rattle.connection_hall.specs.Running.{turns}
use Rattle.connection_hall.proofs.Halls.{changed, frames_same}
use Rattle.connection_hall.proofs.Hands.{served_lent, waits_lent, ends_late, late_reason}
use Rattle.connection_hall.proofs.InTime.{free_in_time, rests_in_time}
use Rattle.connection_hall.proofs.hall.Hall.rest.Goals as goal

pub returns-then-is_late-clause-running : goal.returns-then-is_late-clause-running
returns-then-is_late-clause-running g c answers hand waits running =
    let old = c.args.self.now in
    let it = c.args.served in
    let waited : Served g.row.S.Denot = record it { since = Some c.unwrap_or.result } in
    c.end.ensures.running answers (record {
      served = served_lent g.S.Stream answers it waited refl hand.served;
      why_is = ends_late g.S.Stream waited (waits_lent g.S.Stream it waited refl waits);
      late = λ late. late_reason old waited c.now-now.result (sym c.is_late.ensures ∙ c.if-is_late.true) running.limit;
      come = hand.come;
    })
    (changed g.S.Stream answers (turns old) (turns old) old old (g.P.Sockets.traffic c.args.sockets.now) it waited refl
    (frames_same old old refl refl refl refl) refl refl (λ all. all) (λ h. h) (λ i is. is) (λ i other low short. inr
    short)
    running)

pub returns-then-is_late-clause-in_time : goal.returns-then-is_late-clause-in_time
returns-then-is_late-clause-in_time g c =
    free_in_time c.end.new.self c.args.place _
    (ap (λ v. get_or v.items c.args.place None) c.end.ensures.places ∙ c.requires.free)

pub returns-else-is_late-clause-running : goal.returns-else-is_late-clause-running
returns-else-is_late-clause-running g c answers hand waits running =
    let old = c.args.self.now in
    let it = c.args.served in
    let waited : Served g.row.S.Denot = record it { since = Some c.unwrap_or.result } in
    c.enter.ensures.running answers (g.P.Sockets.traffic c.args.sockets.now) (record {
      served = served_lent g.S.Stream answers it waited refl hand.served;
      watched = hand.watched;
      bounded = record { held = hand.bounded.held; owed = hand.bounded.owed };
      come = hand.come;
    }) (inr (inl (waits_lent g.S.Stream it waited refl waits, refl)))
    (changed g.S.Stream answers (turns old) (turns old) old old (g.P.Sockets.traffic c.args.sockets.now) it waited refl
    (frames_same old old refl refl refl refl) refl refl (λ all. all) (λ h. h) (λ i is. is) (λ i other low short. inr
    short)
    running)

pub returns-else-is_late-clause-in_time : goal.returns-else-is_late-clause-in_time
returns-else-is_late-clause-in_time g c =
    let waited : Served g.row.S.Denot = record c.args.served { since = Some c.unwrap_or.result } in
    rests_in_time c.args.self.now c.enter.new.self c.args.place _ waited c.enter.ensures.here c.enter.ensures.patience
    (ap is_short c.enter.ensures.loans)
    (rw c.now-now.ensures at (sym c.is_late.ensures ∙ c.if-is_late.false))
