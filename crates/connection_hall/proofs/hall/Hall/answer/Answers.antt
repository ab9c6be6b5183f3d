use Rattle.std.proofs.Common.{◌≡◌, inr, ◌∙◌, ap, sym, refl, ℕ, [], ◌∷◌, ◌++◌, Some, None, length, Option, get_or}
use Rattle.std.proofs.Common.{vec_len, subst, arith}
use Rattle.std.specs.Prelude.{IsSome}
use Rattle.http_messages.specs.Message.{interim}
use Rattle.connection_hall.specs.declared.served.Served.{Served}
use Rattle.connection_hall.specs.Answers.{answer_to}
use Rattle.connection_hall.specs.Connections.{arrival}
use Rattle.connection_hall.specs.Places.{arrival_in, number_in}
use Rattle.connection_hall.specs.Running.{turns, number_at, AreRunning, IsInHand}
use Rattle.connection_hall.proofs.Halls.{changed, frames_same, turns_after, turns_same}
use Rattle.connection_hall.proofs.Hands.{served_noted, ready_owes, longest_last, cut_off}
use Rattle.connection_hall.proofs.Answered.{more_answers}
use Rattle.connection_hall.proofs.InTime.{free_in_time}
use Rattle.connection_hall.proofs.hall.Hall.answer.Goals as goal

interim_len : length interim ≡ 25
interim_len = refl

there : {X : Type 0} (o : Option X) → IsSome o → (x : X) × (o ≡ Some x)
there None some = absurd (let h = some in cc)
there (Some x) some = (x, refl)

pub returns-clause-answered : goal.returns-clause-answered
returns-clause-answered g c answers running = λ x is.
    let old = c.args.self.now in
    let mid = c.leave.new.self in
    let it = c.in-Some.served in
    let done = c.answer.new.self in
    let noted : Served g.row.S.Denot = record done { stream = c.note.new.self } in
    let traffic = g.P.Sockets.traffic c.args.sockets.now in
    let was = c.in-Some.ensures.was in
    let arrived : arrival it ≡ Some x = ap arrival_in was ∙ is in
    let number : number_at old c.args.place ≡ it.number = ap number_in (sym was) in
    let last = answer_to it.number x c.args.text.now c.args.closes in
    let hand = c.in-Some.ensures.hand answers traffic (turns old) running in
    let left = c.in-Some.ensures.running answers traffic (turns old)
    (λ i other is. is) running in
    let told = c.in-Ok.ensures.answered answers hand.served x arrived in
    let more = more_answers g.S.Stream answers last it (turns mid) mid traffic refl hand.come left in
    let same_number = c.answer.ensures.number in
    let owes = c.answer.ensures.owed in
    let settled = c.settle.ensures.running (answers ++ last ∷ []) traffic it same_number
    (sym c.is_some-had_loan.ensures) c.answer.ensures.loan (omega (arith, owes, interim_len)) more in
    let none_owed = ready_owes g.S.Stream answers it x arrived hand.served in
    let longest = longest_last answers last in
    let again : IsInHand g.S.Stream (answers ++ last ∷ []) c.settle.new.self c.args.place noted = record {
      served = served_noted g.S.Stream (answers ++ last ∷ []) done c.note.new.self c.note.ensures.came
          c.note.ensures.went
          c.note.ensures.ended told;
      watched = c.note.ensures.place ∙ ap g.S.Stream.place c.answer.ensures.stream ∙ hand.watched;
      bounded = record {
        held = c.answer.ensures.held 16384 hand.bounded.held;
        owed = omega (arith, owes, none_owed, longest);
      };
      come = rw (same_number, c.settle.ensures.left, c.settle.ensures.bounds) hand.come;
    } in
    subst (λ (n : ℕ). AreRunning g.S.Stream (answers ++ answer_to n x c.args.text.now c.args.closes ∷ []) None
    (turns c.resume.new.self) c.resume.new.self (g.P.Sockets.traffic c.resume.new.sockets)) (sym number)
    (c.resume.ensures.running (answers ++ last ∷ []) again settled)

pub returns-clause-round : goal.returns-clause-round
returns-clause-round g c =
    turns_after _ _ _ (turns_same _ _ c.leave.ensures.round) (turns_after _ _ _ c.settle.ensures.round
    c.resume.ensures.round)

pub returns-clause-in_time : goal.returns-clause-in_time
returns-clause-in_time g c answers running =
    let it = c.in-Some.served in
    let done = c.answer.new.self in
    let traffic = g.P.Sockets.traffic c.args.sockets.now in
    let waits = there (arrival it) (rw (ap arrival_in (sym c.in-Some.ensures.was)) at c.requires) in
    let hand = c.in-Some.ensures.hand answers traffic (turns c.args.self.now) running in
    let told = c.in-Ok.ensures.answered answers hand.served waits.0 waits.1 in
    c.resume.ensures.in_time _
    (served_noted g.S.Stream _ done c.note.new.self c.note.ensures.came c.note.ensures.went c.note.ensures.ended told)

pub returns-in_default-answer-clause-in_time : goal.returns-in_default-answer-clause-in_time
returns-in_default-answer-clause-in_time g c answers running =
    free_in_time c.end.new.self c.args.place _
    (ap (λ v. get_or v.items c.args.place None) c.end.ensures.places ∙ c.leave.ensures.free)

pub returns-in_default-answer-clause-lost : goal.returns-in_default-answer-clause-lost
returns-in_default-answer-clause-lost g c answers running =
    let old = c.args.self.now in
    let mid = c.leave.new.self in
    let it = c.in-Some.served in
    let done = c.answer.new.self in
    let traffic = g.P.Sockets.traffic c.args.sockets.now in
    let hand = c.in-Some.ensures.hand answers traffic (turns old) running in
    let left = c.in-Some.ensures.running answers traffic (turns old) (λ i other is. is) running in
    let same = c.in_default-answer.ensures.refused in
    let same_owed = c.in_default-answer.ensures.refused_owed in
    let number = c.answer.ensures.number in
    let owed : vec_len done.owed ≡ vec_len it.owed = done.owed.ok.0 ∙ ap length same_owed ∙ sym it.owed.ok.0 in
    c.end.ensures.running answers (record {
      served = cut_off g.S.Stream answers it done same same_owed hand.served;
      why_is = tt;
      late = λ late. absurd (let h = late in cc);
      come = let h = hand.come in omega (arith, h, number);
    })
    (changed g.S.Stream answers (turns mid) (turns mid) mid mid traffic it done refl (frames_same mid mid refl refl
    refl refl)
    refl number (λ all. rw (ap (λ (k : Served g.row.S.Denot). k.loan) same) all) (λ h. omega (arith, h, owed)) (λ i
    is. is)
    (λ i other low short. inr short) left)

pub returns-in_default-answer-clause-round : goal.returns-in_default-answer-clause-round
returns-in_default-answer-clause-round g c = turns_after _ _ _ (turns_same _ _ c.leave.ensures.round)
    c.end.ensures.round
