use Rattle.std.proofs.Common.{◌≡◌, ◌∙◌, ◌||◌, ◌++◌, [], ◌∷◌, List, ℕ, None, refl, sym, ap, subst, false}
use Rattle.std.specs.Prelude.{if◌then◌else◌}
use Rattle.http_connection.specs.Connection.{is_over}
use Rattle.connection_hall.specs.declared.served.Served.{Served}
use Rattle.connection_hall.specs.Answers.{answer_to, interim_of}
use Rattle.connection_hall.specs.Connections.{IsServed}
use Rattle.connection_hall.proofs.Told.{told_answer, told_same}
use Rattle.connection_hall.proofs.served.Served.answer.Goals as goal
use Rattle.connection_hall.proofs.served.Served.answer.Goals.{then-closes, else-closes}

pub returns-clause-answered : goal.returns-clause-answered
returns-clause-answered g c answers served = λ last is.
    let now = c.args.self.now in
    let m = c.finish.new.self.machine in
    let closing : c.if-closes.self ≡ (c.args.closes || is_over m) = elim c.if-closes.branch [
      | then-closes w ↦ rw w.if-closes.true (w.self-is ∙ w.if-closes.true)
      | else-closes w ↦ rw w.if-closes.false (w.self-is ∙ w.is_over-self.ensures)
    ] in
    let owed : c.append_both.new.bytes.items
    ≡ now.owed.items ++ (if now.is_early then [] else interim_of last) ++ c.args.text.now =
    c.in_ok-append_both.ensures.ok
    ∙ ap (λ (l : List ℕ). now.owed.items ++ l ++ c.args.text.now) (c.interim_left-interim.ensures.text last is) in
    let machine = c.give_loan_back.new.self.machine in
    let loan = c.give_loan_back.new.self.loan in
    let mid : Served g.row.S.Denot = record now {
      machine = m;
      owed = c.append_both.new.bytes;
      is_early = false;
      ready = None;
      is_closing = c.if-closes.self;
      loan = loan;
      since = None;
    } in
    let is_new : c.give_loan_back.new.self ≡ record mid { machine = machine } =
    c.give_loan_back.ensures.rest
    ∙ ap (λ (f : Served g.row.S.Denot). record f {
      machine = machine;
      is_early = false;
      ready = None;
      is_closing = c.if-closes.self;
      loan = loan;
      since = None;
    }) c.finish.ensures.rest in
    let told =
    told_answer (g.S.Stream.came now.stream) (g.S.Stream.went now.stream) (g.S.Stream.is_ended now.stream) answers now m
    c.append_both.new.bytes c.if-closes.self loan last c.args.text.now c.args.closes is owed closing
    (λ bytes arrivals finished ready. c.finish.ensures.finished bytes arrivals finished ready last is)
    c.finish.ensures.ended served in
    subst (λ (new : Served g.row.S.Denot). IsServed g.S.Stream
    (answers ++ answer_to now.number last c.args.text.now c.args.closes ∷ []) new) (sym is_new)
    (told_same (g.S.Stream.came now.stream) (g.S.Stream.went now.stream) (g.S.Stream.is_ended now.stream)
    (answers ++ answer_to now.number last c.args.text.now c.args.closes ∷ []) mid (record mid { machine = machine })
    refl
    c.give_loan_back.ensures.machine.bytes c.give_loan_back.ensures.machine.over c.give_loan_back.ensures.machine.ended
    c.give_loan_back.ensures.sound refl told)
