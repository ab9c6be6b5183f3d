use Rattle.std.proofs.Common.{◌≡◌, inl, inr, None, [], refl, sym, ◌∙◌, subst}
use Rattle.http_connection.specs.Connection.{TellsNext}
use Rattle.http_connection.specs.declared.event.Event.{Event}
use Rattle.connection_hall.proofs.Told.{told_same, told_unkept, moves_same, none_of, empty_of}
use Rattle.connection_hall.proofs.served.Served.step.Goals as goal

pub returns-in-Ok-Request-clause-served : goal.returns-in-Ok-Request-clause-served
returns-in-Ok-Request-clause-served g c answers served =
    let now = c.args.self.now in
    let none : now.ready ≡ None = none_of now.ready (sym c.is_some.ensures ∙ c.if-is_some.false) in
    c.be_ready.ensures.served answers
    (told_same _ _ _ answers now _ refl c.next_event.ensures.held c.next_event.ensures.over c.next_event.ensures.ended
    c.next_event.ensures.sound none served)
    (subst (λ (event : Event). TellsNext c.next_event.new.self event) c.in-Ok-Request.field-0-is
    (c.in-Ok-Request.ensures.event served.read.sound))

pub returns-in-Ok-Refused-clause-served : goal.returns-in-Ok-Refused-clause-served
returns-in-Ok-Refused-clause-served g c answers served =
    let now = c.args.self.now in
    let none : now.ready ≡ None = none_of now.ready (sym c.is_some.ensures ∙ c.if-is_some.false) in
    c.be_ready-in-Ok-Refused.ensures.served answers
    (told_same _ _ _ answers now _ refl c.next_event.ensures.held c.next_event.ensures.over c.next_event.ensures.ended
    c.next_event.ensures.sound none served)
    (subst (λ (event : Event). TellsNext c.next_event.new.self event) c.in-Ok-Refused.field-0-is
    (c.in-Ok-Refused.ensures.event served.read.sound))

pub returns-in-Ok-ConnectionClosed-clause-served : goal.returns-in-Ok-ConnectionClosed-clause-served
returns-in-Ok-ConnectionClosed-clause-served g c answers served =
    let now = c.args.self.now in
    let none : now.ready ≡ None = none_of now.ready (sym c.is_some.ensures ∙ c.if-is_some.false) in
    let owes : now.owed.items ≡ [] = empty_of now.owed (sym c.if-not-is_empty.false ∙ c.is_empty.ensures) in
    let closed =
    subst (λ (event : Event). TellsNext c.next_event.new.self event) c.in-Ok-ConnectionClosed.field-0-is
    (c.in-Ok-ConnectionClosed.ensures.event served.read.sound) in
    let told =
    told_same (g.S.Stream.came now.stream) (g.S.Stream.went now.stream) (g.S.Stream.is_ended now.stream) answers now
    (record now { machine = c.next_event.new.self }) refl c.next_event.ensures.held c.next_event.ensures.over
    c.next_event.ensures.ended c.next_event.ensures.sound none served in (
      told,
      (
        owes,
        elim closed [
          | inl over ↦ inl (told.over over)
          | inr ended ↦ inr (sym told.ended ∙ ended.0, told.rest ended.0)
        ],
      ),
      λ same. absurd (let e = same in cc),
    )

pub returns-in-Err-clause-served : goal.returns-in-Err-clause-served
returns-in-Err-clause-served g c answers served =
    let now = c.args.self.now in
    let none : now.ready ≡ None = none_of now.ready (sym c.is_some.ensures ∙ c.if-is_some.false) in (
      told_unkept (g.S.Stream.came now.stream) (g.S.Stream.went now.stream) (g.S.Stream.is_ended now.stream) answers now
          (record now { machine = c.next_event.new.self }) refl refl
          (told_same (g.S.Stream.came now.stream) (g.S.Stream.went now.stream) (g.S.Stream.is_ended now.stream) answers
          now (record now { machine = c.next_event.new.self }) refl c.next_event.ensures.held c.next_event.ensures.over
          c.next_event.ensures.ended c.next_event.ensures.sound none served),
      tt,
      λ same. absurd (let e = same in cc),
    )

pub need_data-requires-clause-none_owed : goal.need_data-requires-clause-none_owed
need_data-requires-clause-none_owed g c =
    empty_of c.args.self.now.owed (sym c.if-not-is_empty.false ∙ c.is_empty.ensures)

pub returns-in-Ok-NeedData-clause-served : goal.returns-in-Ok-NeedData-clause-served
returns-in-Ok-NeedData-clause-served g c answers served =
    let now = c.args.self.now in
    let none : now.ready ≡ None = none_of now.ready (sym c.is_some.ensures ∙ c.if-is_some.false) in
    c.need_data.ensures.served answers
    (told_same _ _ _ answers now _ refl c.next_event.ensures.held c.next_event.ensures.over c.next_event.ensures.ended
    c.next_event.ensures.sound none served)
    (subst (λ (event : Event). TellsNext c.next_event.new.self event) c.in-Ok-NeedData.field-0-is
    (c.in-Ok-NeedData.ensures.event served.read.sound))

pub returns-in-Ok-NeedData-clause-moves : goal.returns-in-Ok-NeedData-clause-moves
returns-in-Ok-NeedData-clause-moves g c answers served owes again =
    let now = c.args.self.now in
    moves_same now (record now { machine = c.next_event.new.self }) c.need_data.new.self refl c.next_event.ensures.held
    c.next_event.ensures.ended
    (c.need_data.ensures.moves
    (subst (λ (event : Event). TellsNext c.next_event.new.self event) c.in-Ok-NeedData.field-0-is
    (c.in-Ok-NeedData.ensures.event served.read.sound)) again)
