-- What is answered on a port, one round behind another.
use Rattle.std.proofs.Common.{◌≡◌, ℕ, Bool, List, [], ◌∷◌, ◌++◌, take, true, false, Option, Some, None, refl, sym, ◌∙◌}
use Rattle.std.proofs.Common.{ap}
use Rattle.std.proofs.Common.{Ok, subst, append_assoc, IsSome, arith}
use Rattle.std.specs.Prelude.{IfSome}
use Rattle.std.specs.List.{AllByRecursion}
use Rattle.std.specs.Option.{option_to_list}
use Rattle.sqlite_disk.specs.declared.Disk.{Ghosts}
use Rattle.sqlite_disk.specs.declared.Files.{Files}
use Rattle.sqlite_store.specs.declared.store.FileStore.{FileStore}
use Rattle.sqlite.specs.Files.{over_files}
use Rattle.http_messages.specs.Head.{closes}
use Rattle.http_messages.specs.Message.{Arrival, Read, Refused}
use Rattle.http_messages.specs.Reply.{render}
use Rattle.connection_hall.specs.declared.stream.Stream.{Ghosts as Streams}
use Rattle.connection_hall.specs.Answers.{Answer}
use Rattle.filing_model.specs.Request.{Request, firsts}
use Rattle.filing_model.specs.Serving.{kept_by, keeping}
use Rattle.filing_model.specs.Steps.{Step, StepsFit, all_completed}
use Rattle.filing_model.specs.declared.served.Mark.{Mark}
use Rattle.filing_model.specs.declared.served.Mark.TheVariants.{Done, Unavailable, NotFiled}
use Rattle.filing_model.specs.Text.{MarkFits, MarksFit, completed_at, reply_text_with}
use Rattle.filing_model.proofs.Alike.{firsts_alike, marks_fit_alike, reply_alike}
use Rattle.filing_model.proofs.Appending.{firsts-kept_by, kept_by-append}
use Rattle.filing_model.proofs.Lists.{append_nil}
use Rattle.intake_core.specs.declared.intake.Intake.{Intake}
use Rattle.gateway_rounds.specs.Away as closed
use Rattle.gateway_rounds.specs.Ports.{Port, Runs}
use Rattle.gateway_rounds.specs.Turns.{IsAnswerTo, Spells, AreSpelled, IsTold, AreTold, DecidesTurns}
use Rattle.gateway_rounds.specs.Turns.{answers_of, steps_of, completed_by}
use Rattle.gateway_rounds.specs.Turns as round
use Rattle.gateway_rounds.proofs.Whole.{round_takes}
use Rattle.table_rows.proofs.CleanLemmas.{always_clean}
use Rattle.database_places.specs.Places.{IsHonest}
use Rattle.intake_process.specs.declared.beginning.Totals.{Totals}
use Rattle.intake_process.specs.declared.process.Closed.{Closed}
use Rattle.intake_process.specs.Beginning.{HoldsAs}
use Rattle.intake_process.specs.Process.{Parts, IsUnrefused, StaysUp, IsUp, Keeps, KeepsBy, Leaves, OpensProcess}
use Rattle.intake_process.specs.declared.process.AnsweredBy.{AnsweredBy}
use Rattle.intake_process.specs.Process.{AnswersPort, AnswersPortBy, ClosesProcess}
use Rattle.intake_process.specs.Turns.{Told, Turn, Served, TurnedAway, told_in, steps_in, answers_in, NoneIsAway}
use Rattle.intake_process.specs.Turns.{SpellArrival, AreTurns, AreAnswered, AnswersSome}
use Rattle.intake_process.proofs.Alone.{all_away, all_in_turn}
use Rattle.intake_process.proofs.Up as up

-- ---- some turns, and then more

steps_join : (ts us : List Turn) → steps_in (ts ++ us) ≡ steps_in ts ++ steps_in us
steps_join [] us = refl
steps_join (Served told ∷ ts) us = ap (λ steps. told.step ∷ steps) (steps_join ts us)
steps_join (TurnedAway told ∷ ts) us = steps_join ts us

answers_join : (ts us : List Turn) → answers_in (ts ++ us) ≡ answers_in ts ++ answers_in us
answers_join [] us = refl
answers_join (turn ∷ ts) us =
    ap (λ answers. option_to_list (told_in turn).answer ++ answers) (answers_join ts us)
    ∙ sym (append_assoc (option_to_list (told_in turn).answer) (answers_in ts) (answers_in us))

completed_join : (xs ys : List Step) → all_completed (xs ++ ys) ≡ all_completed xs ++ all_completed ys
completed_join [] ys = refl
completed_join (step ∷ xs) ys =
    ap (λ done. completed_at step.arrival step.mark ++ done) (completed_join xs ys)
    ∙ sym (append_assoc (completed_at step.arrival step.mark) (all_completed xs) (all_completed ys))

none_away_join : (ts us : List Turn) → NoneIsAway ts → NoneIsAway us → NoneIsAway (ts ++ us)
none_away_join [] us first second = second
none_away_join (Served told ∷ ts) us first second = none_away_join ts us first second
none_away_join (TurnedAway told ∷ ts) us first second = absurd first

-- ---- after requests with the same firsts

text_alike : (old_style old new : List Request) → firsts old ≡ firsts new → (arrival : Arrival) (mark : Mark)
    → reply_text_with old_style old arrival mark ≡ reply_text_with old_style new arrival mark
text_alike old_style old new same (Read m) Unavailable = refl
text_alike old_style old new same (Read m) Done =
    ap (λ x. render x (closes m.head)) (reply_alike old new same old_style m)
text_alike old_style old new same (Read m) NotFiled =
    ap (λ x. render x (closes m.head)) (reply_alike old new same old_style m)
text_alike old_style old new same (Refused refusal) mark = refl

answered_alike : (old_style old new : List Request) → firsts old ≡ firsts new → (step : Step) (answer : Option Answer)
    → IfSome answer (IsAnswerTo old_style old step) → IfSome answer (IsAnswerTo old_style new step)
answered_alike old_style old new same step None is = tt
answered_alike old_style old new same step (Some answer) is = record {
  on = is.on;
  arrival = is.arrival;
  text = is.text ∙ text_alike old_style old new same step.arrival step.mark;
  closes = is.closes;
}

fit_alike : (limit : ℕ) (old new : List Request) → firsts old ≡ firsts new → (step : Step)
    → MarkFits limit old step.arrival step.mark → MarkFits limit new step.arrival step.mark
unfolding MarksFit
fit_alike limit old new same step fit =
    (marks_fit_alike limit old new same (step.arrival ∷ []) (step.mark ∷ []) (fit, tt)).0

are_alike : (limit : ℕ) (old_style old new : List Request) → firsts old ≡ firsts new → (turns : List Turn)
    → AreTurns limit old_style old turns → AreTurns limit old_style new turns
are_alike limit old_style old new same [] are = tt
are_alike limit old_style old new same (Served told ∷ turns) are =
    let done = completed_at told.step.arrival told.step.mark in (
      record {
        spelled = are.0.spelled;
        fit = fit_alike limit old new same told.step are.0.fit;
        answered = answered_alike old_style old new same told.step told.answer are.0.answered;
      },
      are_alike limit old_style (old ++ done) (new ++ done) (firsts_alike old new same done) turns are.1,
    )
are_alike limit old_style old new same (TurnedAway told ∷ turns) are =
    (are.0, are_alike limit old_style old new same turns are.1)

are_join : (limit : ℕ) (old_style before : List Request) (ts us : List Turn) → AreTurns limit old_style before ts
    → AreTurns limit old_style (before ++ all_completed (steps_in ts)) us → AreTurns limit old_style before (ts ++ us)
are_join limit old_style before [] us first second =
    subst (λ rs. AreTurns limit old_style rs us) (append_nil before) second
are_join limit old_style before (Served told ∷ ts) us first second =
    let done = completed_at told.step.arrival told.step.mark in (
      first.0,
      are_join limit old_style (before ++ done) ts us first.1
          (subst (λ rs. AreTurns limit old_style rs us) (sym (append_assoc before done (all_completed (steps_in ts))))
          second),
    )
are_join limit old_style before (TurnedAway told ∷ ts) us first second =
    (first.0, are_join limit old_style before ts us first.1 second)

-- ---- what was answered

module _ {S N : Type 0} (s : Streams S N) (limit : ℕ) (old_style : List Request) where
  answered_by : (before after : List Request) (told : List Answer) (port : Port S) (turns : List Turn)
      → AreTurns limit old_style before turns → after ≡ kept_by before (all_completed (steps_in turns))
      → Runs s (told ++ answers_in turns) port
      → AreAnswered s (keeping limit old_style before after) told port turns
  answered_by before after told port turns are kept running = record {
    are = are;
    kept = kept;
    in_turn = all_in_turn limit old_style before after turns are kept;
    away = all_away limit old_style before turns are;
    running = running;
  }

  answered_join : (before mid after : List Request) (told : List Answer) (between port : Port S) (ts us : List Turn)
      → AreAnswered s (keeping limit old_style before mid) told between ts
      → AreAnswered s (keeping limit old_style mid after) (told ++ answers_in ts) port us
      → AreAnswered s (keeping limit old_style before after) told port (ts ++ us)
  answered_join before mid after told between port ts us a b =
      let done = all_completed (steps_in ts) in
      let same : firsts mid ≡ firsts (before ++ done) = ap firsts a.kept ∙ firsts-kept_by before done in
      answered_by before after told port (ts ++ us)
      (are_join limit old_style before ts us a.are (are_alike limit old_style mid (before ++ done) same us b.are))
      (b.kept ∙ ap (λ rs. kept_by rs (all_completed (steps_in us))) a.kept
      ∙ kept_by-append before done (all_completed (steps_in us))
      ∙ ap (kept_by before) (sym (completed_join (steps_in ts) (steps_in us)))
      ∙ ap (λ steps. kept_by before (all_completed steps)) (sym (steps_join ts us)))
      (subst (λ answers. Runs s answers port)
      (append_assoc told (answers_in ts) (answers_in us) ∙ ap (λ more. told ++ more) (sym (answers_join ts us)))
      b.running)

-- ---- a round's turns

-- the bytes of one of them, alone
alone : (arrival : Arrival) (bytes : Spells arrival) → SpellArrival (take bytes.count bytes.came) arrival
alone arrival bytes = record { came = bytes.came; count = bytes.count; begins = bytes.begins; are = refl }

told_as : (step : Step) → Spells step.arrival → Option Answer → Told
told_as step bytes answer = record { read = take bytes.count bytes.came; step = step; answer = answer }

-- those that were decided; where nothing was, there is no turn
one_decided : (step : Option Step) (answer : Option Answer) → IfSome step (λ step. Spells step.arrival) → List Turn
one_decided None answer bytes = []
one_decided (Some step) answer bytes = Served (told_as step bytes answer) ∷ []

decided_in : (turns : List round.Turn) → AreSpelled turns → List Turn
decided_in [] spelled = []
decided_in (turn ∷ turns) spelled = one_decided turn.step turn.answer spelled.0 ++ decided_in turns spelled.1

one_step : (step : Option Step) (answer : Option Answer) (bytes : IfSome step (λ step. Spells step.arrival))
    → steps_in (one_decided step answer bytes) ≡ option_to_list step
unfolding one_decided told_as
one_step None answer bytes = refl
one_step (Some step) answer bytes = refl

decided_steps : (turns : List round.Turn) (spelled : AreSpelled turns)
    → steps_in (decided_in turns spelled) ≡ steps_of turns
unfolding decided_in
decided_steps [] spelled = refl
decided_steps (turn ∷ turns) spelled =
    steps_join (one_decided turn.step turn.answer spelled.0) (decided_in turns spelled.1)
    ∙ ap (λ steps. steps ++ steps_in (decided_in turns spelled.1)) (one_step turn.step turn.answer spelled.0)
    ∙ ap (λ steps. option_to_list turn.step ++ steps) (decided_steps turns spelled.1)

one_answer : (old_style before : List Request) (step : Option Step) (answer : Option Answer)
    (bytes : IfSome step (λ step. Spells step.arrival)) → IsTold old_style before step answer
    → answers_in (one_decided step answer bytes) ≡ option_to_list answer
unfolding one_decided told_as
one_answer old_style before None answer bytes told = ap option_to_list (sym told)
one_answer old_style before (Some step) answer bytes told = append_nil (option_to_list answer)

decided_answers : (old_style before : List Request) (turns : List round.Turn) (spelled : AreSpelled turns)
    → AreTold old_style before turns → answers_in (decided_in turns spelled) ≡ answers_of turns
unfolding decided_in
decided_answers old_style before [] spelled told = refl
decided_answers old_style before (turn ∷ turns) spelled told =
    answers_join (one_decided turn.step turn.answer spelled.0) (decided_in turns spelled.1)
    ∙ ap (λ answers. answers ++ answers_in (decided_in turns spelled.1))
    (one_answer old_style before turn.step turn.answer spelled.0 told.0)
    ∙ ap (λ answers. option_to_list turn.answer ++ answers)
    (decided_answers old_style (before ++ completed_by turn.step) turns spelled.1 told.1)

decided_none_away : (turns : List round.Turn) (spelled : AreSpelled turns) → NoneIsAway (decided_in turns spelled)
unfolding decided_in one_decided
decided_none_away [] spelled = tt
decided_none_away (turn ∷ turns) spelled =
    none_away_join (one_decided turn.step turn.answer spelled.0) (decided_in turns spelled.1)
    (one turn.step turn.answer spelled.0) (decided_none_away turns spelled.1)
  where
    one : (step : Option Step) (answer : Option Answer) (bytes : IfSome step (λ step. Spells step.arrival))
        → NoneIsAway (one_decided step answer bytes)
    one None answer bytes = tt
    one (Some step) answer bytes = tt

decided_are : (limit : ℕ) (old_style before : List Request) (turns : List round.Turn) (spelled : AreSpelled turns)
    → StepsFit limit before (steps_of turns) → AreTold old_style before turns
    → AreTurns limit old_style before (decided_in turns spelled)
unfolding decided_in one_decided told_as
decided_are limit old_style before [] spelled fit told = tt
decided_are limit old_style before (turn ∷ turns) spelled fit told =
    one (λ after fits answered. decided_are limit old_style after turns spelled.1 fits answered) turn.step turn.answer
    spelled.0 fit told.0 told.1
  where
    one : ((after : List Request) → StepsFit limit after (steps_of turns) → AreTold old_style after turns
        → AreTurns limit old_style after (decided_in turns spelled.1)) → (step : Option Step) (answer : Option Answer)
        (bytes : IfSome step (λ step. Spells step.arrival))
        → StepsFit limit before (option_to_list step ++ steps_of turns) → IsTold old_style before step answer
        → AreTold old_style (before ++ completed_by step) turns
        → AreTurns limit old_style before (one_decided step answer bytes ++ decided_in turns spelled.1)
    one behind None answer bytes fits first rest =
        behind before fits (subst (λ rs. AreTold old_style rs turns) (append_nil before) rest)
    one behind (Some step) answer bytes fits first rest = (
      record { spelled = alone step.arrival bytes; fit = fits.0; answered = first },
      behind (before ++ completed_at step.arrival step.mark) fits.1 rest,
    )

-- those that were turned away; where there was no memory for the answer, there is no turn
one_away : (step : Step) (answer : Option Answer) → Spells step.arrival → List Turn
one_away step None bytes = []
one_away step (Some answer) bytes = TurnedAway (told_as step bytes (Some answer)) ∷ []

bytes_of : (turn : round.Turn) (away : closed.IsAway turn) → IfSome turn.step (λ step. Spells step.arrival)
    → Spells away.step.arrival
bytes_of turn away spelled = subst (λ o. IfSome o (λ step. Spells step.arrival)) away.is spelled

away_in : (turns : List round.Turn) → AllByRecursion closed.IsAway turns → AreSpelled turns → List Turn
away_in [] away spelled = []
away_in (turn ∷ turns) away spelled =
    one_away away.0.step turn.answer (bytes_of turn away.0 spelled.0) ++ away_in turns away.1 spelled.1

away_answers : (turns : List round.Turn) (away : AllByRecursion closed.IsAway turns) (spelled : AreSpelled turns)
    → answers_in (away_in turns away spelled) ≡ answers_of turns
unfolding away_in one_away told_as
away_answers [] away spelled = refl
away_answers (turn ∷ turns) away spelled =
    answers_join (one_away away.0.step turn.answer (bytes_of turn away.0 spelled.0)) (away_in turns away.1 spelled.1)
    ∙ ap (λ answers. answers ++ answers_in (away_in turns away.1 spelled.1))
    (one away.0.step turn.answer (bytes_of turn away.0 spelled.0))
    ∙ ap (λ answers. option_to_list turn.answer ++ answers) (away_answers turns away.1 spelled.1)
  where
    one : (step : Step) (answer : Option Answer) (bytes : Spells step.arrival)
        → answers_in (one_away step answer bytes) ≡ option_to_list answer
    one step None bytes = refl
    one step (Some answer) bytes = refl

away_steps : (turns : List round.Turn) (away : AllByRecursion closed.IsAway turns) (spelled : AreSpelled turns)
    → steps_in (away_in turns away spelled) ≡ []
unfolding away_in one_away
away_steps [] away spelled = refl
away_steps (turn ∷ turns) away spelled =
    steps_join (one_away away.0.step turn.answer (bytes_of turn away.0 spelled.0)) (away_in turns away.1 spelled.1)
    ∙ ap (λ steps. steps ++ steps_in (away_in turns away.1 spelled.1))
    (one away.0.step turn.answer (bytes_of turn away.0 spelled.0))
    ∙ away_steps turns away.1 spelled.1
  where
    one : (step : Step) (answer : Option Answer) (bytes : Spells step.arrival)
        → steps_in (one_away step answer bytes) ≡ []
    one step None bytes = refl
    one step (Some answer) bytes = refl

away_are : (limit : ℕ) (old_style before : List Request) (turns : List round.Turn)
    (away : AllByRecursion closed.IsAway turns) (spelled : AreSpelled turns)
    → AreTurns limit old_style before (away_in turns away spelled)
unfolding away_in one_away told_as
away_are limit old_style before [] away spelled = tt
away_are limit old_style before (turn ∷ turns) away spelled =
    one (away_are limit old_style before turns away.1 spelled.1) away.0.step turn.answer
    (bytes_of turn away.0 spelled.0) away.0.mark away.0.told
  where
    one : AreTurns limit old_style before (away_in turns away.1 spelled.1) → (step : Step) (answer : Option Answer)
        (bytes : Spells step.arrival) → step.mark ≡ closed.away_mark step.arrival
        → IfSome answer (closed.IsAwayAnswer step)
        → AreTurns limit old_style before (one_away step answer bytes ++ away_in turns away.1 spelled.1)
    one behind step None bytes mark told = behind
    one behind step (Some answer) bytes mark told = (
      record {
        spelled = alone step.arrival bytes;
        marked = mark;
        answer = answer;
        given = refl;
        on = told.on;
        arrival = told.arrival;
        text = told.text;
        closes = told.closes;
      },
      behind,
    )

module _ {S N D : Type 0} (s : Streams S N) {g : Ghosts D} (limit : ℕ) where
  -- some, and then more
  pub join : (first mid last : Port S) (old between new : Parts g) → StaysUp old between → StaysUp between new
      → AnswersSome s limit first mid old between → AnswersSome s limit mid last between new
      → AnswersSome s limit first last old new
  join first mid last old between new stays stays' a b = record {
    answers = λ was_clean before keeps certain told running.
        let one = a.answers was_clean before keeps (b.certain certain) told running in
        let two = b.answers was_clean one.0 (λ _. one.1) certain (told ++ answers_in one.3) one.4.running in (
          two.0,
          two.1,
          two.2 ∙ one.2,
          one.3 ++ two.3,
          answered_join s limit (take was_clean before) before one.0 two.0 told mid last one.3 two.3 one.4
              (subst (λ es. AreAnswered s (keeping limit es one.0 two.0) (told ++ answers_in one.3) last two.3) one.2
              two.4),
          λ u. none_away_join one.3 two.3 (one.5 (up.before old between new stays stays' u))
              (two.5 (up.after old between new stays stays' u)),
        );
    runs = λ told running.
        let one = a.runs told running in
        let two = b.runs (told ++ one.0) one.1 in (
          one.0 ++ two.0,
          subst (λ answers. Runs s answers last) (append_assoc told one.0 two.0) two.1,
        );
    certain = λ certain. a.certain (b.certain certain);
  }

  -- nothing was answered
  pub none : (port port' : Port S) (process : Parts g)
      → ((answers : List Answer) → Runs s answers port → Runs s answers port')
      → AnswersSome s limit port port' process process
  none port port' process on = record {
    answers = λ was_clean before keeps certain told running. (
      before,
      keeps certain,
      refl,
      [],
      record {
        are = tt;
        kept = refl;
        in_turn = refl;
        away = tt;
        running = subst (λ answers. Runs s answers port') (sym (append_nil told)) (on told running);
      },
      λ u. tt,
    );
    runs = λ told running.
        ([], subst (λ answers. Runs s answers port') (sym (append_nil told)) (on told running));
    certain = λ certain. certain;
  }

  -- some was answered after a call that answered none, and before one
  pub between : (port port' : Port S) (old first last new : Parts g) → (IsUnrefused old new → IsUnrefused first last)
      → Leaves limit old first → AnswersSome s limit port port' first last → Leaves limit last new
      → AnswersSome s limit port port' old new
  between port port' old first last new inside before some after = record {
    answers = λ was_clean requests keeps certain told running.
        let one =
        some.answers was_clean requests (before.kept was_clean requests keeps) (after.certain certain) told running in
        (one.0, after.kept was_clean one.0 (λ _. one.1) certain, one.2, one.3, one.4, λ u. one.5 (inside u));
    runs = some.runs;
    certain = λ certain. before.certain (some.certain (after.certain certain));
  }

  pub same : (process : Parts g) → Leaves limit process process
  same process = record { kept = λ was_clean requests keeps. keeps; certain = λ certain. certain }

  -- Some was answered. None was turned away if this holds.
  record AnswersIf (port port' : Port S) (old new : Parts g) (Holds : Type 0) : Type 0 where
    pub answers : (old_style : ℕ) (before : List Request) → Keeps old limit old_style before → new.is_certain ≡ true
        → (told : List Answer) → Runs s told port
        → (after : List Request) × KeepsBy new.intake new.lying limit old_style after
        × (take old_style after ≡ take old_style before) × (turns : List Turn)
        × AreAnswered s (keeping limit (take old_style before) before after) told port' turns
        × (Holds → NoneIsAway turns)
    pub runs : (told : List Answer) → Runs s told port → (more : List Answer) × Runs s (told ++ more) port'
    pub certain : new.is_certain ≡ true → old.is_certain ≡ true

  one_by : IsHonest g → (port port' : Port S) (old new : Option (Intake (FileStore D g)))
      (lying lying' : Option (Option (Files D))) (is was : Bool) (calls calls' : ℕ) (by : AnsweredBy)
      → AnswersPortBy s port port' old new by → lying' ≡ lying → is ≡ was
      → AnswersIf port port' (record { intake = old; lying = lying; is_certain = was; refused_calls = calls })
      (record { intake = new; lying = lying'; is_certain = is; refused_calls = calls' }) (IsSome old)
  one_by honest port port' (Some intake) new lying lying' is was calls calls' by answered there sure =
      let it = round_takes s over_files port port' intake answered.0 answered.2 in
      let turns = answered.2.at_once ++ answered.2.filed in
      record {
        answers = λ was_clean before keeps certain told running.
            let kept = keeps (sym sure ∙ certain) in
            let t = it.decided (always_clean honest answered.0.store.conn) before kept.0.holds in
            let ran = it.tells.running told running in
            let holds : HoldsAs over_files limit was_clean t.0 answered.0 =
            record {
              holds = t.1;
              limit_is = it.setting.limit ∙ kept.0.limit_is;
              old_style_is = it.setting.old_style ∙ kept.0.old_style_is;
            } in
            let old_style_is = ap (λ n. take n before) kept.0.old_style_is in
            let decides =
            subst (λ es. DecidesTurns limit es before t.0 turns) old_style_is
            (subst (λ n. DecidesTurns n (take intake.store.old_style before) before t.0 turns) kept.0.limit_is t.3) in (
              t.0,
              subst (λ i. KeepsBy i lying' limit was_clean t.0) (sym answered.1) (holds, there ∙ kept.1),
              sym (ap (λ n. take n t.0) holds.old_style_is) ∙ t.2 ∙ old_style_is,
              decided_in turns ran.1,
              answered_by s limit (take was_clean before) before t.0 told port' (decided_in turns ran.1)
                  (decided_are limit (take was_clean before) before turns ran.1 decides.fit decides.told)
                  (decides.kept
                  ∙ ap (λ steps. kept_by before (all_completed steps)) (sym (decided_steps turns ran.1)))
                  (subst (λ more. Runs s (told ++ more) port')
                  (sym (decided_answers (take was_clean before) before turns ran.1 decides.told)) ran.0),
              λ u. decided_none_away turns ran.1,
            );
        runs = λ told running. (answers_of turns, (it.tells.running told running).0);
        certain = λ certain. sym sure ∙ certain;
      }
  one_by honest port port' None new lying lying' is was calls calls' by answered there sure =
      let away = answered.1 in
      record {
        answers = λ was_clean before keeps certain told running.
            let kept = keeps (sym sure ∙ certain) in
            let ran = away.tells.running told running in
            let turns = away_in away.turns away.away ran.1 in (
              before,
              subst (λ i. KeepsBy i lying' limit was_clean before) (sym answered.0)
                  (subst (λ l. KeepsBy {g = g} None l limit was_clean before) (sym there) kept),
              refl,
              turns,
              answered_by s limit (take was_clean before) before before told port' turns
                  (away_are limit (take was_clean before) before away.turns away.away ran.1)
                  (ap (λ steps. kept_by before (all_completed steps)) (sym (away_steps away.turns away.away ran.1)))
                  (subst (λ more. Runs s (told ++ more) port') (sym (away_answers away.turns away.away ran.1)) ran.0),
              λ u. absurd (let h : false ≡ true = u in cc),
            );
        runs = λ told running. (answers_of away.turns, (away.tells.running told running).0);
        certain = λ certain. sym sure ∙ certain;
      }

  -- what waited was answered
  pub one : IsHonest g → (port port' : Port S) (old new : Parts g) (by : AnsweredBy)
      → AnswersPort s port port' old new by → AnswersSome s limit port port' old new
  one honest port port' old new by answered =
      let all =
      one_by honest port port' old.intake new.intake old.lying new.lying new.is_certain old.is_certain
      old.refused_calls new.refused_calls by answered.0 answered.1 answered.2 in
      record {
        answers = λ old_style before keeps certain told running.
            let it = all.answers old_style before keeps certain told running in (
              it.0,
              it.1,
              it.2,
              it.3,
              it.4,
              λ u. it.5 (up.is_some_up old.intake u.up),
            );
        runs = all.runs;
        certain = all.certain;
      }

  -- ---- a register that is opened, serves, and is closed

  -- it was not opened
  pub not_opened : (port : Port S) (old new : Parts g) → new.refused_calls ≡ old.refused_calls → Leaves limit old new
      → AnswersSome s limit port port old new
  not_opened port old new calls leaves =
      between port port old old old new (λ u. up.until old old new calls u) (same old)
      (none port port old (λ answers running. running)) leaves

  -- if its database refused no call, it refused none while it was open
  pub while_open : (has : Bool) (old opened last new : Parts g) (totals : Option Totals) (closed : Closed)
      → OpensProcess g has limit old opened (Ok totals) → ClosesProcess g last new closed → IsUnrefused old new
      → IsUnrefused opened last
  while_open has old opened last new totals closed opens closes u = record {
    up = subst (λ (p : Parts g). IsUp p.intake) (sym (opens.already (up.is_some_up old.intake u.up)).0) u.up;
    same = sym closes.calls ∙ u.same ∙ sym opens.calls;
    counts = omega (arith, closes.calls, u.counts);
  }
