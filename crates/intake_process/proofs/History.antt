-- What becomes of a process, round by round.
use Rattle.std.proofs.Common.{◌≡◌, ◌++◌, ◌+◌, ℕ, Bool, List, [], ◌∷◌, length, Option, Some, None, refl, sym, ◌∙◌, ap}
use Rattle.std.proofs.Common.{subst, arith}
use Rattle.std.specs.Prelude.{IfSome, option_map}
use Rattle.std.proofs.lemmas.List.{append-nil, append_assoc, length-append}
use Rattle.sqlite_disk.specs.declared.Disk.{Ghosts}
use Rattle.connection_hall.specs.declared.stream.Stream.{Ghosts as Streams}
use Rattle.gateway_rounds.specs.Ports.{Port}
use Rattle.intake_process.specs.declared.process.AnsweredBy.{AnsweredBy}
use Rattle.intake_process.specs.Process.{Parts, AnswersPort}
use Rattle.intake_process.specs.Observing.{Notes}
use Rattle.connection_hall.specs.Running.{arrival_at}
use Rattle.intake_process.specs.History.{Round, said_of, GoesOn, IsReady, IsOver, AreRounds, said_in, Passes}

-- ---- what an observer answered

pub noted_none : (noted noted' : Option (List Bool)) → noted' ≡ noted → Notes noted noted' []
noted_none None noted' same = same
noted_none (Some before) noted' same = same ∙ ap Some (sym (append-nil before))

pub noted_join : (a b c : Option (List Bool)) (said more : List Bool) → Notes a b said → Notes b c more
    → Notes a c (said ++ more)
noted_join None b c said more first second = subst (λ x. Notes x c more) first second
noted_join (Some before) b c said more first second =
    subst (λ x. Notes x c more) first second ∙ ap Some (append_assoc before said more)

pub noted_as : (a b : Option (List Bool)) (said more : List Bool) → said ≡ more → Notes a b said → Notes a b more
noted_as a b said more same notes = subst (λ s. Notes a b s) same notes

-- ---- rounds

module _ {S N D : Type 0} (s : Streams S N) {g : Ghosts D} (limit : ℕ) where
  said_join : (xs ys : List (Round g S)) → said_in (xs ++ ys) ≡ said_in xs ++ said_in ys
  said_join [] ys = refl
  said_join (x ∷ xs) ys = ap (λ said. said_of x.asked ++ said) (said_join xs ys)
      ∙ sym (append_assoc (said_of x.asked) (said_in xs) (said_in ys))

  -- behind a port that only went on
  rounds_behind : (first mid last : Port S) (old new : Parts g) (rounds : List (Round g S)) → GoesOn s first mid
      → AreRounds s limit mid old rounds last new → AreRounds s limit first old rounds last new
  rounds_behind first mid last old new [] on are = (λ answers runs. are.0 answers (on answers runs), are.1)
  rounds_behind first mid last old new (round ∷ rounds) on are =
      (λ answers runs. are.0 answers (on answers runs), are.1, are.2)

  rounds_join : (first mid last : Port S) (old between new : Parts g) (xs ys : List (Round g S))
      → AreRounds s limit first old xs mid between → AreRounds s limit mid between ys last new
      → AreRounds s limit first old (xs ++ ys) last new
  rounds_join first mid last old between new [] ys a b =
      rounds_behind first mid last old new ys a.0 (subst (λ p. AreRounds s limit mid p ys last new) a.1 b)
  rounds_join first mid last old between new (x ∷ xs) ys a b =
      (a.0, a.1, rounds_join x.to mid last x.after between new xs ys a.2 b)

  -- the port went on at most, and it is not told how often it was asked, or that it was not
  pub none : (port port' : Port S) (process : Parts g) (noted noted' : Option (List Bool)) (taken : Option ℕ)
      → IfSome taken (λ taken. 0 ≡ taken) → GoesOn s port port' → noted' ≡ noted
      → Passes s limit port port' process process noted noted' taken
  none port port' process noted noted' taken count on same = record {
    rounds = [];
    are = (on, refl);
    count = count;
    notes = noted_none noted noted' same;
  }

  -- nothing waited
  pub idle : (port from : Port S) (process : Parts g) (noted : Option (List Bool)) → GoesOn s port from
      → ((place : ℕ) → arrival_at from.hall place ≡ None) → Passes s limit port from process process noted noted
      (Some 1)
  idle port from process noted on waits = record {
    rounds = record {
      from = from;
      asked = None;
      ready = process;
      by = None;
      to = from;
      last = process;
      after = process;
    } ∷ [];
    are = (on, (waits, refl, refl, refl), ((λ answers runs. runs), refl));
    count = refl;
    notes = noted_none noted noted refl;
  }

  -- what waited was answered
  pub one : (port port' : Port S) (old ready last new : Parts g) (noted noted' : Option (List Bool))
      (asked : Option Bool) (by : AnsweredBy) → IsReady limit asked old ready
      → AnswersPort s port port' ready last by → IsOver by last new → Notes noted noted' (said_of asked)
      → Passes s limit port port' old new noted noted' (Some 1)
  one port port' old ready last new noted noted' asked by readied answers over notes = record {
    rounds = record {
      from = port;
      asked = asked;
      ready = ready;
      by = Some by;
      to = port';
      last = last;
      after = new;
    } ∷ [];
    are = ((λ answers runs. runs), (readied, answers, over), ((λ answers runs. runs), refl));
    count = refl;
    notes = noted_as noted noted' _ _ (sym (append-nil (said_of asked))) notes;
  }

  -- behind a port that only went on
  pub behind : (first mid last : Port S) (old new : Parts g) (noted noted' : Option (List Bool)) (taken : Option ℕ)
      → GoesOn s first mid → Passes s limit mid last old new noted noted' taken
      → Passes s limit first last old new noted noted' taken
  behind first mid last old new noted noted' taken on passes = record {
    rounds = passes.rounds;
    are = rounds_behind first mid last old new passes.rounds on passes.are;
    count = passes.count;
    notes = passes.notes;
  }

  -- some rounds, and then more
  pub join : (first mid last : Port S) (old between new : Parts g) (a b c : Option (List Bool)) (m : ℕ)
      (taken : Option ℕ) → Passes s limit first mid old between a b (Some m)
      → Passes s limit mid last between new b c taken
      → Passes s limit first last old new a c (option_map (λ n. m + n) taken)
  join first mid last old between new a b c m taken one two = record {
    rounds = one.rounds ++ two.rounds;
    are = rounds_join first mid last old between new one.rounds two.rounds one.are two.are;
    count = as_many taken two.count;
    notes = noted_as a c _ _ (sym (said_join one.rounds two.rounds))
        (noted_join a b c (said_in one.rounds) (said_in two.rounds) one.notes two.notes);
  }
    where
      as_many : (taken : Option ℕ) → IfSome taken (λ taken. length two.rounds ≡ taken)
          → IfSome (option_map (λ n. m + n) taken) (λ taken. length (one.rounds ++ two.rounds) ≡ taken)
      as_many None count = tt
      as_many (Some n) count = omega (arith, length-append one.rounds two.rounds, one.count, count)

  -- where it is not told how often the port was asked
  pub untold : (port port' : Port S) (old new : Parts g) (noted noted' : Option (List Bool)) (taken : Option ℕ)
      → Passes s limit port port' old new noted noted' taken → Passes s limit port port' old new noted noted' None
  untold port port' old new noted noted' taken passes =
      record { rounds = passes.rounds; are = passes.are; count = tt; notes = passes.notes }
