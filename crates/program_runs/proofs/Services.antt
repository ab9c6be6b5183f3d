-- A run of `intake serve`.
use Rattle.std.proofs.Common.{◌≡◌, ◌≢◌, ◌∙◌, ℕ, ◌≤◌, true, false, List, [], ◌∷◌, ◌++◌, Option, Some, None, Result, Ok}
use Rattle.std.proofs.Common.{Err}
use Rattle.std.proofs.Common.{refl, sym, ap, subst, inl, inr, true≢false, map, arith}
use Rattle.std.specs.Prelude.{◌⊎◌, not, IfErr, IfSome, IsSome}
use Rattle.sqlite_disk.specs.declared.Disk.{Ghosts}
use Rattle.filing_model.specs.Request.{Request, firsts}
use Rattle.filing_model.specs.Serving.{keeping}
use Rattle.filing_model.proofs.Lists.{append_nil}
use Rattle.database_places.specs.Places.{IsHonest, Lie}
use Rattle.command_line.specs.declared.fault.DatabaseFault.TheVariants.{Missing}
use Rattle.gateway_server.specs.Connections.{ServeInTurn}
use Rattle.connection_hall.specs.declared.stream.Stream.{Ghosts as Streams}
use Rattle.connection_hall.specs.Answers.{Answer}
use Rattle.gateway_rounds.specs.Ports.{Port, Runs}
use Rattle.database_places.specs.declared.opening.Unopened.{Unopened}
use Rattle.database_places.specs.Opening.{StaysIn, untouched}
use Rattle.intake_process.specs.Process.{Parts, HoldRegisterWithLog, Keeps, KeepsBy, LeavesDatabase, OpensProcess}
use Rattle.intake_process.specs.declared.fault.Refusal.{Refusal}
use Rattle.intake_process.specs.Turns.{Turn, Served, TurnedAway, served_in, AreTurnedAway, IsServed}
use Rattle.intake_process.specs.Turns.{IsServedOrRefused}
use Rattle.register_extracts.specs.declared.fault.Why.{Why}
use Rattle.database_places.specs.declared.holding.Holding.{Holding}
use Rattle.intake_process.specs.declared.serving.ServingFault.{ServingFault}
use Rattle.intake_process.specs.declared.serving.ServingFault.TheVariants.{Register, Port as Failed}
use Rattle.intake_process.specs.declared.visiting.Visited.{Visited}
use Rattle.intake_commands.specs.Tasks.{IsServingTold, Serves, most_asked}
use Rattle.intake_commands.specs.declared.fault.NotDone.{NotDone}
use Rattle.intake_commands.specs.declared.options.Serving.{Serving}
use Rattle.program_runs.specs.Beside.{Service, Answered, Away, Killed, InTurn}
use Rattle.std.specs.Prelude.{MatchBool, Bool}
use Rattle.std.specs.Borrow.{Bor}
use Rattle.intake_process.specs.declared.tasks.errand.Errand.{Errand}
use Rattle.intake_process.specs.declared.tasks.errand.Errand.TheVariants as asked
use Rattle.intake_process.specs.Visits.{Outputs, outputs, GoesOn, LiesFor, VisitsRegister}
use Rattle.intake_process.specs.Errands.{IsRegisterBy, meaning}
use Rattle.intake_process.specs.Fault.{is_refused}
use Rattle.intake_commands.specs.Tasks.{Means, Does, Performs, Visits, IsNoFiler, is_wanted}
use Rattle.intake_commands.specs.Tasks.{IsVisitTold, IsFaultTold, VisitsCurrent, is_not_earlier}
use Rattle.intake_commands.specs.declared.options.Task.{Task}
use Rattle.intake_commands.specs.declared.options.Task.TheVariants as task
use Rattle.register_tables.specs.Registers.{IsRegisterOf}
use Rattle.sqlite.specs.Effect.{Database}
use Rattle.sqlite.specs.Held.{Held}
use Rattle.sqlite.specs.Schema.{Schema}
use Rattle.sqlite_disk.specs.declared.Files.{Files}
use Rattle.sqlite_store.specs.declared.store.FileStore.{FileStore}
use Rattle.register_rows.specs.Schema.{register_tables}
use Rattle.table_rows.specs.Tables.{no_schema}
use Rattle.program_runs.specs.Registers.{LiesRegister, IsServiceBy, AreOfTurns, AreOfPort, IsLimited, service_of}
use Rattle.program_runs.specs.Runs.{AreNotGone}
use Rattle.program_runs.proofs.Lies.{some_lie}
use Rattle.program_runs.proofs.Results.{not_err}

-- ---- the services of turns

module _ (limit keys : ℕ) (few : keys ≤ limit) where
  in_turn_of : (turns : List Turn) (before after : List Request)
      → ServeInTurn (keeping keys [] before after) (served_in turns) → AreTurnedAway turns
      → InTurn limit before (map service_of turns) after
  in_turn_of [] before after in_turn away = in_turn
  in_turn_of (Served told ∷ turns) before after in_turn away =
      (keys, in_turn.0, few, in_turn.1, in_turn_of turns in_turn.0 after in_turn.2 away)
  in_turn_of (TurnedAway told ∷ turns) before after in_turn away =
      (away.0, in_turn_of turns before after in_turn away.1)

-- nothing was done on a port
no_services : {S N : Type 0} (s : Streams S N) (limit : ℕ) (requests : List Request) (told : List Answer)
    (port : Option (Port S)) → IfSome port (Runs s told) → AreOfPort s limit requests told port []
no_services s limit requests told None runs = refl
no_services s limit requests told (Some port) runs =
    record {
      turns = [];
      services_are = refl;
      keys = limit;
      few = omega arith;
      are = tt;
      running = subst (λ answers. Runs s answers port) (sym (append_nil told)) runs;
    }

-- or it was left as it was
same_port : {S N : Type 0} (s : Streams S N) (limit : ℕ) (requests : List Request) (told : List Answer)
    (port port' : Option (Port S)) → IfSome port (Runs s told) → port' ≡ port
    → AreOfPort s limit requests told port' []
same_port s limit requests told port port' runs same =
    subst (λ p. AreOfPort s limit requests told p []) (sym same) (no_services s limit requests told port runs)

pub in_turn_join : (limit : ℕ) (a b c : List Request) (first second : List Service) → InTurn limit a first b
    → InTurn limit b second c → InTurn limit a (first ++ second) c
in_turn_join limit a b c [] second one two = subst (λ (x : List Request). InTurn limit x second c) one two
in_turn_join limit a b c (Answered k ∷ first) second one two =
    (one.0, one.1, one.2, one.3, in_turn_join limit one.1 b c first second one.4 two)
in_turn_join limit a b c (Away k ∷ first) second one two = (one.0, in_turn_join limit a b c first second one.1 two)
in_turn_join limit a b c (Killed read crash marks written ∷ first) second one two =
    (one.0, one.1, one.2, one.3, in_turn_join limit one.1 b c first second one.4 two)

-- an errand is for a register of an earlier version, or for one of this version
by_version : (is_for_earlier : Bool)
    → (is_for_earlier ≡ true)
    ⊎ ((requests : List Request) (db : Database) → IsRegisterOf 0 requests db
    → IsRegisterBy is_for_earlier 0 requests db)
by_version true = inl refl
by_version false = inr (λ requests db is. is)

by_wanted : {A B X : Type 0} (wanted : Bool) → MatchBool wanted A B → (A → X) → (B → X) → X
by_wanted true is first second = first is
by_wanted false is first second = second is

-- a database with the tables of a register has some
not_bare : {X : Type 0} (requests : List Request) (db : Database) → IsRegisterOf 0 requests db → db.schema ≡ no_schema
    → X
not_bare requests db is none =
    let begins = is.rows.rows.declared in
    let tables : [] ≡ register_tables ++ begins.tables = ap (λ (s : Schema). s.tables) (sym none ∙ begins.is) in
    absurd (cc)

same_err : {A E : Type 0} (r : Result A E) (a b : E) → r ≡ Err a → r ≡ Err b → a ≡ b
same_err r a b one other = cc

module _ {D : Type 0} {g : Ghosts D} where
  -- what lay there is kept by a process that is closed
  keeps_of : (process : Parts g) (keys : ℕ) (requests : List Request) → process.intake ≡ None
      → firsts requests ≡ requests → Lie process.lying (λ files. HoldRegisterWithLog g files 0 requests)
      → Keeps process keys 0 requests
  keeps_of process keys requests closed are there = λ certain.
      subst (λ o. KeepsBy {g = g} o process.lying keys 0 requests) (sym closed) (are, there)

  -- what is kept by one that is closed lies there
  kept_lies : (process : Parts g) (keys : ℕ) (requests : List Request) → process.intake ≡ None
      → process.is_certain ≡ true → Keeps process keys 0 requests
      → (firsts requests ≡ requests) × Lie process.lying (λ files. HoldRegisterWithLog g files 0 requests)
  kept_lies process keys requests closed certain keeps =
      subst (λ o. KeepsBy {g = g} o process.lying keys 0 requests) closed (keeps certain)

  -- nothing was done with the register
  stayed : (limit : ℕ) (old new : Parts g) (requests : List Request) (Are : List Service → Type 0) → Are []
      → LiesRegister old requests → new ≡ old → IsServiceBy limit requests old new Are
  stayed limit old new requests Are none lies same =
      record {
        services = [];
        are = none;
        after = requests;
        in_turn = refl;
        lies = subst (λ p. LiesRegister p requests) (sym same) lies;
        stays = λ gone. sym (ap (λ (p : Parts g). p.lying) same) ∙ gone;
      }

  -- an opening that was refused leaves what lay there
  refused : (limit keys : ℕ) (has : Bool) (refusal : Refusal) (old new : Parts g) (requests : List Request)
      (Are : List Service → Type 0) → Are [] → IsHonest g → LiesRegister old requests
      → OpensProcess g has keys old new (Err refusal) → new.is_certain ≡ true → IsServiceBy limit requests old new Are
  refused limit keys has refusal old new requests Are none honest lies opens certain =
      record {
        services = [];
        are = none;
        after = requests;
        in_turn = refl;
        lies = record { closed = opens.refused; certain = certain; there = (lies.there.0, there) };
        stays = stays;
      }
    where
      kept : Lie old.lying (λ files. HoldRegisterWithLog g files 0 requests)
          → Lie new.lying (λ files. HoldRegisterWithLog g files 0 requests)
      kept is =
          (kept_lies new keys requests opens.refused certain
          ((opens.unmade honest).kept 0 requests (keeps_of old keys requests lies.closed lies.there.0 is))).1

      there : Lie new.lying (λ files. HoldRegisterWithLog g files 0 requests)
          ⊎ ((new.lying ≡ Some None) × (requests ≡ []))
      there = elim lies.there.1 [
        | inl is ↦ inl (kept is)
        | inr none ↦
            let same = ap (λ (p : Parts g). p.lying) (opens.nothing honest lies.closed none.0 certain) in
            inr (same ∙ none.0, none.1)
      ]

      stays : AreNotGone old.lying new.lying
      stays gone = elim lies.there.1 [
        | inl is ↦ some_lie new.lying (λ files. HoldRegisterWithLog g files 0 requests) (kept is) gone
        | inr none ↦ none.0
      ]

  -- ---- it was served

  module _ {S N : Type 0} (s : Streams S N) (told : List Answer) (limit : ℕ) where
    answered : (keys most : ℕ) (has : Bool) (port port' : Port S) (noted noted' : Option (List Bool))
        (old new : Parts g) (taken : Option ℕ) (requests : List Request) → IsHonest g → keys ≤ limit → Runs s told port
        → (served : IsServed s has keys most port port' noted noted' old new taken)
        → Keeps served.opened keys 0 requests → new.is_certain ≡ true
        → IsServiceBy limit requests old new (AreOfTurns s limit requests told port') × (new.lying ≢ Some None)
    answered keys most has port port' noted noted' old new taken requests honest few runs served keeps certain =
        let leaves = served.closes.leaves honest keys in
        let is = (served.answers honest).answers 0 requests keeps (leaves.certain certain) told runs in
        let all = is.4 in
        let lies = kept_lies new keys is.0 served.closes.is_closed certain (leaves.kept 0 is.0 (λ _. is.1)) in
        let there : new.lying ≢ Some None =
        λ gone. some_lie new.lying (λ files. HoldRegisterWithLog g files 0 is.0) lies.1 gone in (
          record {
            services = map service_of is.3;
            are = record {
              turns = is.3;
              services_are = refl;
              keys = keys;
              few = few;
              are = all.are;
              running = all.running;
            };
            after = is.0;
            in_turn = in_turn_of limit keys few is.3 requests is.0 all.in_turn all.away;
            lies = record { closed = served.closes.is_closed; certain = certain; there = (lies.0, inl lies.1) };
            stays = λ gone. absurd (there gone);
          },
          there,
        )

    -- the register that lay there was opened, or one was made where no files lay
    opened : (keys most : ℕ) (has : Bool) (port port' : Port S) (noted noted' : Option (List Bool)) (old new : Parts g)
        (taken : Option ℕ) (requests : List Request) → IsHonest g → LiesRegister old requests
        → (served : IsServed s has keys most port port' noted noted' old new taken)
        → Keeps served.opened keys 0 requests
    opened keys most true port port' noted noted' old new taken requests honest lies served = elim lies.there.1 [
      | inl there ↦ (served.opens.leaves honest refl).kept 0 requests
          (keeps_of old keys requests lies.closed lies.there.0 there)
      | inr none ↦ absurd (not_err served.totals _ (served.opens.absent lies.closed refl none.0).1)
    ]
    opened keys most false port port' noted noted' old new taken requests honest lies served = elim lies.there.1 [
      | inl there ↦
          let hold = there.2 in
          let read = served.opens.read honest lies.closed there.0 there.1 in
          not_bare requests hold.db hold.register
          (subst (λ (db : Database). db.schema ≡ no_schema) (read.2.only hold.db hold.held) read.3)
      | inr none ↦ subst (λ (rs : List Request). Keeps served.opened keys 0 rs) (sym none.1)
          (served.opens.made honest refl lies.closed (subst (λ l. IsSome l) (sym none.0) refl))
    ]

    by_steps : (task : Serving) (has : Bool) (port port' : Port S) (old new : Parts g)
        (served : Result ℕ ServingFault) (requests : List Request) → IsHonest g → task.limit ≤ limit → Runs s told port
        → LiesRegister old requests
        → IsServedOrRefused s has task.limit most_asked port port' None None old new served → new.is_certain ≡ true
        → IsServiceBy limit requests old new (AreOfTurns s limit requests told port')
    by_steps task has port port' old new (Ok taken) requests honest few runs lies is certain =
        (answered task.limit most_asked has port port' None None old new (Some taken) requests honest few runs is
        (opened task.limit most_asked has port port' None None old new (Some taken) requests honest lies is) certain).0
    by_steps task has port port' old new (Err (Failed why)) requests honest few runs lies is certain =
        (answered task.limit most_asked has port port' None None old new None requests honest few runs is
        (opened task.limit most_asked has port port' None None old new None requests honest lies is) certain).0
    by_steps task has port port' old new (Err (Register refusal)) requests honest few runs lies is certain =
        refused limit task.limit has refusal old new requests (AreOfTurns s limit requests told port')
        (same_port s limit requests told (Some port) (Some port') runs (ap (λ p. Some p) is.1)) honest lies is.0 certain

    serve_task : (task : Serving) (port port' : Option (Port S)) (old new : Parts g) (result : Result ℕ NotDone)
        (requests : List Request) → IsHonest g → task.limit ≤ limit → IfSome port (Runs s told)
        → LiesRegister old requests → Serves s task port port' old new result → new.is_certain ≡ true
        → IsServiceBy limit requests old new (AreOfPort s limit requests told port')
    serve_task task None port' old new result requests honest few runs lies is certain =
        stayed limit old new requests (AreOfPort s limit requests told port')
        (same_port s limit requests told None port' runs is.0) lies is.1
    serve_task task (Some port) port' old new result requests honest few runs lies (after, same, serves) certain =
        let Are = AreOfPort s limit requests told port' in
        let none : after ≡ port → Are [] =
        λ left. same_port s limit requests told (Some port) port' runs (same ∙ ap (λ p. Some p) left) in
        elim serves [
          | inl much ↦ stayed limit old new requests Are (none much.1) lies much.2
          | inr more ↦ elim more [
            | inl without ↦ stayed limit old new requests Are (none without.same) lies without.kept
            | inr is ↦
                subst (λ p. IsServiceBy limit requests old new (AreOfPort s limit requests told p)) (sym same)
                (by_steps task (not task.new) port after old new is.1 requests honest few runs lies is.2.steps certain)
          ]
        ]

    -- ---- a register is made

    by_made : (task : Serving) (port port' : Port S) (old new : Parts g) (status : ℕ) (served : Result ℕ ServingFault)
        → IsHonest g → task.limit ≤ limit → Runs s told port → old.intake ≡ None → IsSome old.lying
        → IsServedOrRefused s false task.limit most_asked port port' None None old new served
        → IsServingTold task served (Ok status) → new.is_certain ≡ true
        → IsServiceBy limit [] old new (AreOfTurns s limit [] told port') × (new.lying ≢ Some None)
    by_made task port port' old new status (Ok taken) honest few runs closed there is as_told certain =
        answered task.limit most_asked false port port' None None old new (Some taken) [] honest few runs is
        (is.opens.made honest refl closed there) certain
    by_made task port port' old new status (Err (Register refusal)) honest few runs closed there is as_told certain =
        absurd (not_err status as_told.0 as_told.2)
    by_made task port port' old new status (Err (Failed error)) honest few runs closed there is as_told certain =
        absurd (not_err status _ as_told)

    pub makes : (task : Serving) (port port' : Option (Port S)) (old new : Parts g) (status : ℕ) → IsHonest g
        → task.limit ≤ limit → IfSome port (Runs s told) → task.new ≡ true → old.intake ≡ None → IsSome old.lying
        → Serves s task port port' old new (Ok status) → new.is_certain ≡ true
        → IsServiceBy limit [] old new (AreOfPort s limit [] told port') × (new.lying ≢ Some None)
    makes task None port' old new status honest few runs new_one closed there is certain =
        absurd (not_err status _ is.2)
    makes task (Some port) port' old new status honest few runs new_one closed there (after, same, serves) certain =
        elim serves [
          | inl much ↦ absurd (not_err status _ much.3)
          | inr more ↦ elim more [
            | inl without ↦ absurd without.told
            | inr is ↦
                subst (λ p. IsServiceBy limit [] old new (AreOfPort s limit [] told p) × (new.lying ≢ Some None))
                (sym same)
                (by_made task port after old new status is.1 honest few runs closed there
                (subst (λ b. IsServedOrRefused s (not b) task.limit most_asked port after None None old new is.1)
                new_one is.2.steps) is.3 certain)
          ]
        ]

  -- ---- visits

  -- where no files lie no register is visited
  not_visited : (errand : Errand) (out out' : Outputs) (between new : Option (Option (Files D))) (came : Visited)
      (opened : Result (Held (FileStore D g)) Unopened) → opened ≡ Err (untouched Missing)
      → IfErr opened (λ it. StaysIn g (Some None) between it.fault it.was_taken)
      → GoesOn errand out out' between new opened came → new ≡ Some None
  not_visited errand out out' between new came (Ok conn) missing stays goes = absurd (not_err conn _ missing)
  not_visited errand out out' between new came (Err it) missing stays goes =
      goes.3 ∙ subst (λ (is : Unopened). StaysIn g (Some None) between is.fault is.was_taken)
      (same_err (Err it) it _ refl missing) stays

  -- the database of a register lies there again
  left_there : (old new : Option (Option (Files D))) (requests : List Request) → LeavesDatabase g old new
      → Lie old (λ files. HoldRegisterWithLog g files 0 requests)
      → Lie new (λ files. HoldRegisterWithLog g files 0 requests)
  left_there old new requests leaves is =
      let hold = is.2 in
      let again = leaves hold.db (is.0, is.1, hold.held) in
      (again.0, again.1, record { db = hold.db; register = hold.register; held = again.2 })

  -- the register was opened, an errand to it was done or refused, and it was closed
  by_visit : (errand : Errand) (out out' : Outputs) (old new : Parts g) (came : Visited) (requests : List Request)
      (told : Bool) → is_refused came.done ≡ told → IsHonest g → firsts requests ≡ requests
      → VisitsRegister errand out out' old new came → new.is_certain ≡ true
      → Lie old.lying (λ files. HoldRegisterWithLog g files 0 requests)
      → Lie new.lying (λ files. HoldRegisterWithLog g files 0 requests)
  by_visit errand out out' old new came requests true told honest are visits certain is =
      left_there old.lying new.lying requests (visits.left honest certain told) is
  by_visit errand out out' old new came requests false told honest are visits certain is =
      elim (by_version (meaning errand).is_for_earlier) [
        | inl earlier ↦ absurd (true≢false (sym (visits.current honest earlier 0 requests is) ∙ told))
        | inr fits ↦
            let hold = is.2 in
            let there : LiesFor g errand old.lying 0 requests = (
              are,
              (
                is.0,
                is.1,
                record {
                  db = hold.db;
                  register = fits requests hold.db hold.register;
                  held = hold.held;
                },
              ),
            ) in
            (visits.kept honest certain told 0 requests there).1
      ]

  visited : (errand : Errand) (out out' : Outputs) (old new : Parts g) (came : Visited)
      (requests : List Request) → IsHonest g → LiesRegister old requests
      → VisitsRegister errand out out' old new came → new.is_certain ≡ true
      → LiesRegister new requests × AreNotGone old.lying new.lying
  visited errand out out' old new came requests honest lies visits certain = elim lies.there.1 [
    | inl is ↦
        let kept =
        by_visit errand out out' old new came requests (is_refused came.done) refl honest lies.there.0 visits certain is
        in (
          record { closed = visits.is_closed; certain = certain; there = (lies.there.0, inl kept) },
          λ gone. some_lie new.lying (λ files. HoldRegisterWithLog g files 0 requests) kept gone,
        )
    | inr none ↦
        let place = visits.visits in
        let gone =
        not_visited errand out out' place.between new.lying came place.opened (place.opens.absent refl none.0)
        (subst (λ l. IfErr place.opened (λ it. StaysIn g l place.between it.fault it.was_taken)) none.0
        place.opens.refused) place.goes in (
          record { closed = visits.is_closed; certain = certain; there = (lies.there.0, inr (gone, none.1)) },
          λ _. none.0,
        )
  ]

  -- what lay in a place lies there after nothing was done
  same_lies : (old mid new : Parts g) (requests : List Request) → new ≡ mid
      → (mid.is_certain ≡ true → LiesRegister mid requests × AreNotGone old.lying mid.lying) → new.is_certain ≡ true
      → LiesRegister new requests × AreNotGone old.lying new.lying
  same_lies old mid new requests same lies certain =
      subst (λ p. LiesRegister p requests × AreNotGone old.lying p.lying) (sym same)
      (lies (sym (ap (λ (p : Parts g). p.is_certain) same) ∙ certain))

  by_told : (name : Bor (List ℕ)) (errand : Errand) (done : Result (Unit {0}) Why) (holding : Holding)
      (out out' : Outputs) (old mid new : Parts g) (result : Result ℕ NotDone) (requests : List Request) → IsHonest g
      → (mid.is_certain ≡ true → LiesRegister mid requests × AreNotGone old.lying mid.lying)
      → IsVisitTold name errand done holding out out' mid new result → new.is_certain ≡ true
      → LiesRegister new requests × AreNotGone old.lying new.lying
  by_told name errand (Ok done) holding out out' old mid new result requests honest lies told certain =
      same_lies old mid new requests told.2 lies certain
  by_told name errand (Err why) holding out out' old mid new result requests honest lies told certain =
      let refusal : Refusal = record { why = why; holding = holding } in
      by_wanted (is_not_earlier why) told
      (λ (current : VisitsCurrent name refusal out out' mid new result).
      let visits = current.3 in
      let before = lies (visits.certain certain) in
      let is =
      visited (asked.Check None) (outputs current.0 out.pages) (outputs current.1 out'.pages) mid new current.2
      requests honest before.0 visits certain in
      (is.0, λ gone. before.1 (is.1 gone)))
      (λ (fault : IsFaultTold name errand refusal out.text out'.text result × (out'.pages ≡ out.pages) × (new ≡ mid)).
      same_lies old mid new requests fault.2 lies certain)

  visit : {name : Bor (List ℕ)} (limit : ℕ) (errand : Errand) (out out' : Outputs) (old new : Parts g)
      (result : Result ℕ NotDone) (requests : List Request) (Are : List Service → Type 0) → Are [] → IsHonest g
      → LiesRegister old requests → Visits name errand out out' old new result → new.is_certain ≡ true
      → IsServiceBy limit requests old new Are
  visit {name} limit errand out out' old new result requests Are none honest lies is certain =
      let visits = is.3 in
      let left =
      by_told name errand is.2.done is.2.holding is.0 out' old is.1 new result requests honest
      (visited errand out is.0 old is.1 is.2 requests honest lies visits) is.4 certain in
      record { services = []; are = none; after = requests; in_turn = refl; lies = left.0; stays = left.1 }

  module _ {S N : Type 0} (s : Streams S N) (limit : ℕ) (told : List Answer) (old new : Means g S)
      (requests : List Request) (honest : IsHonest g) (lies : LiesRegister old.process requests)
      (runs : IfSome old.port (Runs s told)) where
    abbrev Are : List Service → Type 0
    Are = AreOfPort s limit requests told new.port

    left : new.port ≡ old.port → Are []
    left = same_port s limit requests told old.port new.port runs

    does : (what : Task) (result : Result ℕ NotDone) → IsLimited limit what → Does s what old new result
        → new.process.is_certain ≡ true → IsServiceBy limit requests old.process new.process Are
    does (task.Run most) result covered is certain =
        stayed limit old.process new.process requests Are (left (ap (λ (m : Means g S). m.port) is.0)) lies
        (ap (λ (m : Means g S). m.process) is.0)
    does (task.Serve serving) result covered is certain =
        serve_task s told limit serving old.port new.port old.process new.process result requests honest covered runs
        lies is.1 certain
    does (task.Visit name errand) result covered is certain =
        by_wanted (is_wanted errand) is
        (λ (v : (new ≡ record old { out = new.out; pages = new.pages; process = new.process })
        × Visits name errand (outputs old.out old.pages) (outputs new.out new.pages) old.process new.process result).
        visit limit errand (outputs old.out old.pages) (outputs new.out new.pages) old.process new.process result
        requests Are (left (ap (λ (m : Means g S). m.port) v.0)) honest lies v.1 certain)
        (λ (none : IsNoFiler old new result).
        stayed limit old.process new.process requests Are (left (ap (λ (m : Means g S). m.port) none.0)) lies
        (ap (λ (m : Means g S). m.process) none.0))
    does (task.Lint filer form files) result covered is certain =
        stayed limit old.process new.process requests Are (left (ap (λ (m : Means g S). m.port) is.0)) lies
        (ap (λ (m : Means g S). m.process) is.0)

    pub performs : (what : Task) (status : ℕ) → IsLimited limit what → Performs s what old new status
        → new.process.is_certain ≡ true → IsServiceBy limit requests old.process new.process Are
    performs what status covered is certain = does what is.0 covered is.1 certain
