-- What a task of `outbox` is among deeds, by the errands that it does.
use Rattle.std.proofs.Common.{◌≡◌, ◌≢◌, ◌∙◌, ℕ, Bool, true, false, List, [], ◌∷◌, ◌++◌, map, Option, Some, None, Result}
use Rattle.std.proofs.Common.{Ok, Err, refl, sym, ap, subst, inl, inr, true≢false}
use Rattle.std.specs.Borrow.{Bor}
use Rattle.std.specs.Prelude.{◌==◌, IsSome}
use Rattle.sqlite_disk.specs.declared.Disk.{Ghosts}
use Rattle.sqlite.specs.Files.{over_files}
use Rattle.sqlite_store.specs.declared.store.FileStore.{FileStore}
use Rattle.filing_model.specs.Prefix.{IsPrefixOf}
use Rattle.sqlite.specs.Effect.{Database}
use Rattle.sqlite.specs.Schema.{Schema}
use Rattle.sqlite.specs.declared.error.Error.{Error}
use Rattle.table_rows.specs.Tables.{no_schema}
use Rattle.outbox_tables.specs.Entries.{Contents, empty}
use Rattle.outbox_tables.specs.Rows.{IsOutboxOf}
use Rattle.outbox_tables.specs.Schema.{outbox_tables}
use Rattle.outbox_core.specs.declared.fault.PutFault.{PutFault}
use Rattle.outbox_core.specs.OutboxParts.{OutboxParts, HasEntries}
use Rattle.database_places.specs.Places.{IsHonest}
use Rattle.outbox_process.specs.Dials.{Traffic}
use Rattle.outbox_process.specs.Putting.{IsPutTold}
use Rattle.outbox_process.specs.declared.fault.Why.{Why}
use Rattle.outbox_process.specs.declared.fault.Why.TheVariants as failed
use Rattle.outbox_process.specs.declared.beginning.Beginning.TheVariants.{Found, Made, Migrated}
use Rattle.outbox_process.specs.declared.errand.Done.{Done}
use Rattle.outbox_process.specs.declared.errand.Done.TheVariants as outcome
use Rattle.outbox_process.specs.declared.errand.Errand.{Errand}
use Rattle.outbox_process.specs.declared.errand.Errand.TheVariants as errand
use Rattle.outbox_process.specs.declared.errand.Which.{Which}
use Rattle.outbox_process.specs.declared.errand.Which.TheVariants.{Next, Entry, All}
use Rattle.outbox_process.specs.declared.target.Target.{Target}
use Rattle.outbox_process.specs.Errands.{DoesErrand, Sends, answer}
use Rattle.outbox_process.specs.Process.{Parts, HoldOutboxWithLog, Keeps, OpensProcess, ClosesProcess}
use Rattle.outbox_commands.specs.Puts.{PutsInTurn, PutsOne, PutsReports, PutsThem, ended_as, put_of}
use Rattle.outbox_commands.specs.Status.{status_by}
use Rattle.outbox_commands.specs.Tasks.{Does, MakesOutbox, MigratesOutbox}
use Rattle.outbox_commands.specs.Visits.{VisitsOutbox}
use Rattle.outbox_commands.specs.declared.fault.NotDone.{NotDone}
use Rattle.outbox_commands.specs.declared.fault.NotDone.TheVariants as fault
use Rattle.outbox_commands.specs.declared.options.Task.{Task}
use Rattle.outbox_commands.specs.declared.options.Task.TheVariants.{Init, Put, Migrate, Send, Ask, Status, Show, Body}
use Rattle.outbox_commands.specs.declared.putting.ReportFile.{ReportFile}
use Rattle.program_runs.specs.Deeds.{Deed, Added}
use Rattle.program_runs.specs.Runs.{LiesClosed, IsRunBy, putting, AreOfPutting, AreOfSend, AreOfAsk, AreOfNetwork}
use Rattle.program_runs.specs.Runs.{AreOfRun, IsFor}
use Rattle.program_runs.proofs.Carried.{no_deeds, put_deeds}
use Rattle.program_runs.proofs.Joining.{done_join}
use Rattle.program_runs.proofs.Lies.{Brings, Goes, performed, visited, keeps_of, kept_lies, refused, run_by, some_lie}
use Rattle.program_runs.proofs.Looks.{looks, ask_brings}
use Rattle.program_runs.proofs.Puts.{AreBy, put_brings}
use Rattle.program_runs.proofs.Results.{not_err}
use Rattle.program_runs.proofs.Sends.{send_entry_brings, send_next_brings, send_all_brings}
use Rattle.program_runs.proofs.Statuses.{failed_by, why_failed, all_put}

abbrev deed_of : Target → ReportFile → Deed
deed_of target report = Added report.key target.number report.body.items

-- ---- the first of the deeds of some reports

-- these are the first of all, or all if it ended so
abbrev AreAsEnded : List Deed → Result (Unit {0}) Why → List Deed → Type 0
AreAsEnded all ended deeds = IsPrefixOf deeds all × (ended ≡ Ok tt → deeds ≡ all)

-- one more report was put in, and then the first of others
goes_on : (deed : Deed) (others first rest : List Deed) (ended : Result (Unit {0}) Why) → first ≡ deed ∷ []
    → AreAsEnded others ended rest → AreAsEnded (deed ∷ others) ended (first ++ rest)
goes_on deed others first rest ended is are =
    subst (λ (front : List Deed). AreAsEnded (deed ∷ others) ended (front ++ rest)) (sym is) (
      (are.0.0, ap (λ (deeds : List Deed). deed ∷ deeds) are.0.1),
      λ ok. ap (λ (deeds : List Deed). deed ∷ deeds) (are.1 ok),
    )

-- one was put in or not, and none after it
begins : (deed : Deed) (others : List Deed) (came : Result ℕ PutFault) (deeds : List Deed) → AreBy came deed deeds
    → IsPrefixOf deeds (deed ∷ others)
begins deed others (Ok id) deeds is =
    subst (λ (front : List Deed). IsPrefixOf front (deed ∷ others)) (sym is) (others, refl)
begins deed others (Err fault) deeds is =
    subst (λ (front : List Deed). IsPrefixOf front (deed ∷ others)) (sym is) (deed ∷ others, refl)

-- a put that is answered put the entry in
answered : (deed : Deed) (deeds : List Deed) (puts : Result ℕ PutFault) (out out' : Option (List ℕ))
    (told : Result ℕ Why) (came : Result Done Why) → IsPutTold puts out out' told
    → came ≡ answer outcome.Put told → Ok tt ≡ ended_as came → AreBy puts deed deeds → deeds ≡ deed ∷ []
answered deed deeds (Ok id) out out' told came is by ends are = are
answered deed deeds (Err why) out out' told came is by ends are =
    absurd (not_err tt (failed.Put why)
    (ends ∙ ap ended_as by ∙ ap (λ (t : Result ℕ Why). ended_as (answer outcome.Put t)) is.0))

-- nothing was sent
none_sent : (w : Which) → AreOfSend w []
none_sent Next = (0, tt)
none_sent (Entry id) = tt
none_sent All = ([], refl)

-- the database of an outbox has tables
not_bare : {X : Type 0} (it : Contents) (db : Database) → IsOutboxOf it db → db.schema ≡ no_schema → X
not_bare it db is none =
    let begins = is.rows.declared.begins in
    let tables : [] ≡ outbox_tables ++ begins.tables = ap (λ (s : Schema). s.tables) (sym none ∙ begins.is) in
    absurd (cc)

-- of a task that makes no connection
no_connection : (net net' : Traffic) → net' ≡ net → (deeds : List Deed) → deeds ≡ [] → AreOfNetwork net net' deeds
no_connection net net' same deeds none = subst (AreOfNetwork net net') (sym none) (no_deeds net net' same)

puts_quietly : (files : List (Bor (List ℕ))) (text : Option (Bor (List ℕ))) (target : Target) (net net' : Traffic)
    (status : ℕ) → net' ≡ net → (deeds : List Deed) → AreOfPutting files text target status deeds
    → AreOfNetwork net net' deeds
puts_quietly files text target net net' status same deeds are = elim are [
  | inl none ↦ no_connection net net' same deeds none.1
  | inr some ↦ put_deeds net net' target some.0 deeds same some.2
]

module _ {D : Type 0} {g : Ghosts D} where
  was_put : (target : Target) (report : ReportFile) (net : Traffic) (out out' : Option (List ℕ)) (old new : Parts g)
      → (puts : PutsOne (put_of target report) net out out' old new (Ok tt)) → (deeds : List Deed)
      → AreBy puts.performs.does.0.1.came (deed_of target report) deeds → deeds ≡ deed_of target report ∷ []
  was_put target report net out out' old new puts deeds are =
      let does = puts.performs.does.0 in
      answered (deed_of target report) deeds does.1.came out out' does.0 puts.came does.1.told does.2 puts.ends are

  -- nothing was done
  stayed : (old new : Parts g) (it : Contents) (Are : List Deed → Type 0) → Are [] → LiesClosed old it → new ≡ old
      → IsRunBy it old new Are
  stayed old new it Are none lies same = record {
    deeds = [];
    are = none;
    after = it;
    done = refl;
    lies = subst (λ p. LiesClosed p it) (sym same) lies;
    stays = λ gone. sym (ap (λ (p : Parts g). p.lying) same) ∙ gone;
  }

  -- ---- one errand

  -- An outbox was visited, if the errand brings each outbox to another one by such deeds.
  visits : (what : Errand) (strict : Bool) (net net' : Traffic) (out out' : Option (List ℕ)) (old new : Parts g)
      (status : ℕ) (it : Contents) (Are : List Deed → Type 0) → IsHonest g → LiesClosed old it
      → VisitsOutbox g strict what net net' out out' old new status → new.is_certain ≡ true
      → ((before after : OutboxParts (FileStore D g)) (came : Result Done Why)
      → HasEntries over_files before it.entries → before.filer ≡ it.filer
      → DoesErrand over_files what net net' before after out out' came → Brings before after it Are)
      → (net' ≡ net → Are []) → IsRunBy it old new Are
  visits what strict net net' out out' old new status it Are honest lies visit certain brings none = elim visit [
    | inl does ↦ visited old does.opened does.done new does.closed it Are honest lies does.opens does.closes certain
        (λ keeps sure. performed what net net' out out' does.opened does.done does.came it Are does.performs keeps sure
        (λ has filer.
        brings does.performs.before does.performs.after does.came has filer does.performs.does))
    | inr refusal ↦
        refused Found refusal.0.refusal it old new Are (none refusal.1) honest lies refusal.0.opens certain
  ]

  -- by what is sent
  sends : (w : Which) (net net' : Traffic) (out out' : Option (List ℕ)) (it : Contents) → IsHonest g
      → (before after : OutboxParts (FileStore D g)) (came : Result Done Why)
      → HasEntries over_files before it.entries → before.filer ≡ it.filer
      → Sends over_files w net net' before after out out' came
      → Brings before after it (λ deeds. AreOfSend w deeds × AreOfNetwork net net' deeds)
  sends Next net net' out out' it honest before after came has filer is =
      send_next_brings net net' before after it out out' is.0 honest has filer is.1
  sends (Entry id) net net' out out' it honest before after came has filer is =
      send_entry_brings id net net' before after it out out' is.0 honest has filer is.1
  sends All net net' out out' it honest before after came has filer is =
      send_all_brings net net' before after it out out' is.0 honest has filer is.1

  -- ---- reports are put in

  -- a report was put in, or that failed
  put_one : (target : Target) (report : ReportFile) (net : Traffic) (out out' : Option (List ℕ)) (old new : Parts g)
      (ended : Result (Unit {0}) Why) (it : Contents) → IsHonest g
      → (puts : PutsOne (put_of target report) net out out' old new ended) → Keeps old it → new.is_certain ≡ true
      → Goes old new it (AreBy puts.performs.does.0.1.came (deed_of target report))
  put_one target report net out out' old new ended it honest puts keeps sure =
      let leaves = puts.looks honest in
      let told = puts.performs.does.0.1 in
      let by = performed (put_of target report) net net out out' old puts.done puts.came it
      (AreBy told.came (deed_of target report)) puts.performs keeps (leaves.certain sure)
      (λ has filer.
      put_brings puts.performs.before puts.performs.after it report.key target.number report.body.items told.came
      honest has filer told.puts) in
      record {
        deeds = by.deeds;
        are = by.are;
        after = by.after;
        done = by.done;
        keeps = leaves.kept by.after by.keeps;
      }

  one_certain : (put : Errand) (net : Traffic) (out out' : Option (List ℕ)) (old new : Parts g)
      (ended : Result (Unit {0}) Why) → IsHonest g → PutsOne put net out out' old new ended
      → new.is_certain ≡ true → old.is_certain ≡ true
  one_certain put net out out' old new ended honest puts sure =
      sym puts.performs.certain ∙ (puts.looks honest).certain sure

  turns_certain : (puts : List Errand) (net : Traffic) (out out' : Option (List ℕ)) (old new : Parts g)
      (ended : Result (Unit {0}) Why) → IsHonest g → PutsInTurn puts net out out' old new ended
      → new.is_certain ≡ true → old.is_certain ≡ true
  turns_certain [] net out out' old new ended honest is sure = sym (ap (λ (p : Parts g). p.is_certain) is.1) ∙ sure
  turns_certain (put ∷ puts) net out out' old new ended honest is sure = elim is [
    | inl one ↦ one_certain put net out one.0 old one.1 (Ok tt) honest one.2
        (turns_certain puts net one.0 out' one.1 new ended honest one.3 sure)
    | inr last ↦ one_certain put net out out' old new (Err last.0) honest last.1 sure
  ]

  -- reports were put in, one after another
  turns : (target : Target) (reports : List ReportFile) (net : Traffic) (out out' : Option (List ℕ)) (old new : Parts g)
      (ended : Result (Unit {0}) Why) (it : Contents) → IsHonest g
      → PutsInTurn (map (put_of target) reports) net out out' old new ended → Keeps old it → new.is_certain ≡ true
      → Goes old new it (AreAsEnded (putting target reports) ended)
  turns target [] net out out' old new ended it honest is keeps sure = record {
    deeds = [];
    are = (([], refl), λ _. refl);
    after = it;
    done = refl;
    keeps = subst (λ p. Keeps p it) (sym is.1) keeps;
  }
  turns target (report ∷ reports) net out out' old new ended it honest is keeps sure = elim is [
    | inl one ↦
        let mid = turns_certain (map (put_of target) reports) net one.0 out' one.1 new ended honest one.3 sure in
        let first = put_one target report net out one.0 old one.1 (Ok tt) it honest one.2 keeps mid in
        let rest = turns target reports net one.0 out' one.1 new ended first.after honest one.3 first.keeps sure in
        record {
          deeds = first.deeds ++ rest.deeds;
          are = goes_on (deed_of target report) (putting target reports) first.deeds rest.deeds ended
              (was_put target report net out one.0 old one.1 one.2 first.deeds first.are) rest.are;
          after = rest.after;
          done = done_join it first.after rest.after first.deeds rest.deeds first.done rest.done;
          keeps = rest.keeps;
        }
    | inr last ↦
        let one = put_one target report net out out' old new (Err last.0) it honest last.1 keeps sure in
        record {
          deeds = one.deeds;
          are = (
            begins (deed_of target report) (putting target reports) last.1.performs.does.0.1.came one.deeds one.are,
            λ ok. absurd (not_err tt last.0 (sym ok ∙ last.2)),
          );
          after = one.after;
          done = one.done;
          keeps = one.keeps;
        }
  ]

  puts_them : (target : Target) (reports : List ReportFile) (net : Traffic) (out out' : Option (List ℕ))
      (old new : Parts g) (status : ℕ) (it : Contents) → IsHonest g → LiesClosed old it
      → (puts : PutsThem g (map (put_of target) reports) net out out' old new status) → new.is_certain ≡ true
      → IsRunBy it old new (AreAsEnded (putting target reports) puts.turns.0)
  puts_them target reports net out out' old new status it honest lies puts certain =
      visited old puts.opened puts.done new puts.closed it (AreAsEnded (putting target reports) puts.turns.0) honest
      lies puts.opens puts.closes certain (λ keeps sure.
      turns target reports net out out' puts.opened puts.done puts.turns.0 it honest puts.turns.1 keeps sure)

  put : {X : Type 0} (strict : Bool) (files : List (Bor (List ℕ))) (text : Option (Bor (List ℕ))) (target : Target)
      (net net' : Traffic) (out out' : Option (List ℕ)) (old new : Parts g) (result : Result X NotDone) (it : Contents)
      → IsHonest g → LiesClosed old it → PutsReports g strict files text target net net' out out' old new result
      → new.is_certain ≡ true → IsRunBy it old new (AreOfPutting files text target (status_by result))
  put strict files text target net net' out out' old new result it honest lies puts certain = elim puts [
    | inl two ↦ stayed old new it (AreOfPutting files text target (status_by result))
        (inl (failed_by result fault.ForOne two.1, refl)) lies two.2.0
    | inr read ↦ elim read.1 [
      | inl all ↦ elim all.4 [
        | inl them ↦
            let is = puts_them target all.0 net out out' old new (status_by result) it honest lies them certain in
            record {
              deeds = is.deeds;
              are = inr (all.0, all.1, is.are.0, λ done. is.are.1 (all_put them.turns.0 (sym them.turns.2 ∙ done)));
              after = is.after;
              done = is.done;
              lies = is.lies;
              stays = is.stays;
            }
        | inr refusal ↦
            let failed : status_by result ≢ 0 = λ done. why_failed refusal.0.refusal.why (sym refusal.0.says ∙ done) in
            refused Found refusal.0.refusal it old new (AreOfPutting files text target (status_by result))
            (inl (failed, refl)) honest lies refusal.0.opens certain
      ]
      | inr none ↦ stayed old new it (AreOfPutting files text target (status_by result))
          (inl (failed_by result none.0 none.1, refl)) lies none.3.0
    ]
  ]

  -- ---- an outbox is made

  -- one without entries
  made : (filer : Bor (List ℕ)) (old between new : Parts g) (closed : Result (Unit {0}) Error) → IsHonest g
      → old.outbox ≡ None → IsSome old.lying → OpensProcess g (Made filer) old between (Ok tt)
      → ClosesProcess g between new closed → Keeps new (empty filer.now)
  made filer old between new closed honest shut there opens closes =
      (closes.leaves honest).kept (empty filer.now) (opens.keeps honest (empty filer.now) (shut, there, refl))

  pub makes : (filer : Bor (List ℕ)) (old new : Parts g) → IsHonest g → old.outbox ≡ None → IsSome old.lying
      → MakesOutbox g filer old new 0 → new.is_certain ≡ true
      → LiesClosed new (empty filer.now) × (new.lying ≢ Some None)
  makes filer old new honest closed there is certain = elim is [
    | inl no_filer ↦ absurd (true≢false (ap (λ (status : ℕ). status == 0) no_filer.2))
    | inr others ↦ elim others [
      | inl done ↦
          let it = empty filer.now in
          let keeps = made filer old done.0 new done.1 honest closed there done.2 done.3 in
          let lie = kept_lies new it done.3.is_closed certain keeps in (
            record { closed = done.3.is_closed; certain = certain; there = inl lie },
            λ none. some_lie new.lying (λ files. HoldOutboxWithLog g files it) lie none,
          )
      | inr refusal ↦ absurd (why_failed refusal.refusal.why (sym refusal.says))
    ]
  ]

  -- it is not made over one that lies there
  inits : (filer : Bor (List ℕ)) (old new : Parts g) (status : ℕ) (it : Contents) → IsHonest g → LiesClosed old it
      → filer.now ≡ it.filer → MakesOutbox g filer old new status → new.is_certain ≡ true
      → IsRunBy it old new (λ deeds. deeds ≡ [])
  inits filer old new status it honest lies is_for is certain = elim is [
    | inl no_filer ↦ stayed old new it (λ deeds. deeds ≡ []) refl lies no_filer.1
    | inr others ↦ elim others [
      | inl done ↦ elim lies.there [
        | inl there ↦
            let hold = there.2 in
            let read = done.2.read honest lies.closed there.0 there.1 in
            not_bare it hold.db hold.outbox
            (subst (λ (db : Database). db.schema ≡ no_schema) (read.2.only hold.db hold.held) read.3)
        | inr none ↦
            let same : empty filer.now ≡ it = λ i. record { filer = is_for i; entries = sym none.1 i } in
            let keeps =
            made filer old done.0 new done.1 honest lies.closed (subst (λ l. IsSome l) (sym none.0) refl) done.2 done.3
            in
            run_by it it old new (λ deeds. deeds ≡ []) [] refl refl done.3.is_closed certain
            (subst (Keeps new) same keeps)
      ]
      | inr refusal ↦
          refused (Made filer) refusal.refusal it old new (λ deeds. deeds ≡ []) refl honest lies refusal.opens certain
    ]
  ]

  -- ---- all tasks

  -- an outbox of this version is not migrated
  migrates : (out out' : Option (List ℕ)) (old new : Parts g) (status : ℕ) (it : Contents) → IsHonest g
      → LiesClosed old it → MigratesOutbox g out out' old new status → new.is_certain ≡ true
      → IsRunBy it old new (λ deeds. deeds ≡ [])
  migrates out out' old new status it honest lies is certain = elim is [
    | inl done ↦ elim lies.there [
      | inl there ↦
          absurd (done.2.current honest refl lies.closed lies.certain it (keeps_of old it lies.closed there)).0
      | inr none ↦ absurd (not_err tt _ (done.2.absent lies.closed refl none.0))
    ]
    | inr refusal ↦ refused Migrated refusal.0 it old new (λ deeds. deeds ≡ []) refl honest lies refusal.2 certain
  ]

  -- more is known of the deeds
  with_also : (it : Contents) (old new : Parts g) (Are Also : List Deed → Type 0)
      → ((deeds : List Deed) → Are deeds → Also deeds) → IsRunBy it old new Are
      → IsRunBy it old new (λ deeds. Are deeds × Also deeds)
  with_also it old new Are Also also by = record {
    deeds = by.deeds;
    are = (by.are, also by.deeds by.are);
    after = by.after;
    done = by.done;
    lies = by.lies;
    stays = by.stays;
  }

  put_net : {X : Type 0} (strict : Bool) (files : List (Bor (List ℕ))) (text : Option (Bor (List ℕ))) (target : Target)
      (net net' : Traffic) (out out' : Option (List ℕ)) (old new : Parts g) (result : Result X NotDone)
      → PutsReports g strict files text target net net' out out' old new result → net' ≡ net
  put_net strict files text target net net' out out' old new result puts = elim puts [
    | inl two ↦ two.2.1
    | inr read ↦ elim read.1 [ inl all ↦ all.3 | inr none ↦ none.3.1 ]
  ]

  -- a task that shows something
  shows : (what : Errand) (net net' : Traffic) (out out' : Option (List ℕ)) (old new : Parts g) (status : ℕ)
      (it : Contents) → IsHonest g → LiesClosed old it
      → VisitsOutbox g false what net net' out out' old new status → new.is_certain ≡ true
      → ((before after : OutboxParts (FileStore D g)) (came : Result Done Why)
      → HasEntries over_files before it.entries → before.filer ≡ it.filer
      → DoesErrand over_files what net net' before after out out' came
      → Brings before after it (λ deeds. (deeds ≡ []) × AreOfNetwork net net' deeds))
      → IsRunBy it old new (λ deeds. (deeds ≡ []) × AreOfNetwork net net' deeds)
  shows what net net' out out' old new status it honest lies does certain brings =
      visits what false net net' out out' old new status it (λ deeds. (deeds ≡ []) × AreOfNetwork net net' deeds)
      honest lies does certain brings (λ same. (refl, no_deeds net net' same))

  pub run : {X : Type 0} (task : Task) (net net' : Traffic) (out out' : Option (List ℕ)) (old new : Parts g)
      (result : Result X NotDone) (it : Contents) → IsHonest g → LiesClosed old it → IsFor it.filer task
      → Does g task net net' out out' old new result → new.is_certain ≡ true
      → IsRunBy it old new (AreOfRun task net net' (status_by result))
  run (Init database filer) net net' out out' old new result it honest lies made does certain =
      with_also it old new (λ deeds. deeds ≡ []) (AreOfNetwork net net') (no_connection net net' does.1)
      (inits filer old new (status_by result) it honest lies made does.0 certain)
  run (Put database files key target strict) net net' out out' old new result it honest lies made does certain =
      let status = status_by result in
      let same = put_net strict files.items key target net net' out out' old new result does in
      with_also it old new (AreOfPutting files.items key target status) (AreOfNetwork net net')
      (puts_quietly files.items key target net net' status same)
      (put strict files.items key target net net' out out' old new result it honest lies does certain)
  run (Migrate database) net net' out out' old new result it honest lies made does certain =
      with_also it old new (λ deeds. deeds ≡ []) (AreOfNetwork net net') (no_connection net net' does.1)
      (migrates out out' old new (status_by result) it honest lies does.0 certain)
  run (Send database peer w strict) net net' out out' old new result it honest lies made does certain =
      visits (errand.Send w) strict net net' out out' old new (status_by result) it
      (λ deeds. AreOfSend w deeds × AreOfNetwork net net' deeds) honest lies does certain
      (λ before after came has filer is. sends w net net' out out' it honest before after came has filer is)
      (λ same. (none_sent w, no_deeds net net' same))
  run (Ask database peer id form) net net' out out' old new result it honest lies made does certain =
      visits (errand.Ask id form) false net net' out out' old new (status_by result) it
      (λ deeds. AreOfAsk deeds × AreOfNetwork net net' deeds) honest lies does certain
      (λ before after came has filer is.
      ask_brings form id net net' before after it out out' is.0 honest has is.1)
      (λ same. (inl refl, no_deeds net net' same))
  run (Status database) net net' out out' old new result it honest lies made does certain =
      shows errand.ShowStates net net' out out' old new (status_by result) it honest lies does certain
      (λ before after came has filer is.
      looks net net' before after it honest has is.0.1.kept is.0.1.filer is.1)
  run (Show database None) net net' out out' old new result it honest lies made does certain =
      shows errand.ShowEach net net' out out' old new (status_by result) it honest lies does certain
      (λ before after came has filer is.
      looks net net' before after it honest has is.0.1.kept is.0.1.filer is.1)
  run (Show database (Some id)) net net' out out' old new result it honest lies made does certain =
      shows (errand.ShowEntry id) net net' out out' old new (status_by result) it honest lies does certain
      (λ before after came has filer is.
      looks net net' before after it honest has is.0.1.kept is.0.1.filer is.1)
  run (Body database id) net net' out out' old new result it honest lies made does certain =
      shows (errand.ShowBody id) net net' out out' old new (status_by result) it honest lies does certain
      (λ before after came has filer is.
      looks net net' before after it honest has is.0.1.kept is.0.1.filer is.1)
