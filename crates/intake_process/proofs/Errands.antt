-- What an errand does follows from what its task did.
use Rattle.std.proofs.Common.{[], append-nil, ◌≡◌, ◌⊎◌, Bool, ℕ, true, false, true≢false, List, length, Option, Some}
use Rattle.std.proofs.Common.{None, Result, Ok, Err, IsSome, IfErr, OnOk, refl, sym, ◌∙◌, ap, subst, inl, inr, arith}
use Rattle.std.specs.Prelude.{IfSome, is_some, option_map}
use Rattle.std.specs.Borrow.{Bor}
use Rattle.std.specs.Io.KnownBytes.{Appends}
use Rattle.sqlite.specs.Store.{Ghosts}
use Rattle.sqlite.specs.Held.{Held, state}
use Rattle.sqlite.specs.State.{State, HasCleanDisk, Survives}
use Rattle.sqlite.specs.Schema.{Schema}
use Rattle.sqlite_schema.specs.Names.{same_name}
use Rattle.sqlite_trees.specs.Tree.{Trees}
use Rattle.table_rows.specs.Standing.{CommitsNothing, HasCommitted}
use Rattle.table_rows.specs.declared.fault.StoreFault.{StoreFault}
use Rattle.table_rows.proofs.StepLemmas.{nothing_left}
use Rattle.filing_model.specs.Request.{Request}
use Rattle.filing_model.specs.Register.{kept}
use Rattle.register_rows.specs.Received.{Received}
use Rattle.register_tables.specs.declared.opening.form.Earlier.{Earlier}
use Rattle.register_tables.specs.declared.opening.form.Earlier.TheVariants.{Second, Third, Fourth}
use Rattle.register_tables.specs.declared.opening.Counts.{Counts}
use Rattle.register_tables.specs.declared.fault.OpenFault.{OpenFault}
use Rattle.register_tables.specs.Earlier.{IsAlone, is_blocked}
use Rattle.register_tables.specs.Migrating as tables
use Rattle.register_tables.specs.Opening.{IsReadAsRegister}
use Rattle.register_tables.specs.Refusals.{GivesBackOpening}
use Rattle.register_tables.specs.Registers.{ForRows, IsRegisterOf}
use Rattle.register_store.specs.Calls.{KeepsStore, OpensOrGivesBack}
use Rattle.register_store.specs.Moments.{HasMoments}
use Rattle.register_store.specs.Store.{StoreParts, HasRequests, shows}
use Rattle.register_extracts.specs.Dated.{ForDatedRows}
use Rattle.register_extracts.specs.declared.digest.Digest.{Digest}
use Rattle.register_extracts.specs.declared.facts.record.FactForm.{FactForm}
use Rattle.register_extracts.specs.declared.fault.Why.{Why}
use Rattle.register_extracts.specs.declared.fault.Why.TheVariants as why
use Rattle.register_extracts.specs.declared.records.Wanted.{Wanted}
use Rattle.register_extracts.specs.Exports.{ExportsFacts}
use Rattle.register_extracts.specs.Faults.{IsPrintingWhy, IsReadingWhy, UnlessRefused}
use Rattle.register_extracts.specs.Records.{export_text}
use Rattle.register_extracts.specs.Registers.{DigestsRegister}
use Rattle.register_extracts.specs.Views.{view_digest}
use Rattle.register_pages.specs.Pages.{File, WritesSite}
use Rattle.register_pages.specs.Site.{WritesPages}
use Rattle.intake_process.specs.declared.tasks.errand.Errand.{Errand}
use Rattle.intake_process.specs.declared.tasks.errand.Errand.TheVariants as asked
use Rattle.intake_process.specs.declared.tasks.errand.Question.{Question}
use Rattle.intake_process.specs.declared.tasks.errand.Question.TheVariants as question
use Rattle.intake_process.specs.Errands.{AreMomentsBy, FillsFolder, IsBegun, IsQuiet, IsQuietBy, IsReadBy, IsRegisterBy}
use Rattle.intake_process.specs.Errands.{IsRegisterFor, IsTrueOf, MayFail, RunsErrand, Says, Tells, is_broken_off}
use Rattle.intake_process.specs.Errands.{meaning}
use Rattle.intake_process.specs.Extracting.{digest_line}
use Rattle.intake_process.specs.Fault.{is_refusal, is_refused}
use Rattle.intake_process.specs.Migrating.{migrated_line}
use Rattle.intake_process.specs.Tasks.{AnswersQuestion, KeepsRegister, PrintsNothing}

-- a disk that is clean after a call was clean before it
pub clean_before : (old new : State) {Commits : Trees → Type 0} → Survives old new Commits → HasCleanDisk new
    → HasCleanDisk old
clean_before old new survives clean = omega (arith, survives.clean, clean)

-- ---- a fault of any errand

-- of a register that was opened
may_ended : (errand : Errand) (requests : List Request) (moments : List (Option ℕ)) (it : Why) → is_refusal it ≡ false
    → (meaning errand).may it → IsTrueOf (meaning errand) requests moments it → MayFail errand requests moments it
may_ended errand requests moments (why.Files fault) ends may is = absurd (true≢false ends)
may_ended errand requests moments (why.Open fault) ends may is = absurd (true≢false ends)
may_ended errand requests moments (why.Migrate fault) ends may is = absurd (true≢false ends)
may_ended errand requests moments other ends may is = (may, is)

pub says_ended : {S : Type 0} (g : Ghosts S) (errand : Errand) (old new : Held S) (it : Why) → is_refusal it ≡ false
    → (meaning errand).may it → Says g errand old new it
says_ended g errand old new (why.Files fault) ends may = absurd (true≢false ends)
says_ended g errand old new (why.Open fault) ends may = absurd (true≢false ends)
says_ended g errand old new (why.Migrate fault) ends may = absurd (true≢false ends)
says_ended g errand old new other ends may = may

-- nothing was printed, however it prints
quiet_by : (begun : Option (ℕ → List Request → List (Option ℕ) → List ℕ)) (out out' : Option (List ℕ)) (it : Why)
    → out' ≡ out → IsQuietBy begun out out' it
quiet_by None out out' it same = inr same
quiet_by (Some begun) out out' it same = λ _. same

pub no_print : (errand : Errand) (out out' : Option (List ℕ)) (it : Why) → out' ≡ out → IsQuiet errand out out' it
no_print errand = quiet_by (meaning errand).begun

begun_by : (begun : Option (ℕ → List Request → List (Option ℕ) → List ℕ)) (it : Why)
    (Holds : (ℕ → List Request → List (Option ℕ) → List ℕ) → Type 0) → is_broken_off it ≡ false
    → IfSome begun (λ begun. is_broken_off it ≡ true → Holds begun)
begun_by None it Holds not = tt
begun_by (Some begun) it Holds not = λ is. absurd (true≢false (sym is ∙ not))

-- nothing was begun
pub no_begin : (errand : Errand) (requests : List Request) (moments : List (Option ℕ)) (out out' : Option (List ℕ))
    (it : Why) → is_broken_off it ≡ false → IsBegun errand requests moments out out' it
no_begin errand requests moments out out' it =
    begun_by (meaning errand).begun it (λ begun. (many : ℕ) × Appends out out' (begun many requests moments))

refused_whole : (it : Why) → is_refusal it ≡ true → is_broken_off it ≡ false
refused_whole (why.Files fault) is = refl
refused_whole (why.Open fault) is = refl
refused_whole (why.Migrate fault) is = refl
refused_whole other is = absurd (true≢false (sym is))

-- the database gave no register
module _ {S X : Type 0} (g : Ghosts S) (errand : Errand) (out : Option (List ℕ)) (old new : Held S) (it : Why) where
  pub refuses : is_refusal it ≡ true → (HasCleanDisk (state g new) → (old_style : ℕ) (requests : List Request)
      → IsRegisterFor errand old_style requests (state g old).now
      → (moments : List (Option ℕ)) → MayFail errand requests moments it)
      → Says g errand old new it
      → ((meaning errand).is_for_earlier ≡ false → CommitsNothing (state g old) (state g new))
      → RunsErrand {S = S} {X = X} g errand out out old new (Err it)
  refuses is may says reads = record {
    told = λ clean old_style requests firsts_are rows moments are. (
      may clean old_style requests rows moments,
      no_print errand out out it refl,
      no_begin errand requests moments out out it (refused_whole it is),
    );
    kept = λ clean not old_style requests firsts_are rows. absurd (true≢false (sym is ∙ not));
    found = λ clean not. absurd (true≢false (sym is ∙ not));
    reads = reads;
    current = λ clean _ old_style requests rows. is;
    refused = says;
    quiet = no_print errand out out it refl;
  }

-- an errand that prints all at the end has failed
module _ (errand : Errand) (whole : (meaning errand).begun ≡ None) (out out' : Option (List ℕ)) where
  pub quiet_ended : (it : Why) → PrintsNothing out out' it → IsQuiet errand out out' it
  quiet_ended it quiet = subst (λ begun. IsQuietBy begun out out' it) (sym whole) quiet

  begun_ended : (requests : List Request) (moments : List (Option ℕ)) (it : Why)
      → IsBegun errand requests moments out out' it
  begun_ended requests moments it =
      subst (λ (begun : Option (ℕ → List Request → List (Option ℕ) → List ℕ)).
      IfSome begun (λ begun. is_broken_off it ≡ true → (many : ℕ) × Appends out out' (begun many requests moments)))
      (sym whole) tt

  pub tells_ended : (X : Type 0) (requests : List Request) (moments : List (Option ℕ)) (it : Why)
      → is_refusal it ≡ false
      → (meaning errand).may it → IsTrueOf (meaning errand) requests moments it → PrintsNothing out out' it
      → Tells {X = X} errand requests moments out out' (Err it)
  tells_ended X requests moments it ends may is quiet = (
    may_ended errand requests moments it ends may is,
    quiet_ended it quiet,
    begun_ended requests moments it,
  )

  -- or it has printed its text, unless the output failed
  pub tells_printed : {X : Type 0} (requests : List Request) (moments : List (Option ℕ)) (text : List ℕ)
      → (meaning errand).text requests moments ≡ Some text → (meaning errand).may why.Output → (r : Result X Why)
      → OnOk r (Appends out out' text) → IfErr r (λ it. it ≡ why.Output)
      → Tells {X = X} errand requests moments out out' r
  tells_printed {X} requests moments text is may (Ok x) printed failed = (text, is, printed)
  tells_printed {X} requests moments text is may (Err it) printed failed =
      subst (λ it. Tells {X = X} errand requests moments out out' (Err it)) (sym failed)
      (tells_ended X requests moments why.Output refl may (ap is_some is) (inl refl))

-- ---- an errand to a register of this version

-- it was not refused
unless : {X : Type 0} (r : Result X Why) (Holds : Type 0) → UnlessRefused r Holds → is_refused r ≡ false → Holds
unless (Ok x) Holds is not = is
unless (Err (why.Open fault)) Holds is not = absurd (true≢false not)
unless (Err other) Holds is not = is

module _ {S X : Type 0} (g : Ghosts S) (errand : Errand) (this : (meaning errand).is_for_earlier ≡ false)
    (out out' : Option (List ℕ)) (old new : Held S) where
  pub runs : (r : Result X Why)
      → (HasCleanDisk (state g new) → ForDatedRows g old (λ requests moments.
      Tells errand requests moments out out' r))
      → (HasCleanDisk (state g new) → is_refused r ≡ false → IsReadAsRegister g old)
      → (HasCleanDisk (state g new) → is_refused r ≡ false
      → ForRows g old (λ old_style requests. HasCommitted (IsRegisterOf old_style requests) (state g new)))
      → CommitsNothing (state g old) (state g new) → IfErr r (Says g errand old new)
      → IfErr r (IsQuiet errand out out') → RunsErrand g errand out out' old new r
  runs r told found kept commits says quiet =
      let is : (old_style : ℕ) (requests : List Request) → IsRegisterFor errand old_style requests (state g old).now
      → IsRegisterOf old_style requests (state g old).now =
      λ old_style requests rows. subst (λ b. IsRegisterBy b old_style requests (state g old).now) this rows in record {
        told = λ clean old_style requests firsts_are rows moments are.
            let dated : (length moments ≡ length requests) × Received (state g old).now moments =
            subst (λ b. AreMomentsBy b requests moments (state g old).now) this are in
            told clean old_style requests (is old_style requests rows) moments dated.0 dated.1;
        kept = λ clean not old_style requests firsts_are rows.
            kept clean not old_style requests (is old_style requests rows);
        found = λ clean not. subst (λ b. IsReadBy g b old) (sym this) (found clean not);
        reads = λ _. commits;
        current = λ clean earlier. absurd (true≢false (sym earlier ∙ this));
        refused = says;
        quiet = quiet;
      }

  -- one that prints all at the end, of a register that was read whole
  module _ (whole : (meaning errand).begun ≡ None)
      (found : HasCleanDisk (state g new) → IsReadAsRegister g old)
      (kept : HasCleanDisk (state g new)
      → ForRows g old (λ old_style requests. HasCommitted (IsRegisterOf old_style requests) (state g new)))
      (commits : CommitsNothing (state g old) (state g new)) where
    pub fails : (it : Why) → is_refusal it ≡ false → (meaning errand).may it
        → (HasCleanDisk (state g new)
        → ForDatedRows g old (λ requests moments. IsTrueOf (meaning errand) requests moments it))
        → PrintsNothing out out' it → RunsErrand {S = S} {X = X} g errand out out' old new (Err it)
    fails it ends may is quiet =
        runs (Err it)
        (λ clean old_style requests rows moments one_each received.
        tells_ended errand whole out out' X requests moments it ends may
        (is clean old_style requests rows moments one_each received) quiet)
        (λ clean _. found clean) (λ clean _. kept clean) commits (says_ended g errand old new it ends may)
        (quiet_ended errand whole out out' it quiet)

    pub prints : (text : List ℕ)
        → (HasCleanDisk (state g new)
        → ForDatedRows g old (λ requests moments. (meaning errand).text requests moments ≡ Some text))
        → (meaning errand).may why.Output → (r : Result X Why) → OnOk r (Appends out out' text)
        → IfErr r (λ it. it ≡ why.Output) → RunsErrand g errand out out' old new r
    prints text is may (Ok x) printed failed =
        runs (Ok x)
        (λ clean old_style requests rows moments one_each received.
        (text, is clean old_style requests rows moments one_each received, printed))
        (λ clean _. found clean) (λ clean _. kept clean) commits tt tt
    prints text is may (Err it) printed failed =
        subst (λ it. RunsErrand {S = S} {X = X} g errand out out' old new (Err it)) (sym failed)
        (fails why.Output refl may
        (λ clean old_style requests rows moments one_each received.
        ap is_some (is clean old_style requests rows moments one_each received)) (inl refl))

-- ---- a question that an open register answers

asks_this : (q : Question) → (meaning (asked.Ask q)).is_for_earlier ≡ false
asks_this (question.List filer false) = refl
asks_this (question.FilingBody number) = refl
asks_this other = refl

asks_whole : (q : Question) → (meaning (asked.Ask q)).begun ≡ None
asks_whole (question.List filer false) = refl
asks_whole (question.FilingBody number) = refl
asks_whole other = refl

asks_no_pages : (q : Question) → (meaning (asked.Ask q)).fills ≡ false
asks_no_pages (question.List filer false) = refl
asks_no_pages (question.FilingBody number) = refl
asks_no_pages other = refl

pub kept_store : {S : Type 0} (g : Ghosts S) (old new : StoreParts S) → KeepsStore g old new
    → KeepsRegister g old new.conn
kept_store g old new keeps = record {
  kept = λ clean requests has.
      subst (λ n. HasCommitted (IsRegisterOf n requests) (shows g new)) keeps.old_style
      (keeps.same clean requests has).stands;
  survives = keeps.crash;
}

module _ {S X : Type 0} (g : Ghosts S) (q : Question) (out out' : Option (List ℕ)) (old : StoreParts S) (new : Held S)
    (keeps : KeepsRegister g old new) where
  pub answers_not : (it : Why) → is_refusal it ≡ false → (meaning (asked.Ask q)).may it
      → (HasCleanDisk (state g new) → (requests : List Request) → HasRequests g old requests
      → (moments : List (Option ℕ)) → HasMoments g old moments
      → IsTrueOf (meaning (asked.Ask q)) requests moments it)
      → PrintsNothing out out' it → AnswersQuestion {S = S} {X = X} g q out out' old new (Err it)
  answers_not it ends may is quiet = record {
    told = λ clean requests has moments dated.
        tells_ended (asked.Ask q) (asks_whole q) out out' X requests moments it ends may
        (is clean requests has moments dated) quiet;
    may = (ends, may);
    quiet = quiet;
    keeps = keeps;
  }

  pub answers : (text : List ℕ)
      → (HasCleanDisk (state g new) → (requests : List Request) → HasRequests g old requests
      → (moments : List (Option ℕ)) → HasMoments g old moments
      → (meaning (asked.Ask q)).text requests moments ≡ Some text)
      → (meaning (asked.Ask q)).may why.Output → (r : Result X Why) → OnOk r (Appends out out' text)
      → IfErr r (λ it. it ≡ why.Output) → AnswersQuestion g q out out' old new r
  answers text is may (Ok x) printed failed = record {
    told = λ clean requests has moments dated. (text, is clean requests has moments dated, printed);
    may = tt;
    quiet = tt;
    keeps = keeps;
  }
  answers text is may (Err it) printed failed =
      subst (λ it. AnswersQuestion {S = S} {X = X} g q out out' old new (Err it)) (sym failed)
      (answers_not why.Output refl may
      (λ clean requests has moments dated. ap is_some (is clean requests has moments dated)) (inl refl))

-- what is read may fail by memory, and so may what is printed
pub reading_prints : (it : Why) → IsReadingWhy it → IsPrintingWhy it
reading_prints (why.Store fault) is = tt
reading_prints why.Memory is = tt
reading_prints other is = absurd is

module _ {S X : Type 0} (g : Ghosts S) (q : Question) (out out' : Option (List ℕ)) (old : StoreParts S) (new : Held S)
    (keeps : KeepsRegister g old new) where
  pub answers_failed : ((fault : StoreFault) → (meaning (asked.Ask q)).may (why.Store fault))
      → (meaning (asked.Ask q)).may why.Memory → (meaning (asked.Ask q)).may why.Output
      → (HasCleanDisk (state g new) → (requests : List Request) → HasRequests g old requests
      → (moments : List (Option ℕ)) → HasMoments g old moments
      → IsSome ((meaning (asked.Ask q)).text requests moments))
      → (it : Why) → IsPrintingWhy it → PrintsNothing out out' it
      → AnswersQuestion {S = S} {X = X} g q out out' old new (Err it)
  answers_failed store memory output some (why.Store fault) fails quiet =
      answers_not {X = X} g q out out' old new keeps (why.Store fault) refl (store fault)
      (λ clean requests has moments dated. tt) quiet
  answers_failed store memory output some why.Memory fails quiet =
      answers_not {X = X} g q out out' old new keeps why.Memory refl memory some quiet
  answers_failed store memory output some why.Output fails quiet =
      answers_not {X = X} g q out out' old new keeps why.Output refl output some quiet
  answers_failed store memory output some other fails quiet = absurd fails

-- an opened store was read as a register
pub as_register : {S : Type 0} (g : Ghosts S) (conn : Held S) (store : StoreParts S)
    → OpensOrGivesBack g conn (Ok store) → HasCleanDisk (shows g store) → IsReadAsRegister g conn
as_register g conn store opened clean = (
  opened.outcome.says clean,
  λ declared. let found = opened.outcome.opened clean declared in (store.old_style, found.0, found.1),
)

-- it has the moments of the rows
has_moments : {S : Type 0} (g : Ghosts S) (conn : Held S) (store : StoreParts S) → OpensOrGivesBack g conn (Ok store)
    → HasCleanDisk (shows g store) → (requests : List Request) → HasRequests g store requests
    → (moments : List (Option ℕ)) → length moments ≡ length requests → Received (state g conn).now moments
    → HasMoments g store moments
has_moments g conn store opened clean requests has moments one_each received = record {
  stands = record {
    autocommit = has.stands.autocommit;
    now = λ alive. subst (λ db. Received db moments) (sym (opened.outcome.same clean).0.now_is) received;
    committed = has.stands.committed;
  };
  one_each = one_each ∙ sym has.kept_is;
}

module _ {S X : Type 0} (g : Ghosts S) (q : Question) (out out' : Option (List ℕ)) (conn : Held S)
    (store : StoreParts S) (new : Held S) where
  ended_says : (r : Result X Why) → IfErr r (λ it. (is_refusal it ≡ false) × (meaning (asked.Ask q)).may it)
      → IfErr r (Says g (asked.Ask q) conn new)
  ended_says (Ok x) may = tt
  ended_says (Err it) may = says_ended g (asked.Ask q) conn new it may.0 may.1

  ended_quiet : (r : Result X Why) → IfErr r (PrintsNothing out out') → IfErr r (IsQuiet (asked.Ask q) out out')
  ended_quiet (Ok x) quiet = tt
  ended_quiet (Err it) quiet = quiet_ended (asked.Ask q) (asks_whole q) out out' it quiet

  pub asks : (r : Result X Why) → OpensOrGivesBack g conn (Ok store) → AnswersQuestion g q out out' store new r
      → RunsErrand g (asked.Ask q) out out' conn new r
  asks r opened does =
      let was : HasCleanDisk (state g new) → HasCleanDisk (shows g store) =
      clean_before (shows g store) (state g new) does.keeps.survives in
      runs g (asked.Ask q) (asks_this q) out out' conn new r
      (λ clean old_style requests rows moments one_each received.
      let has = (opened.outcome.only (was clean) old_style requests rows).1 in
      does.told clean requests has moments
      (has_moments g conn store opened (was clean) requests has moments one_each received))
      (λ clean _. as_register g conn store opened (was clean))
      (λ clean _ old_style requests rows.
      let only = opened.outcome.only (was clean) old_style requests rows in
      subst (λ n. HasCommitted (IsRegisterOf n requests) (state g new)) only.0
      (does.keeps.kept clean requests only.1))
      (nothing_left (state g conn) (shows g store) (state g new) opened.outcome.crash does.keeps.survives)
      (ended_says r does.may) (ended_quiet r does.quiet)

-- no register was opened
module _ {S X : Type 0} (g : Ghosts S) (q : Question) (out : Option (List ℕ)) (conn back : Held S)
    (fault : OpenFault) where
  pub asks_none : GivesBackOpening g conn fault back
      → RunsErrand {S = S} {X = X} g (asked.Ask q) out out conn back (Err (why.Open fault))
  asks_none gives =
      refuses {S = S} {X = X} g (asked.Ask q) out conn back (why.Open fault) refl
      (λ clean old_style requests rows moments. (
        asks_this q,
        gives.sound clean old_style requests
            (subst (λ b. IsRegisterBy b old_style requests (state g conn).now) (asks_this q) rows),
      ))
      (asks_this q, gives.why) (λ _. gives.crash)

-- ---- migrate

not_blocked : (form : Earlier) (schema : Schema) → IsAlone form schema → is_blocked schema form ≡ false
unfolding same_name
not_blocked Second schema alone = subst (λ s. is_blocked s Second ≡ false) (sym alone) refl
not_blocked Third schema alone = subst (λ s. is_blocked s Third ≡ false) (sym alone) refl
not_blocked Fourth schema alone = subst (λ s. is_blocked s Fourth ≡ false) (sym alone) refl

module _ {S X : Type 0} (g : Ghosts S) (out out' : Option (List ℕ)) (old new : Held S) where
  pub migrated : (counts : Counts) → tables.MigratesRegister g old new (Ok counts) → (r : Result X Why)
      → OnOk r (Appends out out' migrated_line) → IfErr r (λ it. it ≡ why.Output)
      → RunsErrand g asked.Migrate out out' old new r
  migrated counts does r printed failed = record {
    told = λ clean old_style requests firsts_are rows moments are.
        tells_printed asked.Migrate refl out out' requests moments migrated_line refl refl r printed failed;
    kept = λ clean not old_style requests firsts_are rows.
        (does.only clean rows.0 old_style requests rows.1 rows.2).1;
    found = λ clean not form alone.
        let its = does.migrated clean form alone in (counts.old_style, its.requests, its.were);
    reads = λ ends. absurd (true≢false ends);
    current = λ clean _ old_style requests rows. absurd (does.current clean old_style requests rows);
    refused = says r failed;
    quiet = quiet r failed;
  }
    where
      says : (r : Result X Why) → IfErr r (λ it. it ≡ why.Output) → IfErr r (Says g asked.Migrate old new)
      says (Ok x) failed = tt
      says (Err it) failed = subst (Says g asked.Migrate old new) (sym failed) refl

      quiet : (r : Result X Why) → IfErr r (λ it. it ≡ why.Output) → IfErr r (IsQuiet asked.Migrate out out')
      quiet (Ok x) failed = tt
      quiet (Err it) failed = inl failed

  pub not_migrated : (fault : OpenFault) → tables.MigratesRegister g old new (Err fault)
      → RunsErrand {S = S} {X = X} g asked.Migrate out out old new (Err (why.Migrate fault))
  not_migrated fault does =
      refuses {S = S} {X = X} g asked.Migrate out old new (why.Migrate fault) refl
      (λ clean old_style requests rows moments. (
        refl,
        does.sound clean rows.0 old_style requests rows.2 (not_blocked rows.0 (state g old).now.schema rows.1),
      ))
      (refl, does.refused, does.crash, does.unwritten) (λ ends. absurd (true≢false ends))

-- ---- export

module _ (form : FactForm) (wanted : Wanted) {S X : Type 0} (g : Ghosts S) (out out' : Option (List ℕ))
    (old new : Held S) where
  export_told : (r : Result X Why) → ExportsFacts g form wanted out out' old new r → HasCleanDisk (state g new)
      → ForDatedRows g old (λ requests moments. Tells (asked.Export form wanted) requests moments out out' r)
  export_told (Ok x) does clean old_style requests rows moments one_each received = (
    export_text form wanted (kept requests) moments,
    refl,
    does.exported clean old_style requests rows moments one_each received,
  )
  export_told (Err (why.Open fault)) does clean old_style requests rows moments one_each received =
      ((refl, does.failed clean old_style requests rows), λ _. does.quiet, λ is. absurd (true≢false (sym is)))
  export_told (Err (why.Store fault)) does clean old_style requests rows moments one_each received = (
    (tt, tt),
    λ is. absurd (true≢false (sym is)),
    λ _. does.begun clean old_style requests rows moments one_each received,
  )
  export_told (Err why.Memory) does clean old_style requests rows moments one_each received = (
    (tt, refl),
    λ is. absurd (true≢false (sym is)),
    λ _. does.begun clean old_style requests rows moments one_each received,
  )
  export_told (Err why.Output) does clean old_style requests rows moments one_each received =
      ((tt, refl), λ is. absurd (true≢false (sym is)), λ is. absurd (true≢false (sym is)))
  export_told (Err other) does clean old_style requests rows moments one_each received = absurd does.fails

  export_says : (r : Result X Why) → ExportsFacts g form wanted out out' old new r
      → IfErr r (Says g (asked.Export form wanted) old new)
  export_says (Ok x) does = tt
  export_says (Err (why.Open fault)) does = (refl, does.refused)
  export_says (Err (why.Store fault)) does = tt
  export_says (Err why.Memory) does = tt
  export_says (Err why.Output) does = tt
  export_says (Err other) does = absurd does.fails

  export_quiet : (r : Result X Why) → ExportsFacts g form wanted out out' old new r
      → IfErr r (IsQuiet (asked.Export form wanted) out out')
  export_quiet (Ok x) does = tt
  export_quiet (Err (why.Open fault)) does = λ _. does.quiet
  export_quiet (Err (why.Files fault)) does = absurd does.fails
  export_quiet (Err (why.Migrate fault)) does = absurd does.fails
  export_quiet (Err other) does = λ is. absurd (true≢false (sym is))

  pub exports : (r : Result X Why) → ExportsFacts g form wanted out out' old new r
      → RunsErrand g (asked.Export form wanted) out out' old new r
  exports r does =
      runs g (asked.Export form wanted) refl out out' old new r (export_told r does)
      (λ clean. unless r _ (does.found clean)) (λ clean. unless r _ (does.kept clean)) does.survives
      (export_says r does) (export_quiet r does)

-- ---- digest

module _ (until : Option ℕ) {S : Type 0} (g : Ghosts S) (old new : Held S) (d : Digest)
    (does : DigestsRegister g until old new (Ok d)) where
  its_line : HasCleanDisk (state g new) → ForDatedRows g old (λ requests moments.
      (meaning (asked.Digest until)).text requests moments ≡ Some (digest_line (view_digest d)))
  its_line clean old_style requests rows moments one_each received =
      ap (option_map digest_line) (does.computed clean old_style requests rows moments one_each received)

module _ (until : Option ℕ) {S X : Type 0} (g : Ghosts S) (out out' : Option (List ℕ)) (old new : Held S) where
  -- there is none
  pub no_digest : (it : Why) → DigestsRegister g until old new (Err it)
      → RunsErrand {S = S} {X = X} g (asked.Digest until) out out old new (Err it)
  no_digest (why.Open fault) does =
      refuses {S = S} {X = X} g (asked.Digest until) out old new (why.Open fault) refl
      (λ clean old_style requests rows moments. (refl, does.failed clean old_style requests rows))
      (refl, does.refused) (λ _. does.survives)
  no_digest (why.Store fault) does =
      fails {X = X} g (asked.Digest until) refl out out old new refl does.found does.kept does.survives
      (why.Store fault) refl tt (λ clean old_style requests rows moments one_each received. tt) (inr refl)
  no_digest (why.TooFew many) does =
      fails {X = X} g (asked.Digest until) refl out out old new refl does.found does.kept does.survives
      (why.TooFew many) refl tt
      (λ clean old_style requests rows moments one_each received.
      let few = does.few clean old_style requests rows moments one_each received in
      (few.0, ap (option_map digest_line) few.1)) (inr refl)
  no_digest other does = absurd does.fails

  module _ (d : Digest) (does : DigestsRegister g until old new (Ok d)) where
    pub digest_printed : (r : Result X Why) → OnOk r (Appends out out' (digest_line (view_digest d)))
        → IfErr r (λ it. it ≡ why.Output) → RunsErrand g (asked.Digest until) out out' old new r
    digest_printed =
        prints g (asked.Digest until) refl out out' old new refl does.found does.kept does.survives
        (digest_line (view_digest d)) (its_line until g old new d does) tt

    pub digest_unprinted : RunsErrand {S = S} {X = X} g (asked.Digest until) out out old new (Err why.Memory)
    digest_unprinted =
        fails {X = X} g (asked.Digest until) refl out out old new refl does.found does.kept does.survives
        why.Memory refl tt
        (λ clean old_style requests rows moments one_each received.
        ap is_some (its_line until g old new d does clean old_style requests rows moments one_each received)) (inr refl)

-- ---- pages

-- an errand for no pages writes none
pub no_pages : {S X : Type 0} (g : Ghosts S) (errand : Errand) (pages : Option (List File)) (old new : Held S)
    (r : Result X Why) → (meaning errand).fills ≡ false
    → FillsFolder {S = S} {X = X} g errand pages pages old new r
no_pages g errand pages old new r not = record {
  filled = λ clean old_style requests firsts_are rows is. absurd (true≢false (sym is ∙ not));
  refused = λ _. refl;
  others = λ _. refl;
}

pub no_pages_asked : {S X : Type 0} (g : Ghosts S) (q : Question) (pages : Option (List File)) (old new : Held S)
    (r : Result X Why) → FillsFolder {S = S} {X = X} g (asked.Ask q) pages pages old new r
no_pages_asked g q pages old new r = no_pages g (asked.Ask q) pages old new r (asks_no_pages q)

appends_none : (out : Option (List ℕ)) → Appends out out []
appends_none None = tt
appends_none (Some text) = sym (append-nil text)

module _ (path : Bor (List ℕ)) {S X : Type 0} (g : Ghosts S) (pages pages' : Option (List File)) (old new : Held S)
  where
    site_told : (out : Option (List ℕ)) (r : Result X Why) → WritesPages g pages pages' old new r
        → HasCleanDisk (state g new)
        → ForDatedRows g old (λ requests moments. Tells (asked.Pages path) requests moments out out r)
    site_told out (Ok x) does clean old_style requests rows moments one_each received = ([], refl, appends_none out)
    site_told out (Err (why.Open fault)) does clean old_style requests rows moments one_each received =
        ((refl, does.failed clean old_style requests rows), inr refl, tt)
    site_told out (Err (why.Store fault)) does clean old_style requests rows moments one_each received =
        ((tt, tt), inr refl, tt)
    site_told out (Err why.Memory) does clean old_style requests rows moments one_each received =
        ((tt, refl), inr refl, tt)
    site_told out (Err why.Folder) does clean old_style requests rows moments one_each received =
        ((tt, tt), inr refl, tt)
    site_told out (Err other) does clean old_style requests rows moments one_each received = absurd does.fails

    site_says : (r : Result X Why) → WritesPages g pages pages' old new r → IfErr r (Says g (asked.Pages path) old new)
    site_says (Ok x) does = tt
    site_says (Err (why.Open fault)) does = (refl, does.refused)
    site_says (Err (why.Store fault)) does = tt
    site_says (Err why.Memory) does = tt
    site_says (Err why.Folder) does = tt
    site_says (Err other) does = absurd does.fails

    site_quiet : (out : Option (List ℕ)) (r : Result X Why) → IfErr r (IsQuiet (asked.Pages path) out out)
    site_quiet out (Ok x) = tt
    site_quiet out (Err it) = inr refl

    pub writes_site : (out : Option (List ℕ)) (r : Result X Why) → WritesPages g pages pages' old new r
        → RunsErrand g (asked.Pages path) out out old new r
    writes_site out r does =
        runs g (asked.Pages path) refl out out old new r (site_told out r does)
        (λ clean. unless r _ (does.found clean)) (λ clean. unless r _ (does.kept clean)) does.survives
        (site_says r does) (site_quiet out r)

    -- the pages are written, or not all, or none
    unfilled : (r : Result X Why) → WritesPages g pages pages' old new r → is_refused r ≡ true → pages' ≡ pages
    unfilled (Ok x) does is = absurd (true≢false (sym is))
    unfilled (Err (why.Open fault)) does is = does.unwritten
    unfilled (Err (why.Files fault)) does is = absurd does.fails
    unfilled (Err (why.Migrate fault)) does is = absurd does.fails
    unfilled (Err other) does is = absurd (true≢false (sym is))

    filled : (r : Result X Why) → WritesPages g pages pages' old new r → HasCleanDisk (state g new)
        → ForRows g old (λ _ requests. OnOk r (WritesSite requests pages pages'))
    filled (Ok x) does clean old_style requests rows = does.written clean old_style requests rows
    filled (Err it) does clean old_style requests rows = tt

    pub fills_folder : (r : Result X Why) → WritesPages g pages pages' old new r
        → FillsFolder g (asked.Pages path) pages pages' old new r
    fills_folder r does = record {
      filled = λ clean old_style requests firsts_are rows is. filled r does clean old_style requests rows;
      refused = unfilled r does;
      others = λ is. absurd (true≢false is);
    }
