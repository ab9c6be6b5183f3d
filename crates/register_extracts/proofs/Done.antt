-- What an export did follows from what the reading of the register told, and from what the writing of its records did.
use Rattle.std.proofs.Common.{◌≡◌, List, ℕ, Option, Ok, Err, length}
use Rattle.std.specs.Io.KnownBytes.{Appends}
use Rattle.sqlite.specs.Store.{Ghosts}
use Rattle.sqlite.specs.Held.{Held, state}
use Rattle.sqlite.specs.State.{HasCleanDisk}
use Rattle.table_rows.specs.Leaving.{Leaves}
use Rattle.table_rows.specs.Leaving.Ending.{Ended, Passed}
use Rattle.table_rows.proofs.LeavingLemmas.{asked_before, clean_before}
use Rattle.register_extracts.specs.declared.facts.record.FactForm.{FactForm}
use Rattle.filing_model.specs.Request.{Request}
use Rattle.filing_model.specs.Register.{kept, register}
use Rattle.register_rows.specs.Catalogue.{catalogue_of, view_lines}
use Rattle.register_tables.specs.declared.opening.Counts.{Counts}
use Rattle.register_tables.specs.Opening.{ReadsRegister}
use Rattle.register_extracts.specs.Dated.{ForDated, ForDatedRows}
use Rattle.register_extracts.proofs.Dating.{still}
use Rattle.register_extracts.proofs.Faults.{if_broken_off, not_open, open_or, unless_refused}
use Rattle.register_extracts.proofs.Walks.{found_then, kept_then, nothing_then, opened}
use Rattle.register_extracts.specs.declared.fault.Why.{Why}
use Rattle.register_extracts.specs.declared.fault.Why.TheVariants as why
use Rattle.register_extracts.specs.declared.records.Wanted.{Wanted}
use Rattle.register_extracts.specs.Exports.{ExportsFacts, UnlessOutput}
use Rattle.register_extracts.specs.Faults.{IsPrintingWhy}
use Rattle.register_extracts.specs.Records.{export_begun, export_text}

-- the records of the first filings are written, so many
abbrev pub Begun : FactForm → Wanted → Option (List ℕ) → Option (List ℕ) → List Request → List (Option ℕ)
    → Type 0
Begun form wanted out out' F moments = (many : ℕ) × Appends out out' (export_begun many form wanted (kept F) moments)

module _ {S : Type 0} (g : Ghosts S) (form : FactForm) (wanted : Wanted) (out out' : Option (List ℕ))
    (old mid new : Held S) (counts : Counts) (read : ReadsRegister g old mid (Ok counts)) where
  begun_by : Leaves Ended (state g mid) (state g new) → HasCleanDisk (state g new) → (w : Why)
      → ForDated g mid new (λ F moments. view_lines counts.catalogue ≡ catalogue_of F
      → counts.filings ≡ length (register F) → UnlessOutput (Begun form wanted out out' F moments) w)
      → UnlessOutput (ForDatedRows g old (λ F moments. Begun form wanted out out' F moments)) w
  begun_by leaves clean why.Output begun = tt
  begun_by leaves clean other begun = λ old_style F rows moments one_each received.
      let before : HasCleanDisk (state g mid) = clean_before leaves clean in
      let it = read.only before old_style F rows in
      begun clean old_style F it.1 moments one_each (still g old mid counts read before it.1 received) it.4 it.3

module _ {S X : Type 0} (g : Ghosts S) (form : FactForm) (wanted : Wanted) (out out' : Option (List ℕ))
    (old mid new : Held S) (counts : Counts) (read : ReadsRegister g old mid (Ok counts)) where
  -- all records are written
  pub done : Leaves Passed (state g mid) (state g new)
      → ForDated g mid new (λ F moments. view_lines counts.catalogue ≡ catalogue_of F
      → counts.filings ≡ length (register F) → Appends out out' (export_text form wanted (kept F) moments))
      → (x : X) → ExportsFacts {S = S} {X = X} g form wanted out out' old new (Ok x)
  done leaves exported x =
      let whole = asked_before (opened g old mid counts read) leaves in record {
        exported = λ clean old_style F rows moments one_each received.
            let before : HasCleanDisk (state g mid) = clean_before leaves clean in
            let it = read.only before old_style F rows in
            exported clean old_style F it.1 moments one_each (still g old mid counts read before it.1 received) it.4
            it.3;
        begun = λ _. tt;
        fails = tt;
        found = found_then g old mid counts read new leaves;
        kept = kept_then g old mid counts read new leaves;
        refused = λ _. tt;
        failed = λ _. tt;
        quiet = tt;
        same = whole.left;
        mode = leaves.mode read.mode;
        survives = whole.survives;
      }

  -- the database, memory or the output failed before that
  pub broken_off : Leaves Ended (state g mid) (state g new) → (w : Why) → IsPrintingWhy w
      → ForDated g mid new (λ F moments. view_lines counts.catalogue ≡ catalogue_of F
      → counts.filings ≡ length (register F) → UnlessOutput (Begun form wanted out out' F moments) w)
      → ExportsFacts {S = S} {X = X} g form wanted out out' old new (Err w)
  broken_off leaves w may begun = record {
    exported = λ _. tt;
    begun = λ clean.
        if_broken_off w _ (begun_by g form wanted out out' old mid new counts read leaves clean w begun);
    fails = open_or IsPrintingWhy w may;
    found = λ clean. unless_refused X w _ (found_then g old mid counts read new leaves clean);
    kept = λ clean. unless_refused X w _ (kept_then g old mid counts read new leaves clean);
    refused = λ _. not_open IsPrintingWhy (λ _ is. is) _ w may;
    failed = λ _. not_open IsPrintingWhy (λ _ is. is) _ w may;
    quiet = not_open IsPrintingWhy (λ _ is. is) _ w may;
    same = λ _. tt;
    mode = leaves.mode read.mode;
    survives = nothing_then g old mid counts read new leaves;
  }
