-- What the writing of pages did follows from what the reading of the register told, and from what each call after it
-- did.
use Rattle.std.proofs.Common.{List, ℕ, Option, Ok, Err, sym, ◌∙◌}
use Rattle.sqlite.specs.Store.{Ghosts}
use Rattle.sqlite.specs.Held.{Held, state}
use Rattle.table_rows.specs.Leaving.{Leaves}
use Rattle.table_rows.specs.Leaving.Ending.{Ended, Passed}
use Rattle.table_rows.proofs.LeavingLemmas.{asked_before, clean_before}
use Rattle.register_rows.proofs.MoreRequests.{kept_length}
use Rattle.register_tables.specs.declared.opening.Counts.{Counts}
use Rattle.register_tables.specs.Opening.{ReadsRegister}
use Rattle.register_store.specs.Store.{ForRegister}
use Rattle.register_extracts.proofs.Walks.{found_then, kept_then, nothing_then, opened}
use Rattle.register_extracts.specs.declared.fault.Why.{Why}
use Rattle.register_extracts.proofs.Faults.{not_open, open_or, unless_refused}
use Rattle.register_pages.specs.Faults.{IsWritingWhy}
use Rattle.register_pages.specs.Gathering.{AreCountsOf}
use Rattle.register_pages.specs.Pages.{File, WritesSite}
use Rattle.register_pages.specs.Site.{WritesPages}

module _ {S X : Type 0} (g : Ghosts S) (pages pages' : Option (List File)) (old mid new : Held S) (counts : Counts)
    (read : ReadsRegister g old mid (Ok counts)) where
  -- all pages are written
  pub done : Leaves Passed (state g mid) (state g new)
      → ForRegister g mid new (λ _ requests. AreCountsOf requests counts → WritesSite requests pages pages')
      → (x : X) → WritesPages {S = S} {X = X} g pages pages' old new (Ok x)
  done leaves written x =
      let whole = asked_before (opened g old mid counts read) leaves in record {
        written = λ clean old_style requests rows. let it =
            read.only (clean_before leaves clean) old_style requests rows in
            written clean old_style requests it.1 (record {
              kept_is = it.2 ∙ sym (kept_length requests rows.rows.distinct);
              filings_is = it.3;
              catalogue_is = it.4;
            });
        fails = tt;
        found = found_then g old mid counts read new leaves;
        kept = kept_then g old mid counts read new leaves;
        refused = λ _. tt;
        failed = λ _. tt;
        unwritten = tt;
        same = whole.left;
        mode = leaves.mode read.mode;
        survives = whole.survives;
      }

  -- the database, memory or the folder failed before that
  pub broken_off : Leaves Ended (state g mid) (state g new) → (w : Why) → IsWritingWhy w
      → WritesPages {S = S} {X = X} g pages pages' old new (Err w)
  broken_off leaves w may = record {
    written = λ _. tt;
    fails = open_or IsWritingWhy w may;
    found = λ clean. unless_refused X w _ (found_then g old mid counts read new leaves clean);
    kept = λ clean. unless_refused X w _ (kept_then g old mid counts read new leaves clean);
    refused = λ _. not_open IsWritingWhy (λ _ is. is) _ w may;
    failed = λ _. not_open IsWritingWhy (λ _ is. is) _ w may;
    unwritten = not_open IsWritingWhy (λ _ is. is) _ w may;
    same = λ _. tt;
    mode = leaves.mode read.mode;
    survives = nothing_then g old mid counts read new leaves;
  }
