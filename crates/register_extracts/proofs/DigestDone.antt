-- What computing a digest did follows from what the reading of the register told, and from what the walk over its
-- requests did.
use Rattle.std.proofs.Common.{◌≡◌, ◌≤◌, ◌<◌, ℕ, true, false, List, Option, Some, None, Ok, Err, length, refl, sym, ap}
use Rattle.std.proofs.Common.{◌∙◌, arith}
use Rattle.std.specs.Prelude.{nat_le, unwrap_or}
use Rattle.std.proofs.lemmas.Bool.Decides.{nat_tests}
use Rattle.sqlite.specs.Store.{Ghosts}
use Rattle.sqlite.specs.Held.{Held, state}
use Rattle.sqlite.specs.State.{HasCleanDisk}
use Rattle.table_rows.specs.Leaving.{Leaves}
use Rattle.table_rows.specs.Leaving.Ending.{Asked, Ended, Passed}
use Rattle.table_rows.specs.declared.fault.StoreFault.{StoreFault}
use Rattle.table_rows.proofs.LeavingLemmas.{asked_before, clean_before, stands}
use Rattle.table_rows.proofs.StepLemmas.{nothing_left}
use Rattle.filing_model.specs.Request.{Request}
use Rattle.filing_model.specs.Register.{kept}
use Rattle.register_tables.specs.declared.fault.OpenFault.{OpenFault}
use Rattle.register_tables.specs.declared.opening.Counts.{Counts}
use Rattle.register_tables.specs.Opening.{ReadsRegister, IsReadAsRegister}
use Rattle.register_extracts.specs.Dated.{ForDated}
use Rattle.register_extracts.proofs.Dating.{still}
use Rattle.register_extracts.specs.declared.digest.Digest.{Digest}
use Rattle.register_extracts.specs.declared.fault.Why.TheVariants as fault
use Rattle.register_extracts.specs.Digest.{digest_until}
use Rattle.register_extracts.specs.Registers.{DigestsRegister, digested}
use Rattle.register_extracts.specs.Views.{bytes_of, count_of, view_digest}
use Rattle.register_extracts.proofs.Requests.{length-kept}

-- so many are there
there : (until : Option ℕ) (F : List Request) (moments : List (Option ℕ)) (d : Digest)
    → unwrap_or until (length F) ≡ count_of d → count_of d ≤ length F
    → bytes_of d ≡ digest_until (count_of d) F moments → digested until F moments ≡ Some (view_digest d)
there until F moments d same low bytes =
    let within : nat_le (unwrap_or until (length F)) (length F) ≡ true = grind (arith, nat_tests, same, low) in
    rw within (λ i. Some (record { count = same i; bytes = (ap (λ n. digest_until n F moments) same ∙ sym bytes) i }))

-- they are not
not_there : (until : Option ℕ) (F : List Request) (moments : List (Option ℕ))
    → length F < unwrap_or until (length F) → digested until F moments ≡ None
not_there until F moments more =
    let beyond : nat_le (unwrap_or until (length F)) (length F) ≡ false = grind (arith, nat_tests, more) in
    rw beyond refl

module _ {S : Type 0} (g : Ghosts S) (until : Option ℕ) (old mid : Held S) where
  -- the opening was refused
  pub refused : (why : OpenFault) → ReadsRegister g old mid (Err why)
      → DigestsRegister g until old mid (Err (fault.Open why))
  refused why read = record {
    computed = λ _. tt;
    few = λ _. tt;
    fails = tt;
    found = λ _. tt;
    kept = λ _. tt;
    refused = read.refused;
    failed = read.sound;
    same = λ _. tt;
    mode = read.mode;
    survives = read.survives;
  }

  module _ (counts : Counts) (read : ReadsRegister g old mid (Ok counts)) where
    -- the connection is as it was
    opened : Leaves Asked (state g old) (state g mid)
    opened = record { left = read.same; mode = λ _. read.mode; survives = read.survives }

    -- what was counted is a register, and is committed
    found_then : HasCleanDisk (state g mid) → IsReadAsRegister g old
    found_then clean =
        (read.says clean, λ declared. let it = read.found clean declared in (counts.old_style, it.0, it.1))

    -- there are fewer requests
    pub too_few : counts.kept < unwrap_or until counts.kept
        → DigestsRegister g until old mid (Err (fault.TooFew counts.kept))
    too_few more = record {
      computed = λ _. tt;
      few = λ clean old_style F rows moments one_each received.
          let it = read.only clean old_style F rows in
          (it.2, not_there until F moments (rw it.2 at more));
      fails = tt;
      found = found_then;
      kept = λ clean old_style F rows. (read.only clean old_style F rows).1;
      refused = λ _. tt;
      failed = λ _. tt;
      same = λ _. tt;
      mode = read.mode;
      survives = read.survives;
    }

    module _ (new : Held S) where
      -- the walk came to its end
      pub done : Leaves Passed (state g mid) (state g new) → (d : Digest) (count : ℕ)
          → count ≡ unwrap_or until counts.kept → count ≤ counts.kept
          → ForDated g mid new (λ F moments. count ≤ length (kept F) → count ≤ length moments
          → (count_of d ≡ count) × (bytes_of d ≡ digest_until count F moments))
          → DigestsRegister g until old new (Ok d)
      done leaves d count asked low walked =
          let whole = asked_before opened leaves in record {
            computed = λ clean old_style F rows moments one_each received.
                let before : HasCleanDisk (state g mid) = clean_before leaves clean in
                let it = read.only before old_style F rows in
                let long = length-kept F rows.rows.distinct in
                let dated = still g old mid counts read before it.1 received in
                let is = walked clean old_style F it.1 moments one_each dated (omega (arith, low, long, it.2))
                (omega (arith, low, one_each, it.2)) in
                there until F moments d (ap (unwrap_or until) (sym it.2) ∙ sym asked ∙ sym is.0)
                (omega (arith, low, it.2, is.0)) (is.1 ∙ ap (λ n. digest_until n F moments) (sym is.0));
            few = λ _. tt;
            fails = tt;
            found = λ clean. found_then (clean_before leaves clean);
            kept = λ clean old_style F rows.
                stands leaves clean (read.only (clean_before leaves clean) old_style F rows).1;
            refused = λ _. tt;
            failed = λ _. tt;
            same = whole.left;
            mode = leaves.mode read.mode;
            survives = whole.survives;
          }

      -- a request was not read
      pub broken_off : Leaves Ended (state g mid) (state g new) → (why : StoreFault)
          → DigestsRegister g until old new (Err (fault.Store why))
      broken_off leaves why = record {
        computed = λ _. tt;
        few = λ _. tt;
        fails = tt;
        found = λ clean. found_then (clean_before leaves clean);
        kept = λ clean old_style F rows.
            stands leaves clean (read.only (clean_before leaves clean) old_style F rows).1;
        refused = λ _. tt;
        failed = λ _. tt;
        same = λ _. tt;
        mode = leaves.mode read.mode;
        survives = nothing_left (state g old) (state g mid) (state g new) read.survives leaves.survives;
      }
