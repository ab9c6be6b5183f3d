-- What a check prints follows from what the reading of the register told, and from what came of holding its requests
-- against a digest.
use Rattle.std.proofs.Common.{◌≡◌, ◌≢◌, ◌≤◌, ◌<◌, ◌∙◌, Option, Some, None, List, ℕ, Bool, true, false}
use Rattle.std.proofs.Common.{true≢false, OnOk, IfErr, Result}
use Rattle.std.proofs.Common.{Ok, Err, inr, refl, sym, ap, subst, length, arith}
use Rattle.std.specs.Bool.{Decides}
use Rattle.std.specs.Prelude.{if◌then◌else◌, is_some, nat_le, not}
use Rattle.std.specs.Io.KnownBytes.{Appends}
use Rattle.std.specs.Str.{bytes_eq}
use Rattle.std.proofs.lemmas.Bool.Decides.{nat_tests}
use Rattle.std.proofs.lemmas.Slice.Eq.{bytes_eq-Decides}
use Rattle.sqlite.specs.Store.{Ghosts}
use Rattle.sqlite.specs.Held.{Held, state}
use Rattle.sqlite.specs.State.{HasCleanDisk}
use Rattle.filing_model.specs.Request.{Request, firsts}
use Rattle.filing_model.specs.Register.{kept, register}
use Rattle.table_rows.specs.Leaving.{Leaves}
use Rattle.table_rows.specs.Leaving.Ending.{Ended, Passed}
use Rattle.table_rows.specs.Standing.{HasCommitted}
use Rattle.table_rows.specs.declared.fault.StoreFault.{StoreFault}
use Rattle.table_rows.proofs.LeavingLemmas.{clean_before, ended, none_yet, stands}
use Rattle.table_rows.proofs.StepLemmas.{nothing_left}
use Rattle.register_rows.specs.Received.{Received}
use Rattle.register_tables.specs.declared.fault.OpenFault.{OpenFault}
use Rattle.register_tables.specs.declared.opening.Counts.{Counts}
use Rattle.register_tables.specs.Opening.{ReadsRegister, IsReadAsRegister}
use Rattle.register_tables.specs.Registers.{IsRegisterOf}
use Rattle.register_extracts.specs.Dated.{ForDated, ForDatedRows}
use Rattle.register_extracts.proofs.Dating.{still}
use Rattle.register_extracts.specs.declared.digest.Digest.{Digest}
use Rattle.register_extracts.specs.declared.fault.Why.{Why}
use Rattle.register_extracts.specs.declared.fault.Why.TheVariants as why
use Rattle.register_extracts.specs.Digest.{digest_until}
use Rattle.register_extracts.specs.Views.{bytes_of, count_of}
use Rattle.register_extracts.proofs.Requests.{length-kept}
use Rattle.intake_process.specs.declared.tasks.errand.Errand.TheVariants.{Check}
use Rattle.intake_process.specs.declared.tasks.errand.Published.{Published}
use Rattle.intake_process.specs.Checking.{checking, is_held, is_published, sound_line}
use Rattle.intake_process.specs.Errands.{RunsErrand, meaning}
use Rattle.intake_process.specs.Tasks.{HoldsAgainst, IsChecked}
use Rattle.intake_process.proofs.Errands.{fails, prints, refuses}

-- ---- the first requests are held against a digest

-- what a comparison of bytes tells
pub told_other : (xs ys : List ℕ) → true ≡ not (bytes_eq xs ys) → xs ≢ ys
told_other xs ys e same = true≢false (e ∙ ap not ((bytes_eq-Decides xs ys).1 same))

pub told_same : (xs ys : List ℕ) → false ≡ not (bytes_eq xs ys) → xs ≡ ys
told_same xs ys e = go (bytes_eq xs ys) (bytes_eq-Decides xs ys) e
  where
    go : (b : Bool) → Decides b (xs ≡ ys) → false ≡ not b → xs ≡ ys
    go true decides e = decides.0 refl
    go false decides e = absurd (true≢false (sym e))

-- they have it
same_digest : (p : Published) (requests : List Request) (moments : List (Option ℕ)) → p.count ≤ length requests
    → digest_until p.count requests moments ≡ p.bytes → is_published p requests moments ≡ true
same_digest p requests moments low is =
    let within : nat_le p.count (length requests) ≡ true = grind (arith, nat_tests, low) in
    rw within ((bytes_eq-Decides (digest_until p.count requests moments) p.bytes).1 is)

-- the digest that was computed
module _ {S : Type 0} (g : Ghosts S) (many : ℕ) (p : Published) (old new : Held S) (d : Digest) (low : p.count ≤ many)
    (walked : ForDated g old new (λ requests moments. p.count ≤ length (kept requests) → p.count ≤ length moments
    → (count_of d ≡ p.count) × (bytes_of d ≡ digest_until p.count requests moments))) where
  digest_is : HasCleanDisk (state g new) → (old_style : ℕ) (requests : List Request)
      → HasCommitted (IsRegisterOf old_style requests) (state g old) → (moments : List (Option ℕ))
      → length moments ≡ length requests → HasCommitted (λ db. Received db moments) (state g old)
      → firsts requests ≡ requests → many ≡ length requests
      → bytes_of d ≡ digest_until p.count requests moments
  digest_is clean old_style requests was moments one_each dated distinct same =
      let long = length-kept requests distinct in
      (walked clean old_style requests was moments one_each dated (omega (arith, low, long, same))
      (omega (arith, low, one_each, same))).1

-- there are not so many, or they have another one: there is no text
module _ (p : Published) (requests : List Request) (moments : List (Option ℕ)) where
  no_text : is_published p requests moments ≡ false → (checking (Some p)).text requests moments ≡ None
  no_text not = rw not refl

  few_missed : length requests < p.count → (checking (Some p)).text requests moments ≡ None
  few_missed few =
      let within : nat_le p.count (length requests) ≡ false = grind (arith, nat_tests, few) in no_text (rw within refl)

  other_missed : p.count ≤ length requests → digest_until p.count requests moments ≢ p.bytes
      → (checking (Some p)).text requests moments ≡ None
  other_missed low differs =
      let within : nat_le p.count (length requests) ≡ true = grind (arith, nat_tests, low) in
      no_text (rw within (told_false (bytes_eq (digest_until p.count requests moments) p.bytes)
      (bytes_eq-Decides (digest_until p.count requests moments) p.bytes)))
    where
      told_false : (b : Bool) → Decides b (digest_until p.count requests moments ≡ p.bytes) → b ≡ false
      told_false true decides = absurd (differs (decides.0 refl))
      told_false false decides = refl

module _ {S X : Type 0} (g : Ghosts S) (many : ℕ) (p : Published) (old : Held S) where
  pub too_few : many < p.count → HoldsAgainst {S = S} {X = X} g many p old old (Err (why.TooFew many))
  too_few more = record {
    held = λ clean old_style requests was moments one_each dated distinct same. tt;
    missed = λ clean old_style requests was moments one_each dated distinct same.
        (same, few_missed p requests moments (omega (arith, more, same)));
    asked = (refl, more);
    leaves = ended (none_yet (state g old));
  }

  module _ (new : Held S) where
    pub unread : (fault : StoreFault) → Leaves Ended (state g old) (state g new)
        → HoldsAgainst {S = S} {X = X} g many p old new (Err (why.Store fault))
    unread fault leaves = record {
      held = λ clean old_style requests was moments one_each dated distinct same. tt;
      missed = λ clean old_style requests was moments one_each dated distinct same. tt;
      asked = (refl, refl);
      leaves = leaves;
    }

    module _ (d : Digest) (low : p.count ≤ many) (leaves : Leaves Passed (state g old) (state g new))
        (walked : ForDated g old new (λ requests moments. p.count ≤ length (kept requests) → p.count ≤ length moments
        → (count_of d ≡ p.count) × (bytes_of d ≡ digest_until p.count requests moments))) where
      pub another : bytes_of d ≢ p.bytes
          → HoldsAgainst {S = S} {X = X} g many p old new (Err (why.Another p.count))
      another differs = record {
        held = λ clean old_style requests was moments one_each dated distinct same. tt;
        missed = λ clean old_style requests was moments one_each dated distinct same.
            let is =
            digest_is g many p old new d low walked clean old_style requests was moments one_each dated distinct same in
            let within : p.count ≤ length requests = omega (arith, low, same) in
            (within, other_missed p requests moments within (λ has. differs (is ∙ has)));
        asked = (refl, refl);
        leaves = ended leaves;
      }

      pub the_same : (x : X) → bytes_of d ≡ p.bytes → HoldsAgainst {S = S} {X = X} g many p old new (Ok x)
      the_same x has = record {
        held = λ clean old_style requests was moments one_each dated distinct same.
            let is =
            digest_is g many p old new d low walked clean old_style requests was moments one_each dated distinct same in
            same_digest p requests moments (omega (arith, low, same)) (sym is ∙ has);
        missed = λ clean old_style requests was moments one_each dated distinct same. tt;
        asked = tt;
        leaves = leaves;
      }

-- ---- the register is read

module _ {S : Type 0} (g : Ghosts S) (old : Held S) where
  -- it is refused
  pub read_refused : {X : Type 0} (against : Option Published) (new : Held S) (fault : OpenFault)
      → ReadsRegister g old new (Err fault) → (out : Option (List ℕ))
      → RunsErrand {S = S} {X = X} g (Check against) out out old new (Err (why.Open fault))
  read_refused {X} against new fault read out =
      refuses {S = S} {X = X} g (Check against) out old new (why.Open fault) refl
      (λ clean old_style requests rows moments. (refl, read.sound clean old_style requests rows))
      (refl, read.refused) (λ _. read.survives)

  module _ (mid : Held S) (counts : Counts) (read : ReadsRegister g old mid (Ok counts)) where
    -- what is counted is a register, and is committed still
    found_then : HasCleanDisk (state g mid) → IsReadAsRegister g old
    found_then clean =
        (read.says clean, λ declared. let f = read.found clean declared in (counts.old_style, f.0, f.1))

    -- no digest is given
    pub read_alone : IsChecked g None old mid counts
    read_alone = record {
      counted = λ clean old_style requests rows.
          let f = read.only clean old_style requests rows in (f.2, f.3);
      held = λ clean old_style requests rows moments one_each received. refl;
      found = found_then;
      kept = λ clean old_style requests rows. (read.only clean old_style requests rows).1;
      survives = read.survives;
    }

    module _ {X : Type 0} (p : Published) (new : Held S) where
      -- the requests are those of the digest
      pub read_held : (x : X) → HoldsAgainst {S = S} {X = X} g counts.kept p mid new (Ok x)
          → IsChecked g (Some p) old new counts
      read_held x holds = record {
        counted = λ clean old_style requests rows.
            let f = read.only (clean_before holds.leaves clean) old_style requests rows in (f.2, f.3);
        held = λ clean old_style requests rows moments one_each received.
            let was : HasCleanDisk (state g mid) = clean_before holds.leaves clean in
            let f = read.only was old_style requests rows in
            holds.held clean old_style requests f.1 moments one_each (still g old mid counts read was f.1 received)
            rows.rows.distinct f.2;
        found = λ clean. found_then (clean_before holds.leaves clean);
        kept = λ clean old_style requests rows.
            stands holds.leaves clean (read.only (clean_before holds.leaves clean) old_style requests rows).1;
        survives = nothing_left (state g old) (state g mid) (state g new) read.survives holds.leaves.survives;
      }

      -- they are not, or one was not read
      pub read_missed : {Y : Type 0} (it : Why) → HoldsAgainst {S = S} {X = X} g counts.kept p mid new (Err it)
          → (out : Option (List ℕ)) → RunsErrand {S = S} {X = Y} g (Check (Some p)) out out old new (Err it)
      read_missed {Y} it holds out =
          fails {X = Y} g (Check (Some p)) refl out out old new refl
          (λ clean. found_then (clean_before holds.leaves clean))
          (λ clean old_style requests rows.
          stands holds.leaves clean (read.only (clean_before holds.leaves clean) old_style requests rows).1)
          (nothing_left (state g old) (state g mid) (state g new) read.survives holds.leaves.survives) it
          holds.asked.0 holds.asked.1
          (λ clean old_style requests rows moments one_each received.
          let was : HasCleanDisk (state g mid) = clean_before holds.leaves clean in
          let f = read.only was old_style requests rows in
          holds.missed clean old_style requests f.1 moments one_each (still g old mid counts read was f.1 received)
          rows.rows.distinct f.2) (inr refl)

-- ---- it is printed

-- what is printed are the counts of its requests
sound_text : {S : Type 0} (g : Ghosts S) (against : Option Published) (old new : Held S) (counts : Counts)
    → IsChecked g against old new counts → HasCleanDisk (state g new) → ForDatedRows g old (λ requests moments.
    (meaning (Check against)).text requests moments ≡ Some (sound_line counts.kept counts.filings))
sound_text g against old new counts checked clean old_style requests rows moments one_each received =
    let are = checked.counted clean old_style requests rows in
    rw (checked.held clean old_style requests rows moments one_each received)
    (ap Some (ap (λ n. sound_line n (length (register requests))) (sym are.0)
    ∙ ap (sound_line counts.kept) (sym are.1)))

module _ {S X : Type 0} (g : Ghosts S) (against : Option Published) (out out' : Option (List ℕ))
    (old new : Held S) (counts : Counts) (checked : IsChecked g against old new counts) where
  pub sound_printed : (r : Result X Why) → OnOk r (Appends out out' (sound_line counts.kept counts.filings))
      → IfErr r (λ it. it ≡ why.Output) → RunsErrand g (Check against) out out' old new r
  sound_printed =
      prints g (Check against) refl out out' old new refl checked.found checked.kept checked.survives
      (sound_line counts.kept counts.filings) (sound_text g against old new counts checked) tt

  pub sound_unprinted : RunsErrand {S = S} {X = X} g (Check against) out out old new (Err why.Memory)
  sound_unprinted =
      fails {X = X} g (Check against) refl out out old new refl checked.found checked.kept checked.survives why.Memory
      refl tt
      (λ clean old_style requests rows moments one_each received.
      ap is_some (sound_text g against old new counts checked clean old_style requests rows moments one_each received))
      (inr refl)
