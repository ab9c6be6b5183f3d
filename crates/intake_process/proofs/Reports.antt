-- The report of a filing is printed: what is found in the register, and what is left of it.
use Rattle.std.proofs.Common.{◌≡◌, ◌∙◌, ℕ, List, Option, Some, None, Result, Ok, Err, IfErr, OnOk, refl, sym}
use Rattle.std.proofs.Common.{ap, subst, inr}
use Rattle.std.specs.Prelude.{is_some, option_map}
use Rattle.std.specs.Io.KnownBytes.{Appends}
use Rattle.sqlite.specs.Store.{Ghosts}
use Rattle.sqlite.specs.Held.{Held, state}
use Rattle.sqlite.specs.State.{HasCleanDisk}
use Rattle.filing_model.specs.Register.{Filing, Kept, kept, register}
use Rattle.filing_model.specs.Request.{Request}
use Rattle.filing_model.proofs.Keeping.{register_numbered}
use Rattle.table_rows.specs.Leaving.{MayRead}
use Rattle.table_rows.proofs.LeavingLemmas.{stands}
use Rattle.table_rows.proofs.StepLemmas.{nothing_yet}
use Rattle.register_rows.specs.Catalogue.{Entry, catalogue_of, entry_numbered}
use Rattle.register_store.specs.Found.{IsPlaced}
use Rattle.register_store.specs.Store.{ForRegister, HasRequests, StoreParts, shows}
use Rattle.register_store.proofs.CatalogueLemmas.{filing_absent, filing_there, line_told}
use Rattle.register_extracts.specs.declared.fault.Why.{Why}
use Rattle.register_extracts.specs.declared.fault.Why.TheVariants as why
use Rattle.register_extracts.specs.Faults.{IsPrintingWhy}
use Rattle.intake_process.specs.declared.tasks.errand.Question.TheVariants.{FilingBody}
use Rattle.intake_process.specs.Showing.{filed_body}
use Rattle.intake_process.specs.Tasks.{AnswersQuestion, KeepsRegister, PrintsNothing}
use Rattle.intake_process.proofs.Errands.{answers_failed, answers_not}

-- ---- the report of a filing, by the place that the catalogue says

module _ (F : List Request) (n : ℕ) where
  body_placed : (place : ℕ)
      → Some place ≡ option_map (λ (line : Entry). line.seq) (entry_numbered (catalogue_of F) n)
      → (k : Kept) × IsPlaced 1 place (kept F) k × (filed_body n (register F) ≡ Some k.request.body)
  body_placed place is = go (entry_numbered (catalogue_of F) n) refl is
    where
      go : (o : Option Entry) → o ≡ entry_numbered (catalogue_of F) n
          → Some place ≡ option_map (λ (line : Entry). line.seq) o
          → (k : Kept) × IsPlaced 1 place (kept F) k × (filed_body n (register F) ≡ Some k.request.body)
      go None at is = absurd (cc is)
      go (Some line) at is =
          let its = line_told F n (Some line) at in
          let seq : place ≡ its.seq = cc (is ∙ ap Some (ap (λ (e : Entry). e.seq) its.is)) in (
            its.k,
            subst (λ s. IsPlaced 1 s (kept F) its.k) (sym seq) its.placed,
            ap (option_map (λ (f : Filing). f.request.body))
                (filing_there 1 1 its.seq n (kept F) its.k (register_numbered F) its.placed its.number_is),
          )

  body_unplaced : None ≡ option_map (λ (line : Entry). line.seq) (entry_numbered (catalogue_of F) n)
      → filed_body n (register F) ≡ None
  body_unplaced is = go (entry_numbered (catalogue_of F) n) refl is
    where
      go : (o : Option Entry) → o ≡ entry_numbered (catalogue_of F) n
          → None ≡ option_map (λ (line : Entry). line.seq) o → filed_body n (register F) ≡ None
      go None at is =
          ap (option_map (λ (f : Filing). f.request.body)) (filing_absent 1 n (kept F) (line_told F n None at))
      go (Some line) at is = absurd (cc is)

module _ {S X : Type 0} (g : Ghosts S) (number : ℕ) (out out' : Option (List ℕ)) (old : StoreParts S) where
  pub filed_missing : None ≡ option_map (λ (line : Entry). line.seq) (entry_numbered old.catalogue number)
      → AnswersQuestion {S = S} {X = X} g (FilingBody number) out out old old.conn (Err (why.NoFiling number))
  filed_missing is =
      answers_not {X = X} g (FilingBody number) out out old old.conn
      (record { kept = λ clean requests has. has.stands; survives = nothing_yet (shows g old) }) (why.NoFiling number)
      refl refl
      (λ clean F has moments dated.
      body_unplaced F number (is ∙ ap (λ es. option_map (λ e. e.seq) (entry_numbered es number)) has.catalogue_is))
      (inr refl)

  pub filed_placed : (place : ℕ)
      → Some place ≡ option_map (λ (line : Entry). line.seq) (entry_numbered old.catalogue number)
      → (new : Held S) (r : Result X Why)
      → ForRegister g old.conn new (λ _ requests. (k : Kept) → IsPlaced 1 place (kept requests) k
      → OnOk r (Appends out out' k.request.body))
      → IfErr r IsPrintingWhy → IfErr r (PrintsNothing out out') → MayRead g old.conn new r
      → AnswersQuestion {S = S} {X = X} g (FilingBody number) out out' old new r
  filed_placed place is new r printed fails quiet leaves = go r printed fails quiet
    where
      there : (F : List Request) → HasRequests g old F
          → (k : Kept) × IsPlaced 1 place (kept F) k × (filed_body number (register F) ≡ Some k.request.body)
      there F has =
          body_placed F number place
          (is ∙ ap (λ es. option_map (λ e. e.seq) (entry_numbered es number)) has.catalogue_is)

      keeps : KeepsRegister g old new
      keeps = record { kept = λ clean F has. stands leaves clean has.stands; survives = leaves.survives }

      go : (r : Result X Why) → ForRegister g old.conn new (λ _ requests. (k : Kept)
          → IsPlaced 1 place (kept requests) k → OnOk r (Appends out out' k.request.body))
          → IfErr r IsPrintingWhy → IfErr r (PrintsNothing out out')
          → AnswersQuestion {S = S} {X = X} g (FilingBody number) out out' old new r
      go (Ok x) printed fails quiet = record {
        told = λ clean F has moments dated.
            let at = there F has in
            (at.0.request.body, at.2, printed clean old.old_style F has.stands at.0 at.1);
        may = tt;
        quiet = tt;
        keeps = keeps;
      }
      go (Err it) printed fails quiet =
          answers_failed {X = X} g (FilingBody number) out out' old new keeps (λ _. tt) tt tt
          (λ clean F has moments dated. ap is_some (there F has).2) it fails quiet
