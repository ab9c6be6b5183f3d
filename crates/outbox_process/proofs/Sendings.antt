-- An entry that was looked for, and was sent or told.
use Rattle.std.proofs.Common.{◌≡◌, ◌≢◌, ◌⊎◌, ◌∙◌, ℕ, List, Option, Some, None, option_map, Result, Ok, Err, refl, sym}
use Rattle.std.proofs.Common.{ap, subst, inl}
use Rattle.std.specs.Io.KnownBytes.{Appends}
use Rattle.sqlite.specs.Store.{Ghosts}
use Rattle.sqlite.specs.State.{HasCleanDisk}
use Rattle.filing_model.specs.Outbox.{Entry, Open}
use Rattle.filing_model.specs.Views.{view_state}
use Rattle.filing_model.specs.declared.state.State.{State}
use Rattle.outbox_core.specs.Calls.{LooksUp}
use Rattle.outbox_core.specs.Entries.{found_at, first_open}
use Rattle.outbox_core.specs.OutboxParts.{OutboxParts, shows, HasEntries, ForEntries}
use Rattle.outbox_core.specs.Reading.{view_entry}
use Rattle.outbox_core.specs.declared.entry.Entry.{Entry as Read}
use Rattle.filer_client.specs.Exchange.{IsSettled}
use Rattle.filer_client.proofs.Settled.{set_settled}
use Rattle.outbox_process.specs.declared.fault.Why.{Why}
use Rattle.outbox_process.specs.Dials.{Traffic}
use Rattle.outbox_process.specs.Faults.{IsNotPrinted}
use Rattle.outbox_process.specs.Lines.{nothing_open}
use Rattle.outbox_process.specs.Looking.{AreAny}
use Rattle.outbox_process.specs.Sending.{IsOpenAt, IsTried, entries_after, IsTold, Sends, SendsFirst, SendsNone}
use Rattle.outbox_process.specs.Sending.{answer_of_some}
use Rattle.outbox_process.proofs.Looks.{entry_found, was_clean}
use Rattle.outbox_process.proofs.Opens.{first_is_open}

open_found : (entries : List Entry) (id : ℕ) (entry : Read) → Some (view_entry entry) ≡ found_at entries id
    → entry.state ≡ State.Open → IsOpenAt entries id
open_found entries id entry found opened =
    ap (option_map (λ (e : Entry). e.state)) (entry_found entries id entry found).0
    ∙ ap (λ s. Some (view_state s)) opened

not_open : (state : State) → state ≢ State.Open → view_state state ≢ Open
not_open State.Open settled = λ same. settled refl
not_open (State.Confirmed n) settled = λ same. cc
not_open State.Refused settled = λ same. cc
not_open State.Clashed settled = λ same. cc

module _ {S : Type 0} (g : Ghosts S) where
  -- an entry that is open, by a look at the entries
  sent : (id : ℕ) (old new : Traffic) (box mid box' : OutboxParts S) (out out' : Option (List ℕ))
      (result : Result State Why)
      → ForEntries g box mid (λ entries. IsOpenAt entries id × HasEntries g mid entries) → mid.filer ≡ box.filer
      → (HasCleanDisk (shows g mid) → HasCleanDisk (shows g box))
      → Sends g (λ entries. IsOpenAt entries id) id old new mid box' out out' result
      → Sends g AreAny id old new box box' out out' result
  sent id old new box mid box' out out' result looked named clean_before sends = record {
    came = sends.came;
    tries = record {
      tried = λ clean entries had any.
          let found = looked (sends.tries.clean clean) entries had in
          subst (λ filer. IsTried filer entries id old new sends.came
          × HasEntries g box' (entries_after entries id sends.came)) named
          (sends.tries.tried clean entries found.1 found.0);
      filer = sends.tries.filer ∙ named;
      clean = λ clean. clean_before (sends.tries.clean clean);
    };
    told = sends.told;
  }

  module _ (id : ℕ) (box mid : OutboxParts S) (entry : Read)
      (found : ForEntries g box mid (λ entries. Some (view_entry entry) ≡ found_at entries id))
      (kept : ForEntries g box mid (HasEntries g mid)) (named : mid.filer ≡ box.filer)
      (clean_before : HasCleanDisk (shows g mid) → HasCleanDisk (shows g box)) where
    pub sent_open : (old new : Traffic) (box' : OutboxParts S) (out out' : Option (List ℕ))
        (result : Result State Why) → entry.state ≡ State.Open
        → Sends g (λ entries. IsOpenAt entries id) id old new mid box' out out' result
        → Sends g AreAny id old new box box' out out' result
    sent_open old new box' out out' result opened sends =
        sent id old new box mid box' out out' result (λ clean entries had.
        (open_found entries id entry (found clean entries had) opened, kept clean entries had)) named clean_before
        sends

    pub told_settled : (traffic : Traffic) (out out' : Option (List ℕ)) (result : Result State Why)
        → entry.state ≢ State.Open → IsTold id (Ok entry.state) out out' result
        → Sends g AreAny id traffic traffic box mid out out' result
    told_settled traffic out out' result settled told = record {
      came = Ok entry.state;
      tries = record {
        tried = λ clean entries had any.
            let is : IsSettled entries id (view_state entry.state) =
            record {
              entry = (view_entry entry).1;
              at = (entry_found entries id entry (found clean entries had)).0;
              state_is = refl;
              settled = not_open entry.state settled;
            } in (
              inl (is, refl),
              subst (HasEntries g mid) (sym (set_settled entries id (view_state entry.state) is))
                  (kept clean entries had),
            );
        filer = named;
        clean = clean_before;
      };
      told = told;
    }

  -- the first that is open
  pub sent_first : (old new : Traffic) (box mid box' : OutboxParts S) (out out' : Option (List ℕ)) (entry : Read)
      (result : Result State Why) → LooksUp g box mid first_open (Ok (Some entry))
      → Sends g (λ entries. IsOpenAt entries entry.id) entry.id old new mid box' out out' result
      → SendsFirst g old new box box' out out' (answer_of_some result)
  sent_first old new box mid box' out out' entry result looks sends = record {
    id = entry.id;
    first = λ clean entries had. ap (option_map (λ (e : ℕ × Entry). e.0))
        (sym (looks.found (sends.tries.clean clean) entries had));
    sent = result;
    sends =
        sent entry.id old new box mid box' out out' result
        (λ clean entries had. (
          first_is_open entries entry.id (view_entry entry).1
              (sym (looks.found clean entries had)),
          looks.kept clean entries had,
        )) looks.filer
        (was_clean (shows g box) (shows g mid) _ looks.crash) sends;
    answered = refl;
  }

  -- none is open
  pub sent_none : (traffic : Traffic) (box mid : OutboxParts S) (out out' : Option (List ℕ))
      (result : Result (Option State) Why) → LooksUp g box mid first_open (Ok None)
      → ((result ≡ Ok None) × Appends out out' nothing_open)
      ⊎ ((why : Why) × (result ≡ Err why) × IsNotPrinted why)
      → SendsNone g traffic traffic box mid out out' result
  sent_none traffic box mid out out' result looks told = record {
    none = λ clean entries had. (sym (looks.found clean entries had), looks.kept clean entries had);
    filer = looks.filer;
    traffic = refl;
    told = told;
  }
