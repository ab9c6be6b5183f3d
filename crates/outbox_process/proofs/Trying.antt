-- An exchange that was made on a connection of its own.
use Rattle.std.proofs.Common.{◌≡◌, ◌∙◌, ℕ, List, [], ◌∷◌, ◌++◌, take, Option, Some, None, option_map, Result, Ok, Err}
use Rattle.std.proofs.Common.{refl, sym, ap, subst, inl, inr}
use Rattle.std.specs.Io.KnownBytes.{Appends}
use Rattle.sqlite.specs.Store.{Ghosts}
use Rattle.http_wire.specs.declared.device.Source.{Ghosts as Reads}
use Rattle.http_wire.specs.declared.device.Sink.{Ghosts as Writes}
use Rattle.http_wire.specs.Wire.{wire}
use Rattle.filing_model.specs.Outbox.{Entry, State as Shown, Open}
use Rattle.filing_model.specs.Views.{view_state}
use Rattle.filing_model.specs.declared.state.State.{State}
use Rattle.outbox_core.specs.OutboxParts.{OutboxParts}
use Rattle.outbox_core.specs.declared.fault.TakeFault.TheVariants.{NoEntry, Memory, Store}
use Rattle.filer_client.specs.declared.fault.ExchangeFault.{ExchangeFault}
use Rattle.filer_client.specs.declared.fault.ExchangeFault.TheVariants.{Write, Reply, Take}
use Rattle.filer_client.specs.Exchange.{IsSettled, WritesBefore}
use Rattle.filer_client.specs.Calls.{Exchanges}
use Rattle.outbox_process.specs.declared.fault.Why.{Why}
use Rattle.outbox_process.specs.declared.fault.Why.TheVariants.{Exchange}
use Rattle.outbox_process.specs.Dials.{Output, Traffic, Takes, IsUnwritten, Grows, Adds}
use Rattle.outbox_process.specs.Sending.{IsOneConnection, IsOpenAt, Tries}

-- what was written on a connection is what was told of it
grown : (before mid after : Option (List Output)) (id : ℕ) (came : Result State ExchangeFault)
    (written written' : Option (List ℕ)) (text : List ℕ) → mid ≡ before → IsUnwritten before written
    → Appends written written' text
    → Adds mid after id came written' → Grows before after (record { id = id; came = came; bytes = text } ∷ [])
grown before mid None id came written written' text same unwritten wrote adds = tt
grown before mid (Some outputs) id came written None text same unwritten wrote adds = absurd adds
grown before mid (Some outputs) id came written (Some bytes) text same unwritten wrote adds =
    let earlier = adds.0 in
    let was : before ≡ Some earlier = sym same ∙ adds.1 in
    let none : written ≡ Some [] = subst (λ b. IsUnwritten b written) was unwritten in
    let is : bytes ≡ text = subst (λ w. Appends w (Some bytes) text) none wrote in
    (earlier, was, subst (λ t. outputs ≡ earlier ++ record { id = id; came = came; bytes = t } ∷ []) is adds.2)

-- one connection was made
pub connection : (old mid new : Traffic) (left written written' : Option (List ℕ)) (id : ℕ)
    (came : Result State ExchangeFault) (text : List ℕ)
    → (mid.over ≡ old.over) × Takes old.coming mid.coming left × IsUnwritten old.over written → new.coming ≡ mid.coming
    → Appends written written' text → Adds mid.over new.over id came written'
    → IsOneConnection old new left (record { id = id; came = came; bytes = text })
connection old mid new left written written' id came text fresh coming wrote adds = (
  subst (λ c. Takes old.coming c left) (sym coming) fresh.1,
  grown old.over mid.over new.over id came written written' text fresh.0 fresh.2 wrote adds,
)

not_settled : (entries : List Entry) (id : ℕ) (state : Shown) → IsSettled entries id state → IsOpenAt entries id → ⊥
not_settled entries id state it opened =
    let same : Some it.entry.state ≡ Some Open = sym (ap (option_map (λ (e : Entry). e.state)) it.at) ∙ opened in
    let is : it.entry.state ≡ Open = cc in
    it.settled (sym it.state_is ∙ is)

-- what was written before a fault, as a text
written_before : (filer : List ℕ) (entries : List Entry) (id : ℕ) (written written' : Option (List ℕ))
    (fault : ExchangeFault) → WritesBefore filer entries id written written' fault
    → (bytes : List ℕ) × WritesBefore filer entries id (Some []) (Some bytes) fault × Appends written written' bytes
written_before filer entries id written written' (Write sent) wrote =
    (take sent wrote.0, (wrote.0, wrote.1, wrote.2, refl), wrote.3)
written_before filer entries id written written' (Reply fault) wrote = (wrote.0, (wrote.0, wrote.1, refl), wrote.2)
written_before filer entries id written written' (Take NoEntry) wrote = ([], (wrote.0, refl), wrote.1)
written_before filer entries id written written' (Take Memory) (inl none) = ([], inl refl, none)
written_before filer entries id written written' (Take Memory) (inr whole) =
    (whole.0, inr (whole.0, whole.1, refl), whole.2)
written_before filer entries id written written' (Take Store) (inl none) = ([], inl refl, none)
written_before filer entries id written written' (Take Store) (inr whole) =
    (whole.0, inr (whole.0, whole.1, refl), whole.2)

-- how it is answered
abbrev pub as_sent : ℕ → Result State ExchangeFault → Result State Why
as_sent id (Ok to) = Ok to
as_sent id (Err fault) = Err (Exchange id fault)

module _ {S : Type 0} (g : Ghosts S) where
  -- an exchange on a connection that was made
  pub exchanged : {R W : Type 0} (r : Reads R) (w : Writes W) (old mid new : Traffic) (box box' : OutboxParts S)
      (id : ℕ) (reader reader' : R) (writer writer' : W) (came : Result State ExchangeFault)
      → (mid.over ≡ old.over) × Takes old.coming mid.coming (r.left reader) × IsUnwritten old.over (w.written writer)
      → Exchanges g r w box box' id reader reader' writer writer' came
      → new.coming ≡ mid.coming → Adds mid.over new.over id came (w.written writer')
      → Tries g (λ entries. IsOpenAt entries id) id old new box box' (as_sent id came)
  exchanged r w old mid new box box' id reader reader' writer writer' (Ok to) fresh made coming adds = record {
    tried = λ clean entries had opened.
        let moved = made.moved clean entries had in (
          elim moved.0 [
            | inl settled ↦ absurd (not_settled entries id (view_state to) settled.0 opened)
            | inr sent ↦
                inr (
                  sent.0,
                  r.left reader,
                  r.left reader',
                  sent.1,
                  connection old mid new (r.left reader) (w.written writer) (w.written writer') id (Ok to) sent.0
                      fresh coming sent.2 adds,
                  sent.3,
                )
          ],
          moved.1,
        );
    filer = made.filer;
    clean = made.clean;
  }
  exchanged r w old mid new box box' id reader reader' writer writer' (Err fault) fresh made coming adds = record {
    tried = λ clean entries had opened.
        let wrote =
        written_before box.filer entries id (w.written writer) (w.written writer') fault
        (made.written clean entries had) in (
          (
            opened,
            inr (
              fault,
              refl,
              (
                wrote.0,
                wire r w reader writer,
                wire r w reader' writer',
                wrote.1,
                connection old mid new (r.left reader) (w.written writer) (w.written writer') id (Err fault) wrote.0
                    fresh coming wrote.2 adds,
                made.fault,
              ),
            ),
          ),
          made.kept clean entries had,
        );
    filer = made.filer;
    clean = made.clean;
  }
