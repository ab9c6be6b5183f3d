-- A run of `outbox put`.
use Rattle.std.proofs.Common.{◌≡◌, ◌∙◌, ℕ, ◌≤◌, true, false, true≢false, Bool, List, [], ◌∷◌, ◌++◌, length, Option}
use Rattle.std.proofs.Common.{Result, Ok, Err, refl, sym, subst, arith}
use Rattle.std.specs.Prelude.{bytes_eq, nat_le}
use Rattle.std.specs.List.{AllByRecursion, list_any}
use Rattle.std.proofs.lemmas.Slice.Eq.{bytes_eq-Decides}
use Rattle.std.proofs.lemmas.Bool.Decides.{nat_tests}
use Rattle.sqlite_disk.specs.declared.Disk.{Ghosts}
use Rattle.sqlite.specs.Files.{over_files}
use Rattle.sqlite_store.specs.declared.store.FileStore.{FileStore}
use Rattle.table_rows.proofs.CleanLemmas.{always_clean}
use Rattle.filing_model.specs.Outbox.{Entry, request_of, IsSendable}
use Rattle.http_messages.specs.Head.{max_body_len}
use Rattle.outbox_tables.specs.Entries.{Contents, contents_of, AreDistinct, IsOutbox}
use Rattle.outbox_core.specs.Entries.{opened, with_entry}
use Rattle.outbox_core.specs.Calls.{PutsEntry}
use Rattle.outbox_core.specs.OutboxParts.{OutboxParts, HasEntries}
use Rattle.outbox_core.specs.declared.fault.PutFault.{PutFault}
use Rattle.database_places.specs.Places.{IsHonest}
use Rattle.program_runs.specs.Deeds.{Deed, Added, TakesEntry}
use Rattle.program_runs.proofs.Lies.{Brings}

turned : (a b : List ℕ) → bytes_eq a b ≡ false → bytes_eq b a ≡ false
turned a b apart = go (bytes_eq b a) refl
  where
    go : (x : Bool) → bytes_eq b a ≡ x → x ≡ false
    go true is = absurd (true≢false (sym ((bytes_eq-Decides a b).1 (sym ((bytes_eq-Decides b a).0 is))) ∙ apart))
    go false is = refl

last_of : {X : Type 0} (P : X → Type 0) (xs : List X) (x : X) → AllByRecursion P (xs ++ x ∷ []) → P x
last_of P [] x all = all.0
last_of P (y ∷ xs) x all = last_of P xs x all.1

unused : (entries : List Entry) (entry : Entry) → AreDistinct (entries ++ entry ∷ [])
    → list_any (λ e. bytes_eq e.key entry.key) entries ≡ false
unused [] entry apart = refl
unused (e ∷ entries) entry apart =
    let first = turned entry.key e.key (last_of (λ b. bytes_eq b.key e.key ≡ false) entries entry apart.0) in
    rw first (unused entries entry apart.1)

short : (a b : ℕ) → a ≤ b → nat_le a b ≡ true
short a b le = grind (arith, nat_tests, le)

-- an entry that an outbox has as its last one was taken by what it was before
pub taken : (it : Contents) (entry : Entry) → IsOutbox (with_entry it entry)
    → TakesEntry it entry (with_entry it entry)
taken it entry is =
    let sendable = last_of (λ e. IsSendable (request_of it.filer e)) it.entries entry is.sendable in
    record {
      key = sendable.key;
      target = sendable.target;
      taken = rw (short (length entry.body) max_body_len sendable.body, unused it.entries entry is.distinct) refl;
      becomes = refl;
    }

-- the entry was put in if that is answered, and otherwise none
abbrev pub AreBy : Result ℕ PutFault → Deed → List Deed → Type 0
AreBy (Ok id) deed deeds = deeds ≡ deed ∷ []
AreBy (Err fault) deed deeds = deeds ≡ []

module _ {D : Type 0} {g : Ghosts D} where
  -- what putting a report in makes of an outbox that is clean: one entry more, if that is answered
  pub put_brings : (before after : OutboxParts (FileStore D g)) (it : Contents) (key : List ℕ) (target : Option ℕ)
      (body : List ℕ) (came : Result ℕ PutFault) → IsHonest g → HasEntries over_files before it.entries
      → before.filer ≡ it.filer → PutsEntry over_files before after key target body came
      → Brings before after it (AreBy came (Added key target body))
  put_brings before after it key target body (Ok id) honest has filer puts =
      let clean = always_clean honest after.conn in
      let entry = opened key target body in
      let open_after = (puts.durable clean it.entries has).0 in
      let added = (puts.added clean it.entries has).1 in
      let list = (added.stands.now open_after).list in
      let is : IsOutbox (with_entry it entry) =
      subst (λ f. IsOutbox (contents_of f (it.entries ++ entry ∷ []))) (puts.filer ∙ filer) list in
      record {
        deeds = Added key target body ∷ [];
        are = refl;
        entries = it.entries ++ entry ∷ [];
        done = (with_entry it entry, taken it entry is, refl);
        has = added;
        filer = puts.filer;
      }
  put_brings before after it key target body (Err fault) honest has filer puts =
      let clean = always_clean honest after.conn in
      record {
        deeds = [];
        are = refl;
        entries = it.entries;
        done = refl;
        has = puts.kept clean it.entries has;
        filer = puts.filer;
      }
