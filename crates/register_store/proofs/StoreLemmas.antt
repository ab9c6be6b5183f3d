-- What the calls of a store keep.
use Rattle.std.proofs.Common.{◌≡◌, ℕ, List, [], IsTrue, false, sym, ap, subst, ◌∙◌, Option, Result, Ok, Err, OnErr}
use Rattle.std.proofs.Common.{OnOk}
use Rattle.std.proofs.Common.{length, refl}
use Rattle.sqlite.specs.Store.{Ghosts}
use Rattle.sqlite.specs.Tree.{Trees}
use Rattle.sqlite.specs.Effect.{Database}
use Rattle.sqlite.specs.Held.{Held, state}
use Rattle.sqlite.specs.State.{State, HasCleanDisk}
use Rattle.filing_model.specs.Request.{Request, firsts}
use Rattle.filing_model.specs.Register.{kept_after}
use Rattle.table_rows.specs.Leaving.{Ending, Leaves, OnlyReads}
use Rattle.table_rows.specs.Standing.{HasCommitted, AddsNothing}
use Rattle.table_rows.proofs.LeavingLemmas.{stands}
use Rattle.register_store.specs.Calls.{KeepsStore}
use Rattle.register_store.specs.Moments.{HasMoments}
use Rattle.register_rows.specs.Catalogue.{Entry, catalogue_of}
use Rattle.register_rows.specs.Received.{Received}
use Rattle.register_store.specs.Store.{StoreParts, shows, HasRequests, IsDurableAs}
use Rattle.register_tables.specs.Registers.{IsRegisterOf, LeavesReceived, LeavesRegister}

-- while the store is open, a crash leaves the requests that stand
pub leaves : (old_style : ℕ) (F : List Request) (s : State) → HasCommitted (IsRegisterOf old_style F) s
    → IsTrue s.is_open → (trees : Trees) → trees ≡ s.committed.trees → LeavesRegister old_style F trees
leaves old_style F s h alive trees last =
    record { db = s.now; is = last ∙ ap (λ (d : Database). d.trees) (h.committed alive); register = h.now alive }

-- and their moments
pub leaves_received : (old_style : ℕ) (F : List Request) (moments : List (Option ℕ)) (s : State)
    → HasCommitted (IsRegisterOf old_style F) s → HasCommitted (λ db. Received db moments) s
    → length moments ≡ length F → IsTrue s.is_open → (trees : Trees) → trees ≡ s.committed.trees
    → LeavesReceived old_style F moments trees
leaves_received old_style F moments s h had each alive trees last = record {
  db = s.now;
  is = last ∙ ap (λ (d : Database). d.trees) (h.committed alive);
  register = h.now alive;
  one_each = each;
  received = had.now alive;
}

-- after a call that only reads the store has the requests that it had, and an answer says that they last
module _ {S : Type 0} (g : Ghosts S) (store : StoreParts S) (conn : Held S) (F : List Request)
    (had : HasRequests g store F) (clean : HasCleanDisk (state g conn)) where
  pub has_still : {l : Ending} → Leaves l (shows g store) (state g conn)
      → HasRequests g (record store { conn = conn }) F
  has_still p =
      record {
        stands = stands p clean had.stands;
        kept_is = had.kept_is;
        filings_is = had.filings_is;
        within =
            had.within;
        catalogue_is = had.catalogue_is;
      }

  pub moments_still : {l : Ending} → Leaves l (shows g store) (state g conn) → (moments : List (Option ℕ))
      → HasMoments g store moments → HasMoments g (record store { conn = conn }) moments
  moments_still p moments dated = record { stands = stands p clean dated.stands; one_each = dated.one_each }

  pub answers_last : {X E : Type 0} (result : Result X E) → OnlyReads g store.conn conn result
      → ((trees : Trees) → IsTrue (state g conn).is_open → (state g conn).may_leave trees
      → trees ≡ (state g conn).committed.trees)
      → OnOk result (IsDurableAs g (record store { conn = conn }) store.old_style F)
  answers_last (Ok x) p settled = let alive = (p.left clean).0.is_open in (
    alive,
    λ trees left. leaves store.old_style F (state g conn) (stands p clean had.stands) alive trees
        (settled trees alive left),
  )
  answers_last (Err e) p settled = tt

-- a call that only reads changes nothing else of it
pub keeps_store : {S : Type 0} (g : Ghosts S) (store : StoreParts S) (conn : Held S) {l : Ending}
    → Leaves l (shows g store) (state g conn) → KeepsStore g store (record store { conn = conn })
keeps_store g store conn p =
    record {
      same = λ clean F had. has_still g store conn F had clean p;
      moments = λ clean F had. moments_still g store conn F had clean p;
      counts = (refl, refl, refl);
      old_style =
          refl;
      crash = p.survives;
    }

-- a register without requests has no filing
pub none_listed : catalogue_of [] ≡ []
unfolding firsts kept_after
none_listed = refl

-- ---- a refusal

pub refused_so : {X E P : Type 0} (result : Result X E) → P → OnErr result P
refused_so (Ok x) p = tt
refused_so (Err e) p = p

module _ {S : Type 0} (g : Ghosts S) (store : StoreParts S) (room : List Entry) (same : room ≡ store.catalogue) where
  -- after one that wrote nothing the store has the requests that it had
  pub has_kept : (conn : Held S) (F : List Request) → HasRequests g store F → conn.in_transaction ≡ false
      → AddsNothing (shows g store) (state g conn) → HasRequests g (record store { conn = conn; catalogue = room }) F
  has_kept conn F had idle none = record {
    stands = record {
      autocommit = idle;
      now = λ alive. subst (IsRegisterOf store.old_style F)
          (sym (none.now alive ∙ had.stands.committed (none.was_open alive))) (had.stands.now (none.was_open alive));
      committed = λ alive. none.committed alive ∙ sym (none.now alive);
    };
    kept_is = had.kept_is;
    filings_is = had.filings_is;
    within = had.within;
    catalogue_is = same ∙ had.catalogue_is;
  }

  -- and the moments that it had
  pub has_dated : (conn : Held S) (moments : List (Option ℕ)) → HasMoments g store moments
      → conn.in_transaction ≡ false → AddsNothing (shows g store) (state g conn)
      → HasMoments g (record store { conn = conn; catalogue = room }) moments
  has_dated conn moments had idle none = record {
    stands = record {
      autocommit = idle;
      now = λ alive. subst (λ db. Received db moments)
          (sym (none.now alive ∙ had.stands.committed (none.was_open alive))) (had.stands.now (none.was_open alive));
      committed = λ alive. none.committed alive ∙ sym (none.now alive);
    };
    one_each = had.one_each;
  }
