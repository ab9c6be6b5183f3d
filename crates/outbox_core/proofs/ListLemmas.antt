-- Contents that are still those of an outbox.
use Rattle.std.proofs.Common.{◌≡◌, ◌≤◌, ℕ, List, length, find, Option, None, IsTrue}
use Rattle.sqlite.specs.Tree.{Trees}
use Rattle.sqlite.specs.State.{State as Shown}
use Rattle.key_string.specs.Key.{IsKey}
use Rattle.http_messages.specs.Head.{max_body_len}
use Rattle.http_messages.specs.Posting.{IsTarget}
use Rattle.filing_model.specs.Outbox.{State, IsSendable, request_of}
use Rattle.filing_model.proofs.Keeping.{all_push}
use Rattle.outbox_tables.specs.Entries.{Contents, IsOutbox, FitsNumber, numbered}
use Rattle.outbox_core.specs.Entries.{has_text, opened, with_entry, with_state}
use Rattle.table_rows.specs.Standing.{HasCommitted}
use Rattle.table_rows.proofs.StandLemmas.{lasting}
use Rattle.outbox_tables.specs.Rows.{IsOutboxOf, LeavesOutbox}
use Rattle.outbox_core.proofs.EntryLemmas.{all_set, set_all, distinct_push, distinct_set, unused}

-- an entry more, under a key that was not used
pub one_more : (it : Contents) (key : List ℕ) (target : Option ℕ) (body : List ℕ) → IsKey key → IsTarget target
    → length body ≤ max_body_len → find (has_text key) (numbered it.entries) ≡ None → IsOutbox it
    → IsOutbox (with_entry it (opened key target body))
one_more it key target body is_key is_target short none was = record {
  filer = was.filer;
  sendable =
      all_push (λ e. IsSendable (request_of it.filer e)) it.entries (opened key target body) was.sendable
      (record { filer = was.filer; key = is_key; target = is_target; body = short });
  numbers = all_push (λ e. FitsNumber e.state) it.entries (opened key target body) was.numbers tt;
  distinct = distinct_push it.entries (opened key target body) (unused it.entries key none) was.distinct;
}

-- an entry in another state
pub another_state : (it : Contents) (id : ℕ) (state : State) → FitsNumber state → IsOutbox it
    → IsOutbox (with_state it id state)
another_state it id state fits was = record {
  filer = was.filer;
  sendable =
      all_set (λ e. IsSendable (request_of it.filer e)) (λ e s sendable. sendable) it.entries id state was.sendable;
  numbers = set_all FitsNumber it.entries id state fits was.numbers;
  distinct = distinct_set it.entries id state was.distinct;
}

-- a crash of an open store leaves what it shows
pub leaves_last : (s : Shown) (it : Contents) → HasCommitted (IsOutboxOf it) s → IsTrue s.is_open → (trees : Trees)
    → trees ≡ s.committed.trees → LeavesOutbox it trees
leaves_last s it h alive trees last =
    record { db = s.now; is = lasting (IsOutboxOf it) s h alive trees last; outbox = h.now alive }
