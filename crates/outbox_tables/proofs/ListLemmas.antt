-- Entries that were found sound are those of an outbox.
use Rattle.std.proofs.Common.{◌≡◌, ℕ, List, true}
use Rattle.std.specs.List.{AllByRecursion}
use Rattle.key_string.specs.Filer.{is_filer}
use Rattle.sqlite_keyed.proofs.ListLemmas.{all_weaker}
use Rattle.outbox_tables.specs.Audit.{IsKept}
use Rattle.filing_model.specs.Outbox.{Entry, IsSendable, request_of}
use Rattle.outbox_tables.specs.Entries.{contents_of, IsOutbox, AreDistinct, FitsNumber}

-- entries that are kept, under distinct keys
pub kept_list : (filer : List ℕ) (es : List Entry) → is_filer filer ≡ true → AllByRecursion IsKept es → AreDistinct es
    → IsOutbox (contents_of filer es)
kept_list filer es is kept distinct = record {
  filer = is;
  sendable =
      all_weaker IsKept (λ e. IsSendable (request_of filer e))
      (λ e k. record { filer = is; key = k.key; target = k.target; body = k.body }) es kept;
  numbers = all_weaker IsKept (λ e. FitsNumber e.state) (λ e k. k.number) es kept;
  distinct = distinct;
}
