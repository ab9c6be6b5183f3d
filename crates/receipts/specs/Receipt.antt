-- The receipt of an exchange.
use Rattle.std.specs.Prelude.{◌≡◌, ◌≢◌, ℕ, List, Option, Some, Result, Ok, Err, string_bytes}
use Rattle.jiff_core.specs.declared.timestamp.Timestamp.{Timestamp}
use Rattle.http_messages.specs.Reply.{ReplyParts}
use Rattle.http_messages.specs.Replies.{reply_parts}
use Rattle.http_messages.specs.Response.{GivesReply}
use Rattle.http_messages.specs.declared.reply.Reply.{Reply}
use Rattle.http_wire.specs.ReplyFaults.{HasGiven, IsReplyFailure}
use Rattle.filing_model.specs.Outbox.{bytes_of, IsSendable}
use Rattle.filing_model.specs.Request.{Request}
use Rattle.filing_model.specs.Views.{view_state}
use Rattle.filing_model.specs.declared.state.State.{State}
use Rattle.outbox_core.specs.Saying.{Says}
use Rattle.outbox_core.specs.declared.state.Said.TheVariants.{Nothing, Same, Otherwise}
use Rattle.receipts.specs.declared.fault.ReceiptFault.{ReceiptFault}
use Rattle.receipts.specs.declared.fault.ReceiptFault.TheVariants.{Clock, NoRequest, NoReply, Unsettled, Contradicts}
use Rattle.receipts.specs.declared.fault.ReceiptFault.TheVariants.{Taken, File, Memory}
use Rattle.receipts.specs.declared.receipt.Receipt.{Receipt}
use Rattle.receipts.specs.Moment.{IsMomentText}
use Rattle.receipts.specs.Text.{receipt_text}

-- these bytes begin with this reply
abbrev pub IsReplyIn : List ℕ → ReplyParts → Type 0
IsReplyIn bytes reply = (rest : Option (List ℕ)) × HasGiven (Some bytes) rest (λ front. GivesReply front reply)

-- these bytes begin with no whole reply, for this cause
abbrev pub HasNoReply : List ℕ → ReceiptFault → Type 0
HasNoReply bytes (NoReply why) =
    (rest : Option (List ℕ)) × (failures : ℕ) × IsReplyFailure (Some bytes) rest 0 failures why
HasNoReply bytes _ = ⊥

abbrev pub BeginsReply : List ℕ → Result Reply ReceiptFault → Type 0
BeginsReply bytes (Ok reply) = IsReplyIn bytes (reply_parts reply)
BeginsReply bytes (Err fault) = HasNoReply bytes fault

-- A receipt of an exchange for the entry of an id: the reply that came would have settled an open entry as this one is
-- settled, and the text has the request that was sent and that reply.
pub record IsReceipt (id : ℕ) (state : State) (sent came : List ℕ) (moment : Timestamp) (port : ℕ)
    (receipt : Receipt) : Type 0 where
  pub reply : ReplyParts
  pub answered : IsReplyIn came reply
  pub settles : Says (view_state state) reply Same
  pub when : List ℕ
  pub moment_is : IsMomentText moment when
  pub of_entry : receipt.id ≡ id
  pub tells : (request : Request) → IsSendable request → sent ≡ bytes_of request
      → (receipt.sent ≡ request) × (string_bytes receipt.text ≡ receipt_text id request reply when port)

-- why there is no receipt
abbrev pub HasNoReceipt : State → List ℕ → List ℕ → ReceiptFault → Type 0
HasNoReceipt state sent came Clock = ⊥
HasNoReceipt state sent came NoRequest = (request : Request) → IsSendable request → sent ≢ bytes_of request
HasNoReceipt state sent came (NoReply why) = HasNoReply came (NoReply why)
HasNoReceipt state sent came Unsettled =
    (reply : ReplyParts) × IsReplyIn came reply × Says (view_state state) reply Nothing
HasNoReceipt state sent came Contradicts =
    (reply : ReplyParts) × IsReplyIn came reply × ((told : State) × Says (view_state state) reply (Otherwise told))
HasNoReceipt state sent came (Taken name) = ⊥
HasNoReceipt state sent came (File error) = ⊥
HasNoReceipt state sent came Memory = Unit {0}

abbrev pub ReceiptOf : ℕ → State → List ℕ → List ℕ → Timestamp → ℕ → Result Receipt ReceiptFault → Type 0
ReceiptOf id state sent came moment port (Ok receipt) = IsReceipt id state sent came moment port receipt
ReceiptOf id state sent came moment port (Err fault) = HasNoReceipt state sent came fault
