-- Why no reply was read from a reader.
use Rattle.std.specs.Prelude.{◌≡◌, ℕ, ◌+◌, ◌<◌, ◌≤◌, List, length, Option, Some}
use Rattle.std.specs.Io.KnownBytes.{Consumes, IsAtEnd}
use Rattle.http_messages.specs.declared.refusal.ReplyFault.{ReplyFault}
use Rattle.http_messages.specs.declared.refusal.ReplyFault.TheVariants.{Cut, Malformed, NoLength, TooLarge, Read}
use Rattle.http_messages.specs.declared.refusal.ReplyFault.TheVariants.{ReadLimit, Memory}
use Rattle.http_wire.specs.Device.{HasFailed}
use Rattle.http_messages.specs.Reads.{max_reads}
use Rattle.http_messages.specs.ReplyFaults.{IsRefusedReply, IsCutReply}

-- the reader gave bytes of which this holds
abbrev pub HasGiven : Option (List ℕ) → Option (List ℕ) → (List ℕ → Type 0) → Type 0
HasGiven before after P = (bytes : List ℕ) × Consumes before after bytes × P bytes

-- Why no reply was read, by the reader's failures before and after: a read failed; or none did, and what the reader
-- gave is cut at its end, or refused; or it is still cut, and all reads were made that may give bytes, which gave at
-- least a byte each; or there was no memory.
abbrev pub IsReplyFailure : Option (List ℕ) → Option (List ℕ) → ℕ → ℕ → ReplyFault → Type 0
IsReplyFailure before after failures failures' Cut =
    (failures' ≡ failures) × IsAtEnd after × HasGiven before after IsCutReply
IsReplyFailure before after failures failures' Malformed =
    (failures' ≡ failures) × HasGiven before after (λ bytes. IsRefusedReply bytes Malformed)
IsReplyFailure before after failures failures' NoLength =
    (failures' ≡ failures) × HasGiven before after (λ bytes. IsRefusedReply bytes NoLength)
IsReplyFailure before after failures failures' TooLarge =
    (failures' ≡ failures) × HasGiven before after (λ bytes. IsRefusedReply bytes TooLarge)
IsReplyFailure before after failures failures' Read = HasFailed failures failures'
IsReplyFailure before after failures failures' ReadLimit =
    (failures' ≡ failures) × HasGiven before after (λ bytes. (max_reads ≤ length bytes) × IsCutReply bytes)
IsReplyFailure before after failures failures' Memory = failures' ≡ failures

-- A fault of the reader or of memory, of which this text shows nothing. After it the reader has the rest of the text
-- left: if all reads were made that may give bytes, there is a rest, and they gave at least a byte each of what stands
-- before it.
abbrev pub IsOfReader : List ℕ → Option (List ℕ) → ReplyFault → Type 0
IsOfReader text left Cut = ⊥
IsOfReader text left Malformed = ⊥
IsOfReader text left NoLength = ⊥
IsOfReader text left TooLarge = ⊥
IsOfReader text left Read = Unit {0}
IsOfReader text left ReadLimit =
    (rest : List ℕ) × (left ≡ Some rest) × (0 < length rest) × (max_reads + length rest ≤ length text)
IsOfReader text left Memory = Unit {0}
