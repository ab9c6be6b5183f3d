-- The message that is lent.
use Rattle.std.proofs.Common.{◌≡◌, ℕ, ◌≤◌, List, length, Some, sym, ◌∙◌, arith}
use Rattle.std.proofs.lemmas.Grind.{common_steps}
use Rattle.http_connection.proofs.Heads.{body_length-bound}
use Rattle.http_wire.specs.declared.inbox.Inbox.{Inbox}
use Rattle.http_messages.specs.Head.{body_length, max_body_len}
use Rattle.http_wire.specs.Inbox.{lent_request, LendsFirst}
use Rattle.http_messages.specs.Message.{BeginsRequest}
use Rattle.http_messages.specs.Request.{Request as Message}

-- there is one
pub lent_is : (inbox : Inbox) (l : LendsFirst inbox) (m : Message) → lent_request inbox ≡ Some m → l.request ≡ m
lent_is inbox l m e =
    let both : Some l.request ≡ Some m = sym l.lent ∙ e in
    cc

-- its body is within the limit
pub body_short : (bytes : List ℕ) (m : Message) (n : ℕ) → BeginsRequest bytes m n → length m.body ≤ max_body_len
body_short bytes m n b =
    let short = body_length-bound m.head b.head.head.sound in
    let len : length m.body ≤ body_length m.head = grind (arith, common_steps, b.body, b.length_is, b.whole) in
    omega arith
