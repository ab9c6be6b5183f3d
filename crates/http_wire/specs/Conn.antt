-- What contracts see of a connection, and what a reply does to it.
use Rattle.std.specs.Prelude.{◌≡◌, ◌||◌, Bool, true, false, Result, Err, IfErr, OnOk, OnErr, is_err}
use Rattle.std.specs.Io.KnownBytes.{Appends}
use Rattle.http_wire.specs.declared.conn.Conn.{Conn}
use Rattle.http_wire.specs.declared.device.Sink.{Ghosts as Writes}
use Rattle.http_wire.specs.declared.inbox.Inbox.{Inbox}
use Rattle.http_messages.specs.declared.refusal.ConnFault.{ConnFault}
use Rattle.http_messages.specs.declared.refusal.ConnFault.TheVariants.{Write}
use Rattle.http_wire.specs.Inbox.{is_over, is_failed, KeepsBytes}
use Rattle.http_messages.specs.Reply.{ReplyParts, render}
use Rattle.http_wire.specs.Write.{IsWriteFault}

-- its reader
abbrev pub conn_reader : {R W : Type 0} → Conn R W → R
conn_reader c = c.reader

-- its writer
abbrev pub conn_writer : {R W : Type 0} → Conn R W → W
conn_writer c = c.writer

-- the inbox between them
abbrev pub conn_inbox : {R W : Type 0} → Conn R W → Inbox
conn_inbox c = c.inbox

-- What `reply` does to a connection.
pub record WritesReply {R W : Type 0} (w : Writes W) (old new : Conn R W) (reply : ReplyParts) (close : Bool)
    (result : Result (Unit {0}) ConnFault) : Type 0 where
  -- the reply was written, and the writer didn't fail
  pub ok : OnOk result (Appends (w.written (conn_writer old)) (w.written (conn_writer new)) (render reply close))
  pub fine : OnOk result (w.write_failures (conn_writer new) ≡ w.write_failures (conn_writer old))
  -- or this is why it wasn't written; after a fault, also one of `next`, nothing is written
  pub fault : is_failed (conn_inbox old) ≡ false
      → IfErr result (IsWriteFault w (conn_writer old) (conn_writer new) (render reply close))
  pub after_fault : is_failed (conn_inbox old) ≡ true → (result ≡ Err (Write 0)) × (conn_writer new ≡ conn_writer old)
  -- whether anything may arrive then
  pub over : OnOk result (is_over (conn_inbox new) ≡ (close || is_over (conn_inbox old)))
  pub closed : OnErr result (is_over (conn_inbox new) ≡ true)
  pub failed : is_failed (conn_inbox new) ≡ (is_failed (conn_inbox old) || is_err result)
  -- nothing was read, and the request that was lent is still lent
  pub reader : conn_reader new ≡ conn_reader old
  pub bytes : KeepsBytes (conn_inbox old) (conn_inbox new)
