-- What contracts see of a `Reply`.
use Rattle.http_messages.specs.declared.reply.Reply.{Reply}
use Rattle.http_messages.specs.Reply.{ReplyParts}

-- the status, the content and what it is
abbrev pub reply_parts : Reply → ReplyParts
reply_parts r = record { status = r.status; content = r.content.items; kind = r.kind }
