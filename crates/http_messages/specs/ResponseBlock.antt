-- What a client needs of the head of a response.
use Rattle.std.specs.Prelude.{◌≡◌, ℕ, List}
use Rattle.http_messages.specs.declared.response.ResponseHead.{ResponseHead}
use Rattle.http_messages.specs.ReplyFaults.{content_length}
use Rattle.http_messages.specs.Response.{ResponseParts, ReadsResponseHead, kind_of}

-- what a client needs of these parts
pub record ShowsParts (head : ResponseHead) (parts : ResponseParts) : Type 0 where
  pub status : head.status ≡ parts.status
  pub kind : head.kind ≡ kind_of parts.fields
  pub content_len : head.content_len ≡ content_length parts.fields

-- the block is the head of a response, of which this is shown
abbrev pub IsResponseBlock : List ℕ → ResponseHead → Type 0
IsResponseBlock block head = (parts : ResponseParts) × ReadsResponseHead block parts × ShowsParts head parts
