-- The codings of a request's content (RFC 9110, section 8.4).
use Rattle.std.specs.Prelude.{ℕ, Bool, ◌&&◌, not, List, length, codes, nat_lt}
use Rattle.std.specs.List.{list_any}
use Rattle.http_messages.specs.Head.{RequestParts, same_name, parts_named}

-- neither empty nor `identity`
abbrev pub is_coding : List ℕ → Bool
is_coding part = nat_lt 0 (length part) && not (same_name part (codes "identity"))

-- one of the parts of `Content-Encoding` is a coding
abbrev pub has_content_coding : RequestParts → Bool
has_content_coding p = list_any is_coding (parts_named (codes "content-encoding") p.fields)
