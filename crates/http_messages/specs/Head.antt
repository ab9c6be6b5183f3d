-- The head of a request, and what it says of the message (RFC 9110 and RFC 9112).
use Rattle.std.specs.Prelude.{◌≡◌, ◌⊎◌, ℕ, ◌-◌, ◌<◌, ◌≤◌, Bool, true, ◌&&◌, ◌||◌, not, List, [], ◌∷◌, length, map}
use Rattle.std.specs.Prelude.{filter, slice_index, codes, bytes_eq, nat_lt, ◌==◌, if◌then◌else◌, Option, Some, None}
use Rattle.std.specs.Prelude.{nat_eq}
use Rattle.std.specs.Char.{is_ascii_digit, to_ascii_lowercase}
use Rattle.std.specs.List.{flat_map, list_all, list_any, slice_split, ends_with}
use Rattle.std.specs.Str.Parse.{digits_value}
use Rattle.httparse.specs.Ascii.{carriage_return, line_feed, comma}
use Rattle.httparse.specs.Grammar.{RequestHead, ReadsRequest, trim_ows}
use Rattle.httparse.specs.Spans.{name_and_value}
use Rattle.http_uri.specs.ByteClasses.{question_mark, split_once_front}
use Rattle.http_uri.specs.Grammar.{without_fragment}
use Rattle.http_uri.specs.Uri.{Spells, uri_path}
use Rattle.http_uri.specs.declared.uri.Uri.{Uri}
use Rattle.http_messages.specs.declared.head.HeadFault.{HeadFault}
use Rattle.http_messages.specs.declared.head.HeadFault.TheVariants.{Malformed, Host, Coding, Length, NoLength, TooLarge}
use Rattle.http_messages.specs.declared.head.HeadFault.TheVariants.{Memory}

-- own rule: a request of a longer body is refused (RFC 9110, section 15.5.14)
abbrev pub max_body_len : ℕ
max_body_len = 1048576

-- own rule: a head of more fields is malformed
abbrev pub max_fields : ℕ
max_fields = 64

-- the parts of a head; a field is a name and a value without the white space around it (RFC 9112, section 5)
pub record RequestParts : Type 0 where
  pub method : List ℕ
  pub path : List ℕ
  pub minor : ℕ
  pub fields : List (List ℕ × List ℕ)

-- the text in lower case
abbrev pub lowercase : List ℕ → List ℕ
lowercase text = map to_ascii_lowercase text

-- the two texts differ at most in case, as names of fields may (RFC 9110, section 5.1)
abbrev pub same_name : List ℕ → List ℕ → Bool
same_name a b = bytes_eq (lowercase a) (lowercase b)

-- the values of the fields of this name, in order (RFC 9110, section 5.3)
abbrev pub values_named : List ℕ → List (List ℕ × List ℕ) → List (List ℕ)
values_named name fields = map (λ f. f.1) (filter (λ f. same_name f.0 name) fields)

-- the comma-separated parts of a value (RFC 9110, section 5.6.1), without the OWS around them (section 5.6.3)
abbrev pub comma_parts : List ℕ → List (List ℕ)
comma_parts value = map trim_ows (slice_split (λ b. b == comma) value)

-- the parts of all values of this name
abbrev pub parts_named : List ℕ → List (List ℕ × List ℕ) → List (List ℕ)
parts_named name fields = flat_map comma_parts (values_named name fields)

-- one of the parts is this word
abbrev pub lists_word : List ℕ → List ℕ → List (List ℕ × List ℕ) → Bool
lists_word name word fields = list_any (λ part. same_name part word) (parts_named name fields)

-- the connection ends after the reply: `close` in Connection (RFC 9110, section 7.6.1; RFC 9112, section 9.6), and
-- HTTP/1.0 (own rule)
abbrev pub closes : RequestParts → Bool
closes p = (p.minor == 0) || lists_word (codes "connection") (codes "close") p.fields

-- the client waits for an interim response (RFC 9110, section 10.1.1); own rule: other expectations are ignored
abbrev pub expects : RequestParts → Bool
expects p = (p.minor == 1) && lists_word (codes "expect") (codes "100-continue") p.fields

-- 1*DIGIT (RFC 9110, section 8.6)
abbrev pub is_number : List ℕ → Bool
is_number part = nat_lt 0 (length part) && list_all is_ascii_digit part

-- all parts write one number (RFC 9112, section 6.3); own rules: leading zeros are ignored, and an empty part is no
-- number
abbrev pub agree : List (List ℕ) → Bool
agree [] = true
agree (part ∷ parts) = list_all (λ p. is_number p && digits_value 10 p == digits_value 10 part) (part ∷ parts)

-- the number that parts write which agree
abbrev pub agreed_number : List (List ℕ) → ℕ
agreed_number [] = 0
agreed_number (part ∷ parts) = digits_value 10 part

-- the parts of all Content-Length fields (RFC 9110, section 8.6)
abbrev pub lengths : RequestParts → List (List ℕ)
lengths p = parts_named (codes "content-length") p.fields

-- the declared length of the body (RFC 9112, section 6.3); zero without Content-Length
abbrev pub body_length : RequestParts → ℕ
body_length p = agreed_number (lengths p)

-- HTTP/1.1 without Host, or more than one (RFC 9110, section 7.2; RFC 9112, section 3.2)
abbrev pub has_host_fault : RequestParts → Bool
has_host_fault p =
    let count = length (values_named (codes "host") p.fields) in
    (p.minor == 1 && count == 0) || nat_lt 1 count

-- there is a Transfer-Encoding (RFC 9112, section 6.1); own rule: any is refused
abbrev pub has_coding : RequestParts → Bool
has_coding p = nat_lt 0 (length (values_named (codes "transfer-encoding") p.fields))

-- a POST without Content-Length (RFC 9110, section 15.5.12); own rule: it is refused, also if no content follows
abbrev pub lacks_length : RequestParts → Bool
lacks_length p = bytes_eq p.method (codes "POST") && length (values_named (codes "content-length") p.fields) == 0

-- the first of the faults that a head may have beside its grammar; the order is an own rule
abbrev pub framing_fault : RequestParts → Option HeadFault
framing_fault p =
    if has_host_fault p then Some Host
    else (if has_coding p then Some Coding
    else (if not (agree (lengths p)) then Some Length
    else (if lacks_length p then Some NoLength
    else (if nat_lt max_body_len (body_length p) then Some TooLarge else None))))

-- a CR stands directly before this index
abbrev pub FollowsCr : List ℕ → ℕ → Type 0
FollowsCr block i = (0 < i) × (slice_index block (i - 1) ≡ carriage_return)

-- the block begins with no CR or LF, and each LF directly follows a CR; own rule: RFC 9112, section 2.2, allows a bare
-- LF too
pub record HasPlainLines (block : List ℕ) : Type 0 where
  pub start : (slice_index block 0 ≡ carriage_return) → ⊥
  pub feeds : (i : ℕ) → slice_index block i ≡ line_feed → FollowsCr block i

-- the target without its query and its fragment (RFC 3986, sections 3.4 and 3.5)
abbrev pub before_query : List ℕ → List ℕ
before_query target = split_once_front question_mark (without_fragment target)

-- the path of a target, or nothing if the target writes none, as `http://h` (own rule; RFC 9112, section 3.2)
abbrev pub written_path : List ℕ → List ℕ → List ℕ
written_path target path = if ends_with nat_eq (before_query target) path then path else []

-- The block is a head with these parts: the grammar of RFC 9112, sections 3 and 5, as `httparse` reads it by default,
-- and of the target as `http_uri` reads it.
pub record ReadsHead (block : List ℕ) (parts : RequestParts) : Type 0 where
  pub lines : HasPlainLines block
  pub head : RequestHead
  pub reads : ReadsRequest block head []
  pub few : length head.fields ≤ max_fields
  pub target : Uri
  pub spells : Spells head.target target
  pub method : parts.method ≡ head.method
  pub path : parts.path ≡ written_path head.target (uri_path target)
  pub minor : parts.minor ≡ head.minor
  pub fields : parts.fields ≡ map name_and_value head.fields

-- the block is a head with these parts and without fault
pub record IsHead (block : List ℕ) (parts : RequestParts) : Type 0 where
  pub reads : ReadsHead block parts
  pub sound : framing_fault parts ≡ None

-- the block is no head
abbrev pub IsMalformed : List ℕ → Type 0
IsMalformed block = (parts : RequestParts) → ¬ (ReadsHead block parts)

-- the block is a head with this first fault
abbrev pub HasFraming : List ℕ → HeadFault → Type 0
HasFraming block fault = (parts : RequestParts) × ReadsHead block parts × (framing_fault parts ≡ Some fault)

-- the fault is the block's first; that memory ran out says nothing about the block
abbrev pub IsHeadFault : List ℕ → HeadFault → Type 0
IsHeadFault block Malformed = IsMalformed block
IsHeadFault block Host = HasFraming block Host
IsHeadFault block Coding = HasFraming block Coding
IsHeadFault block Length = HasFraming block Length
IsHeadFault block NoLength = HasFraming block NoLength
IsHeadFault block TooLarge = HasFraming block TooLarge
IsHeadFault block Memory = Unit {0}

-- the grammar refuses the block, or memory ran out
abbrev pub IsParseFault : List ℕ → HeadFault → Type 0
IsParseFault block fault = ((fault ≡ Malformed) × IsMalformed block) ⊎ (fault ≡ Memory)
