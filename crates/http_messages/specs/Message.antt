-- Messages, and what a stream of bytes holds of them.
use Rattle.std.specs.Prelude.{◌≡◌, ◌≢◌, ℕ, ◌+◌, ◌≤◌, Bool, true, false, List, [], ◌∷◌, length, drop, slice_range}
use Rattle.std.specs.Prelude.{nat_lt, ◌&&◌, codes, if◌then◌else◌}
use Rattle.http_messages.specs.Block.{skipped_len, IsBlockEnd, IsTooLong}
use Rattle.http_messages.specs.Head.{RequestParts, IsHead, IsHeadFault, body_length, expects, closes}
use Rattle.http_messages.specs.Request.{Request}
use Rattle.http_messages.specs.declared.head.HeadFault.TheVariants.{Memory}
use Rattle.http_messages.specs.declared.refusal.Refusal.{Refusal}
use Rattle.http_messages.specs.declared.refusal.Refusal.TheVariants.{HeadTooLarge, Head}

-- the bytes begin with this head, and it ends after n bytes
pub record BeginsHead (bytes : List ℕ) (parts : RequestParts) (n : ℕ) : Type 0 where
  pub block : IsBlockEnd bytes n
  pub head : IsHead (slice_range bytes (skipped_len bytes) n) parts

-- the bytes begin with this request, and it ends after n bytes
pub record BeginsRequest (bytes : List ℕ) (request : Request) (n : ℕ) : Type 0 where
  pub head_len : ℕ
  pub head : BeginsHead bytes request.head head_len
  pub length_is : n ≡ head_len + body_length request.head
  pub whole : n ≤ length bytes
  pub body : request.body ≡ slice_range bytes head_len n

-- the bytes are the spelling of this request
abbrev pub SpellsRequest : List ℕ → Request → Type 0
SpellsRequest bytes request = BeginsRequest bytes request (length bytes)

-- the bytes begin with what no request can follow
abbrev pub IsRefused : List ℕ → Refusal → Type 0
IsRefused bytes HeadTooLarge = IsTooLong bytes
IsRefused bytes (Head fault) =
    (n : ℕ) × IsBlockEnd bytes n × (fault ≢ Memory) × IsHeadFault (slice_range bytes (skipped_len bytes) n) fault

-- the bytes are less than a whole request, and no refusal yet
pub record IsRest (bytes : List ℕ) : Type 0 where
  pub none : (request : Request) (n : ℕ) → ¬ (BeginsRequest bytes request n)
  pub refused : (refusal : Refusal) → ¬ (IsRefused bytes refusal)

-- the head asks for an interim response before the body
abbrev pub awaits : RequestParts → Bool
awaits p = expects p && nat_lt 0 (body_length p)

-- what arrives on a connection: requests one after another, and at most one refusal at their end
pub data Arrival : Type 0 where
  Read : Request → Arrival
  Refused : Refusal → Arrival

-- How the arrivals end: with one after which the connection closes, or with less than a whole request,
-- which may ask for an interim response.
pub data Ending : Type 0 where
  Closed : Ending
  Rest : Bool → Ending

-- whether the bytes, which hold no whole request, ask for an interim response
abbrev pub Asks : List ℕ → Bool → Type 0
Asks bytes true = (parts : RequestParts) × (n : ℕ) × BeginsHead bytes parts n × (awaits parts ≡ true)
Asks bytes false = (parts : RequestParts) (n : ℕ) → BeginsHead bytes parts n → awaits parts ≡ false

-- The bytes begin with these arrivals, one after another, of which a refusal is the last, and so is a request that
-- closes. What follows the others, and how they end, is as `Follows` says.
abbrev pub ArrivalsThen : (List ℕ → Ending → Type 0) → List ℕ → List Arrival → Ending → Type 0
ArrivalsThen Follows bytes [] ending = Follows bytes ending
ArrivalsThen Follows bytes (Refused refusal ∷ arrivals) ending =
    IsRefused bytes refusal × (arrivals ≡ []) × (ending ≡ Closed)
ArrivalsThen Follows bytes (Read request ∷ arrivals) ending =
    (n : ℕ) × BeginsRequest bytes request n
    × (closes request.head ≡ true → (arrivals ≡ []) × (ending ≡ Closed))
    × (closes request.head ≡ false → ArrivalsThen Follows (drop n bytes) arrivals ending)

-- nothing whole follows
abbrev pub NoneFollows : List ℕ → Ending → Type 0
NoneFollows bytes ending = (asks : Bool) × IsRest bytes × Asks bytes asks × (ending ≡ Rest asks)

-- the arrivals of the bytes, all of them, and how they end
abbrev pub HasArrivals : List ℕ → List Arrival → Ending → Type 0
HasArrivals bytes arrivals ending = ArrivalsThen NoneFollows bytes arrivals ending

-- `HTTP/1.1 100 Continue` and an empty line (RFC 9110, section 15.2.1)
abbrev pub interim : List ℕ
interim = codes "HTTP/1.1 100 Continue\r\n\r\n"

-- the text is the interim response that the bytes ask for, or nothing
abbrev pub IsInterimFor : List ℕ → List ℕ → Type 0
IsInterimFor bytes text = (asks : Bool) × Asks bytes asks × (text ≡ (if asks then interim else []))
