-- What contracts see of messages and of what they ask for.
use Rattle.std.specs.Prelude.{◌≡◌, ℕ, ◌⊎◌, List, [], ◌∷◌, codes, Some, None, true}
use Rattle.key_string.specs.declared.fault.KeyFault.{KeyFault}
use Rattle.key_string.specs.declared.fault.KeyFault.TheVariants.{NotString, Empty, TooLong, NotPrintable}
use Rattle.key_string.specs.Filer.{is_filer}
use Rattle.key_string.specs.Key.{key_of_field}
use Rattle.http_connection.specs.declared.event.Request.{Request as Lent}
use Rattle.http_messages.specs.Request.{Request as Message}
use Rattle.http_messages.specs.Posting.{IsTarget}
use Rattle.filing_model.specs.Reply.{word_reply}
use Rattle.filing_model.specs.Text.{Route}
use Rattle.filing_model.specs.Views.{the_request}
use Rattle.gateway_requests.specs.declared.route.Rejection.{Rejection as Why}
use Rattle.gateway_requests.specs.declared.route.Rejection.TheVariants.{NoPath, NoMethod, ContentCoding, KeyMissing}
use Rattle.gateway_requests.specs.declared.route.Rejection.TheVariants.{KeyBad}
use Rattle.gateway_requests.specs.declared.route.Route.{Route as Asked}
use Rattle.gateway_requests.specs.declared.route.Route.TheVariants as asked
use Rattle.gateway_requests.specs.declared.route.NoKey.{NoKey}
use Rattle.gateway_requests.specs.declared.route.NoKey.TheVariants.{Missing, Bad, Memory}

abbrev pub view_message : Lent → Message
view_message m = record { head = m.head; body = m.body.now }

abbrev pub rejection_status : Why → ℕ
rejection_status NoPath = 404
rejection_status NoMethod = 405
rejection_status ContentCoding = 415
rejection_status KeyMissing = 400
rejection_status KeyBad = 400

abbrev pub rejection_word : Why → List ℕ
rejection_word NoPath = codes "no-path"
rejection_word NoMethod = codes "no-method"
rejection_word ContentCoding = codes "content-coding"
rejection_word KeyMissing = codes "key-missing"
rejection_word KeyBad = codes "key-bad"

-- what a message with this body asks for
abbrev pub view_route : Asked → List ℕ → Route
view_route (asked.Reject why) body = Route.Reject (word_reply (rejection_status why) (rejection_word why))
view_route (asked.ListFilings filer number) body = Route.ListFilings filer.now number
view_route (asked.FileReport filer target key) body = Route.FileReport (the_request filer.now key target body)

-- the code is a filer's, and the number one that a filing may have
abbrev pub HasFiler : Asked → Type 0
HasFiler (asked.Reject why) = Unit {0}
HasFiler (asked.ListFilings filer number) = Unit {0}
HasFiler (asked.FileReport filer target key) = (is_filer filer.now ≡ true) × IsTarget target

abbrev pub key_field : List ℕ
key_field = codes "idempotency-key"

-- there is one value, and it spells the key
abbrev pub IsKeyOf : List (List ℕ) → List ℕ → Type 0
IsKeyOf values key = (value : List ℕ) × (values ≡ value ∷ []) × (key_of_field value ≡ Some key)

-- there is no value; there are several, or the only one spells no key; of lack of memory nothing is said
abbrev pub NoKeyOf : List (List ℕ) → NoKey → Type 0
NoKeyOf values Missing = values ≡ []
NoKeyOf values Bad =
    ((value : List ℕ) × (values ≡ value ∷ []) × (key_of_field value ≡ None))
    ⊎ ((first : List ℕ) × (second : List ℕ) × (more : List (List ℕ)) × (values ≡ first ∷ second ∷ more))
NoKeyOf values Memory = Unit {0}

abbrev pub no_key : KeyFault → NoKey
no_key NotString = Bad
no_key Empty = Bad
no_key TooLong = Bad
no_key (NotPrintable at) = Bad
no_key KeyFault.Memory = Memory
