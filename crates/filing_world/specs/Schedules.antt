-- A worked schedule, with one entry in one outbox.
use Rattle.std.specs.Prelude.{◌≡◌, ℕ, ◌≤◌, true, false, List, [], ◌∷◌, length, map, codes, None}
use Rattle.xbrl_report.specs.Findings.{findings}
use Rattle.http_messages.specs.Reply.{render}
use Rattle.filing_model.specs.Request.{Request}
use Rattle.filing_model.specs.Register.{Filing, register}
use Rattle.filing_model.specs.Answer.{Answer}
use Rattle.filing_model.specs.Reply.{reply_of}
use Rattle.filing_model.specs.Outbox.{State, bytes_of, IsSendable}
use Rattle.filing_model.specs.Stopping.{No, Before, After}
use Rattle.filing_world.specs.World.{World, Event, Put, Send, Stranger, Deliver, Hand, RestartServer, RestartOutbox}
use Rattle.filing_world.specs.Headline.{states}
use Rattle.filing_world.specs.Step.{Run}

-- a report that can be sent, in which nothing is found, and which replaces none
pub record IsGood (r : Request) : Type 0 where
  pub sendable : IsSendable r
  pub untargeted : r.target ≡ None
  pub valid : findings r.filer r.body ≡ []

-- a small report of this kind
abbrev pub small : Request
small = record {
  filer = codes "ACME";
  key = codes "k-1";
  target = None;
  body =
      codes "{\"documentInfo\":{\"documentType\":\"https://xbrl.org/2021/xbrl-json\",\"taxonomy\":[\"t\"]}}";
}

-- the filing that a report becomes if it is the first
abbrev pub filing_of : Request → Filing
filing_of r = record { number = 1; request = r }

-- the bytes of the reply that registers it, on a connection that closes
abbrev pub registered_bytes : List ℕ
registered_bytes = render (reply_of (Answer.Registered 1 false)) true

-- so many bytes are all of the request and all of this reply
pub record IsAll (all : ℕ) (r : Request) : Type 0 where
  pub request : length (bytes_of r) ≤ all
  pub reply : length registered_bytes ≤ all

-- what a world holds at last: so many completed requests, these filings, these bytes of outputs and these states of
-- entries
pub record EndsWith (world : World) (done : ℕ) (filings : List Filing) (outputs : List (List ℕ))
    (known : List (ℕ × ℕ × State)) : Type 0 where
  pub count : length world.done ≡ done
  pub registered : register world.done ≡ filings
  pub written : map (λ o. o.bytes) world.outputs ≡ outputs
  pub told : states world ≡ known

-- some run of these events leaves that
abbrev pub MayLeave : World → List Event → ℕ → List Filing → List (List ℕ) → List (ℕ × ℕ × State) → Type 0
MayLeave old events done filings outputs known =
    (new : World) × Run old events new × EndsWith new done filings outputs known

-- Every event, with every stop. The report is sent, and its delivery is cut, then stopped before the request, then
-- stopped behind the commit. A stranger sends the same request. The report is sent again; its reply is cut, then handed
-- over to an outbox that stops before it reads, then to one that stops after that, and then once more.
abbrev pub each_event : Request → ℕ → ℕ → ℕ → List Event
each_event r all part cut =
    Put 1 r.key r.target r.body ∷ Send 1 1 ∷ Deliver 1 part No ∷ Deliver 1 all (Before 1) ∷ RestartServer
    ∷ Deliver 1 all (After 1) ∷ RestartServer ∷ Stranger (bytes_of r) ∷ Deliver 2 all No ∷ Send 1 1 ∷ Deliver 3 all No
    ∷ Hand 5 cut No ∷ Hand 5 all (Before 1) ∷ RestartOutbox 1 ∷ Hand 5 all (After 1) ∷ RestartOutbox 1 ∷ Hand 5 all No
    ∷ []
