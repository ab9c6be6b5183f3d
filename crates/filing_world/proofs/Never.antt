-- What no run does.
use Rattle.std.proofs.Common.{◌≡◌, ◌≢◌, ◌⊎◌, ℕ, zero, suc, ◌+◌, ◌^◌, ◌<◌, ◌≤◌, Bool, true, false, cond, List, [], ◌∷◌}
use Rattle.std.proofs.Common.{◌++◌, map, length, take, Option, Some, None, refl, sym, ap, ◌∙◌, subst, ⊎_elim, arith}
use Rattle.std.specs.Prelude.{slice_get, filter}
use Rattle.std.specs.List.{range_with_len}
use Rattle.std.proofs.lemmas.Bool.{cases_Bool, and_parts}
use Rattle.std.proofs.lemmas.Slice.Eq.{bytes_eq-Decides}
use Rattle.http_messages.specs.Head.{closes}
use Rattle.http_messages.specs.Message.{Arrival, Ending}
use Rattle.http_messages.specs.Request.{Request as Message}
use Rattle.http_messages.specs.Reply.{ReplyParts, render}
use Rattle.http_messages.specs.Response.{SpellsReply, GivesReply, IsReadable}
use Rattle.http_messages.proofs.ReplyRead.{reply-spells, reply-alone}
use Rattle.filing_model.specs.declared.served.Style.TheVariants.{Problem}
use Rattle.filing_model.specs.declared.served.Mark.{Mark}
use Rattle.filing_model.specs.declared.served.Mark.TheVariants.{Done, Unavailable, NotFiled}
use Rattle.filing_model.specs.Prefix.{IsPrefixOf}
use Rattle.filing_model.specs.Request.{Request, same_request, firsts}
use Rattle.filing_model.specs.Register.{Filing, register, numbers_of}
use Rattle.filing_model.specs.Answer.{Answer, answer}
use Rattle.filing_model.specs.Reply.{reply_as, reply_of, unavailable}
use Rattle.filing_model.specs.Outbox.{State, bytes_of, IsSendable}
use Rattle.filing_model.specs.Serving.{BeginsArrivals}
use Rattle.filing_model.specs.Stopping.{Crash}
use Rattle.filing_model.specs.Text.{FileReport, MarksFit, completed, requests_of_route, interim_of, reply_text_with}
use Rattle.filing_model.specs.Text.{text, text_with}
use Rattle.filing_model.proofs.Firsts.{same_target-is}
use Rattle.filing_model.proofs.Finals.{answer-readable, unavailable-readable}
use Rattle.filing_model.proofs.Keeping.{register_numbered}
use Rattle.filing_model.proofs.Lists.{append_nil, take_prefix, take_all}
use Rattle.filing_model.proofs.Stopping.{serves_begin, serves_front}
use Rattle.filing_model.specs.Numbered.{changed_at}
use Rattle.filing_world.specs.World.{World, Outbox, Output, Sent, Deliver, Hand, numbered, renewed}
use Rattle.filing_world.specs.Step.{Hears, heard_by, box_after, Hands, Step}
use Rattle.filing_world.specs.Headline.{IsReached, IsConfirmed, start, states, states_from, states_of}
use Rattle.filing_world.specs.Invariant.{Keeps}
use Rattle.filing_world.proofs.Posting.{IsAlone, FilesAlone}
use Rattle.filing_world.proofs.Hearing.{hears_gives}
use Rattle.filing_world.proofs.Keeping.{keeps_start, keeps_run, holds}
use Rattle.filing_world.proofs.Lists.{same_element, renewed_same}
use Rattle.filing_world.proofs.Plays.{gives_none}
use Rattle.filing_world.proofs.Posting.{posted, own_front}

-- ---- a part of a reply

-- the states are those of the entries
states_set : (from : ℕ) (boxes : List Outbox) (i : ℕ) (old new : Outbox) → slice_get boxes i ≡ Some old
    → new.entries ≡ old.entries → states_from from (changed_at (λ old. new) boxes i) ≡ states_from from boxes
states_set from [] i old new here same = absurd (cc)
states_set from (box ∷ boxes) zero old new here same =
    let is : old ≡ box = cc in
    ap (λ entries. states_of from 1 entries ++ states_from (suc from) boxes) (same ∙ ap (λ (b : Outbox). b.entries) is)
states_set from (box ∷ boxes) (suc i) old new here same =
    ap (λ rest. states_of from 1 box.entries ++ rest) (states_set (suc from) boxes i old new here same)

states_renewed : (boxes : List Outbox) (i : ℕ) (old new : Outbox) → numbered boxes i ≡ Some old
    → new.entries ≡ old.entries → states_from 1 (renewed boxes i new) ≡ states_from 1 boxes
states_renewed boxes zero old new here same = refl
states_renewed boxes (suc i) old new here same = states_set 1 boxes i old new here same

deaf : (bytes : List ℕ) (crash : Crash) (heard : Option ReplyParts) (state : State)
    → ((reply : ReplyParts) → ¬ (GivesReply bytes reply)) → Hears bytes crash heard → heard_by state heard ≡ state
deaf bytes crash None state silent hears = refl
deaf bytes crash (Some reply) state silent hears = absurd (silent reply (hears_gives bytes crash reply hears))

-- an entry that is not moved leaves all states as they are
pub still : (old new : World) (output given : ℕ) (crash : Crash) (step : Hands old output given crash new)
    → heard_by step.entry.state step.heard ≡ step.entry.state → states new ≡ states old
still old new output given crash step deaf =
    let entry : record step.entry { state = heard_by step.entry.state step.heard } ≡ step.entry =
    ap (λ s. record step.entry { state = s }) deaf in
    ap states step.becomes
    ∙ states_renewed old.outboxes step.outbox step.box (box_after step.box step.number step.entry step.heard crash)
    step.box_here
    (ap (renewed step.box.entries step.number) entry
    ∙ renewed_same step.box.entries step.number step.entry step.entry_here)

-- what is handed over of a reply, unless it is the whole, moves no entry
pub part_moves_nothing : (old new : World) (output given : ℕ) (crash : Crash) (from : Output) (reply : ReplyParts)
    (close : Bool)
    → numbered old.outputs output ≡ Some from → IsReadable reply
    → IsPrefixOf (take given from.bytes) (render reply close)
    → length (take given from.bytes) < length (render reply close) → Step old (Hand output given crash) new
    → states new ≡ states old
part_moves_nothing old new output given crash from reply close here readable begins short step =
    let is : step.from ≡ from = same_element (numbered old.outputs output) step.from from step.here here in
    let hears = subst (λ (o : Output). Hears (take given o.bytes) crash step.heard) is step.hears in
    still old new output given crash step (deaf (take given from.bytes) crash step.heard step.entry.state
    (λ other. gives_none reply other close (take given from.bytes) readable begins short) hears)

-- ---- a number

-- the n-th from here on has that number
number_at : (from : ℕ) (fs : List Filing) (k : ℕ) (f : Filing)
    → map (λ f. f.number) fs ≡ range_with_len from (length fs) → slice_get fs k ≡ Some f → f.number ≡ from + k
number_at from [] k f e here = absurd (cc)
number_at from (g ∷ fs) zero f e here =
    let is : f ≡ g = cc in
    let head : g.number ≡ from = cc in
    omega (arith, ap (λ (h : Filing). h.number) is, head)
number_at from (g ∷ fs) (suc k) f e here =
    let tail : map (λ f. f.number) fs ≡ range_with_len (from + 1) (length fs) = cc in
    omega (arith, number_at (from + 1) fs k f tail here)

-- a request's number is that of a filing of it
abbrev IsFiled : Request → List Filing → ℕ → Type 0
IsFiled r fs n = (k : ℕ) × (f : Filing) × (slice_get fs k ≡ Some f) × (f.number ≡ n) × (same_request f.request r ≡ true)

filed_as : (r : Request) (fs : List Filing) (n : ℕ) → numbers_of r fs ≡ n ∷ [] → IsFiled r fs n
filed_as r [] n e = absurd (cc)
filed_as r (f ∷ fs) n e = ⊎_elim
    (λ (h : same_request f.request r ≡ true). (0, f, refl, head (rw h at e), h))
    (λ (h : same_request f.request r ≡ false). let later = filed_as r fs n (rw h at e) in
    (suc later.0, later.1, later.2, later.3, later.4))
    (cases_Bool (same_request f.request r))
  where
    head : f.number ∷ map (λ g. g.number) (filter (λ g. same_request g.request r) fs) ≡ n ∷ [] → f.number ≡ n
    head e = cc

abbrev request_by : List ℕ → List ℕ → Option ℕ → List ℕ → Request
request_by filer key target body = record { filer = filer; key = key; target = target; body = body }

same_is : (r s : Request) → same_request r s ≡ true → r ≡ s
same_is r s h =
    let parts = and_parts _ _ h in
    let keys = and_parts _ _ parts.0 in
    let filer = (bytes_eq-Decides r.filer s.filer).0 keys.0 in
    let key = (bytes_eq-Decides r.key s.key).0 keys.1 in
    let content = and_parts _ _ parts.1 in
    let body = (bytes_eq-Decides r.body s.body).0 content.0 in
    let target = same_target-is r.target s.target content.1 in
    λ i. request_by (filer i) (key i) (target i) (body i)

-- a number is that of one request
pub one_request : (done : List Request) (r s : Request) (n : ℕ) → numbers_of r (register done) ≡ n ∷ []
    → numbers_of s (register done) ≡ n ∷ [] → r ≡ s
one_request done r s n e f =
    let first = filed_as r (register done) n e in
    let second = filed_as s (register done) n f in
    let i = number_at 1 (register done) first.0 first.1 (register_numbered done) first.2 in
    let j = number_at 1 (register done) second.0 second.1 (register_numbered done) second.2 in
    let place : first.0 ≡ second.0 = omega (arith, i, j, first.3, second.3) in
    let filing : first.1 ≡ second.1 =
    same_element (slice_get (register done) second.0) first.1 second.1
    (subst (λ k. slice_get (register done) k ≡ Some first.1) place first.2) second.2 in
    sym (same_is first.1.request r first.4) ∙ ap (λ (f : Filing). f.request) filing
    ∙ same_is second.1.request s second.4

-- ---- a request that could not be decided

abbrev IsOther : ℕ → Type 0
IsOther status = status ≢ 503

other_status : (a : Answer) → IsOther (reply_of a).status
unfolding reply_as
other_status (Answer.Registered n b) e = omega (arith, e)
other_status (Answer.Refused [] b) e = omega (arith, e)
other_status (Answer.Refused (f ∷ found) b) e = by_code _ e
  where
    by_code : (c : Bool) → IsOther (cond c 400 422)
    by_code true e = omega (arith, e)
    by_code false e = omega (arith, e)
other_status Answer.KeyReused e = omega (arith, e)

last_is : (xs : List Output) (x y : Output) → xs ++ x ∷ [] ≡ xs ++ y ∷ [] → x ≡ y
last_is [] x y e = cc
last_is (z ∷ xs) x y e = last_is xs x y (cc)

-- ---- 503

-- the reply to a decided request is none that begins with the one that says it could not be
undecided : (done : List Request) (r : Request) (close again : Bool) → length (firsts done) ≤ 2 ^ 62
    → ¬ (IsPrefixOf (render unavailable close) (render (reply_of (answer done r)) again))
undecided done r close again few front =
    let part = render unavailable close in
    let cut = take_prefix (length part) part (render (reply_of (answer done r)) again) front in
    let spelled =
    subst (λ bs. SpellsReply bs unavailable) (sym (take_all part)
    ∙ cut.1) (reply-spells unavailable close unavailable-readable) in
    let same =
    reply-alone (reply_of (answer done r)) unavailable again cut.0 (answer-readable Problem done r few) spelled in
    other_status (answer done r) (sym (ap (λ (x : ReplyParts). x.status) same))

module _ (limit : ℕ) (done : List Request) (few : length (firsts done) ≤ 2 ^ 62) (r : Request) (close : Bool) where
  by_mark : (m : Message) → FilesAlone m r → (mark : Mark)
      → IsPrefixOf (render unavailable close) (text done (Arrival.Read m ∷ []) Ending.Closed (mark ∷ []))
      → requests_of_route (FileReport r) mark ≡ []
  unfolding text_with
  by_mark m alone Unavailable front = refl
  by_mark m alone NotFiled front = refl
  by_mark m alone Done front =
      let silent : interim_of (Arrival.Read m) ≡ [] = rw alone.silent refl in
      let reply : reply_text_with [] done (Arrival.Read m) Done ≡ render (reply_of (answer done r)) (closes m.head) =
      rw alone.filed refl in
      let whole =
      ap (λ before. before ++ (reply_text_with [] done (Arrival.Read m) Done ++ [])) silent ∙ append_nil _
      ∙ reply in
      absurd (undecided done r close (closes m.head) few (subst (IsPrefixOf (render unavailable close)) whole front))

  one_arrival : (m : Message) → FilesAlone m r → (marks : List Mark) → MarksFit limit done (Arrival.Read m ∷ []) marks
      → IsPrefixOf (render unavailable close) (text done (Arrival.Read m ∷ []) Ending.Closed marks)
      → completed (Arrival.Read m ∷ []) marks ≡ []
  unfolding completed MarksFit
  one_arrival m alone [] fit front = refl
  one_arrival m alone (mark ∷ []) fit front =
      append_nil _ ∙ ap (λ to. requests_of_route to mark) alone.filed ∙ by_mark m alone mark front
  one_arrival m alone (mark ∷ another ∷ marks) fit front = absurd fit.1

  no_arrival : (marks : List Mark) → completed [] marks ≡ []
  unfolding completed
  no_arrival marks = refl

  nothing_completed : (arrivals : List Arrival) (ending : Ending) (marks : List Mark) → IsAlone arrivals ending r
      → MarksFit limit done arrivals marks → IsPrefixOf (render unavailable close) (text done arrivals ending marks)
      → completed arrivals marks ≡ []
  nothing_completed arrivals ending marks alone fit front = ⊎_elim
      (λ (e : (arrivals ≡ []) × ((ending ≡ Ending.Closed) ⊎ (ending ≡ Ending.Rest false))). ap
      (λ ps. completed ps marks) e.0 ∙ no_arrival marks)
      (λ (e : (m : Message) × (arrivals ≡ Arrival.Read m ∷ []) × (ending ≡ Ending.Closed) × FilesAlone m r).
      ap (λ ps. completed ps marks) e.1
      ∙ one_arrival e.0 e.3 marks (subst (λ ps. MarksFit limit done ps marks) e.1 fit)
      (subst (λ (x : List Arrival × Ending). IsPrefixOf (render unavailable close) (text done x.0 x.1 marks))
      (λ i. (e.1 i, e.2 i)) front))
      alone

-- a request that is told that it could not be decided is not completed
pub undecided_completes_nothing : (old new : World) (item given : ℕ) (crash : Crash) (from : Sent) (r : Request)
    (output : Output) (close : Bool) → Keeps old → numbered old.sent item ≡ Some from → IsSendable r
    → from.bytes ≡ bytes_of r
    → Step old (Deliver item given crash) new → new.outputs ≡ old.outputs ++ output ∷ []
    → output.bytes ≡ render unavailable close → new.done ≡ old.done
undecided_completes_nothing old new item given crash from r output close keeps here sendable own step outputs told =
    let is : step.from ≡ from = same_element (numbered old.sent item) step.from from step.here here in
    let bytes : step.from.bytes ≡ bytes_of r = ap (λ (x : Sent). x.bytes) is ∙ own in
    let begins =
    subst (λ bs. BeginsArrivals (take given bs) step.arrivals step.serves.ending) bytes
    (serves_begin old.limit old.done (take given step.from.bytes) crash step.arrivals step.marks step.ended step.out
    step.serves) in
    let alone = own_front r (posted r sendable) given step.arrivals step.serves.ending begins in
    let written : step.out ≡ render unavailable close =
    ap (λ (o : Output). o.bytes) (last_is old.outputs _ output (sym (ap (λ (w : World). w.outputs) step.becomes)
    ∙ outputs)) ∙ told in
    let front =
    subst (λ bs. IsPrefixOf bs (text old.done step.arrivals step.serves.ending step.marks)) written
    (serves_front old.limit old.done (take given step.from.bytes) crash step.arrivals step.marks step.ended step.out
    step.serves) in
    let nothing =
    nothing_completed old.limit old.done (omega (arith, keeps.few, keeps.limit)) r close step.arrivals
    step.serves.ending step.marks alone step.serves.fit front in
    ap (λ (w : World). w.done) step.becomes ∙ ap (λ more. old.done ++ more) nothing ∙ append_nil old.done

-- ---- of worlds that are reached

pub keeps_reached : (world : World) → IsReached world → Keeps world
keeps_reached world at =
    keeps_run (start at.filers at.limit) at.events world (keeps_start at.filers at.limit at.are at.bound) at.run

pub filed_once : (done : List Request) (k j : ℕ) (f g : Filing) → slice_get (register done) k ≡ Some f
    → slice_get (register done) j ≡ Some g → f.number ≡ g.number → k ≡ j
filed_once done k j f g here there same =
    omega (
      arith,
      same,
      number_at 1 (register done) k f (register_numbered done) here,
      number_at 1 (register done) j g (register_numbered done) there,
    )

number_of_confirmed : (world : World) (r : Request) (n : ℕ) → IsReached world → IsConfirmed world r n
    → numbers_of r (register world.done) ≡ n ∷ []
number_of_confirmed world r n at is =
    subst (λ s. numbers_of s (register world.done) ≡ n ∷ []) is.is
    ((holds world (keeps_reached world at)).confirmed is.outbox is.number n is.box is.entry is.here is.there
    is.confirmed)

pub confirmed_once : (world : World) (r s : Request) (n : ℕ) → IsReached world → IsConfirmed world r n
    → IsConfirmed world s n → r ≡ s
confirmed_once world r s n at one other =
    one_request world.done r s n (number_of_confirmed world r n at one) (number_of_confirmed world s n at other)
