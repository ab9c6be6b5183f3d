-- A confirming reply, read from any part of an output, says that the entry's request is registered.
use Rattle.std.proofs.Common.{◌≡◌, ℕ, ◌^◌, ◌<◌, ◌≤◌, ◌⊎◌, Bool, true, false, cond, List, [], ◌∷◌, ◌++◌, length, take}
use Rattle.std.proofs.Common.{Option, Some, None, refl, sym, ap, ◌∙◌, subst, ⊎_elim, arith, append_assoc, ◌==◌}
use Rattle.serde_json.specs.Data.{Data}
use Rattle.xbrl_report.specs.Findings.{tree}
use Rattle.xbrl_report.specs.Pair.{Pair}
use Rattle.xbrl_report.specs.CodeNumber.{number_of}
use Rattle.http_messages.specs.Head.{closes}
use Rattle.http_messages.specs.Message.{Arrival, Ending}
use Rattle.http_messages.specs.Request.{Request as Message}
use Rattle.http_messages.specs.Reply.{ReplyParts, render}
use Rattle.http_messages.specs.Response.{SpellsReply, GivesReply, IsReadable}
use Rattle.http_messages.proofs.ReplyRead.{reply-alone}
use Rattle.http_messages.proofs.UniqueReply.{SpellsReply-nothing}
use Rattle.filing_model.specs.declared.served.Style.TheVariants.{Problem}
use Rattle.filing_model.specs.declared.served.Mark.{Mark}
use Rattle.filing_model.specs.declared.served.Mark.TheVariants.{Done, Unavailable, NotFiled}
use Rattle.filing_model.specs.Prefix.{IsPrefixOf}
use Rattle.filing_model.specs.Request.{Request, firsts}
use Rattle.filing_model.specs.Answer.{Answer, answer, IsRegistered}
use Rattle.filing_model.specs.Reply.{reply_as, reply_of, unavailable, refused_status}
use Rattle.filing_model.specs.Outbox.{Open, Confirmed, Refused, Clashed, moved, state_told, IsSendable, bytes_of}
use Rattle.filing_model.specs.Serving.{BeginsArrivals}
use Rattle.filing_model.specs.Stopping.{Crash, No, Before, After}
use Rattle.filing_model.specs.Text.{FileReport, RouteFits, MarksFit, completed, completed_at, requests_of_route, reply}
use Rattle.filing_model.specs.Text.{reply_on, reply_text_with, text, text_with, interim_of, next_interim}
use Rattle.filing_model.proofs.Answers.{answer_registered, registered_grows}
use Rattle.filing_model.proofs.Lists.{append_nil, prefix_nil, take_prefix, take_within, take_all, prefix_trans}
use Rattle.filing_model.proofs.Finals.{answer-readable, unavailable-readable, told-exactly, answer_number}
use Rattle.filing_model.proofs.Firsts.{firsts_more}
use Rattle.filing_world.specs.World.{Sent, Output}
use Rattle.filing_world.specs.Step.{Hears}
use Rattle.filing_world.specs.Headline.{IsOutput}
use Rattle.filing_world.proofs.Posting.{IsAlone, FilesAlone}
use Rattle.filing_world.proofs.Posting.{posted, own_front}

-- only what the bytes give is heard
pub hears_gives : (bytes : List ℕ) (crash : Crash) (reply : ReplyParts) → Hears bytes crash (Some reply)
    → GivesReply bytes reply
hears_gives bytes No reply hears = hears
hears_gives bytes (Before j) reply hears = absurd hears
hears_gives bytes (After j) reply hears = hears

-- ---- statuses other than 201 confirm nothing

other_word : (a b : Bool) (n : ℕ) → cond a Refused (cond b Clashed Open) ≡ Confirmed n → ⊥
other_word true b n e = cc
other_word false true n e = cc
other_word false false n e = cc

other_status : (status : ℕ) (told : Option Data) (n : ℕ) → (status == 201) ≡ false
    → state_told status told ≡ Confirmed n → ⊥
other_status status None n h e = cc
other_status status (Some d) n h e = other_word _ _ n (rw h at e)

refused_other : (found : List Pair) → (refused_status found == 201) ≡ false
refused_other [] = refl
refused_other (f ∷ found) = by_code (number_of f.code == 1)
  where
    by_code : (b : Bool) → (cond b 400 422 == 201) ≡ false
    by_code true = refl
    by_code false = refl

other_reply : (reply : ReplyParts) (n : ℕ) → (reply.status == 201) ≡ false → moved Open reply ≡ Confirmed n → ⊥
unfolding moved
other_reply reply n h e = other_status reply.status (tree reply.content) n h e

-- only an answer that registers confirms, and under its number
pub confirms : (a : Answer) (n : ℕ) → ((m : ℕ) (b : Bool) → a ≡ Answer.Registered m b → m < 2 ^ 63)
    → moved Open (reply_of a) ≡ Confirmed n → (b : Bool) × (a ≡ Answer.Registered n b)
unfolding reply_as
confirms (Answer.Registered m b) n small h =
    (b, ap (λ k. Answer.Registered k b) (told-exactly Problem m n b (small m b refl) h))
confirms (Answer.Refused found b) n small h =
    absurd (other_reply (reply_of (Answer.Refused found b)) n (refused_other found) h)
confirms Answer.KeyReused n small h = absurd (other_reply (reply_of Answer.KeyReused) n refl h)

-- ---- an entry's own request

reply_alone : (before : List Request) (m : Message) (r : Request) → FilesAlone m r
    → reply before m ≡ reply_of (answer before r)
reply_alone before m r alone = ap (reply_on [] before) alone.filed

module _ (limit : ℕ) (before : List Request) (small : length (firsts before) ≤ 2 ^ 62) (r : Request) (part : List ℕ)
    (heard : ReplyParts) (n : ℕ) (spelled : SpellsReply part heard) (confirmed : moved Open heard ≡ Confirmed n) where
  nothing_heard : part ≡ [] → ⊥
  nothing_heard e = SpellsReply-nothing heard (subst (λ bytes. SpellsReply bytes heard) e spelled)

  silent_end : (ending : Ending) → (ending ≡ Ending.Closed) ⊎ (ending ≡ Ending.Rest false) → next_interim [] ending ≡ []
  silent_end ending silent = ⊎_elim
      (λ (e : ending ≡ Ending.Closed). ap (next_interim []) e)
      (λ (e : ending ≡ Ending.Rest false). ap (next_interim []) e)
      silent

  no_arrival : (ending : Ending) → (ending ≡ Ending.Closed) ⊎ (ending ≡ Ending.Rest false) → (marks : List Mark)
      → MarksFit limit before [] marks → IsPrefixOf part (text before [] ending marks) → ⊥
  unfolding text_with MarksFit
  no_arrival ending silent [] fit front =
      nothing_heard (prefix_nil part (subst (λ bytes. IsPrefixOf part bytes) (silent_end ending silent) front))
  no_arrival ending silent (mark ∷ marks) fit front = fit

  -- what is heard of a rendered reply is that reply
  heard_is : (reply : ReplyParts) (close : Bool) → IsReadable reply → IsPrefixOf part (render reply close)
      → heard ≡ reply
  heard_is reply close final front =
      let cut = take_prefix (length part) part (render reply close) front in
      reply-alone reply heard close cut.0 final (subst (λ bytes. SpellsReply bytes heard) (sym (take_all part)
      ∙ cut.1) spelled)

  heard_answer : (close : Bool) → IsPrefixOf part (render (reply_of (answer before r)) close)
      → IsRegistered (before ++ r ∷ []) r n
  heard_answer close front =
      let same = heard_is (reply_of (answer before r)) close (answer-readable Problem before r small) front in
      let found = confirms (answer before r) n number (ap (moved Open) (sym same) ∙ confirmed) in
      answer_registered before r n found.0 found.1
    where
      number : (m : ℕ) (b : Bool) → answer before r ≡ Answer.Registered m b → m < 2 ^ 63
      number m b e = omega (arith, small, answer_number before r m b e)

  heard_unavailable : (close : Bool) → IsPrefixOf part (render unavailable close) → ⊥
  heard_unavailable close front =
      let same = heard_is unavailable close unavailable-readable front in
      other_reply unavailable n refl (ap (moved Open) (sym same) ∙ confirmed)

  silent_interim : (m : Message) → FilesAlone m r → interim_of (Arrival.Read m) ≡ []
  silent_interim m alone = rw alone.silent refl

  one_text : (m : Message) → FilesAlone m r → (mark : Mark)
      → text before (Arrival.Read m ∷ []) Ending.Closed (mark ∷ []) ≡ reply_text_with [] before (Arrival.Read m) mark
  unfolding text_with
  one_text m alone mark =
      ap (λ front. front ++ (reply_text_with [] before (Arrival.Read m) mark ++ [])) (silent_interim m alone)
      ∙ append_nil (reply_text_with [] before (Arrival.Read m) mark)

  by_mark : (m : Message) → FilesAlone m r → (mark : Mark) → RouteFits limit before (FileReport r) mark
      → IsPrefixOf part (reply_text_with [] before (Arrival.Read m) mark)
      → IsRegistered (before ++ requests_of_route (FileReport r) mark) r n
  by_mark m alone Done fit front =
      heard_answer (closes m.head) (subst (λ reply. IsPrefixOf part (render reply (closes m.head)))
      (reply_alone before m r alone) front)
  by_mark m alone Unavailable fit front = absurd (heard_unavailable (closes m.head) front)
  by_mark m alone NotFiled fit front = absurd fit

  one_arrival : (m : Message) → FilesAlone m r → (marks : List Mark) → MarksFit limit before (Arrival.Read m ∷ []) marks
      → IsPrefixOf part (text before (Arrival.Read m ∷ []) Ending.Closed marks)
      → IsRegistered (before ++ completed (Arrival.Read m ∷ []) marks) r n
  unfolding text_with MarksFit completed
  one_arrival m alone [] fit front =
      absurd (nothing_heard (prefix_nil part (subst (λ bytes. IsPrefixOf part bytes) (silent_interim m alone) front)))
  one_arrival m alone (mark ∷ []) fit front =
      subst (λ more. IsRegistered (before ++ more) r n)
      (sym (append_nil (completed_at (Arrival.Read m) mark)
      ∙ ap (λ route. requests_of_route route mark) alone.filed))
      (by_mark m alone mark (subst (λ route. RouteFits limit before route mark) alone.filed fit.0)
      (subst (λ bytes. IsPrefixOf part bytes) (one_text m alone mark) front))
  one_arrival m alone (mark ∷ another ∷ marks) fit front = absurd fit.1

  pub heard_alone : (arrivals : List Arrival) (ending : Ending) (marks : List Mark) → IsAlone arrivals ending r
      → MarksFit limit before arrivals marks → IsPrefixOf part (text before arrivals ending marks)
      → IsRegistered (before ++ completed arrivals marks) r n
  heard_alone arrivals ending marks alone fit front = ⊎_elim
      (λ (e : (arrivals ≡ []) × ((ending ≡ Ending.Closed) ⊎ (ending ≡ Ending.Rest false))).
      absurd (no_arrival ending e.1 marks (subst (λ ps. MarksFit limit before ps marks) e.0 fit)
      (subst (λ ps. IsPrefixOf part (text before ps ending marks)) e.0 front)))
      (λ (e : (m : Message) × (arrivals ≡ Arrival.Read m ∷ []) × (ending ≡ Ending.Closed) × FilesAlone m r).
      subst (λ ps. IsRegistered (before ++ completed ps marks) r n) (sym e.1)
      (one_arrival e.0 e.3 marks (subst (λ ps. MarksFit limit before ps marks) e.1 fit)
      (subst (λ (x : List Arrival × Ending). IsPrefixOf part (text before x.0 x.1 marks)) (λ i. (e.1 i, e.2 i))
      front)))
      alone

-- A reply read from any part of an output to an entry's request confirms only what is registered.
pub hears : (limit : ℕ) (done : List Request) (sent : List Sent) (output : Output) (r : Request)
    → (out : IsOutput limit done sent output) → length (firsts done) ≤ 2 ^ 62 → IsSendable r
    → out.item.bytes ≡ bytes_of r → (given : ℕ) (heard : ReplyParts) → GivesReply (take given output.bytes) heard
    → (n : ℕ) → moved Open heard ≡ Confirmed n → IsRegistered done r n
hears limit done sent output r out few sendable own given heard gives n confirmed =
    let part : List ℕ = take gives.0 (take given output.bytes) in
    let alone =
    own_front r (posted r sendable) output.given out.arrivals out.ending
    (subst (λ bytes. BeginsArrivals (take output.given bytes) out.arrivals out.ending) own out.begins) in
    let front =
    prefix_trans part output.bytes (text out.before out.arrivals out.ending output.marks)
    (prefix_trans part (take given output.bytes) output.bytes (take_within gives.0 (take given output.bytes))
    (take_within given output.bytes)) out.written in
    let small : length (firsts out.before) ≤ 2 ^ 62 =
    omega (
      arith,
      firsts_more out.before (completed out.arrivals output.marks ++ out.later),
      ap (λ requests. length (firsts requests)) out.stands,
    ) in
    let here =
    heard_alone limit out.before small r part heard n gives.1 confirmed out.arrivals out.ending output.marks alone
    out.fit front in
    subst (λ requests. IsRegistered requests r n)
    (append_assoc out.before (completed out.arrivals output.marks) out.later
    ∙ sym out.stands) (registered_grows (out.before ++ completed out.arrivals output.marks) out.later r n here)
