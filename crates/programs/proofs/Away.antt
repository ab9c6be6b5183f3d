-- What is read of a connection that was turned away moves no entry.
use Rattle.std.proofs.Common.{◌≡◌, ◌∙◌, ℕ, ◌⊎◌, Bool, true, false, List, [], ◌∷◌, length, take, Option, Some, None}
use Rattle.std.proofs.Common.{refl, sym, ap, subst, ⊎_elim}
use Rattle.std.specs.Prelude.{Result, Ok, Err, if◌then◌else◌, codes, bytes_eq}
use Rattle.std.specs.Io.KnownBytes.{Appends}
use Rattle.std.proofs.lemmas.Bool.{cases_Bool}
use Rattle.std.proofs.lemmas.Slice.Eq.{bytes_eq-Decides}
use Rattle.serde_json.specs.Data.{Data}
use Rattle.xbrl_report.specs.Findings.{tree}
use Rattle.http_messages.specs.declared.refusal.ConnFault.{ConnFault}
use Rattle.http_messages.specs.declared.refusal.ConnFault.TheVariants.{Read as ReadFault, Write, ReadLimit, Memory}
use Rattle.http_messages.specs.Message.{Arrival, Ending, Asks, interim}
use Rattle.http_messages.specs.Reply.{ReplyParts, render}
use Rattle.http_messages.specs.Request.{Request as Message}
use Rattle.http_messages.specs.Response.{GivesReply, SpellsReply, IsReadable}
use Rattle.http_messages.proofs.ReplyRead.{reply-alone}
use Rattle.http_messages.proofs.UniqueReply.{SpellsReply-nothing}
use Rattle.http_wire.specs.Calls.{WritesAsked}
use Rattle.filing_model.specs.declared.served.Ended.{Ended}
use Rattle.filing_model.specs.declared.served.Ended.TheVariants.{Closed, InputEnded, Fault}
use Rattle.filing_model.specs.declared.served.Mark.{Mark}
use Rattle.filing_model.specs.Outbox.{Open, moved, state_told, IsSendable, bytes_of}
use Rattle.filing_model.specs.Prefix.{IsPrefixOf}
use Rattle.filing_model.specs.Request.{Request}
use Rattle.filing_model.specs.Text.{FileReport, route, resource_of_path, route_by_resource, bare, interim_of, is_head}
use Rattle.filing_model.proofs.Finals.{unavailable-readable}
use Rattle.filing_model.proofs.Lists.{prefix_refl, prefix_trans, take_prefix, take_within, take_all, take_nil}
use Rattle.filing_world.proofs.Posting.{FilesAlone, posted, own_front}
use Rattle.gateway_server.specs.Answered.{WritesText}
use Rattle.gateway_rounds.specs.Away.{closing_reply, away_reply}
use Rattle.intake_process.specs.Turning.{IsUnanswered, AnswersAway, IsTurnedAway}

-- ---- a 503 moves nothing

open_still : (told : Option Data) → state_told 503 told ≡ Open
open_still None = refl
open_still (Some d) = refl

away_is_open : (is_head' : Bool) → moved Open (closing_reply is_head') ≡ Open
unfolding moved
away_is_open is_head' = open_still (tree (closing_reply is_head').content)

-- ---- what files a report is no HEAD

module _ (r : Request) (m : Message) where
  by_resource : (found : Option (List ℕ × Option ℕ)) → is_head m ≡ true
      → bare (is_head m) (route_by_resource found m) ≡ FileReport r → ⊥
  by_resource None heads files = let e = rw heads at files in cc
  by_resource (Some (filer, target)) heads files =
      let method : m.head.method ≡ codes "HEAD" = (bytes_eq-Decides m.head.method (codes "HEAD")).0 heads in
      let post : bytes_eq m.head.method (codes "POST") ≡ false = ap (λ xs. bytes_eq xs (codes "POST")) method in
      let get : bytes_eq m.head.method (codes "GET") ≡ false = ap (λ xs. bytes_eq xs (codes "GET")) method in
      let e = rw (heads, post, get) at files in
      cc

  no_head : route m ≡ FileReport r → is_head m ≡ false
  unfolding route
  no_head files = ⊎_elim
      (λ (heads : is_head m ≡ true). absurd (by_resource (resource_of_path m.head.path) heads files))
      (λ (other : is_head m ≡ false). other)
      (cases_Bool (is_head m))

-- ---- what is read

module _ (heard : ReplyParts) where
  -- nothing is read where nothing was written
  silent_out : (out : List ℕ) (k : ℕ) → out ≡ [] → GivesReply (take k out) heard → ⊥
  silent_out out k none gives =
      let part : take gives.0 (take k out) ≡ [] =
      ap (λ xs. take gives.0 (take k xs)) none ∙ ap (take gives.0) (take_nil k) ∙ take_nil gives.0 in
      SpellsReply-nothing heard (subst (λ bytes. SpellsReply bytes heard) part gives.1)

  -- what is read of a rendered reply is that reply
  heard_is : (reply : ReplyParts) (close : Bool) → IsReadable reply → (out : List ℕ) (k : ℕ)
      → IsPrefixOf out (render reply close) → GivesReply (take k out) heard → heard ≡ reply
  heard_is reply close readable out k front gives =
      let part = take gives.0 (take k out) in
      let within =
      prefix_trans part out (render reply close) (prefix_trans part (take k out) out
      (take_within gives.0 (take k out)) (take_within k out)) front in
      let cut = take_prefix (length part) part (render reply close) within in
      reply-alone reply heard close cut.0 readable (subst (λ bytes. SpellsReply bytes heard) (sym (take_all part)
      ∙ cut.1) gives.1)

-- ---- of the first bytes of an entry's request

module _ (r : Request) (sendable : IsSendable r) (given : ℕ) (heard : ReplyParts) (out : List ℕ) (k : ℕ)
    (gives : GivesReply (take k out) heard) where
  abbrev front : List ℕ
  front = take given (bytes_of r)

  never_asks : Asks front true → ⊥
  never_asks asks = ⊎_elim
      (λ (e : ([] ≡ []) × ((Ending.Rest true ≡ Ending.Closed) ⊎ (Ending.Rest true ≡ Ending.Rest false))). ⊎_elim
      (λ (a : Ending.Rest true ≡ Ending.Closed). cc) (λ (b : Ending.Rest true ≡ Ending.Rest false). cc) e.1)
      (λ (e : (m : Message) × ([] ≡ Arrival.Read m ∷ []) × (Ending.Rest true ≡ Ending.Closed) × FilesAlone m r).
      let none = e.1 in cc)
      (own_front r (posted r sendable) given [] (Ending.Rest true) asks)

  no_interim : (text : List ℕ) (asks : Bool) → Asks front asks → text ≡ (if asks then interim else []) → text ≡ []
  no_interim text true asks is = absurd (never_asks asks)
  no_interim text false asks is = is

  unasked : WritesAsked (Some []) (Some out) front → ⊥
  unasked wrote = silent_out heard out k (wrote.2 ∙ no_interim wrote.0 wrote.1.0 wrote.1.1 wrote.1.2) gives

  unanswered : (ended : Ended) → IsUnanswered front ended out → ⊥
  unanswered Closed is = is
  unanswered InputEnded is = unasked is.1
  unanswered (Fault ReadFault) is = unasked is
  unanswered (Fault (Write sent)) is = never_asks is.0
  unanswered (Fault ReadLimit) is = unasked is
  unanswered (Fault Memory) is =
      ⊎_elim (λ (asked : WritesAsked (Some []) (Some out) front). unasked asked)
      (λ (none : Appends (Some []) (Some out) []). silent_out heard out k none gives) is

  part_of : (text : List ℕ) (sent : Result (Unit {0}) ConnFault) → WritesText (Some []) (Some out) text sent
      → IsPrefixOf out text
  part_of text (Ok done) wrote = subst (λ xs. IsPrefixOf xs text) (sym wrote) (prefix_refl text)
  part_of text (Err ReadFault) wrote = absurd wrote
  part_of text (Err (Write sent)) wrote = subst (λ xs. IsPrefixOf xs text) (sym wrote.1) (take_within sent text)
  part_of text (Err ReadLimit) wrote = absurd wrote
  part_of text (Err Memory) wrote = subst (λ xs. IsPrefixOf xs text) (sym wrote) (text, refl)

  answered_one : (m : Message) (sent : Result (Unit {0}) ConnFault) → FilesAlone m r
      → WritesText (Some (interim_of (Arrival.Read m))) (Some out) (render (away_reply (Arrival.Read m)) true) sent
      → moved Open heard ≡ Open
  answered_one m sent alone wrote =
      let silent : interim_of (Arrival.Read m) ≡ [] = rw alone.silent refl in
      let reply : away_reply (Arrival.Read m) ≡ closing_reply false = ap closing_reply (no_head r m alone.filed) in
      let wrote' : WritesText (Some []) (Some out) (render (closing_reply false) true) sent =
      subst (λ x. WritesText (Some x) (Some out) (render (closing_reply false) true) sent) silent
      (subst (λ x. WritesText (Some (interim_of (Arrival.Read m))) (Some out) (render x true) sent) reply wrote) in
      ap (moved Open) (heard_is heard (closing_reply false) true unavailable-readable out k
      (part_of (render (closing_reply false) true) sent wrote') gives) ∙ away_is_open false

  answered : (mark : Mark) (ended : Ended) → AnswersAway front mark ended out → moved Open heard ≡ Open
  answered mark ended is = ⊎_elim
      (λ (e : (is.arrival ∷ [] ≡ []) × ((Ending.Closed ≡ Ending.Closed) ⊎ (Ending.Closed ≡ Ending.Rest false))).
      absurd (let none = e.0 in cc))
      (λ (e : (m : Message) × (is.arrival ∷ [] ≡ Arrival.Read m ∷ []) × (Ending.Closed
      ≡ Ending.Closed) × FilesAlone m r).
      let same : is.arrival ≡ Arrival.Read e.0 = (let one = e.1 in cc) in
      answered_one e.0 is.sent e.3
      (subst (λ a. WritesText (Some (interim_of a)) (Some out) (render (away_reply a) true) is.sent) same
      is.written))
      (own_front r (posted r sendable) given (is.arrival ∷ []) Ending.Closed is.begins)

  -- an entry that is open stays so
  pub moves_nothing : (marks : List Mark) (ended : Ended) → IsTurnedAway front marks ended out → moved Open heard ≡ Open
  moves_nothing [] ended is = absurd (unanswered ended is)
  moves_nothing (mark ∷ []) ended is = answered mark ended is
  moves_nothing (mark ∷ another ∷ marks) ended is = absurd is
