-- What the first reply on a connection is, by the first message on it; and that the request of an entry, served again,
-- gets the same.
use Rattle.std.proofs.Common.{◌≡◌, ◌∙◌, ℕ, ◌+◌, ◌^◌, ◌≤◌, ◌⊎◌, ◌||◌, Bool, true, false, not, List, [], ◌∷◌, ◌++◌}
use Rattle.std.proofs.Common.{length, take, drop, Option, Some, None, refl, sym, ap, subst, inl, inr, arith}
use Rattle.std.proofs.Common.{append_assoc}
use Rattle.std.specs.Prelude.{if◌then◌else◌}
use Rattle.std.specs.List.{list_any}
use Rattle.std.proofs.lemmas.Bool.{both_ways}
use Rattle.std.proofs.Math.Seq.{drop-length}
use Rattle.std.proofs.lemmas.List.{take-append-drop}
use Rattle.std.proofs.lemmas.List.Folds.{list_any-append}
use Rattle.serde_json.specs.Data.{Data}
use Rattle.http_messages.specs.Head.{closes}
use Rattle.http_messages.specs.Message.{Arrival, Read, Refused, Ending, Rest, BeginsRequest, SpellsRequest, IsRefused}
use Rattle.http_messages.specs.Message.{HasArrivals, awaits, interim}
use Rattle.http_messages.specs.Reply.{ReplyParts, render}
use Rattle.http_messages.specs.Request.{Request as Message}
use Rattle.http_messages.specs.Response.{BeginsReply, GivesReply, IsReadable}
use Rattle.http_messages.specs.declared.refusal.Refusal.{Refusal}
use Rattle.http_messages.proofs.MoreBytes.{BeginsRequest-more, IsRefused-more}
use Rattle.http_messages.proofs.ReplyRead.{reply-spells}
use Rattle.http_messages.proofs.Unique.{BeginsRequest-unique, IsRefused-excludes}
use Rattle.http_messages.proofs.UniqueReply.{BeginsReply-more}
use Rattle.filing_model.specs.declared.served.Mark.{Mark}
use Rattle.filing_model.specs.declared.served.Mark.TheVariants.{Done, Unavailable, NotFiled}
use Rattle.filing_model.specs.declared.served.Style.TheVariants.{Problem}
use Rattle.filing_model.specs.Answer.{answer}
use Rattle.filing_model.specs.Outbox.{Open, moved, state_told, bytes_of}
use Rattle.filing_model.specs.Prefix.{IsPrefixOf}
use Rattle.filing_model.specs.Reply.{reply_of, unavailable}
use Rattle.filing_model.specs.Request.{Request, same_key, has_key, firsts}
use Rattle.filing_model.specs.Serving.{BeginsArrivals, keeping, kept_by, end_of, IsServed}
use Rattle.filing_model.specs.Text.{FileReport, route, RouteFits, MarksFit, completed, requests_of_route}
use Rattle.filing_model.specs.Text.{reply_on, reply_text_with, text, text_with, interim_of, next_interim, RepliesStand}
use Rattle.filing_model.proofs.Finals.{answer-readable, unavailable-readable}
use Rattle.filing_model.proofs.Firsts.{firsts_more, same_key-refl, firsts_repeat}
use Rattle.filing_model.proofs.Lists.{append_nil}
use Rattle.filing_world.proofs.Posting.{IsPosted}
use Rattle.programs.proofs.Nothing.{nothing}
use Rattle.programs.specs.Fronts.{piece_end}
use Rattle.programs.proofs.Interims.{interim_then, gives_one, silent, interim_silent}

-- ---- what is written first

-- an interim response, or nothing
interim_if : Bool → List ℕ
interim_if asks = if asks then interim else []

none_in : (asks : Bool) (out : List ℕ) (told : ReplyParts) → IsPrefixOf out (interim_if asks) → GivesReply out told → ⊥
unfolding interim_if
none_in true out told front given = interim_silent out told front given
none_in false out told front given = silent out told front given

behind : (asks : Bool) (rest : List ℕ) (reply : ReplyParts) (n : ℕ) → BeginsReply rest reply n
    → (m : ℕ) × BeginsReply (interim_if asks ++ rest) reply m
unfolding interim_if
behind true rest reply n b = (length interim + n, interim_then rest reply n b)
behind false rest reply n b = (n, b)

-- the first reply behind it is the one that is given
one_in : (asks : Bool) (reply : ReplyParts) (close : Bool) (more out : List ℕ) (told : ReplyParts) → IsReadable reply
    → IsPrefixOf out (interim_if asks ++ (render reply close ++ more)) → GivesReply out told → told ≡ reply
one_in asks reply close more out told readable front given =
    let size = length (render reply close) in
    let spelled = BeginsReply-more (render reply close) more reply size (reply-spells reply close readable) in
    let here = behind asks (render reply close ++ more) reply size spelled in
    (gives_one (interim_if asks ++ (render reply close ++ more)) out reply told here.0 here.1 front given).0

undecided_is_open : moved Open unavailable ≡ Open
unfolding moved
undecided_is_open = still _
  where
    still : (told : Option Data) → state_told 503 told ≡ Open
    still None = refl
    still (Some d) = refl

-- ---- a connection

-- the reply says nothing, or the request was completed, and would get this reply now
abbrev pub IsToldOf : List Request → Request → ReplyParts → Type 0
IsToldOf done r told = (moved Open told ≡ Open) ⊎ ((has_key done r ≡ true) × (told ≡ reply_of (answer done r)))

module _ (limit : ℕ) (done before later : List Request) (r : Request) (message : Message) (len : ℕ)
    (files : route message ≡ FileReport r) (bytes : List ℕ) (given : ℕ) (begins : BeginsRequest bytes message len)
    (few : length (firsts done) ≤ 2 ^ 62) (out : List ℕ) (told : ReplyParts) (gives : GivesReply out told) where
  abbrev part : List ℕ
  part = take given bytes

  whole : part ++ drop given bytes ≡ bytes
  whole = take-append-drop given bytes

  same_message : (m : Message) (k : ℕ) → BeginsRequest part m k → m ≡ message
  same_message m k b =
      let long = subst (λ bs. BeginsRequest bs m k) whole (BeginsRequest-more part (drop given bytes) m k b) in
      (BeginsRequest-unique bytes m message k len long begins).0

  known : (more : List Request) → done ≡ before ++ (r ∷ more) → has_key done r ≡ true
  known more is =
      ap (λ requests. has_key requests r) is ∙ list_any-append (λ s. same_key s r) before (r ∷ more)
      ∙ rw same_key-refl (any_true (list_any (λ s. same_key s r) before))
    where
      any_true : (b : Bool) → (b || true) ≡ true
      any_true true = refl
      any_true false = refl

  next_is : (ending : Ending) → (asks : Bool) × (next_interim [] ending ≡ interim_if asks)
  unfolding interim_if
  next_is Ending.Closed = (false, refl)
  next_is (Rest true) = (true, refl)
  next_is (Rest false) = (false, refl)

  interim_is : (m : Message) → interim_of (Arrival.Read m) ≡ interim_if (awaits m.head)
  unfolding interim_if
  interim_is m = refl

  none_of : (text : List ℕ) (asks : Bool) → text ≡ interim_if asks → IsPrefixOf out text → ⊥
  none_of text asks is front = none_in asks out told (subst (IsPrefixOf out) is front) gives

  fits_before : (more : List Request) → done ≡ before ++ more → length (firsts before) ≤ 2 ^ 62
  fits_before more is = omega (arith, few, firsts_more before more, ap (λ requests. length (firsts requests)) is)

  by_mark : (m : Message) → route m ≡ FileReport r → (mark : Mark) → RouteFits limit before (FileReport r) mark
      → (more : List Request) (rest : List ℕ) → done ≡ before ++ (requests_of_route (FileReport r) mark ++ more)
      → ((s : Request) → requests_of_route (FileReport r) mark ≡ s ∷ []
      → reply_of (answer before s) ≡ reply_of (answer done s))
      → IsPrefixOf out (interim_of (Arrival.Read m) ++ (reply_text_with [] before (Arrival.Read m) mark ++ rest))
      → IsToldOf done r told
  unfolding interim_if
  by_mark m filed Done fit more rest is stands front =
      let same =
      one_in (awaits m.head) (reply_of (answer before r)) (closes m.head) rest out told
      (answer-readable Problem before r (fits_before (r ∷ more) is))
      (subst (λ x. IsPrefixOf out (interim_of (Arrival.Read m) ++ (render x (closes m.head) ++ rest)))
      (ap (reply_on [] before) filed) front) gives in
      inr (known more is, same ∙ stands r refl)
  by_mark m filed Unavailable fit more rest is stands front =
      let same = one_in (awaits m.head) unavailable (closes m.head) rest out told unavailable-readable front gives in
      inl (ap (moved Open) same ∙ undecided_is_open)
  by_mark m filed NotFiled fit more rest is stands front = absurd fit

  -- what is refused is no message
  never_refused : (refusal : Refusal) → ¬ (IsRefused part refusal)
  never_refused refusal refused =
      IsRefused-excludes bytes message.head begins.head_len refusal begins.head
      (subst (λ bs. IsRefused bs refusal) whole (IsRefused-more part (drop given bytes) refusal refused))

  -- what is told of the first message, of the first bytes that came and the first that were written
  pub told_first : (arrivals : List Arrival) (ending : Ending) (marks : List Mark)
      → BeginsArrivals part arrivals ending → MarksFit limit before arrivals marks
      → done ≡ before ++ (completed arrivals marks ++ later) → RepliesStand done before arrivals marks
      → IsPrefixOf out (text before arrivals ending marks) → IsToldOf done r told
  unfolding text_with MarksFit completed
  told_first [] ending [] here fit is stands front =
      let next = next_is ending in
      absurd (none_of (next_interim [] ending) next.0 next.1 front)
  told_first [] ending (mark ∷ marks) here fit is stands front = absurd fit
  told_first (Refused refusal ∷ arrivals) ending marks here fit is stands front = absurd (never_refused refusal here.0)
  told_first (Read m ∷ arrivals) ending [] here fit is stands front =
      absurd (none_of (interim_of (Arrival.Read m)) (awaits m.head) (interim_is m) front)
  told_first (Read m ∷ arrivals) ending (mark ∷ marks) here fit is stands front =
      let filed : route m ≡ FileReport r = ap route (same_message m here.0 here.1) ∙ files in
      by_mark m filed mark (subst (λ x. RouteFits limit before x mark) filed fit.0) (completed arrivals marks ++ later)
      (text_with [] (before ++ requests_of_route (route m) mark) arrivals ending marks)
      (is ∙ ap (λ requests. before ++ requests) (append_assoc (requests_of_route (route m) mark)
      (completed arrivals marks) later)
      ∙ ap (λ x. before ++ (requests_of_route x mark ++ (completed arrivals marks ++ later))) filed)
      (λ s only. stands.0 s (ap (λ x. requests_of_route x mark) filed ∙ only)) front

-- ---- one request, served

-- how the arrivals of one message end
abbrev alone_end : Bool → Ending
alone_end keeps = if keeps then Rest false else Ending.Closed

-- a message that files a request, alone on its piece of a connection
pub served_alone : (limit : ℕ) (q after : List Request) (r : Request) (bytes : List ℕ) (m : Message) (keeps : Bool)
    → SpellsRequest bytes m → closes m.head ≡ not keeps → awaits m.head ≡ false → route m ≡ FileReport r
    → RouteFits limit q (FileReport r) Done → after ≡ firsts (q ++ r ∷ [])
    → IsServed (keeping limit [] q after) bytes (Done ∷ []) (piece_end keeps)
    (render (reply_of (answer q r)) (not keeps))
unfolding text_with MarksFit completed
served_alone limit q after r bytes m keeps spells closes' quiet files fit kept = record {
  arrivals = Read m ∷ [];
  ending = alone_end keeps;
  splits = arrives keeps closes';
  marked = record { all = refl; fit = (subst (λ x. RouteFits limit q x Done) (sym files) fit, tt) };
  written = let own = reply_text_with [] q (Arrival.Read m) Done in
      sym (ap (λ front. front ++ (own ++ next_interim [] (alone_end keeps))) silent_interim
      ∙ ap (λ rest. own ++ rest) (none_next keeps) ∙ append_nil own
      ∙ ap (λ x. render (reply_on [] q x) (closes m.head)) files ∙ ap (render (reply_of (answer q r))) closes');
  kept = kept ∙ sym (ap (λ x. kept_by q (requests_of_route x Done ++ [])) files);
  end = ends keeps;
}
  where
    silent_interim : interim_of (Arrival.Read m) ≡ []
    silent_interim = rw quiet refl

    none_next : (keeps : Bool) → next_interim [] (alone_end keeps) ≡ []
    none_next true = refl
    none_next false = refl

    ends : (keeps : Bool) → piece_end keeps ≡ end_of (alone_end keeps)
    ends true = refl
    ends false = refl

    arrives : (keeps : Bool) → closes m.head ≡ not keeps → HasArrivals bytes (Read m ∷ []) (alone_end keeps)
    arrives true open' = (
      length bytes,
      spells,
      (λ last. absurd (both_ways (closes m.head) open' last)),
      λ _. subst (λ bs. HasArrivals bs [] (Rest false)) (sym (drop-length bytes)) nothing,
    )
    arrives false last =
        (length bytes, spells, (λ _. (refl, refl)), λ open'. absurd (both_ways (closes m.head) open' last))

-- an entry's own request, where its filer and key came before
pub served_again : (limit : ℕ) (q : List Request) (r : Request) → IsPosted r → has_key q r ≡ true → firsts q ≡ q
    → IsServed (keeping limit [] q q) (bytes_of r) (Done ∷ []) (piece_end false) (render (reply_of (answer q r)) true)
served_again limit q r is known same =
    served_alone limit q q r (bytes_of r) is.message false is.spells is.closes' is.alone.silent is.alone.filed
    (inl known) (sym (firsts_repeat q r known ∙ same))
