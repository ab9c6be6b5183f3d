-- One arrival served after others.
use Rattle.std.proofs.Common.{◌≡◌, ℕ, ◌<◌, ◌≤◌, Bool, true, false, List, [], ◌∷◌, ◌++◌, take, drop, refl, sym, ap, ◌∙◌}
use Rattle.std.proofs.Common.{subst, arith, ⊎_elim}
use Rattle.std.specs.Prelude.{if◌then◌else◌}
use Rattle.std.proofs.lemmas.Grind.{common_steps}
use Rattle.std.proofs.lemmas.Bool.{cases_lt}
use Rattle.http_messages.specs.Head.{closes}
use Rattle.http_messages.specs.Message.{Arrival, Read, Ending, BeginsRequest, Asks, interim, awaits}
use Rattle.http_messages.specs.Request.{Request as Message}
use Rattle.filing_model.specs.declared.served.Mark.{Mark}
use Rattle.filing_model.specs.declared.served.Ended.TheVariants.{Closed}
use Rattle.filing_model.specs.Prefix.{IsPrefixOf}
use Rattle.filing_model.specs.Request.{Request}
use Rattle.filing_model.specs.Serving.{Keeping, kept_by, AreMarked, IsServed, IsCutShort}
use Rattle.filing_model.specs.Text.{text_with, MarkFits, MarksFit, completed, completed_at, interim_of, reply_text_with}
use Rattle.filing_model.proofs.Lists.{append_nil}
use Rattle.gateway_server.specs.Progress.{HasServed}
use Rattle.gateway_server.proofs.Progress.{MayBegin, cut_end, closing, HasServed-last, HasServed-push, HasServed-cut}

pub completed-one : (arrival : Arrival) (mark : Mark) → completed (arrival ∷ []) (mark ∷ []) ≡ completed_at arrival mark
unfolding completed
completed-one arrival mark = append_nil (completed_at arrival mark)

text-one : (old_style now : List Request) (arrival : Arrival) (mark : Mark)
    → text_with old_style now (arrival ∷ []) Ending.Closed (mark ∷ []) ≡ interim_of arrival
    ++ reply_text_with old_style now arrival mark
unfolding text_with
text-one old_style now arrival mark =
    ap (λ t. interim_of arrival ++ t) (append_nil (reply_text_with old_style now arrival mark))

pub marked-one : (limit : ℕ) (now : List Request) (arrival : Arrival) (mark : Mark) → MarkFits limit now arrival mark
    → AreMarked limit now (arrival ∷ []) (mark ∷ [])
unfolding MarksFit
marked-one limit now arrival mark fit = record { all = refl; fit = (fit, tt) }

module _ (requests : Keeping) (bytes rest : List ℕ) (marks : List Mark) (out : List ℕ)
    (h : HasServed requests bytes rest marks out) where
  -- the arrival was answered, and the connection closes
  pub served_last : (arrival : Arrival) (b : MayBegin rest (arrival ∷ [])) (mark : Mark) (after : List Request)
      → closing rest arrival b → MarkFits requests.limit requests.after arrival mark
      → after ≡ kept_by requests.after (completed_at arrival mark)
      → IsServed (record requests { after = after }) bytes (marks ++ mark ∷ []) Closed
      (out ++ (interim_of arrival ++ reply_text_with requests.old_style requests.after arrival mark))
  served_last arrival b mark after closed fit kept =
      subst (λ (t : List ℕ). IsServed (record requests { after = after }) bytes (marks ++ mark ∷ []) Closed (out ++ t))
      (text-one requests.old_style requests.after arrival mark)
      (HasServed-last requests bytes rest marks out h arrival b mark after closed
      (marked-one requests.limit requests.after arrival mark fit) (kept
      ∙ ap (kept_by requests.after) (sym (completed-one arrival mark))))

  -- the message was answered, and more may come
  pub served_push : (message : Message) (n : ℕ) (mark : Mark) (after : List Request) → BeginsRequest rest message n
      → closes message.head ≡ false → MarkFits requests.limit requests.after (Read message) mark
      → after ≡ kept_by requests.after (completed_at (Read message) mark)
      → HasServed (record requests { after = after }) bytes (drop n rest) (marks ++ mark ∷ [])
      (out ++ (interim_of (Read message) ++ reply_text_with requests.old_style requests.after (Read message) mark))
  served_push message n mark after begins open' fit kept =
      subst (λ (t : List ℕ). HasServed (record requests { after = after }) bytes (drop n rest) (marks ++ mark ∷ [])
      (out ++ t)) (text-one requests.old_style requests.after (Read message) mark)
      (HasServed-push requests bytes rest marks out h message n mark after begins open'
      (marked-one requests.limit requests.after (Read message) mark fit) (kept
      ∙ ap (kept_by requests.after) (sym (completed-one (Read message) mark))))

  -- the arrival was marked, and a part of its reply was written
  pub served_part : (arrival : Arrival) → MayBegin rest (arrival ∷ []) → (mark : Mark) (after : List Request) (sent : ℕ)
      → MarkFits requests.limit requests.after arrival mark → after ≡ kept_by requests.after (completed_at arrival mark)
      → IsCutShort (record requests { after = after }) bytes (marks ++ mark ∷ [])
      (out ++ (interim_of arrival ++ take sent (reply_text_with requests.old_style requests.after arrival mark)))
  served_part arrival b mark after sent fit kept =
      let reply : List ℕ = reply_text_with requests.old_style requests.after arrival mark in
      HasServed-cut requests bytes rest marks out h (arrival ∷ []) false (mark ∷ []) after
      (interim_of arrival ++ take sent reply) b (λ no'. absurd (cc))
      (marked-one requests.limit requests.after arrival mark fit) (kept
      ∙ ap (kept_by requests.after) (sym (completed-one arrival mark)))
      (drop sent reply, text-one requests.old_style requests.after arrival mark ∙ grind (arith, common_steps))

  unmarked : (asks : Bool) (part : List ℕ) → (asks ≡ true → Asks rest true)
      → IsPrefixOf part (if asks then interim else []) → IsCutShort requests bytes marks (out ++ part)
  unfolding text_with MarksFit completed
  unmarked asks part asked prefix =
      subst (λ (ms : List Mark). IsCutShort requests bytes ms (out ++ part)) (append_nil marks)
      (HasServed-cut requests bytes rest marks out h [] asks [] requests.after part tt (λ yes. (refl, asked yes))
      (record { all = refl; fit = tt }) refl (by_asks asks prefix))
    where
      by_asks : (b : Bool) → IsPrefixOf part (if b then interim else [])
          → IsPrefixOf part (text_with requests.old_style requests.after [] (cut_end b) [])
      by_asks true p = p
      by_asks false p = p

  -- a message was read, and not marked
  pub served_read : (message : Message) (n : ℕ) → BeginsRequest rest message n
      → IsCutShort requests bytes marks (out ++ interim_of (Read message))
  served_read message n begins =
      unmarked (awaits message.head) (interim_of (Read message))
      (λ yes. (message.head, begins.head_len, begins.head, yes)) ([], sym (append_nil _))

  -- a fault came before another arrival was whole
  pub served_asked : (asks : Bool) → Asks rest asks
      → IsCutShort requests bytes marks (out ++ (if asks then interim else []))
  served_asked asks asked =
      unmarked asks (if asks then interim else []) (λ yes. subst (Asks rest) yes asked) ([], sym (append_nil _))

  pub served_nothing : IsCutShort requests bytes marks (out ++ [])
  served_nothing = unmarked false [] (λ no'. absurd (cc)) ([], refl)

  -- a fault came after this part of an interim response
  pub served_rest : (sent : ℕ) → (0 < sent → Asks rest true)
      → IsCutShort requests bytes marks (out ++ take sent interim)
  served_rest sent asked = ⊎_elim
      (λ (some : 0 < sent). unmarked true (take sent interim) (λ _. asked some) (
        drop sent interim,
        grind (arith, common_steps),
      ))
      (λ (none : sent ≤ 0).
      let zero : 0 ≡ sent = omega arith in
      subst (λ (n : ℕ). IsCutShort requests bytes marks (out ++ take n interim)) zero
      (unmarked false [] (λ no'. absurd (cc)) ([], refl)))
      (cases_lt 0 sent)
