-- Each reply to a filed request is one that a client reads, and a number is told in one way.
use Rattle.std.proofs.Common.{◌≡◌, ◌≢◌, ℕ, suc, ◌^◌, ◌<◌, ◌≤◌, Bool, true, false, cond, List, [], ◌∷◌, ◌++◌, length}
use Rattle.std.proofs.Common.{Some, refl, sym, ap, ◌∙◌, subst, ⊎_elim, arith}
use Rattle.std.specs.Prelude.{nat_eq, nat_le, nat_lt, ◌&&◌, IsSome}
use Rattle.std.specs.Fmt.{digits}
use Rattle.std.specs.List.{AllByRecursion}
use Rattle.std.proofs.lemmas.Bool.{cases_Bool, le-leb, lt-ltb}
use Rattle.http_messages.specs.Reply.{phrase}
use Rattle.http_messages.specs.Response.{max_content_len, IsReadable}
use Rattle.serde_json.specs.Written.{compact_text}
use Rattle.serde_json.proofs.OnLiterals.{serde_json_on_literals}
use Rattle.xbrl_report.specs.CodeNumber.{number_of}
use Rattle.xbrl_report.specs.Amendment.{amendment_findings}
use Rattle.xbrl_report.specs.Pair.{Pair, fits}
use Rattle.xbrl_report.proofs.FindingLaws.{amendment_findings-fits}
use Rattle.filing_model.specs.declared.served.Style.{Style}
use Rattle.filing_model.specs.declared.served.Style.TheVariants.{Old, Problem}
use Rattle.filing_model.specs.Request.{Request, same_content, has_key, firsts}
use Rattle.filing_model.specs.Register.{Outcome, Kept, is_free, filings, verdict, outcome_by, judged, kept_after, kept}
use Rattle.filing_model.specs.Answer.{Answer, answer_by, answer_from, answer}
use Rattle.filing_model.specs.Reply.{answer_data, refused_status, reply_as, unavailable}
use Rattle.filing_model.specs.Outbox.{Open, Confirmed, moved}
use Rattle.filing_model.proofs.Keeping.{kept_found, all_found, all_push}
use Rattle.filing_model.proofs.Firsts.{firsts_one_more}
use Rattle.filing_model.proofs.Answers.{has_key_itself, answer_registered, registered_bound}
use Rattle.filing_model.proofs.Contents.{moved-registered}
use Rattle.filing_model.proofs.Sizes.{length-registered, length-refused}

-- ---- what is refused, is refused for findings within the limits

abbrev IsFitting : Kept → Type 0
IsFitting k = (found : List Pair) → k.outcome ≡ Outcome.Refused found → fits found ≡ true

judged-fits : (before : List Kept) (r : Request) → IsFitting (judged before r)
unfolding verdict
judged-fits before r =
    let free = is_free (filings before) r.filer r.target in
    by_findings (amendment_findings r.filer r.body free) (amendment_findings-fits r.filer r.body free)
  where
    by_findings : (all : List Pair) → fits all ≡ true → (found : List Pair)
        → outcome_by all (suc (length (filings before))) ≡ Outcome.Refused found → fits found ≡ true
    by_findings [] fit found e = absurd (cc)
    by_findings (f ∷ all) fit found e =
        let same : f ∷ all ≡ found = cc in
        subst (λ fs. fits fs ≡ true) same fit

fitting_after : (before : List Kept) (requests : List Request) → AllByRecursion IsFitting before
    → AllByRecursion IsFitting (kept_after before requests)
unfolding kept_after
fitting_after before [] all = all
fitting_after before (r ∷ requests) all =
    fitting_after (before ++ judged before r ∷ []) requests
    (all_push IsFitting before (judged before r) all (judged-fits before r))

answer-fits : (requests : List Request) (r : Request) (found : List Pair) (repeat : Bool)
    → answer requests r ≡ Answer.Refused found repeat → fits found ≡ true
unfolding answer
answer-fits requests r found repeat told =
    let first = kept_found (requests ++ r ∷ []) r (has_key_itself requests r) in
    let fitting =
    all_found IsFitting _ (kept (requests ++ r ∷ [])) first.0 (fitting_after [] (firsts (requests ++ r ∷ [])) tt)
    first.1 in
    by_first first.0 fitting (sym (ap (λ k. answer_from k r (has_key requests r)) first.1) ∙ told)
  where
    by_outcome : (o : Outcome) (b : Bool) → ((all : List Pair) → o ≡ Outcome.Refused all → fits all ≡ true)
        → answer_by o b ≡ Answer.Refused found repeat → fits found ≡ true
    by_outcome (Outcome.Registered n) b fitting e = absurd (cc)
    by_outcome (Outcome.Refused all) b fitting e =
        let same : all ≡ found = cc in
        subst (λ fs. fits fs ≡ true) same (fitting all refl)

    by_first : (k : Kept) → IsFitting k → answer_from (Some k) r (has_key requests r) ≡ Answer.Refused found repeat
        → fits found ≡ true
    by_first k fitting e = ⊎_elim
        (λ (h : same_content k.request r ≡ true). by_outcome k.outcome (has_key requests r) fitting (rw h at e))
        (λ (h : same_content k.request r ≡ false). absurd (let other : Answer.KeyReused ≡ Answer.Refused found repeat =
        rw h at e in cc))
        (cases_Bool (same_content k.request r))

-- the number that an answer tells is at most the number of first requests
pub answer_number : (requests : List Request) (r : Request) (n : ℕ) (repeat : Bool)
    → answer requests r ≡ Answer.Registered n repeat → n ≤ suc (length (firsts requests))
answer_number requests r n repeat told =
    omega (
      arith,
      registered_bound (requests ++ r ∷ []) r n (answer_registered requests r n repeat told),
      firsts_one_more requests r,
    )

-- ---- replies

answer-some : (style : Style) (a : Answer) → 0 < length (compact_text (answer_data style a))
answer-some style (Answer.Registered n b) = omega arith
answer-some style (Answer.Refused found b) = omega arith
answer-some Old Answer.KeyReused = omega arith
answer-some Problem Answer.KeyReused = omega arith

-- a status with a phrase that is no interim one
abbrev IsPhrased : ℕ → Type 0
IsPhrased status = IsSome (phrase status) × (status ≢ 100)

refused-phrased : (found : List Pair) → IsPhrased (refused_status found)
unfolding phrase
refused-phrased [] = (refl, λ e. absurd (omega (arith, e)))
refused-phrased (f ∷ found) = by_code (nat_eq (number_of f.code) 1)
  where
    by_code : (b : Bool) → IsPhrased (cond b 400 422)
    by_code true = (refl, λ e. absurd (omega (arith, e)))
    by_code false = (refl, λ e. absurd (omega (arith, e)))

short_reused : (style : Style) → length (compact_text (answer_data style Answer.KeyReused)) ≤ max_content_len
unfolding phrase serde_json_on_literals digits
short_reused Old = omega arith
short_reused Problem = omega arith

-- an answer whose number and findings are within the limits has a reply that a client reads
reply-readable : (style : Style) (a : Answer) → ((n : ℕ) (b : Bool) → a ≡ Answer.Registered n b → n < 2 ^ 64)
    → ((found : List Pair) (b : Bool) → a ≡ Answer.Refused found b → fits found ≡ true) → IsReadable (reply_as style a)
unfolding reply_as phrase
reply-readable style (Answer.Registered n b) number fit = record {
  named = refl;
  final = λ e. absurd (omega (arith, e));
  some = answer-some style (Answer.Registered n b);
  short = omega (arith, length-registered style n b (number n b refl));
}
reply-readable style (Answer.Refused found b) number fit = record {
  named = (refused-phrased found).0;
  final = (refused-phrased found).1;
  some = answer-some style (Answer.Refused found b);
  short = omega (arith, length-refused style found b (fit found b refl));
}
reply-readable style Answer.KeyReused number fit = record {
  named = refl;
  final = λ e. absurd (omega (arith, e));
  some = answer-some style Answer.KeyReused;
  short = short_reused style;
}

-- The reply to a filed request, and the one where it could not be decided, are ones that a client reads.
pub answer-readable : (style : Style) (requests : List Request) (r : Request) → length (firsts requests) ≤ 2 ^ 62
    → IsReadable (reply_as style (answer requests r))
answer-readable style requests r few = reply-readable style (answer requests r)
    (λ n b told. omega (arith, few, answer_number requests r n b told))
    (λ found b told. answer-fits requests r found b told)

pub unavailable-readable : IsReadable unavailable
unfolding phrase serde_json_on_literals digits
unavailable-readable = record {
  named = refl;
  final = λ e. absurd (omega (arith, e));
  some = omega arith;
  short = omega arith;
}

-- ---- numbers

-- the reply that tells a number confirms it, and no other
pub told-exactly : (style : Style) (m n : ℕ) (repeat : Bool) → m < 2 ^ 63
    → moved Open (reply_as style (Answer.Registered m repeat)) ≡ Confirmed n → m ≡ n
told-exactly style m n repeat small h =
    by_test (nat_le 1 m && nat_lt m (2 ^ 63)) (sym (moved-registered style m repeat (omega (arith, small))) ∙ h)
  where
    by_test : (b : Bool) → cond b (Confirmed m) Open ≡ Confirmed n → m ≡ n
    by_test true e = cc
    by_test false e = absurd (cc)

pub told-confirms : (style : Style) (m : ℕ) (repeat : Bool) → 1 ≤ m → m < 2 ^ 63
    → moved Open (reply_as style (Answer.Registered m repeat)) ≡ Confirmed m
told-confirms style m repeat some small =
    moved-registered style m repeat (omega (arith, small)) ∙ rw (le-leb 1 m some, lt-ltb m (2 ^ 63) small) refl
