-- Stops that let as much be marked and answered, and that end alike, are alike.
use Rattle.std.proofs.Common.{◌≡◌, ℕ, ◌≤◌, List, length, take, Option, Some, None, refl, sym, ap, ◌∙◌, subst, ⊎_elim}
use Rattle.std.proofs.Common.{inl, inr, arith}
use Rattle.std.proofs.lemmas.Bool.Decides.{nat_tests}
use Rattle.http_messages.specs.Message.{Arrival, Ending}
use Rattle.filing_model.specs.declared.served.Mark.{Mark}
use Rattle.filing_model.specs.declared.served.Ended.{Ended}
use Rattle.filing_model.specs.Laws.{StopAlike}
use Rattle.filing_model.specs.Prefix.{IsPrefixOf}
use Rattle.filing_model.specs.Request.{Request}
use Rattle.filing_model.specs.Serving.{Keeping}
use Rattle.filing_model.specs.Stopping.{Crash, Before, After, marked, answered, ended_by, IsWhole, IsCut, ServesUntil}
use Rattle.filing_model.specs.Stopping.{IsStopAt, ComeBefore, StopsOrServes}
use Rattle.filing_model.specs.Text.{text, text_with}

-- of any arrivals the one lets through what the other does, and it stops where the other does
record IsLike (one other : Crash) : Type 0 where
  marks : (n : ℕ) → marked one n ≡ marked other n
  answers : (n : ℕ) → answered one n ≡ answered other n
  ends : (n : ℕ) (ending : Ending) → ended_by one n ending ≡ ended_by other n ending
  here : (n : ℕ) → IsStopAt one n → IsStopAt other n
  before : (n : ℕ) → ComeBefore one n → ComeBefore other n

serves_alike : (one other : Crash) → IsLike one other
    → (limit : ℕ) (done : List Request) (bytes : List ℕ) (arrivals : List Arrival) (marks : List Mark)
    (ended : Option Ended) (out : List ℕ) → ServesUntil limit done bytes one arrivals marks ended out
    → ServesUntil limit done bytes other arrivals marks ended out
serves_alike one other like limit done bytes arrivals marks ended out serves =
    let ending = serves.ending in
    let n = length arrivals in
    record {
      ending = ending;
      fit = serves.fit;
      gives = ⊎_elim
          (λ (w : IsWhole done bytes one arrivals ending marks ended out). inl (record {
            splits = w.splits;
            all = w.all ∙ like.marks n;
            written = w.written ∙ ap (λ k. text done arrivals ending (take k marks)) (like.answers n);
            end = w.end ∙ like.ends n ending;
          }))
          (λ (c : IsCut done bytes one arrivals ending marks ended out). inr (record {
            begins = c.begins;
            few = subst (λ k. length marks ≤ k) (like.marks n) c.few;
            written = subst (λ k. IsPrefixOf out (text done arrivals ending (take k marks))) (like.answers n) c.written;
            fault = c.fault;
          }))
          serves.gives;
    }

stops_alike : (one other : Crash) → IsLike one other
    → (requests : Keeping) (bytes : List ℕ) (marks : List Mark) (ended : Option Ended) (out : List ℕ)
    → StopsOrServes requests bytes one marks ended out → StopsOrServes requests bytes other marks ended out
stops_alike one other like requests bytes marks None out s = record {
  arrivals = s.arrivals;
  begins = s.begins;
  here = like.here (length s.arrivals) s.here;
  all = s.all ∙ like.marks (length s.arrivals);
  fit = s.fit;
  written =
      s.written ∙ ap (λ k. text_with requests.old_style requests.before s.arrivals Ending.Closed (take k marks))
      (like.answers (length s.arrivals));
  kept = s.kept;
}
stops_alike one other like requests bytes marks (Some ended) out s = (s.0, like.before (length marks) s.1)

alike : (one other : Crash) → IsLike one other → IsLike other one → StopAlike one other
alike one other there back = record {
  serves = λ limit done bytes arrivals marks ended out. (
    serves_alike one other there limit done bytes arrivals marks ended out,
    serves_alike other one back limit done bytes arrivals marks ended out,
  );
  stops = λ requests bytes marks ended out. (
    stops_alike one other there requests bytes marks ended out,
    stops_alike other one back requests bytes marks ended out,
  );
}

before_like : IsLike (Before 0) (Before 1)
before_like = record {
  marks = λ n. grind (arith, nat_tests);
  answers = λ n. grind (arith, nat_tests);
  ends = λ n ending. refl;
  here = λ n h. h;
  before = λ n h. h;
}

like_before : IsLike (Before 1) (Before 0)
like_before = record {
  marks = λ n. sym (before_like.marks n);
  answers = λ n. sym (before_like.answers n);
  ends = λ n ending. refl;
  here = λ n h. h;
  before = λ n h. h;
}

after_like : IsLike (After 0) (After 1)
after_like = record {
  marks = λ n. refl;
  answers = λ n. grind (arith, nat_tests);
  ends = λ n ending. refl;
  here = λ n h. h;
  before = λ n h. h;
}

like_after : IsLike (After 1) (After 0)
like_after = record {
  marks = λ n. refl;
  answers = λ n. sym (after_like.answers n);
  ends = λ n ending. refl;
  here = λ n h. h;
  before = λ n h. h;
}

pub before_0 : StopAlike (Before 0) (Before 1)
before_0 = alike (Before 0) (Before 1) before_like like_before

pub after_0 : StopAlike (After 0) (After 1)
after_0 = alike (After 0) (After 1) after_like like_after
