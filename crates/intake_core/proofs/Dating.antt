-- The moments of an intake's requests, after one request and after several.
use Rattle.std.proofs.Common.{◌≤◌, ◌<◌, ◌-◌, zero, suc, drop, length-append}
use Rattle.std.proofs.Common.{◌≡◌, ◌+◌, ℕ, false, true, List, [], ◌∷◌, ◌++◌, length, map, Option, Some, IsTrue, Ok, Err}
use Rattle.std.proofs.Common.{refl, sym, ap, ◌∙◌, subst, arith, append-nil, append_assoc, true≢false}
use Rattle.std.proofs.lemmas.List.{length-drop, length-map}
use Rattle.std.proofs.lemmas.Slice.Zip.{firsts-zip}
use Rattle.std.specs.List.{AllByRecursion, zip}
use Rattle.std.specs.Result.{IsOk}
use Rattle.sqlite.specs.Store.{Ghosts}
use Rattle.sqlite.specs.Tree.{Trees}
use Rattle.sqlite.proofs.StateLemmas.{survives_then, survives_weaker}
use Rattle.table_rows.proofs.StepLemmas.{nothing_yet}
use Rattle.filing_model.specs.Request.{Request, firsts, has_key}
use Rattle.register_tables.specs.Registers.{LeavesOnlyReceived, LeavesReceived}
use Rattle.register_store.specs.Calls.{KeepsStore}
use Rattle.register_store.specs.Moments.{HasMoments}
use Rattle.register_store.proofs.StoreLemmas.{leaves_received}
use Rattle.intake_core.specs.declared.intake.Intake.{Intake}
use Rattle.intake_core.specs.declared.intake.Unavailable.TheVariants.{Store}
use Rattle.intake_core.specs.Group.{after, after_one, Decided, DecidesEach, DecidesEachIf, Given}
use Rattle.intake_core.specs.Held.{shows, store_of, old_style_of, HoldsRequests, with_request}
use Rattle.intake_core.specs.Moments.{DatesAll, DatesAllIf, DatesRequest, HoldsMoments, KeepsMoments, moments_after}
use Rattle.intake_core.specs.Moments.{LeavesSomeWith, SurvivesWith, moments_after_one, with_moment, with_moments}
use Rattle.register_rows.specs.declared.moment.Moment.{Moment}
use Rattle.intake_core.specs.Together.{AreNewBehind, in_milliseconds}
use Rattle.intake_core.proofs.Deciding.{firsts-more}

-- ---- one request

pub moment_repeat : (requests : List Request) (r : Request) (moment : ℕ) (moments : List (Option ℕ))
    → has_key requests r ≡ true → with_moment requests r moment moments ≡ moments
moment_repeat requests r moment moments known = rw known refl

pub moment_new : (requests : List Request) (r : Request) (moment : ℕ) (moments : List (Option ℕ))
    → has_key requests r ≡ false → with_moment requests r moment moments ≡ moments ++ Some moment ∷ []
moment_new requests r moment moments new = rw new refl

module _ {S : Type 0} {g : Ghosts S} where
  -- an intake over the same register
  pub HoldsMoments-same : (old new : Intake S) (moments : List (Option ℕ)) → store_of new ≡ store_of old
      → HoldsMoments g old moments → HoldsMoments g new moments
  HoldsMoments-same old new moments same = subst (λ s. HasMoments g s moments) (sym same)

  -- a call of the register that only reads
  pub keeps_moments : (old new : Intake S) → KeepsStore g old.store new.store → new.moment ≡ old.moment
      → KeepsMoments g old new
  keeps_moments old new keeps next = record {
    same = λ clean requests h moments had. keeps.moments clean requests h.rows moments had;
    next = ap (λ (t : Moment). t.milliseconds) next;
  }

  -- what is held and committed lasts with its moments
  pub leaves_with : (new : Intake S) (requests : List Request) (moments : List (Option ℕ))
      → ((trees : Trees) → IsTrue (shows g new).is_open → (shows g new).may_leave trees
      → trees ≡ (shows g new).committed.trees) → HoldsRequests g new requests → HoldsMoments g new moments
      → IsTrue (shows g new).is_open → LeavesOnlyReceived (shows g new) (old_style_of new) requests moments
  leaves_with new requests moments settled held dated alive trees left =
      leaves_received (old_style_of new) requests moments (shows g new) held.rows.stands dated.stands
      (dated.one_each ∙ held.rows.kept_is) alive trees (settled trees alive left)

-- ---- several

pub append-three : {X : Type 0} (xs before part rest : List X)
    → xs ++ (before ++ part ++ rest) ≡ xs ++ before ++ part ++ rest
append-three xs before part rest =
    sym (append_assoc xs (before ++ part) rest) ∙ ap (λ ys. ys ++ rest) (sym (append_assoc xs before part))

pub after-append : (F : List Request) (xs ys : List Decided) → after F (xs ++ ys) ≡ after (after F xs) ys
after-append F [] ys = refl
after-append F (d ∷ xs) ys = after-append (after_one F d.0 d.1) xs ys

pub length_milliseconds : (moments : List Moment) → length (in_milliseconds moments) ≡ length moments
length_milliseconds moments = length-map moments (λ (t : Moment). t.milliseconds)

moments_append : (F : List Request) (xs ys : List Decided) (ms ms' : List ℕ) (moments : List (Option ℕ))
    → length ms ≡ length xs → moments_after F (xs ++ ys) (ms ++ ms') moments
    ≡ moments_after (after F xs) ys ms' (moments_after F xs ms moments)
moments_append F [] ys [] ms' moments long = refl
moments_append F [] ys (m ∷ ms) ms' moments long = absurd (omega (arith, long))
moments_append F (d ∷ xs) ys [] ms' moments long = absurd (omega (arith, long))
moments_append F (d ∷ xs) ys (m ∷ ms) ms' moments long =
    moments_append (after_one F d.0 d.1) xs ys ms ms' (moments_after_one F d.0 m d.1 moments) (omega (arith, long))

-- each of them was new and has an answer
pub moments_kept : (F rs : List Request) (given : List Given) (ms : List ℕ) (moments : List (Option ℕ))
    → firsts F ≡ F → AreNewBehind F rs → length given ≡ length rs → length ms ≡ length rs
    → AllByRecursion IsOk given → moments_after F (zip rs given) ms moments ≡ moments ++ map Some ms
moments_kept F [] [] [] moments are new long each all = sym (append-nil moments)
moments_kept F [] [] (m ∷ ms) moments are new long each all = absurd (omega (arith, each))
moments_kept F [] (x ∷ given) ms moments are new long each all = absurd (omega (arith, long))
moments_kept F (r ∷ rs) [] ms moments are new long each all = absurd (omega (arith, long))
moments_kept F (r ∷ rs) (x ∷ given) [] moments are new long each all = absurd (omega (arith, each))
moments_kept F (r ∷ rs) (Ok a ∷ given) (m ∷ ms) moments are new long each all =
    let more = firsts-more F r are new.0 in
    ap (λ G. moments_after G (zip rs given) ms (with_moment F r m moments)) more
    ∙ ap (moments_after (F ++ r ∷ []) (zip rs given) ms) (moment_new F r m moments new.0)
    ∙ moments_kept (F ++ r ∷ []) rs given ms (moments ++ Some m ∷ []) more new.1 (omega (arith, long))
    (omega (arith, each)) all.1
    ∙ append_assoc moments (Some m ∷ []) (map Some ms)
moments_kept F (r ∷ rs) (Err e ∷ given) (m ∷ ms) moments are new long each all =
    absurd (true≢false (sym all.0))

-- those of requests that were all new
pub with_new : (F rs : List Request) (ms : List ℕ) (moments : List (Option ℕ)) → firsts F ≡ F → AreNewBehind F rs
    → length ms ≡ length rs → with_moments F rs ms moments ≡ moments ++ map Some ms
with_new F [] [] moments are new each = sym (append-nil moments)
with_new F [] (m ∷ ms) moments are new each = absurd (omega (arith, each))
with_new F (r ∷ rs) [] moments are new each = absurd (omega (arith, each))
with_new F (r ∷ rs) (m ∷ ms) moments are new each =
    let more = firsts-more F r are new.0 in
    ap (λ G. with_moments G rs ms (with_moment F r m moments)) more
    ∙ ap (with_moments (F ++ r ∷ []) rs ms) (moment_new F r m moments new.0)
    ∙ with_new (F ++ r ∷ []) rs ms (moments ++ Some m ∷ []) more new.1 (omega (arith, each))
    ∙ append_assoc moments (Some m ∷ []) (map Some ms)

-- moments of later ones change nothing
after_first : (F : List Request) (ds : List Decided) (ms ms' : List ℕ) (moments : List (Option ℕ))
    → length ds ≤ length ms → moments_after F ds (ms ++ ms') moments ≡ moments_after F ds ms moments
after_first F [] ms ms' moments few = refl
after_first F (d ∷ ds) [] ms' moments few = absurd (omega (arith, few))
after_first F (d ∷ ds) (m ∷ ms) ms' moments few =
    after_first (after_one F d.0 d.1) ds ms ms' (moments_after_one F d.0 m d.1 moments) (omega (arith, few))

with_first : (F rs : List Request) (ms ms' : List ℕ) (moments : List (Option ℕ)) → length rs ≤ length ms
    → with_moments F rs (ms ++ ms') moments ≡ with_moments F rs ms moments
with_first F [] ms ms' moments few = refl
with_first F (r ∷ rs) [] ms' moments few = absurd (omega (arith, few))
with_first F (r ∷ rs) (m ∷ ms) ms' moments few =
    with_first (with_request F r) rs ms ms' (with_moment F r m moments) (omega (arith, few))

drop_first : (n : ℕ) (ms ms' : List ℕ) → n ≤ length ms → drop n (ms ++ ms') ≡ drop n ms ++ ms'
drop_first zero ms ms' few = refl
drop_first (suc n) [] ms' few = absurd (omega (arith, few))
drop_first (suc n) (m ∷ ms) ms' few = drop_first n ms ms' (omega (arith, few))

drop_second : (n : ℕ) (ms ms' : List ℕ) → drop (length ms + n) (ms ++ ms') ≡ drop n ms'
drop_second n [] ms' = let same : 0 + n ≡ n = omega arith in ap (λ k. drop k ms') same
drop_second n (m ∷ ms) ms' =
    let same : suc (length ms) + n ≡ suc (length ms + n) = omega arith in
    ap (λ k. drop k (m ∷ ms ++ ms')) same ∙ drop_second n ms ms'

leaves_first : (n : ℕ) (F : List Request) (moments : List (Option ℕ)) (xs ys : List Decided) (ms ms' : List ℕ)
    (trees : Trees) → length ms ≡ length xs → LeavesSomeWith n F moments xs ms trees
    → LeavesSomeWith n F moments (xs ++ ys) (ms ++ ms') trees
leaves_first n F moments xs ys ms ms' trees long h =
    let rs = h.next.0 ∷ map (λ (d : Decided). d.0) h.more in
    let total = ap length h.are in
    let parts = length-append (h.before ++ h.next ∷ h.more) h.rest in
    let front = length-append h.before (h.next ∷ h.more) in
    let asked = length-map h.more (λ (d : Decided). d.0) in
    let few : length h.before ≤ length ms = omega (arith, long, total, parts, front) in
    let left : length (drop (length h.before) ms) ≡ length ms - length h.before = length-drop (length h.before) ms in
    let enough : length rs ≤ length (drop (length h.before) ms) =
    omega (arith, long, total, parts, front, asked, left) in
    record {
      before = h.before;
      next = h.next;
      more = h.more;
      rest = h.rest ++ ys;
      are = ap (λ ds. ds ++ ys) h.are ∙ append_assoc (h.before ++ h.next ∷ h.more) h.rest ys;
      leaves =
          subst (λ mo. LeavesReceived n (firsts (after F h.before ++ rs)) mo trees)
          (sym (ap (λ l. with_moments (after F h.before) rs l (moments_after F h.before (ms ++ ms') moments))
          (drop_first (length h.before) ms ms' few)
          ∙ with_first (after F h.before) rs (drop (length h.before) ms) ms' _ enough
          ∙ ap (with_moments (after F h.before) rs (drop (length h.before) ms))
          (after_first F h.before ms ms' moments few))) h.leaves;
    }

leaves_second : (n : ℕ) (F : List Request) (moments : List (Option ℕ)) (xs ys : List Decided) (ms ms' : List ℕ)
    (trees : Trees) → length ms ≡ length xs
    → LeavesSomeWith n (after F xs) (moments_after F xs ms moments) ys ms' trees
    → LeavesSomeWith n F moments (xs ++ ys) (ms ++ ms') trees
leaves_second n F moments xs ys ms ms' trees long h =
    let rs = h.next.0 ∷ map (λ (d : Decided). d.0) h.more in
    let place : length (xs ++ h.before) ≡ length ms + length h.before =
    omega (arith, long, length-append xs h.before) in
    record {
      before = xs ++ h.before;
      next = h.next;
      more = h.more;
      rest = h.rest;
      are = ap (λ ds. xs ++ ds) h.are ∙ append-three xs h.before (h.next ∷ h.more) h.rest;
      leaves =
          subst (λ G. LeavesReceived n (firsts (G ++ rs))
          (with_moments G rs (drop (length (xs ++ h.before)) (ms ++ ms'))
          (moments_after F (xs ++ h.before) (ms ++ ms') moments)) trees) (sym (after-append F xs h.before))
          (subst (λ mo. LeavesReceived n (firsts (after (after F xs) h.before ++ rs)) mo trees)
          (sym (ap (λ k. with_moments (after (after F xs) h.before) rs (drop k (ms ++ ms'))
          (moments_after F (xs ++ h.before) (ms ++ ms') moments)) place
          ∙ ap (λ l. with_moments (after (after F xs) h.before) rs l
          (moments_after F (xs ++ h.before) (ms ++ ms') moments)) (drop_second (length h.before) ms ms')
          ∙ ap (with_moments (after (after F xs) h.before) rs (drop (length h.before) ms'))
          (moments_append F xs h.before ms ms' moments long))) h.leaves);
    }

-- all of them that are kept together
pub leaves_together : (n : ℕ) (F rs : List Request) (moments : List (Option ℕ)) (given : List Given) (ms : List ℕ)
    (trees : Trees) → length given ≡ length rs → 0 < length rs
    → LeavesReceived n (firsts (F ++ rs)) (with_moments F rs ms moments) trees
    → LeavesSomeWith n F moments (zip rs given) ms trees
leaves_together n F [] moments given ms trees long some l = absurd (omega (arith, some))
leaves_together n F (r ∷ rs) moments [] ms trees long some l = absurd (omega (arith, long))
leaves_together n F (r ∷ rs) moments (x ∷ given) ms trees long some l = record {
  before = [];
  next = (r, x);
  more = zip rs given;
  rest = [];
  are = ap (λ (ds : List Decided). (r, x) ∷ ds) (sym (append-nil (zip rs given)));
  leaves =
      subst (λ (ss : List Request). LeavesReceived n (firsts (F ++ r ∷ ss)) (with_moments F (r ∷ ss) ms moments) trees)
      (sym (firsts-zip rs given (omega (arith, long)))) l;
}

-- none of them has an answer
pub moments_refused : (F rs : List Request) (ms : List ℕ) (moments : List (Option ℕ))
    → moments_after F (zip rs (map (λ _. Err Store) rs)) ms moments ≡ moments
moments_refused F [] ms moments = refl
moments_refused F (r ∷ rs) [] moments = refl
moments_refused F (r ∷ rs) (m ∷ ms) moments = moments_refused F rs ms moments

module _ {S : Type 0} {g : Ghosts S} where
  pub dates_then : (Open : Type 0) (Holds : List Request → Type 0) (xs ys : List Decided) (ms ms' : List ℕ)
      (old mid new : Intake S) → length ms ≡ length xs → DecidesEachIf g Open Holds xs old mid
      → DecidesEach g ys mid new → DatesAllIf g Open Holds xs ms old mid → DatesAll g ys ms' mid new
      → DatesAllIf g Open Holds (xs ++ ys) (ms ++ ms') old new
  dates_then Open Holds xs ys ms ms' old mid new long one two first second = record {
    dated = λ clean F h moments had is.
        let cleaned = two.setting.clean clean in
        subst (HoldsMoments g new) (sym (moments_append F xs ys ms ms' moments long))
        (second.dated clean (after F xs) (one.answers cleaned F h is).1 (moments_after F xs ms moments)
        (first.dated cleaned F h moments had is) tt);
    crash = survives_then (shows g old) (shows g mid) (shows g new) _ _ _
        (λ clean trees left F moments h had alive is. leaves_first (old_style_of old) F moments xs ys ms ms' trees long
        (left F moments h had alive is))
        (λ clean trees left F moments h had alive is.
        let cleaned = two.setting.clean clean in
        leaves_second (old_style_of old) F moments xs ys ms ms' trees long
        (subst (λ n. LeavesSomeWith n (after F xs) (moments_after F xs ms moments) ys ms' trees) one.setting.old_style
        (left (after F xs) (moments_after F xs ms moments) (one.answers cleaned F h is).1
        (first.dated cleaned F h moments had is) tt tt)))
        first.crash second.crash;
    next = second.next ∙ first.next;
  }

  crash_one : (r : Request) (result : Given) (m : ℕ) (old new : Intake S)
      → SurvivesWith g old new (λ F moments trees.
      LeavesReceived (old_style_of old) (with_request F r) (with_moment F r m moments) trees)
      → SurvivesWith g old new (λ F moments trees. Unit {0} → Unit {0}
      → LeavesSomeWith (old_style_of old) F moments ((r, result) ∷ []) (m ∷ []) trees)
  crash_one r result m old new =
      survives_weaker (shows g old) (shows g new) _ _
      (λ clean trees left F moments h had _ _. record {
        before = [];
        next = (r, result);
        more = [];
        rest = [];
        are = refl;
        leaves = left F moments h had;
      })

  pub dates_one : (r : Request) (result : Given) (m : ℕ) (old new : Intake S) → DatesRequest g r m old new result
      → DatesAll g ((r, result) ∷ []) (m ∷ []) old new
  dates_one r (Ok a) m old new d =
      record {
        dated = λ clean F h moments had _. d.dated clean F h moments had;
        crash = crash_one r (Ok a) m old new d.crash;
        next = d.next;
      }
  dates_one r (Err e) m old new d =
      record {
        dated = λ clean F h moments had _. d.same clean F h moments had;
        crash = crash_one r (Err e) m old new d.crash;
        next = d.next;
      }

  pub dates_none : (i : Intake S) → DatesAll g [] [] i i
  dates_none i = record {
    dated = λ clean F h moments had _. had;
    crash = survives_weaker (shows g i) (shows g i) _ _ (λ clean trees none. absurd none) (nothing_yet (shows g i));
    next = refl;
  }
