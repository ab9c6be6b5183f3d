-- Requests that were kept together are answered.
use Rattle.std.proofs.Common.{◌≡◌, ◌<◌, ◌≤◌, ◌+◌, ◌||◌, ℕ, zero, suc, Bool, true, false, List, [], ◌∷◌, ◌++◌, take}
use Rattle.std.proofs.Common.{drop, map, length}
use Rattle.std.proofs.Common.{Ok, Err, Vec, vec_len, vec_capacity, get_or, refl, sym, ap, ◌∙◌, subst, arith}
use Rattle.std.proofs.Common.{append_assoc, length-append, true≢false}
use Rattle.std.proofs.Math.Seq.{take-length}
use Rattle.std.proofs.lemmas.List.{take-append-le, take_more, drop_at}
use Rattle.std.proofs.lemmas.Slice.Zip.{AllZip-long, all_zipped_more}
use Rattle.std.proofs.lemmas.List.Folds.{list_any-append}
use Rattle.std.specs.List.{AllByRecursion, AllZip, zip}
use Rattle.std.specs.Result.{IsOk}
use Rattle.std.specs.declared.alloc.Global.{Global}
use Rattle.sqlite.specs.Store.{Ghosts}
use Rattle.filing_model.specs.declared.answer.Answer.{Answer as Told}
use Rattle.filing_model.specs.declared.outcome.Outcome.{Outcome as Became}
use Rattle.filing_model.specs.declared.served.Style.{Style}
use Rattle.filing_model.specs.declared.served.Style.TheVariants.{Problem}
use Rattle.filing_model.specs.Request.{Request, firsts, has_key, same_key}
use Rattle.filing_model.specs.Register.{Kept, Outcome, judged, kept}
use Rattle.filing_model.specs.Answer.{answer_by}
use Rattle.filing_model.specs.Style.{style_of, HasStyle}
use Rattle.filing_model.specs.Views.{view_answer, view_outcome}
use Rattle.filing_model.proofs.Answers.{answer_new}
use Rattle.filing_model.proofs.Keeping.{kept_grows, kept_new}
use Rattle.intake_core.specs.Cache.{IsKeptIn}
use Rattle.intake_core.proofs.CacheLemmas.{IsKeptIn-more}
use Rattle.intake_core.specs.declared.intake.Intake.{Intake}
use Rattle.intake_core.specs.Group.{AreDecidedInTurn, Given}
use Rattle.intake_core.specs.Held.{ChangesOnlyCache, HoldsRequests, limit_of, old_style_of, with_request}
use Rattle.register_store.specs.Outcomes.{outcomes_behind}
use Rattle.intake_core.specs.Together.{AnswersGroup, AreNewBehind}
use Rattle.intake_core.proofs.Deciding.{IsKeptIn-new, firsts-more, style_of-new}

-- what becomes of the first of them, and of the rest
outcomes_cons : (F : List Request) (r : Request) (rs : List Request) → has_key F r ≡ false
    → outcomes_behind F (r ∷ rs) ≡ (judged (kept F) r).outcome ∷ outcomes_behind (F ++ r ∷ []) rs
outcomes_cons F r rs new =
    let grown = kept_grows (F ++ r ∷ []) rs in
    let more = grown.0 in
    let first = judged (kept F) r in
    let all : kept (F ++ r ∷ rs) ≡ kept F ++ first ∷ more =
    ap kept (sym (append_assoc F (r ∷ []) rs))
    ∙ grown.1
    ∙ ap (λ (ks : List Kept). ks ++ more) (kept_new F r new)
    ∙ append_assoc (kept F) (first ∷ []) more in
    let outcome : Kept → Outcome = λ k. k.outcome in
    ap (λ (ks : List Kept). map outcome (drop (length (kept F)) ks)) all
    ∙ ap (map outcome) (drop_at (kept F) (first ∷ more) (length (kept F)) refl)
    ∙ ap (λ (os : List Outcome). first.outcome ∷ os)
    (sym (ap (λ (ks : List Kept). map outcome (drop (length (kept (F ++ r ∷ []))) ks)) grown.1
    ∙ ap (map outcome) (drop_at (kept (F ++ r ∷ [])) more (length (kept (F ++ r ∷ []))) refl)))

-- ---- what is kept of each

-- this is what is kept for its filer and key, which were new
pub record IsKeptNew (F rs : List Request) (r : Request) (o : Became) : Type 0 where
  pub is : IsKeptIn (F ++ rs) (record { request = r; outcome = view_outcome o })
  pub new : has_key F r ≡ false

any_first : (a b : Bool) → (a || b) ≡ false → a ≡ false
any_first true b e = absurd (true≢false e)
any_first false b e = refl

new_before : (F : List Request) (s r : Request) → has_key (F ++ s ∷ []) r ≡ false → has_key F r ≡ false
new_before F s r new =
    any_first (has_key F r) (has_key (s ∷ []) r) (sym (list_any-append (λ t. same_key t r) F (s ∷ [])) ∙ new)

all_kept_more : (F : List Request) (s : Request) (all rs : List Request) (os : List Became)
    → AllZip (IsKeptNew (F ++ s ∷ []) all) rs os → AllZip (IsKeptNew F (s ∷ all)) rs os
all_kept_more F s all [] [] h = tt
all_kept_more F s all [] (o ∷ os) h = absurd h
all_kept_more F s all (r ∷ rs) [] h = absurd h
all_kept_more F s all (r ∷ rs) (o ∷ os) h = (
  record {
    is =
        subst (λ (G : List Request). IsKeptIn G (record { request = r; outcome = view_outcome o }))
        (append_assoc F (s ∷ []) all) h.0.is;
    new = new_before F s r h.0.new;
  },
  all_kept_more F s all rs os h.1,
)

pub all_kept : (F rs : List Request) (os : List Became) → length os ≡ length rs → AreNewBehind F rs
    → map view_outcome os ≡ outcomes_behind F rs → AllZip (IsKeptNew F rs) rs os
all_kept F [] [] long new are = tt
all_kept F [] (o ∷ os) long new are = absurd (omega (arith, long))
all_kept F (r ∷ rs) [] long new are = absurd (omega (arith, long))
all_kept F (r ∷ rs) (o ∷ os) long new are =
    let both : view_outcome o ∷ map view_outcome os
    ≡ (judged (kept F) r).outcome ∷ outcomes_behind (F ++ r ∷ []) rs = are ∙ outcomes_cons F r rs new.0 in
    let first : view_outcome o ≡ (judged (kept F) r).outcome = cc in
    let rest : map view_outcome os ≡ outcomes_behind (F ++ r ∷ []) rs = cc in (
      record {
        is =
            subst (λ (G : List Request). IsKeptIn G (record { request = r; outcome = view_outcome o }))
            (append_assoc F (r ∷ []) rs)
            (IsKeptIn-more (F ++ r ∷ []) rs (record { request = r; outcome = view_outcome o })
            (IsKeptIn-new F r (view_outcome o) new.0 first));
        new = new.0;
      },
      all_kept_more F r rs rs os (all_kept (F ++ r ∷ []) rs os (omega (arith, long)) new.1 rest),
    )

-- ---- what each is told

-- it is told what became of it, in the new style
abbrev pub Tells : Became → Given → Type 0
Tells o (Ok a) = (view_answer a ≡ answer_by (view_outcome o) false) × HasStyle Problem a
Tells o (Err e) = ⊥

pub told_ok : (os : List Became) (given : List Given) → AllZip Tells os given → AllByRecursion IsOk given
told_ok [] [] h = tt
told_ok [] (x ∷ given) h = absurd h
told_ok (o ∷ os) [] h = absurd h
told_ok (o ∷ os) (Ok a ∷ given) h = (refl, told_ok os given h.1)
told_ok (o ∷ os) (Err e ∷ given) h = absurd h.0

pub told_in_turn : (limit n : ℕ) (F rs : List Request) (os : List Became) (given : List Given)
    → length os ≡ length rs → firsts F ≡ F → AreNewBehind F rs → map view_outcome os ≡ outcomes_behind F rs
    → n ≤ length F → length F + length rs ≤ limit → AllZip Tells os given
    → AreDecidedInTurn limit (take n F) F (zip rs given)
told_in_turn limit n F [] os given long firsts' new are few room told = tt
told_in_turn limit n F (r ∷ rs) [] given long firsts' new are few room told = absurd (omega (arith, long))
told_in_turn limit n F (r ∷ rs) (o ∷ os) [] long firsts' new are few room told = absurd told
told_in_turn limit n F (r ∷ rs) (o ∷ os) (Err e ∷ given) long firsts' new are few room told = absurd told.0
told_in_turn limit n F (r ∷ rs) (o ∷ os) (Ok a ∷ given) long firsts' new are few room told =
    let both : view_outcome o ∷ map view_outcome os
    ≡ (judged (kept F) r).outcome ∷ outcomes_behind (F ++ r ∷ []) rs = are ∙ outcomes_cons F r rs new.0 in
    let first : view_outcome o ≡ (judged (kept F) r).outcome = cc in
    let rest : map view_outcome os ≡ outcomes_behind (F ++ r ∷ []) rs = cc in
    let more : with_request F r ≡ F ++ r ∷ [] = firsts-more F r firsts' new.0 in
    let longer : length (F ++ r ∷ []) ≡ length F + 1 = length-append F (r ∷ []) in (
      record {
        answer = (
          told.0.0 ∙ ap (λ (o : Outcome). answer_by o false) first ∙ sym (answer_new F r new.0),
          subst (λ (s : Style). HasStyle s a) (sym (style_of-new n F r new.0)) told.0.1,
        );
        full = λ k is. absurd (cc);
        room = λ _. omega (arith, room);
      },
      subst (λ (G : List Request). AreDecidedInTurn limit (take n F) G (zip rs given)) (sym more)
          (subst (λ (old_style : List Request). AreDecidedInTurn limit old_style (F ++ r ∷ []) (zip rs given))
          (take-append-le n F (r ∷ []) few)
          (told_in_turn limit n (F ++ r ∷ []) rs os given (omega (arith, long)) (firsts-more F r firsts' new.0) new.1
          rest (omega (arith, few, longer)) (omega (arith, room, longer)) told.1)),
    )

-- ---- one behind another

-- The first so many of them are answered.
pub record AnswersFirst {S : Type 0} (g : Ghosts S) (count : ℕ) (rs : List Request) (outcomes : List Became)
    (old new : Intake S) (results results' : Vec Given Global) : Type 0 where
  pub given : List Given
  pub are : results'.items ≡ results.items ++ given
  pub len : vec_len results' ≡ vec_len results + count
  pub told : AllZip Tells (take count outcomes) given
  pub held : (F : List Request) → HoldsRequests g old (F ++ rs) → AllZip (IsKeptNew F rs) rs outcomes
      → old_style_of old ≤ length F → HoldsRequests g new (F ++ rs)
  pub rest : ChangesOnlyCache old new
  pub room : vec_capacity results' ≡ vec_capacity results

all_zip_at : {X Y : Type 0} (R : X → Y → Type 0) (xs : List X) (ys : List Y) (i : ℕ) (d : X) (e : Y) → AllZip R xs ys
    → i < length xs → R (get_or xs i d) (get_or ys i e)
all_zip_at R [] ys i d e h within = absurd (omega (arith, within))
all_zip_at R (x ∷ xs) [] i d e h within = absurd h
all_zip_at R (x ∷ xs) (y ∷ ys) zero d e h within = h.0
all_zip_at R (x ∷ xs) (y ∷ ys) (suc i) d e h within = all_zip_at R xs ys i d e h.1 (omega (arith, within))

module _ {S : Type 0} {g : Ghosts S} (rs : List Request) (outcomes : List Became) (long : length outcomes ≡ length rs)
  where
    pub answers_more : (count : ℕ) (old mid new : Intake S) (a b c : Vec Given Global) (r : Request) (o : Became)
        (told : Told) → AnswersFirst g count rs outcomes old mid a b → count < length rs → r ≡ get_or rs count r
        → o ≡ get_or outcomes count o
        → ((requests : List Request) → HoldsRequests g mid requests
        → IsKeptIn requests (record { request = r; outcome = view_outcome o })
        → Problem ≡ style_of (take (old_style_of mid) requests) r → HoldsRequests g new requests)
        → ChangesOnlyCache mid new → Tells o (Ok told) → c.items ≡ b.items ++ Ok told ∷ [] → vec_len c ≡ vec_len b + 1
        → vec_capacity c ≡ vec_capacity b → AnswersFirst g (count + 1) rs outcomes old new a c
    answers_more count old mid new a b c r o told h within r_is o_is same rest tells are len room = record {
      given = h.given ++ Ok told ∷ [];
      are =
          are ∙ ap (λ (xs : List Given). xs ++ Ok told ∷ []) h.are ∙ append_assoc a.items h.given (Ok told ∷ []);
      len = omega (arith, len, h.len);
      told =
          subst (λ (os : List Became). AllZip Tells os (h.given ++ Ok told ∷ []))
          (sym (take_more outcomes count o (omega (arith, within, long))
          ∙ ap (λ (o : Became). take count outcomes ++ o ∷ []) (sym o_is)))
          (all_zipped_more Tells (take count outcomes) h.given o (Ok told) h.told tells);
      held = λ F held kept few.
          let this : IsKeptNew F rs r o =
          subst (λ (r : Request). IsKeptNew F rs r o) (sym r_is)
          (subst (λ (o : Became). IsKeptNew F rs (get_or rs count r) o) (sym o_is)
          (all_zip_at (IsKeptNew F rs) rs outcomes count r o kept within)) in
          same (F ++ rs) (h.held F held kept few) this.is
          (sym (ap (λ n. style_of (take n (F ++ rs)) r) (ap (λ s. s.old_style) h.rest.store)
          ∙ ap (λ (es : List Request). style_of es r) (take-append-le (old_style_of old) F rs few)
          ∙ style_of-new (old_style_of old) F r this.new));
      rest = record {
        store = rest.store ∙ h.rest.store;
        limit = rest.limit ∙ h.rest.limit;
        stopped = rest.stopped ∙ h.rest.stopped;
        moment = rest.moment ∙ h.rest.moment;
      };
      room = room ∙ h.room;
    }

    pub answers_all : (count : ℕ) (old new : Intake S) (a b : Vec Given Global) → count ≡ length rs
        → AnswersFirst g count rs outcomes old new a b → AnswersGroup g rs outcomes old new a b
    answers_all count old new a b end h =
        let whole : take count outcomes ≡ outcomes =
        ap (λ n. take n outcomes) (end ∙ sym long) ∙ take-length outcomes in
        let told : AllZip Tells outcomes h.given = subst (λ (os : List Became). AllZip Tells os h.given) whole h.told in
        let each : length h.given ≡ length outcomes = AllZip-long Tells outcomes h.given told in
        record {
          given = h.given;
          are = h.are;
          each = each ∙ long;
          len = omega (arith, h.len, end, each, long);
          all = told_ok outcomes h.given told;
          answers = λ F firsts' held new_ones are few room. (
            told_in_turn (limit_of old) (old_style_of old) F rs outcomes h.given long firsts' new_ones are few room
                told,
            h.held F held (all_kept F rs outcomes long new_ones are) few,
          );
          rest = h.rest;
          room = h.room;
        }
