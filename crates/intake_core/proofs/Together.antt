-- New requests are kept together.
use Rattle.std.proofs.Common.{◌≡◌, ◌<◌, ◌≤◌, ◌+◌, ℕ, true, false, List, [], ◌∷◌, ◌++◌, take, map, length, inl, inr}
use Rattle.std.proofs.Common.{get_or}
use Rattle.std.proofs.Common.{Ok, Err, Vec, IsTrue, true≢false, refl, sym, ap, ◌∙◌, subst, arith, append_assoc}
use Rattle.std.proofs.lemmas.Slice.Zip.{firsts-zip}
use Rattle.std.proofs.lemmas.List.{length-take-le}
use Rattle.std.proofs.lemmas.List.Elements.{All-from_recursion, All-nil, All-cons, All-head, All-tail}
use Rattle.std.proofs.lemmas.List.Folds.{list_any-append}
use Rattle.std.proofs.lemmas.Result.{IfOk-weaker}
use Rattle.std.proofs.Common.{Result, IfOk, OnErr, OnOk, Option, Some}
use Rattle.xbrl_report.specs.declared.judging.Judged.{Judged}
use Rattle.xbrl_report.specs.Judgement.{IsAmendmentJudgement}
use Rattle.filing_model.specs.Register.{is_free, register as filings_of}
use Rattle.table_rows.specs.declared.fault.StoreFault.{StoreFault}
use Rattle.register_store.specs.declared.outcome.NewRow.{NewRow}
use Rattle.intake_core.specs.Calls.{IsRequest}
use Rattle.register_rows.specs.declared.moment.Moment.{Moment}
use Rattle.register_store.specs.Calls.{AddsMoments, AddsRequests, KeepsStore}
use Rattle.register_store.specs.Store.{StoreParts}
use Rattle.table_rows.specs.Standing.{CommitsNothing}
use Rattle.register_store.specs.Moments.{moments_of}
use Rattle.register_store.specs.NewRows.{AreNew, IsKeepable, request_of}
use Rattle.intake_core.specs.Together.{AddsGroup, AreRowsOf, IfKept, IsJudgedAlone, LooksUp, UnlessKept, count_of}
use Rattle.intake_core.specs.Held.{ChangesOnlyCache, ForRequests}
use Rattle.intake_core.proofs.Deciding.{HoldsRequests-asked, HoldsRequests-several}
use Rattle.std.specs.List.{All, AllByRecursion, AllZip, zip}
use Rattle.std.specs.Result.{IsErr, IsOk}
use Rattle.std.specs.declared.alloc.Global.{Global}
use Rattle.sqlite.specs.Store.{Ghosts}
use Rattle.sqlite.specs.State.{HasCleanDisk, Survives}
use Rattle.sqlite.specs.Tree.{Trees}
use Rattle.sqlite.proofs.StateLemmas.{survives_then, survives_weaker}
use Rattle.table_rows.proofs.StepLemmas.{nothing_yet}
use Rattle.filing_model.specs.declared.outcome.Outcome.{Outcome}
use Rattle.filing_model.specs.Views.{view_outcome}
use Rattle.register_store.specs.Outcomes.{outcomes_behind}
use Rattle.filing_model.specs.Request.{Request, firsts, has_key, same_key}
use Rattle.register_store.specs.Store as register
use Rattle.register_tables.specs.Registers.{LeavesReceived, LeavesRegister}
use Rattle.intake_core.specs.declared.intake.Intake.{Intake}
use Rattle.intake_core.specs.declared.intake.Unavailable.TheVariants.{Down, Store}
use Rattle.intake_core.specs.declared.intake.group.Together.{Together}
use Rattle.intake_core.specs.declared.intake.group.Together.TheVariants.{Kept, Alone, Failed}
use Rattle.intake_core.specs.Group.{after, AreDecidedInTurn, Decided, DecidesEachIf, EndAtFailure, Given}
use Rattle.intake_core.specs.Group.{HasFailed, LeavesHeld, LeavesSome}
use Rattle.intake_core.specs.Held.{shows, limit_of, old_style_of, old_style_in, has_stopped, HoldsRequests, IsClean}
use Rattle.intake_core.specs.Held.{store_of, IsDurableAs}
use Rattle.intake_core.specs.Looked.{AreNewTo}
use Rattle.intake_core.specs.Moments.{DatesAllIf, HoldsMoments, LeavesSomeWith, with_moments}
use Rattle.intake_core.specs.Together.{AddsResults, AddsResultsIf, AnswersGroup, AreNewBehind, KeepsFirst}
use Rattle.intake_core.specs.Together.{RefusesGroup}
use Rattle.intake_core.specs.Together.{in_milliseconds}
use Rattle.intake_core.proofs.Dating.{HoldsMoments-same, leaves_together, moments_kept, moments_refused, with_new}
use Rattle.intake_core.proofs.Deciding.{firsts-more}
use Rattle.intake_core.proofs.Group.{append_nil, held_exactly}

pub firsts_behind : (F rs : List Request) → firsts F ≡ F → AreNewBehind F rs → firsts (F ++ rs) ≡ F ++ rs
firsts_behind F [] are new = ap firsts (append_nil F) ∙ are ∙ sym (append_nil F)
firsts_behind F (r ∷ rs) are new =
    ap firsts (sym (append_assoc F (r ∷ []) rs))
    ∙ firsts_behind (F ++ r ∷ []) rs (firsts-more F r are new.0) new.1
    ∙ append_assoc F (r ∷ []) rs

pub has_key-neither : (F rs : List Request) (r : Request) → has_key F r ≡ false → has_key rs r ≡ false
    → has_key (F ++ rs) r ≡ false
has_key-neither F rs r first second = rw (list_any-append (λ s. same_key s r) F rs, first, second) refl

-- what is new to some requests is so at its place
pub new_at : (F rs : List Request) (i : ℕ) (r : Request) → AreNewTo F rs → i < length rs → r ≡ get_or rs i r
    → has_key F r ≡ false
new_at F rs i r new low is =
    subst (λ r. has_key F r ≡ false) (sym is) (All-from_recursion (λ r. has_key F r ≡ false) rs new i r low)

pub new_more : (F rs : List Request) (r : Request) → AreNewBehind F rs → has_key (F ++ rs) r ≡ false
    → AreNewBehind F (rs ++ r ∷ [])
new_more F [] r h new = (subst (λ G. has_key G r ≡ false) (append_nil F) new, tt)
new_more F (s ∷ rs) r h new =
    (h.0, new_more (F ++ s ∷ []) rs r h.1 (subst (λ G. has_key G r ≡ false) (sym (append_assoc F (s ∷ []) rs)) new))

-- what is so of an answer, in two parts
pub ok_both : {T E : Type 0} (x : Result T E) (P : T → Type 0) (Q : Type 0) (R : T → Type 0)
    → ((a : T) → P a → Q → R a) → IfOk x P → OnOk x Q → IfOk x R
ok_both (Ok a) P Q R f p q = f a p q
ok_both (Err e) P Q R f p q = tt

-- ---- they are looked up and kept

keepable_rows : (rows : List NewRow) → All IsRequest (map request_of rows)
    → AllZip IsJudgedAlone (map request_of rows) (map (λ (row : NewRow). row.judged.now) rows) → All IsKeepable rows
keepable_rows [] h judged = All-nil IsKeepable
keepable_rows (row ∷ rows) h judged =
    let first = All-head IsRequest (request_of row) (map request_of rows) h in
    All-cons IsKeepable row rows
    (record { filer = first.filer; target = first.target; body = first.body; facts = judged.0.facts })
    (keepable_rows rows (All-tail IsRequest (request_of row) (map request_of rows) h) judged.1)

pub keepable : (rs : List Request) (moments : List Moment) (judged : List Judged) (rows : List NewRow)
    → AreRowsOf rs moments judged rows → All IsRequest rs → AllZip IsJudgedAlone rs judged → All IsKeepable rows
keepable rs moments judged rows are h each =
    keepable_rows rows (subst (All IsRequest) (sym are.requests) h)
    (subst (AllZip IsJudgedAlone (map request_of rows)) (sym are.judgements)
    (subst (λ rs. AllZip IsJudgedAlone rs judged) (sym are.requests) each))

new_rows : (F : List Request) (rows : List NewRow) → AreNewBehind F (map request_of rows)
    → AllZip IsJudgedAlone (map request_of rows) (map (λ (row : NewRow). row.judged.now) rows) → AreNew F rows
new_rows F [] new judged = tt
new_rows F (row ∷ rows) new judged = (
  record {
    key = new.0;
    judged =
        subst (λ target. IsAmendmentJudgement row.filer.now row.body.now (is_free (filings_of F) row.filer.now target)
        row.judged.now) (sym judged.0.alone) judged.0.report;
  },
  new_rows (F ++ request_of row ∷ []) rows new.1 judged.1,
)

on_err : {T E : Type 0} (x : Result T E) (P Q : Type 0) → (P → Q) → OnErr x P → OnErr x Q
on_err (Ok a) P Q f h = tt
on_err (Err e) P Q f h = f h

moments_are : (rows : List NewRow)
    → map Some (in_milliseconds (map (λ (row : NewRow). row.moment) rows)) ≡ moments_of rows
moments_are [] = refl
moments_are (row ∷ rows) = ap (λ ms. Some row.moment.milliseconds ∷ ms) (moments_are rows)

rows_long : (rows : List NewRow) → length (map request_of rows) ≡ length rows
rows_long [] = refl
rows_long (row ∷ rows) = let rest = rows_long rows in omega (arith, rest)

as_many : (requests : List Request) (ms : List ℕ) → length ms ≡ length requests → (count : ℕ)
    → count ≤ length requests → length (take count ms) ≡ length (take count requests)
as_many requests ms long count few =
    length-take-le count ms (omega (arith, few, long)) ∙ sym (length-take-le count requests few)

left_together : (n : ℕ) (F requests : List Request) (ms : List ℕ) (moments : List (Option ℕ)) (trees : Trees)
    → length ms ≡ length requests → (count : ℕ) → count ≤ length requests → firsts F ≡ F
    → AreNewBehind F (take count requests)
    → LeavesReceived n (F ++ take count requests) (moments ++ map Some (take count ms)) trees
    → LeavesReceived n (firsts (F ++ take count requests))
    (with_moments F (take count requests) (take count ms) moments) trees
left_together n F requests ms moments trees long count few are new l =
    subst (λ mo. LeavesReceived n (firsts (F ++ take count requests)) mo trees)
    (sym (with_new F (take count requests) (take count ms) moments are new (as_many requests ms long count few)))
    (subst (λ G. LeavesReceived n G (moments ++ map Some (take count ms)) trees)
    (sym (firsts_behind F (take count requests) are new)) l)

module _ {S : Type 0} {g : Ghosts S} where
  pub looks_then : (old mid new : Intake S) → LooksUp g old mid → LooksUp g mid new → LooksUp g old new
  looks_then old mid new one two = record {
    same = λ clean F h. two.same clean F (one.same (two.setting.clean clean) F h);
    moments = record {
      same = λ clean F h moments had.
          let cleaned = two.setting.clean clean in
          two.moments.same clean F (one.same cleaned F h) moments (one.moments.same cleaned F h moments had);
      next = two.moments.next ∙ one.moments.next;
    };
    setting = record {
      clean = λ clean. one.setting.clean (two.setting.clean clean);
      limit = two.setting.limit ∙ one.setting.limit;
      old_style = two.setting.old_style ∙ one.setting.old_style;
    };
    stopped = two.stopped ∙ one.stopped;
    count = two.count ∙ one.count;
    crash = survives_then (shows g old) (shows g mid) (shows g new) _ _ _ (λ clean trees none. none)
        (λ clean trees none. none) one.crash two.crash;
  }

  -- the register was asked
  pub looks_asked : (old : Intake S) (store : StoreParts S) → KeepsStore g old.store store
      → LooksUp g old (record old { store = store })
  looks_asked old store keeps = record {
    same = λ clean F h.
        HoldsRequests-asked F old (record old { store = store }) h refl keeps.old_style (keeps.same clean F h.rows);
    moments = record { same = λ clean F h moments had. keeps.moments clean F h.rows moments had; next = refl };
    setting = record {
      clean = λ clean. omega (arith, keeps.crash.clean, clean);
      limit = refl;
      old_style = keeps.old_style;
    };
    stopped = refl;
    count = keeps.counts.0;
    crash = keeps.crash;
  }

  -- the cache was asked
  pub looks_cache : (old new : Intake S) → ((F : List Request) → HoldsRequests g old F → HoldsRequests g new F)
      → ChangesOnlyCache old new → LooksUp g old new
  looks_cache old new same rest = record {
    same = λ clean F h. same F h;
    moments = record {
      same = λ clean F h moments had. HoldsMoments-same old new moments rest.store had;
      next = ap (λ (t : Moment). t.milliseconds) rest.moment;
    };
    setting = record {
      clean = λ clean. subst (λ s. HasCleanDisk (register.shows g s)) rest.store clean;
      limit = rest.limit;
      old_style = ap (λ s. s.old_style) rest.store;
    };
    stopped = rest.stopped;
    count = ap (λ s. s.kept) rest.store;
    crash = subst (λ s. CommitsNothing (shows g old) (register.shows g s)) (sym rest.store) (nothing_yet (shows g old));
  }

  adds_rows : (rows : List NewRow) (old new : Intake S) (result : Result (Vec Outcome Global) StoreFault)
      → AllZip IsJudgedAlone (map request_of rows) (map (λ (row : NewRow). row.judged.now) rows)
      → new.cache ≡ old.cache → limit_of new ≡ limit_of old → has_stopped new ≡ has_stopped old
      → new.moment ≡ old.moment → AddsRequests g rows old.store new.store result
      → AddsMoments g rows old.store new.store result
      → AddsGroup g (map request_of rows) (in_milliseconds (map (λ (row : NewRow). row.moment) rows)) old new result
  adds_rows rows old new result judged cache limit stopped next a m = record {
    added = λ clean F h new_ones.
        IfOk-weaker result _ _ (λ outcomes told. (
          told.0,
          HoldsRequests-several F (map request_of rows) old new
              (firsts_behind F (map request_of rows) h.firsts' new_ones) h cache a.old_style told.1,
        )) (a.added clean F h.rows (new_rows F rows new_ones judged));
    same = λ clean F h.
        on_err result _ _ (λ still. HoldsRequests-asked F old new h cache a.old_style still) (a.same clean F h.rows);
    dated = λ clean F h moments had.
        subst (λ ms. OnOk result (HoldsMoments g new (moments ++ ms))) (sym (moments_are rows))
        (m.added clean F h.rows moments had);
    undated = λ clean F h moments had. m.same clean F h.rows moments had;
    received = survives_weaker (shows g old) (shows g new) _ _
        (λ clean trees left F moments h had alive new_ones.
        subst (λ ms. LeavesReceived (old_style_of old) (F ++ map request_of rows) (moments ++ ms) trees)
        (sym (moments_are rows))
        (left F moments h.rows had alive (new_rows F rows new_ones judged))) m.crash;
    next = ap (λ (t : Moment). t.milliseconds) next;
    each = IfOk-weaker result _ _ (λ outcomes long. long ∙ sym (rows_long rows)) a.each;
    setting = record { clean = λ clean. omega (arith, a.crash.clean, clean); limit = limit; old_style = a.old_style };
    stopped = stopped;
    crash = survives_weaker (shows g old) (shows g new) _ _
        (λ clean trees left F h alive new_ones. left F h.rows alive (new_rows F rows new_ones judged)) a.crash;
    durable = λ clean F h new_ones. a.durable clean F h.rows (new_rows F rows new_ones judged);
  }

  pub adds_group : (rs : List Request) (moments : List Moment) (judged : List Judged) (rows : List NewRow)
      (old new : Intake S) (result : Result (Vec Outcome Global) StoreFault) → AreRowsOf rs moments judged rows
      → AllZip IsJudgedAlone rs judged → new.cache ≡ old.cache → limit_of new ≡ limit_of old
      → has_stopped new ≡ has_stopped old → new.moment ≡ old.moment → AddsRequests g rows old.store new.store result
      → AddsMoments g rows old.store new.store result → AddsGroup g rs (in_milliseconds moments) old new result
  adds_group rs moments judged rows old new result are each cache limit stopped next a m =
      subst (λ ms. AddsGroup g rs (in_milliseconds ms) old new result) are.moments'
      (subst (λ rs. AddsGroup g rs (in_milliseconds (map (λ (row : NewRow). row.moment) rows)) old new result)
      are.requests
      (adds_rows rows old new result
      (subst (AllZip IsJudgedAlone (map request_of rows)) (sym are.judgements)
      (subst (λ rs. AllZip IsJudgedAlone rs judged) (sym are.requests) each)) cache limit stopped next a m))

  -- they are kept
  pub first_kept : (Open : Type 0) (Holds : List Request → Type 0) (requests : List Request) (ms : List ℕ)
      → length ms ≡ length requests → (outcomes : Vec Outcome Global) (count : ℕ) → 0 < count
      → count ≤ length requests → (old mid new : Intake S) → LooksUp g old mid
      → ForRequests g old mid (λ F. Holds F → AreNewBehind F (take count requests)
      × (Open → IsTrue (shows g mid).is_open))
      → (store_of mid).kept + count ≤ limit_of mid
      → AddsGroup g (take count requests) (take count ms) mid new (Ok outcomes)
      → KeepsFirst g Open Holds requests ms old new (Kept outcomes)
  first_kept Open Holds requests ms long_ms outcomes count some few old mid new looks fresh room a =
      let is : count ≡ length outcomes.items = sym (a.each ∙ length-take-le count requests few) in record {
        some = (omega (arith, is, some), omega (arith, is, few));
        kept = λ clean F h holds.
            let cleaned = a.setting.clean clean in
            let new_ones = fresh cleaned F h holds in
            let held = looks.same cleaned F h in
            let told = a.added clean F held new_ones.0 in
            let within : length F + count ≤ limit_of old =
            subst (λ n. length F + count ≤ n) looks.setting.limit (omega (arith, room, held.rows.kept_is)) in
            subst (λ m. AreNewBehind F (take m requests)
            × (map view_outcome outcomes.items ≡ outcomes_behind F (take m requests))
            × HoldsRequests g new (F ++ take m requests) × (length F + m ≤ limit_of old)) is
            (new_ones.0, told.0, told.1, within);
        none = λ clean F h. tt;
        dated = λ clean F h moments had.
            let cleaned = a.setting.clean clean in
            subst (λ m. HoldsMoments g new (moments ++ map Some (take m ms))) is
            (a.dated clean F (looks.same cleaned F h) moments (looks.moments.same cleaned F h moments had));
        undated = λ clean F h moments had. tt;
        received = survives_then (shows g old) (shows g mid) (shows g new) _ _ _ (λ clean trees none. absurd none)
            (λ clean trees left F moments h had alive holds.
            let cleaned = a.setting.clean clean in
            subst (λ m. LeavesReceived (old_style_of old) (firsts (F ++ take m requests))
            (with_moments F (take m requests) (take m ms) moments) trees) is
            (left_together (old_style_of old) F requests ms moments trees long_ms count few h.firsts'
            (fresh cleaned F h holds).0
            (subst (λ n. LeavesReceived n (F ++ take count requests) (moments ++ map Some (take count ms)) trees)
            looks.setting.old_style
            (left F moments (looks.same cleaned F h) (looks.moments.same cleaned F h moments had)
            ((fresh cleaned F h holds).1 alive) (fresh cleaned F h holds).0)))) looks.crash a.received;
        next = a.next ∙ looks.moments.next;
        setting = record {
          clean = λ clean. looks.setting.clean (a.setting.clean clean);
          limit = a.setting.limit ∙ looks.setting.limit;
          old_style = a.setting.old_style ∙ looks.setting.old_style;
        };
        stopped = a.stopped ∙ looks.stopped;
        crash = survives_then (shows g old) (shows g mid) (shows g new) _ _ _ (λ clean trees none. absurd none)
            (λ clean trees left F h alive holds.
            let cleaned = a.setting.clean clean in
            let new_ones = fresh cleaned F h holds in
            let held = looks.same cleaned F h in
            subst (λ m. LeavesRegister (old_style_of old) (firsts (F ++ take m requests)) trees) is
            (subst (λ (G : List Request). LeavesRegister (old_style_of old) G trees)
            (sym (firsts_behind F (take count requests) h.firsts' new_ones.0))
            (subst (λ n. LeavesRegister n (F ++ take count requests) trees) looks.setting.old_style
            (left F held (new_ones.1 alive) new_ones.0)))) looks.crash a.crash;
        durable = λ clean F h holds.
            let cleaned = a.setting.clean clean in
            subst (λ m. IsDurableAs g new (old_style_of old) (F ++ take m requests)) is
            (subst (λ n. IsDurableAs g new n (F ++ take count requests)) looks.setting.old_style
            (a.durable clean F (looks.same cleaned F h) (fresh cleaned F h holds).0));
      }

  -- the database refused to keep them
  pub first_refused : (Open : Type 0) (Holds : List Request → Type 0) {e : StoreFault} (requests : List Request)
      (ms : List ℕ) → length ms ≡ length requests → (result : Together) (count : ℕ) → count_of result ≡ count
      → ((P : Type 0) → P → UnlessKept result P) → ((P : List Outcome → Type 0) → IfKept result P) → 0 < count
      → count ≤ length requests → (old mid new : Intake S) → LooksUp g old mid
      → ForRequests g old mid (λ F. Holds F → AreNewBehind F (take count requests)
      × (Open → IsTrue (shows g mid).is_open))
      → AddsGroup g (take count requests) (take count ms) mid new (Err e)
      → KeepsFirst g Open Holds requests ms old new result
  first_refused Open Holds requests ms long_ms result count is unless kept some few old mid new looks fresh a = record {
    some = (omega (arith, is, some), omega (arith, is, few));
    kept = λ clean F h holds. kept _;
    none = λ clean F h. unless _ (a.same clean F (looks.same (a.setting.clean clean) F h));
    dated = λ clean F h moments had. kept _;
    undated = λ clean F h moments had.
        let cleaned = a.setting.clean clean in
        unless _ (a.undated clean F (looks.same cleaned F h) moments (looks.moments.same cleaned F h moments had));
    received = survives_then (shows g old) (shows g mid) (shows g new) _ _ _ (λ clean trees none. absurd none)
        (λ clean trees left F moments h had alive holds.
        let cleaned = a.setting.clean clean in
        subst (λ m. LeavesReceived (old_style_of old) (firsts (F ++ take m requests))
        (with_moments F (take m requests) (take m ms) moments) trees) (sym is)
        (left_together (old_style_of old) F requests ms moments trees long_ms count few h.firsts'
        (fresh cleaned F h holds).0
        (subst (λ n. LeavesReceived n (F ++ take count requests) (moments ++ map Some (take count ms)) trees)
        looks.setting.old_style
        (left F moments (looks.same cleaned F h) (looks.moments.same cleaned F h moments had)
        ((fresh cleaned F h holds).1 alive) (fresh cleaned F h holds).0)))) looks.crash a.received;
    next = a.next ∙ looks.moments.next;
    setting = record {
      clean = λ clean. looks.setting.clean (a.setting.clean clean);
      limit = a.setting.limit ∙ looks.setting.limit;
      old_style = a.setting.old_style ∙ looks.setting.old_style;
    };
    stopped = a.stopped ∙ looks.stopped;
    crash = survives_then (shows g old) (shows g mid) (shows g new) _ _ _ (λ clean trees none. absurd none)
        (λ clean trees left F h alive holds.
        let cleaned = a.setting.clean clean in
        let new_ones = fresh cleaned F h holds in
        let held = looks.same cleaned F h in
        subst (λ m. LeavesRegister (old_style_of old) (firsts (F ++ take m requests)) trees) (sym is)
        (subst (λ (G : List Request). LeavesRegister (old_style_of old) G trees)
        (sym (firsts_behind F (take count requests) h.firsts' new_ones.0))
        (subst (λ n. LeavesRegister n (F ++ take count requests) trees) looks.setting.old_style
        (left F held (new_ones.1 alive) new_ones.0)))) looks.crash a.crash;
    durable = λ clean F h holds. kept _;
  }

-- ---- each of them has an answer

pub after_new : (F rs : List Request) (given : List Given) → firsts F ≡ F → AreNewBehind F rs
    → length given ≡ length rs → AllByRecursion IsOk given → after F (zip rs given) ≡ F ++ rs
after_new F [] [] are new long all = sym (append_nil F)
after_new F [] (x ∷ given) are new long all = absurd (omega (arith, long))
after_new F (r ∷ rs) [] are new long all = absurd (omega (arith, long))
after_new F (r ∷ rs) (Ok a ∷ given) are new long all =
    let more = firsts-more F r are new.0 in
    ap (λ G. after G (zip rs given)) more
    ∙ after_new (F ++ r ∷ []) rs given more new.1 (omega (arith, long)) all.1
    ∙ append_assoc F (r ∷ []) rs
after_new F (r ∷ rs) (Err e ∷ given) are new long all = absurd (true≢false (sym all.0))

ok_ends : (rs : List Request) (given : List Given) → AllByRecursion IsOk given → EndAtFailure (zip rs given)
ok_ends [] given all = tt
ok_ends (r ∷ rs) [] all = tt
ok_ends (r ∷ rs) (Ok a ∷ given) all = (λ failed. absurd (cc), ok_ends rs given all.1)
ok_ends (r ∷ rs) (Err e ∷ given) all = absurd (true≢false (sym all.0))

ok_is_fine : (rs : List Request) (given : List Given) → AllByRecursion IsOk given → HasFailed (zip rs given) → ⊥
ok_is_fine [] given all failed = failed
ok_is_fine (r ∷ rs) [] all failed = failed
ok_is_fine (r ∷ rs) (Ok a ∷ given) all (inl this) = absurd (cc)
ok_is_fine (r ∷ rs) (Ok a ∷ given) all (inr later) = ok_is_fine rs given all.1 later
ok_is_fine (r ∷ rs) (Err e ∷ given) all failed = absurd (true≢false (sym all.0))

ok_is_up : (P : Type 0) (rs : List Request) (given : List Given) → AllByRecursion IsOk given
    → AllByRecursion (λ (d : Decided). d.1 ≡ Err Down → P) (zip rs given)
ok_is_up P [] given all = tt
ok_is_up P (r ∷ rs) [] all = tt
ok_is_up P (r ∷ rs) (Ok a ∷ given) all = (λ down. absurd (cc), ok_is_up P rs given all.1)
ok_is_up P (r ∷ rs) (Err e ∷ given) all = absurd (true≢false (sym all.0))

-- ---- none of them has an answer

abbrev refused : List Request → List Given
refused rs = map (λ _. Err Store) rs

refused_long : (rs : List Request) → length (refused rs) ≡ length rs
refused_long [] = refl
refused_long (r ∷ rs) = let rest = refused_long rs in omega (arith, rest)

refused_after : (F rs : List Request) → after F (zip rs (refused rs)) ≡ F
refused_after F [] = refl
refused_after F (r ∷ rs) = refused_after F rs

refused_in_turn : (limit : ℕ) (old_style F rs : List Request)
    → AreDecidedInTurn limit old_style F (zip rs (refused rs))
refused_in_turn limit old_style F [] = tt
refused_in_turn limit old_style F (r ∷ rs) =
    (record { answer = tt; full = λ k is. absurd (cc); room = tt }, refused_in_turn limit old_style F rs)

refused_none : (rs : List Request) → AllByRecursion (λ (d : Decided). IsErr d.1) (zip rs (refused rs))
refused_none [] = tt
refused_none (r ∷ rs) = (refl, refused_none rs)

refused_ends : (rs : List Request) → EndAtFailure (zip rs (refused rs))
refused_ends [] = tt
refused_ends (r ∷ rs) = (λ failed. refused_none rs, refused_ends rs)

refused_failed : (rs : List Request) → 0 < length rs → HasFailed (zip rs (refused rs))
refused_failed [] some = absurd (omega (arith, some))
refused_failed (r ∷ rs) some = inl refl

refused_up : (P : Type 0) (rs : List Request)
    → AllByRecursion (λ (d : Decided). d.1 ≡ Err Down → P) (zip rs (refused rs))
refused_up P [] = tt
refused_up P (r ∷ rs) = (λ down. absurd (cc), refused_up P rs)

-- ---- what a crash leaves of all of them

leaves_all : (n : ℕ) (F rs : List Request) (given : List Given) (trees : Trees) → length given ≡ length rs
    → 0 < length rs → LeavesRegister n (firsts (F ++ rs)) trees → LeavesSome n F (zip rs given) trees
leaves_all n F [] given trees long some l = absurd (omega (arith, some))
leaves_all n F (r ∷ rs) [] trees long some l = absurd (omega (arith, long))
leaves_all n F (r ∷ rs) (x ∷ given) trees long some l = record {
  before = [];
  next = (r, x);
  more = zip rs given;
  rest = [];
  are = ap (λ (ds : List Decided). (r, x) ∷ ds) (sym (append_nil (zip rs given)));
  leaves =
      subst (λ (ss : List Request). LeavesRegister n (firsts (F ++ r ∷ ss)) trees)
      (sym (firsts-zip rs given (omega (arith, long)))) l;
}

held_all : (n : ℕ) (F rs : List Request) (given : List Given) (trees : Trees) → length given ≡ length rs
    → after F (zip rs given) ≡ F → LeavesRegister n (firsts (F ++ rs)) trees → LeavesHeld n F (zip rs given) trees
held_all n F rs given trees long same l = record {
  before = [];
  part = zip rs given;
  rest = [];
  are = sym (append_nil (zip rs given));
  leaves =
      subst (λ (G : List Request). LeavesRegister n (firsts (G ++ map (λ (d : Decided). d.0) (zip rs given))) trees)
      (sym same)
      (subst (λ (ss : List Request). LeavesRegister n (firsts (F ++ ss)) trees) (sym (firsts-zip rs given long)) l);
}

long_of : {X : Type 0} (n : ℕ) (xs : List X) → n ≤ length xs → length (take n xs) ≡ n
long_of n xs few = length-take-le n xs few

long_take : {X : Type 0} (n : ℕ) (xs : List X) → 0 < n → n ≤ length xs → 0 < length (take n xs)
long_take n xs some few = omega (arith, some, long_of n xs few)

module _ {S : Type 0} {g : Ghosts S} (requests : List Request) (ms : List ℕ) (long_ms : length ms ≡ length requests)
    (old mid new : Intake S) (results results' : Vec Given Global) (up : has_stopped old ≡ false) (Open : Type 0)
    (Holds : List Request → Type 0) where
  pub together_kept : (outcomes : Vec Outcome Global) → KeepsFirst g Open Holds requests ms old mid (Kept outcomes)
      → AnswersGroup g (take (length outcomes.items) requests) outcomes.items mid new results results'
      → AddsResultsIf g Open Holds (take (length outcomes.items) requests) (take (length outcomes.items) ms) old new
      results results'
  together_kept outcomes k h =
      let rs = take (length outcomes.items) requests in
      let cleaned : IsClean g new → IsClean g mid = λ clean.
      subst (λ s. HasCleanDisk (register.shows g s)) h.rest.store clean in
      let stopped : has_stopped new ≡ has_stopped old = h.rest.stopped ∙ k.stopped in
      record {
        given = h.given;
        are = h.are;
        each = h.each;
        len = h.len;
        room = h.room;
        dates = record {
          dated = λ clean F held moments had holds.
              let kept = k.kept (cleaned clean) F held holds in
              let few = k.some.1 in
              subst (HoldsMoments g new)
              (sym (moments_kept F rs h.given (take (length outcomes.items) ms) moments held.firsts' kept.0 h.each
              (as_many requests ms long_ms (length outcomes.items) few) h.all))
              (HoldsMoments-same mid new (moments ++ map Some (take (length outcomes.items) ms)) h.rest.store
              (k.dated (cleaned clean) F held moments had));
          crash =
              subst (λ s. Survives (shows g old) (register.shows g s) (λ trees. (F : List Request)
              (moments : List (Option ℕ)) → HoldsRequests g old F → HoldsMoments g old moments → Open → Holds F
              → LeavesSomeWith (old_style_of old) F moments (zip rs h.given) (take (length outcomes.items) ms) trees))
              (sym h.rest.store)
              (survives_weaker (shows g old) (shows g mid) _ _
              (λ clean trees left F moments held had alive holds.
              leaves_together (old_style_of old) F rs moments h.given (take (length outcomes.items) ms) trees h.each
              (long_take (length outcomes.items) requests k.some.0 k.some.1) (left F moments held had alive holds))
              k.received);
          next = ap (λ (t : Moment). t.milliseconds) h.rest.moment ∙ k.next;
        };
        decides = record {
          answers = λ clean F held holds.
              let kept = k.kept (cleaned clean) F held holds in
              let told = h.answers F held.firsts' kept.2 kept.0 kept.1
              (subst (λ n. n ≤ length F) (sym k.setting.old_style) held.rows.within)
              (subst (λ n. length F + length rs ≤ n) (sym k.setting.limit)
              (omega (arith, kept.3, long_of (length outcomes.items) requests k.some.1))) in (
                subst (λ n. AreDecidedInTurn n (old_style_in old F) F (zip rs h.given)) k.setting.limit
                    (subst (λ n. AreDecidedInTurn (limit_of mid) (take n F) F (zip rs h.given)) k.setting.old_style
                    told.0),
                subst (HoldsRequests g new) (sym (after_new F rs h.given held.firsts' kept.0 h.each h.all)) told.1,
              );
          setting = record {
            clean = λ clean. k.setting.clean (cleaned clean);
            limit = h.rest.limit ∙ k.setting.limit;
            old_style = ap (λ s. s.old_style) h.rest.store ∙ k.setting.old_style;
          };
          crash =
              subst (λ s. Survives (shows g old) (register.shows g s) (λ trees. (F : List Request)
              → HoldsRequests g old F → Open → Holds F → LeavesSome (old_style_of old) F (zip rs h.given) trees))
              (sym h.rest.store)
              (survives_weaker (shows g old) (shows g mid) _ _
              (λ clean trees left F held alive holds. leaves_all (old_style_of old) F rs h.given trees h.each
              (long_take (length outcomes.items) requests k.some.0 k.some.1) (left F held alive holds)) k.crash);
          durable = λ clean F held alive holds trees left.
              let kept = k.kept (cleaned clean) F held holds in
              let same = after_new F rs h.given held.firsts' kept.0 h.each h.all in
              inr (held_exactly (old_style_of old) F (zip rs h.given) trees
              (ap firsts same ∙ firsts_behind F rs held.firsts' kept.0 ∙ sym same)
              (subst (λ (G : List Request). LeavesRegister (old_style_of old) G trees) (sym same)
              ((k.durable (cleaned clean) F held holds).1 trees
              (subst (λ s. (register.shows g s).may_leave trees) h.rest.store left))));
          ends = ok_ends rs h.given h.all;
          down = λ down. absurd (true≢false (sym down ∙ up));
          stops = (
            λ s. inl (sym stopped ∙ s),
            λ cause. elim cause [
              | inl was ↦ stopped ∙ was
              | inr failed ↦ absurd (ok_is_fine rs h.given h.all failed)
            ],
          );
          up = ok_is_up (has_stopped new ≡ true) rs h.given h.all;
        };
      }

  pub together_alone : (count : ℕ) → KeepsFirst g Open Holds requests ms old mid (Alone count)
      → AddsResults g (take count requests) (take count ms) mid new results results'
      → AddsResultsIf g Open Holds (take count requests) (take count ms) old new results results'
  together_alone count k h =
      let rs = take count requests in
      let ds = zip rs h.given in
      let d = h.decides in
      record {
        given = h.given;
        are = h.are;
        each = h.each;
        len = h.len;
        room = h.room;
        dates = record {
          dated = λ clean F held moments had holds.
              let cleaned = d.setting.clean clean in
              h.dates.dated clean F (k.none cleaned F held) moments (k.undated cleaned F held moments had) tt;
          crash = survives_then (shows g old) (shows g mid) (shows g new) _ _ _
              (λ clean trees left F moments held had alive holds.
              leaves_together (old_style_of old) F rs moments h.given (take count ms) trees h.each
              (long_take count requests k.some.0 k.some.1)
              (left F moments held had alive holds))
              (λ clean trees left F moments held had alive holds.
              let cleaned = d.setting.clean clean in
              subst (λ n. LeavesSomeWith n F moments ds (take count ms) trees) k.setting.old_style
              (left F moments (k.none cleaned F held) (k.undated cleaned F held moments had) tt tt))
              k.received h.dates.crash;
          next = h.dates.next ∙ k.next;
        };
        decides = record {
          answers = λ clean F held holds.
              let told = d.answers clean F (k.none (d.setting.clean clean) F held) tt in (
                subst (λ n. AreDecidedInTurn n (old_style_in old F) F ds) k.setting.limit
                    (subst (λ n. AreDecidedInTurn (limit_of mid) (take n F) F ds) k.setting.old_style told.0),
                told.1,
              );
          setting = record {
            clean = λ clean. k.setting.clean (d.setting.clean clean);
            limit = d.setting.limit ∙ k.setting.limit;
            old_style = d.setting.old_style ∙ k.setting.old_style;
          };
          crash = survives_then (shows g old) (shows g mid) (shows g new) _ _ _
              (λ clean trees left F held alive holds. leaves_all (old_style_of old) F rs h.given trees h.each
              (long_take count requests k.some.0 k.some.1) (left F held alive holds))
              (λ clean trees left F held alive holds.
              subst (λ n. LeavesSome n F ds trees) k.setting.old_style
              (left F (k.none (d.setting.clean clean) F held) tt tt))
              k.crash d.crash;
          durable = λ clean F held alive holds trees left.
              let cleaned = d.setting.clean clean in
              elim (d.durable clean F (k.none cleaned F held) tt tt trees left) [
                | inl same ↦ elim (k.crash.crash cleaned trees same.0) [
                  | inl was ↦ inl (was, same.1)
                  | inr made ↦ inr (held_all (old_style_of old) F rs h.given trees h.each same.1 (made F held
                      alive holds))
                ]
                | inr still ↦ inr (subst (λ n. LeavesHeld n F ds trees) k.setting.old_style still)
              ];
          ends = d.ends;
          down = λ down. absurd (true≢false (sym down ∙ up));
          stops = (
            λ s. elim (d.stops.0 s) [ inl was ↦ inl (sym k.stopped ∙ was) | inr failed ↦ inr failed ],
            λ cause. elim cause [
              | inl was ↦ d.stops.1 (inl (k.stopped ∙ was))
              | inr failed ↦ d.stops.1 (inr failed)
            ],
          );
          up = d.up;
        };
      }

  pub together_failed : (count : ℕ) → KeepsFirst g Open Holds requests ms old mid (Failed count)
      → RefusesGroup (take count requests) mid new results results'
      → AddsResultsIf g Open Holds (take count requests) (take count ms) old new results results'
  together_failed count k h =
      let rs = take count requests in
      let some : 0 < length rs = long_take count requests k.some.0 k.some.1 in
      let ds = zip rs (refused rs) in
      let long = refused_long rs in
      let same : record mid { is_down = true } ≡ new = sym h.down in
      record {
        given = refused rs;
        are = h.are;
        each = long;
        len = omega (arith, h.len, long);
        room = h.room;
        dates = subst (DatesAllIf g Open Holds ds (take count ms) old) same (record {
          dated = λ clean F held moments had holds.
              subst (HoldsMoments g (record mid { is_down = true }))
              (sym (moments_refused F rs (take count ms) moments))
              (HoldsMoments-same mid (record mid { is_down = true }) moments refl (k.undated clean F held moments had));
          crash = survives_weaker (shows g old) (shows g mid) _ _
              (λ clean trees left F moments held had alive holds. leaves_together (old_style_of old) F rs moments
              (refused rs) (take count ms) trees long some (left F moments held had alive holds))
              k.received;
          next = k.next;
        });
        decides = subst (DecidesEachIf g Open Holds ds old) same (record {
          answers = λ clean F held holds.
              let still = k.none clean F held in (
                refused_in_turn (limit_of old) (old_style_in old F) F rs,
                subst (HoldsRequests g (record mid { is_down = true })) (sym (refused_after F rs)) (record {
                  firsts' = still.firsts';
                  rows = still.rows;
                  known = still.known;
                }),
              );
          setting = record {
            clean = λ clean. k.setting.clean clean;
            limit = k.setting.limit;
            old_style = k.setting.old_style;
          };
          crash = survives_weaker (shows g old) (shows g mid) _ _
              (λ clean trees left F held alive holds. leaves_all (old_style_of old) F rs (refused rs) trees long some
              (left F held alive holds))
              k.crash;
          durable = λ clean F held alive holds trees left. elim (k.crash.crash clean trees left) [
            | inl was ↦ inl (was, refused_after F rs)
            | inr made ↦
                inr (held_all (old_style_of old) F rs (refused rs) trees long (refused_after F rs)
                (made F held alive holds))
          ];
          ends = refused_ends rs;
          down = λ down. absurd (true≢false (sym down ∙ up));
          stops = (λ s. inr (refused_failed rs some), λ cause. refl);
          up = refused_up (true ≡ true) rs;
        });
      }
