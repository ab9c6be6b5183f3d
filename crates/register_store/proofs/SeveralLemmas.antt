-- Several requests, one behind another.
use Rattle.std.proofs.Common.{◌≡◌, ◌≤◌, ℕ, suc, ◌+◌, List, [], ◌∷◌, ◌++◌, append-nil, append_assoc, length, map}
use Rattle.std.proofs.Common.{length-append, refl, sym, ap, subst, ◌∙◌, arith, IsTrue, All, Option, Some}
use Rattle.std.specs.List.{drop-map}
use Rattle.std.specs.Prelude.{drop}
use Rattle.std.proofs.Math.Seq.{drop-append_seam}
use Rattle.std.proofs.lemmas.List.{map-append}
use Rattle.sqlite.specs.Order.{Row}
use Rattle.sqlite.specs.Effect.{Database}
use Rattle.sqlite.specs.State.{State}
use Rattle.key_string.specs.Key.{IsKey}
use Rattle.filing_model.specs.Request.{Request}
use Rattle.filing_model.specs.Register.{Kept, Outcome, judged, kept, register}
use Rattle.filing_model.proofs.Keeping.{kept_new}
use Rattle.filing_model.proofs.Lists.{length-map}
use Rattle.register_rows.specs.Outcomes.{outcome_of, filings_by}
use Rattle.register_rows.specs.Received.{Received}
use Rattle.register_rows.specs.Register.{HasRows, IsCompleted}
use Rattle.register_rows.proofs.MoreRequests.{judged_as, registered_more}
use Rattle.register_tables.specs.Registers.{IsRegisterOf}
use Rattle.register_store.specs.declared.outcome.NewRow.{NewRow}
use Rattle.register_store.specs.Moments.{moments_of}
use Rattle.register_store.specs.NewRows.{AreNew, IsKeepable, IsNew, request_of}
use Rattle.register_store.specs.Outcomes.{kept_new as kept_row, number_after, number_past, outcomes_behind}
use Rattle.register_store.specs.Outcomes.{outcomes_from}
use Rattle.register_store.specs.Changes.{AddsAll, AddsAllInside, AddsInside, AddsRows}
use Rattle.register_store.proofs.MoreRequests.{register_of_more}

-- ---- one row more

pub past_more : (number : ℕ) (rows : List NewRow) (row : NewRow)
    → number_past number (rows ++ row ∷ []) ≡ number_after (number_past number rows) row
past_more number [] row = refl
past_more number (first ∷ rows) row = past_more (number_after number first) rows row

pub outcomes_more : (number : ℕ) (rows : List NewRow) (row : NewRow) → outcomes_from number (rows ++ row ∷ [])
    ≡ outcomes_from number rows ++ outcome_of (number_past number rows) row.judged.now ∷ []
outcomes_more number [] row = refl
outcomes_more number (first ∷ rows) row =
    ap (λ os. outcome_of number first.judged.now ∷ os) (outcomes_more (number_after number first) rows row)

adds_more : (seq number : ℕ) (rows : List NewRow) (row : NewRow) (old mid new : Database)
    → AddsAll seq number rows old mid → IsKey row.key.now
    → AddsRows (seq + length rows) (kept_row (number_past number rows) row) row.moment.milliseconds mid new
    → AddsAll seq number (rows ++ row ∷ []) old new
adds_more seq number [] row old mid new all key one = (
  new,
  key,
  subst (λ db. AddsRows seq (kept_row number row) row.moment.milliseconds db new) all
      (subst (λ n. AddsRows n (kept_row number row) row.moment.milliseconds mid new) (omega arith) one),
  refl,
)
adds_more seq number (first ∷ rows) row old mid new all key one = (
  all.0,
  all.1,
  all.2,
  adds_more (seq + 1) (number_after number first) rows row all.0 mid new all.3 key
      (subst (λ n. AddsRows n (kept_row (number_past (number_after number first) rows) row) row.moment.milliseconds mid
      new) (omega arith) one),
)

pub inside_more : (seq number : ℕ) (rows : List NewRow) (row : NewRow) (place next : ℕ) (old mid new : State)
    → place ≡ seq + length rows → next ≡ number_past number rows → AddsAllInside seq number rows old mid
    → IsKey row.key.now → AddsInside place (kept_row next row) row.moment.milliseconds mid new
    → AddsAllInside seq number (rows ++ row ∷ []) old new
inside_more seq number rows row place next old mid new at then' all key one = record {
  adds = adds_more seq number rows row old.now mid.now new.now all.adds key
      (subst (λ n. AddsRows (seq + length rows) (kept_row n row) row.moment.milliseconds mid.now new.now) then'
      (subst (λ n. AddsRows n (kept_row next row) row.moment.milliseconds mid.now new.now) at one.adds));
  inside = one.inside;
  committed = one.committed ∙ all.committed;
}

pub inside_none : (seq number : ℕ) (old : State) → IsTrue old.in_transaction → AddsAllInside seq number [] old old
inside_none seq number old inside = record { adds = refl; inside = inside; committed = refl }

-- ---- the requests before the last one, and that one

pub requests_more : (F : List Request) (rows : List NewRow) (row : NewRow)
    → F ++ map request_of (rows ++ row ∷ []) ≡ (F ++ map request_of rows) ++ request_of row ∷ []
requests_more F rows row =
    ap (λ rs. F ++ rs) (map-append request_of rows (row ∷ []))
    ∙ sym (append_assoc F (map request_of rows) (request_of row ∷ []))

pub requests_next : (F : List Request) (row : NewRow) (rows : List NewRow)
    → (F ++ request_of row ∷ []) ++ map request_of rows ≡ F ++ map request_of (row ∷ rows)
requests_next F row rows = append_assoc F (request_of row ∷ []) (map request_of rows)

pub new_before : (F : List Request) (rows : List NewRow) (row : NewRow) → AreNew F (rows ++ row ∷ []) → AreNew F rows
new_before F [] row all = tt
new_before F (first ∷ rows) row all = (all.0, new_before (F ++ request_of first ∷ []) rows row all.1)

pub new_last : (F : List Request) (rows : List NewRow) (row : NewRow) → AreNew F (rows ++ row ∷ [])
    → IsNew (F ++ map request_of rows) row
new_last F [] row all = subst (λ G. IsNew G row) (sym (append-nil F)) all.0
new_last F (first ∷ rows) row all =
    subst (λ G. IsNew G row) (requests_next F first rows) (new_last (F ++ request_of first ∷ []) rows row all.1)

-- ---- what stands after them

module _ (F : List Request) (row : NewRow) (is : IsNew F row) (number : ℕ)
    (next : number ≡ suc (length (register F))) where
  pub outcome_is : outcome_of number row.judged.now ≡ (judged (kept F) (request_of row)).outcome
  outcome_is =
      ap (λ n. outcome_of n row.judged.now) next ∙ sym (judged_as (kept F) (request_of row) row.judged.now is.judged)

  next_is : number_after number row ≡ suc (length (register (F ++ request_of row ∷ [])))
  next_is = omega (
    arith,
    next,
    ap filings_by outcome_is,
    registered_more F (request_of row) is.key,
  )

pub kept_many : (F : List Request) (rows : List NewRow) → AreNew F rows
    → length (kept (F ++ map request_of rows)) ≡ length (kept F) + length rows
kept_many F [] new = ap (λ G. length (kept G)) (append-nil F) ∙ omega arith
kept_many F (row ∷ rows) new =
    let r = request_of row in
    let one = kept_new F r new.0.key in
    ap (λ G. length (kept G)) (sym (requests_next F row rows)) ∙ omega (
      arith,
      kept_many (F ++ r ∷ []) rows new.1,
      ap length one,
      length-append (kept F) (judged (kept F) r ∷ []),
    )

pub requests_many : (F : List Request) (rows : List NewRow)
    → length (F ++ map request_of rows) ≡ length F + length rows
requests_many F rows =
    length-append F (map request_of rows) ∙ ap (λ n. length F + n) (length-map request_of rows)

pub past_is : (F : List Request) (rows : List NewRow) → AreNew F rows → (number : ℕ)
    → number ≡ suc (length (register F)) → number_past number rows ≡ suc (length (register (F ++ map request_of rows)))
past_is F [] new number next = next ∙ ap (λ G. suc (length (register G))) (sym (append-nil F))
past_is F (row ∷ rows) new number next =
    past_is (F ++ request_of row ∷ []) rows new.1 (number_after number row) (next_is F row new.0 number next)
    ∙ ap (λ G. suc (length (register G))) (requests_next F row rows)

-- the outcomes of all that is kept then are those of what was kept before, and then these
all_outcomes : (F : List Request) (rows : List NewRow) → AreNew F rows → (number : ℕ)
    → number ≡ suc (length (register F)) → map (λ (k : Kept). k.outcome) (kept (F ++ map request_of rows))
    ≡ map (λ (k : Kept). k.outcome) (kept F) ++ outcomes_from number rows
all_outcomes F [] new number next =
    ap (λ G. map (λ (k : Kept). k.outcome) (kept G)) (append-nil F)
    ∙ sym (append-nil (map (λ (k : Kept). k.outcome) (kept F)))
all_outcomes F (row ∷ rows) new number next =
    let r = request_of row in
    let of : Kept → Outcome = λ k. k.outcome in
    ap (λ G. map of (kept G)) (sym (requests_next F row rows))
    ∙ all_outcomes (F ++ r ∷ []) rows new.1 (number_after number row) (next_is F row new.0 number next)
    ∙ ap (λ ks. map of ks ++ outcomes_from (number_after number row) rows) (kept_new F r new.0.key)
    ∙ ap (λ os. os ++ outcomes_from (number_after number row) rows) (map-append of (kept F) (judged (kept F) r ∷ []))
    ∙ append_assoc (map of (kept F)) ((judged (kept F) r).outcome ∷ []) (outcomes_from (number_after number row) rows)
    ∙ ap (λ o. map of (kept F) ++ o ∷ outcomes_from (number_after number row) rows)
    (sym (outcome_is F row new.0 number next))

pub outcomes_are : (F : List Request) (rows : List NewRow) → AreNew F rows → (number : ℕ)
    → number ≡ suc (length (register F)) → outcomes_from number rows ≡ outcomes_behind F (map request_of rows)
outcomes_are F rows new number next =
    let of : Kept → Outcome = λ k. k.outcome in
    sym (sym (drop-map of (length (kept F)) (kept (F ++ map request_of rows)))
    ∙ ap (drop (length (kept F))) (all_outcomes F rows new number next)
    ∙ ap (λ n. drop n (map of (kept F) ++ outcomes_from number rows)) (sym (length-map of (kept F)))
    ∙ drop-append_seam (map of (kept F)) (outcomes_from number rows))

-- ---- how many there are

filings_few : (o : Outcome) → filings_by o ≤ 1
filings_few (Outcome.Registered number) = omega arith
filings_few (Outcome.Refused found) = omega arith

pub past_most : (number : ℕ) (rows : List NewRow) → number_past number rows ≤ number + length rows
past_most number [] = omega arith
past_most number (row ∷ rows) =
    omega (arith, past_most (number_after number row) rows, filings_few (outcome_of number row.judged.now))

pub past_least : (number : ℕ) (rows : List NewRow) → number ≤ number_past number rows
past_least number [] = omega arith
past_least number (row ∷ rows) = omega (arith, past_least (number_after number row) rows)

pub outcomes_many : (number : ℕ) (rows : List NewRow) → length (outcomes_from number rows) ≡ length rows
outcomes_many number [] = refl
outcomes_many number (row ∷ rows) = ap suc (outcomes_many (number_after number row) rows)

-- ---- the rows stand for them

completed_of : (row : NewRow) → IsKeepable row → IsKey row.key.now → IsCompleted (request_of row)
completed_of row may key =
    record { filer = may.filer; key = key; target = may.target; body = may.body }

pub register_of_all : (old_style : ℕ) (F : List Request) (rows : List NewRow) (seq number : ℕ) (old new : Database)
    → All IsKeepable rows → AreNew F rows → seq ≡ suc (length F) → number ≡ suc (length (register F))
    → IsRegisterOf old_style F old → AddsAll seq number rows old new
    → IsRegisterOf old_style (F ++ map request_of rows) new
register_of_all old_style F [] seq number old new may fresh at next was adds =
    subst (λ G. IsRegisterOf old_style G new) (sym (append-nil F)) (subst (IsRegisterOf old_style F) (sym adds) was)
register_of_all old_style F (row ∷ rows) seq number old new may fresh at next was adds =
    let r = request_of row in
    let mid = adds.0 in
    let here =
    subst (λ o. AddsRows (suc (length F)) (record { request = r; outcome = o }) row.moment.milliseconds old mid)
    (outcome_is F row fresh.0 number next)
    (subst (λ n. AddsRows n (kept_row number row) row.moment.milliseconds old mid) at adds.2) in
    subst (λ G. IsRegisterOf old_style G new) (requests_next F row rows)
    (register_of_all old_style (F ++ r ∷ []) rows (seq + 1) (number_after number row) mid new
    (λ k d low. may (suc k) d (omega (arith, low))) fresh.1
    (omega (arith, at, length-append F (r ∷ []))) (next_is F row fresh.0 number next)
    (register_of_more old_style F r fresh.0.key (completed_of row (may 0 row (omega arith)) adds.1)
    row.moment.milliseconds old mid was here)
    adds.3)

-- ---- their moments

pub moments_many : (moments : List (Option ℕ)) (rows : List NewRow)
    → length (moments ++ moments_of rows) ≡ length moments + length rows
moments_many moments rows =
    length-append moments (moments_of rows)
    ∙ ap (λ n. length moments + n) (length-map (λ (row : NewRow). Some row.moment.milliseconds) rows)

pub received_of_all : (old_style : ℕ) (rows : List NewRow) (ks fs gs hs ts : List Row) (seq number : ℕ)
    (old new : Database) (moments : List (Option ℕ)) → HasRows old old_style ks fs gs hs ts → seq ≡ suc (length moments)
    → Received old moments → AddsAll seq number rows old new → Received new (moments ++ moments_of rows)
received_of_all old_style [] ks fs gs hs ts seq number old new moments has at had adds =
    subst (Received new) (sym (append-nil moments)) (subst (λ db. Received db moments) (sym adds) had)
received_of_all old_style (row ∷ rows) ks fs gs hs ts seq number old new moments has at had adds =
    let moment = Some row.moment.milliseconds in
    subst (Received new) (append_assoc moments (moment ∷ []) (moments_of rows))
    (received_of_all old_style rows _ _ _ _ _ (seq + 1) (number_after number row) adds.0 new (moments ++ moment ∷ [])
    (adds.2.rows old_style ks fs gs hs ts has) (omega (arith, at, length-append moments (moment ∷ [])))
    (adds.2.received has.declared moments (sym at) had) adds.3)
