-- Lists of which the first elements were gone through.
use Rattle.std.proofs.Common.{◌≡◌, ℕ, zero, suc, ◌<◌, Bool, true, List, [], ◌∷◌, ◌++◌, Some, length, take, drop, map}
use Rattle.std.proofs.Common.{filter_map, slice_get, slice_index_or, refl, sym, ap, ◌∙◌, append_assoc, arith}
use Rattle.std.specs.List.{list_all}
use Rattle.std.proofs.Math.Seq.{take-suc, drop-cons}
use Rattle.std.proofs.lemmas.List.{length-map, map-append}
use Rattle.std.proofs.lemmas.Option.{slice_get_within, get_or_from_slice_get}
use Rattle.std.proofs.lemmas.List.Elements.{filter_map-append}
use Rattle.xbrl_values.proofs.Bools.{left_of, right_of}
use Rattle.filing_world.specs.World.{Outbox, new_outbox}
use Rattle.filing_world.specs.Headline.{states_of, states_from, number_in}
use Rattle.filing_model.specs.Outbox.{State as Kept}
use Rattle.filing_model.specs.declared.state.State.{State}
use Rattle.schedule.specs.OutboxListed.{listed}
use Rattle.schedule.specs.Listed.{view_listed}

pub drop_at : {X : Type 0} → (xs : List X) (at : ℕ) (x : X) → slice_get xs at ≡ Some x
    → drop at xs ≡ x ∷ drop (suc at) xs
drop_at xs at x there =
    drop-cons xs at x (slice_get_within xs at x there)
    ∙ ap (λ y. y ∷ drop (suc at) xs) (get_or_from_slice_get xs at x x there)

-- an element stands at each place within a list
pub there_is : {X : Type 0} (xs : List X) (at : ℕ) → at < length xs → (x : X) × (slice_get xs at ≡ Some x)
there_is [] at within = absurd (omega (arith, within))
there_is (x ∷ xs) zero within = (x, refl)
there_is (x ∷ xs) (suc at) within = there_is xs at (omega (arith, within))

-- lists that a function has as the same are of one length
pub same_length : {X Y : Type 0} (f : X → Y) (xs ys : List X) → map f xs ≡ map f ys → length xs ≡ length ys
same_length f xs ys same = sym (length-map xs f) ∙ ap length same ∙ length-map ys f

-- ---- entries

pub listed_next : (outbox : ℕ) (states : List (ℕ × State)) (at : ℕ) (or : ℕ
    × State) (old list new : List (ℕ × ℕ × State)) → at < length states
    → map view_listed list ≡ map view_listed old ++ map (listed outbox) (take at states)
    → new ≡ list ++ (outbox, (slice_index_or states at or).0, (slice_index_or states at or).1) ∷ []
    → map view_listed new ≡ map view_listed old ++ map (listed outbox) (take (suc at) states)
listed_next outbox states at or old list new within before pushed =
    let x = slice_index_or states at or in
    ap (map view_listed) pushed ∙ map-append view_listed list ((outbox, x.0, x.1) ∷ [])
    ∙ ap (λ l. l ++ listed outbox x ∷ []) before
    ∙ append_assoc (map view_listed old) (map (listed outbox) (take at states)) (listed outbox x ∷ [])
    ∙ ap (λ l. map view_listed old ++ l) (sym (ap (map (listed outbox)) (take-suc states at or within)
    ∙ map-append (listed outbox) (take at states) (x ∷ [])))

pub states_next : (boxes : List Outbox) (at : ℕ) (box : Outbox) (all front new : List (ℕ × ℕ × Kept))
    → slice_get boxes at ≡ Some box
    → front ++ states_from (suc at) (drop at boxes) ≡ all → new ≡ front ++ states_of (suc at) 1 box.entries
    → new ++ states_from (suc (suc at)) (drop (suc at) boxes) ≡ all
states_next boxes at box all front new there before more =
    let rest = states_from (suc (suc at)) (drop (suc at) boxes) in
    ap (λ l. l ++ rest) more ∙ append_assoc front (states_of (suc at) 1 box.entries) rest
    ∙ ap (λ bs. front ++ states_from (suc at) bs) (sym (drop_at boxes at box there)) ∙ before

pub confirmed_next : (states : List (ℕ × ℕ × State)) (at : ℕ) (or : ℕ × ℕ × State) (list new : List (ℕ × ℕ × ℕ))
    → at < length states
    → list ≡ filter_map number_in (map view_listed (take at states))
    → new ≡ list ++ filter_map number_in (view_listed (slice_index_or states at or) ∷ [])
    → new ≡ filter_map number_in (map view_listed (take (suc at) states))
confirmed_next states at or list new within before more =
    let x = slice_index_or states at or in
    more ∙ ap (λ l. l ++ filter_map number_in (view_listed x ∷ [])) before
    ∙ sym (ap (λ l. filter_map number_in (map view_listed l)) (take-suc states at or within)
    ∙ ap (filter_map number_in) (map-append view_listed (take at states) (x ∷ []))
    ∙ filter_map-append number_in (map view_listed (take at states)) (view_listed x ∷ []))

-- ---- filers

pub code_at : {X Y : Type 0} (p : Y → Bool) (code : X → Y) (xs : List X) (at : ℕ) (or : X) → at < length xs
    → list_all p (map code xs) ≡ true → p (code (slice_index_or xs at or)) ≡ true
code_at p code [] at or within all = absurd (omega (arith, within))
code_at p code (x ∷ xs) zero or within all = left_of (p (code x)) (list_all p (map code xs)) all
code_at p code (x ∷ xs) (suc at) or within all =
    code_at p code xs at or (omega (arith, within)) (right_of (p (code x)) (list_all p (map code xs)) all)

pub outboxes_next : {X : Type 0} (code : X → List ℕ) (filers : List X) (at : ℕ) (or : X) (list new : List Outbox)
    (box : Outbox) → at < length filers
    → list ≡ map new_outbox (map code (take at filers)) → box ≡ new_outbox (code (slice_index_or filers at or))
    → new ≡ list ++ box ∷ []
    → new ≡ map new_outbox (map code (take (suc at) filers))
outboxes_next code filers at or list new box within before is pushed =
    let x = slice_index_or filers at or in
    pushed ∙ ap (λ b. list ++ b ∷ []) is ∙ ap (λ l. l ++ new_outbox (code x) ∷ []) before
    ∙ sym (ap (λ l. map new_outbox (map code l)) (take-suc filers at or within)
    ∙ ap (map new_outbox) (map-append code (take at filers) (x ∷ []))
    ∙ map-append new_outbox (map code (take at filers)) (code x ∷ []))
