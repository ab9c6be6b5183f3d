-- What is kept, as the lists of a world have it.
use Rattle.std.proofs.Common.{◌≡◌, ◌∙◌, ℕ, zero, suc, List, [], ◌∷◌, ◌++◌, map, option_map, Some, refl, sym, ap}
use Rattle.std.specs.Prelude.{slice_get}
use Rattle.std.proofs.lemmas.Option.{slice_get-map}
use Rattle.filing_model.specs.Numbered.{changed_at}
use Rattle.filing_model.specs.Prefix.{IsPrefixOf}
use Rattle.filing_world.specs.World.{Sent, Output, numbered, renewed}
use Rattle.programs.specs.Happenings.{Answer, AreWrittenOf, AreAnswersOf}

-- ---- elements of a list that is made by a function

module _ {X Y : Type 0} (f : X → Y) where
  pub numbered_map : (xs : List X) (number : ℕ) (x : X) → numbered xs number ≡ Some x
      → numbered (map f xs) number ≡ Some (f x)
  numbered_map xs zero x here = absurd (cc)
  numbered_map xs (suc k) x here = slice_get-map f xs k ∙ ap (option_map f) here

  changed_map : (xs : List X) (k : ℕ) (x : X) → changed_at (λ old. f x) (map f xs) k
      ≡ map f (changed_at (λ old. x) xs k)
  changed_map [] k x = refl
  changed_map (y ∷ ys) zero x = refl
  changed_map (y ∷ ys) (suc k) x = ap (λ zs. f y ∷ zs) (changed_map ys k x)

  pub renewed_map : (xs : List X) (number : ℕ) (x : X) → renewed (map f xs) number (f x) ≡ map f (renewed xs number x)
  renewed_map xs zero x = refl
  renewed_map xs (suc k) x = changed_map xs k x

-- ---- what was written

-- an item that was written is a first part of one that was sent
pub record IsWrittenAs (written : Sent) (items : List Sent) (number : ℕ) : Type 0 where
  pub item : Sent
  pub here : numbered items number ≡ Some item
  pub from : written.from ≡ item.from
  pub part : IsPrefixOf written.bytes item.bytes

written_at : (writings items : List Sent) (k : ℕ) (written : Sent) → AreWrittenOf writings items
    → slice_get writings k ≡ Some written → IsWrittenAs written items (suc k)
written_at [] [] k written are here = absurd (cc)
written_at [] (i ∷ items) k written are here = absurd are
written_at (w ∷ writings) [] k written are here = absurd are
written_at (w ∷ writings) (i ∷ items) zero written are here =
    let same : w ≡ written = cc in
    record { item = i; here = refl; from = ap (λ x. x.from) (sym same) ∙ are.0; part = rw (sym same) are.1 }
written_at (w ∷ writings) (i ∷ items) (suc k) written are here =
    let later = written_at writings items k written are.2 here in
    record { item = later.item; here = later.here; from = later.from; part = later.part }

pub written_numbered : (writings items : List Sent) (number : ℕ) (written : Sent) → AreWrittenOf writings items
    → numbered writings number ≡ Some written → IsWrittenAs written items number
written_numbered writings items zero written are here = absurd (cc)
written_numbered writings items (suc k) written are here = written_at writings items k written are here

pub written_one_more : (writings items : List Sent) (written item : Sent) → AreWrittenOf writings items
    → written.from ≡ item.from → IsPrefixOf written.bytes item.bytes
    → AreWrittenOf (writings ++ written ∷ []) (items ++ item ∷ [])
written_one_more [] [] written item are from part = (from, part, tt)
written_one_more [] (i ∷ items) written item are from part = absurd are
written_one_more (w ∷ writings) [] written item are from part = absurd are
written_one_more (w ∷ writings) (i ∷ items) written item are from part =
    (are.0, are.1, written_one_more writings items written item are.2 from part)

-- ---- what was answered

-- an answer is an output
pub record IsAnsweredAs (answer : Answer) (outputs : List Output) (number : ℕ) : Type 0 where
  pub output : Output
  pub here : numbered outputs number ≡ Some output
  pub item : output.item ≡ answer.item
  pub bytes : output.bytes ≡ answer.bytes

answered_at : (answers : List Answer) (outputs : List Output) (k : ℕ) (answer : Answer) → AreAnswersOf answers outputs
    → slice_get answers k ≡ Some answer → IsAnsweredAs answer outputs (suc k)
answered_at [] [] k answer are here = absurd (cc)
answered_at [] (o ∷ outputs) k answer are here = absurd are
answered_at (a ∷ answers) [] k answer are here = absurd are
answered_at (a ∷ answers) (o ∷ outputs) zero answer are here =
    let same : a ≡ answer = cc in
    record { output = o; here = refl; item = are.0 ∙ ap (λ x. x.item) same; bytes = are.1 ∙ ap (λ x. x.bytes) same }
answered_at (a ∷ answers) (o ∷ outputs) (suc k) answer are here =
    let later = answered_at answers outputs k answer are.2 here in
    record { output = later.output; here = later.here; item = later.item; bytes = later.bytes }

pub answered_numbered : (answers : List Answer) (outputs : List Output) (number : ℕ) (answer : Answer)
    → AreAnswersOf answers outputs → numbered answers number ≡ Some answer → IsAnsweredAs answer outputs number
answered_numbered answers outputs zero answer are here = absurd (cc)
answered_numbered answers outputs (suc k) answer are here = answered_at answers outputs k answer are here

pub answered_one_more : (answers : List Answer) (outputs : List Output) (answer : Answer) (output : Output)
    → AreAnswersOf answers outputs → output.item ≡ answer.item → output.bytes ≡ answer.bytes
    → AreAnswersOf (answers ++ answer ∷ []) (outputs ++ output ∷ [])
answered_one_more [] [] answer output are item bytes = (item, bytes, tt)
answered_one_more [] (o ∷ outputs) answer output are item bytes = absurd are
answered_one_more (a ∷ answers) [] answer output are item bytes = absurd are
answered_one_more (a ∷ answers) (o ∷ outputs) answer output are item bytes =
    (are.0, are.1, answered_one_more answers outputs answer output are.2 item bytes)
