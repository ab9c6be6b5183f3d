-- What was written and answered, among more of it under other numbers.
use Rattle.std.proofs.Common.{◌≡◌, ◌∙◌, ℕ, suc, List, [], ◌∷◌, ◌++◌, length, Some, refl, sym, ap, subst, ⊎_elim}
use Rattle.filing_world.specs.World.{Sent, numbered}
use Rattle.filing_world.proofs.Lists.{numbered_push, numbered_grows}
use Rattle.programs.specs.Happenings.{Answer}

pub last_numbered : {X : Type 0} (xs : List X) (x : X) → numbered (xs ++ x ∷ []) (suc (length xs)) ≡ Some x
last_numbered [] x = refl
last_numbered (y ∷ xs) x = last_numbered xs x

-- what was written is among what is written there
abbrev pub AreAmong : List Sent → List Sent → Type 0
AreAmong items more = (number : ℕ) (item : Sent) → numbered items number ≡ Some item
    → (other : ℕ) × (numbered more other ≡ Some item)

-- these bytes are there as an answer to the item
pub record IsAnswerThere (item : Sent) (bytes : List ℕ) (items : List Sent) (answers : List Answer) : Type 0 where
  pub number : ℕ
  pub answer : Answer
  pub here : numbered answers number ≡ Some answer
  pub item_here : numbered items answer.item ≡ Some item
  pub same : answer.bytes ≡ bytes

-- the answer is there, to an item like its own
pub record IsAlsoThere (sent : List Sent) (answer : Answer) (items : List Sent) (answers : List Answer) : Type 0 where
  pub item : Sent
  pub item_here : numbered sent answer.item ≡ Some item
  pub there : IsAnswerThere item answer.bytes items answers

abbrev pub AnswersAmong : List Sent → List Answer → List Sent → List Answer → Type 0
AnswersAmong sent answers items others = (number : ℕ) (answer : Answer) → numbered answers number ≡ Some answer
    → IsAlsoThere sent answer items others

pub among_longer : (items more longer : List Sent) → AreAmong items more → AreAmong items (more ++ longer)
among_longer items more longer among number item here =
    let is = among number item here in
    (is.0, numbered_grows more longer is.0 item is.1)

pub among_both : (items more : List Sent) (one : Sent) → AreAmong items more
    → AreAmong (items ++ one ∷ []) (more ++ one ∷ [])
among_both items more one among number item here = ⊎_elim
    (λ (e : numbered items number ≡ Some item). among_longer items more (one ∷ []) among number item e)
    (λ (e : item ≡ one). (suc (length more), last_numbered more one ∙ ap Some (sym e)))
    (numbered_push items one number item here)

there_longer : (item : Sent) (bytes : List ℕ) (items more : List Sent) (answers others : List Answer)
    → IsAnswerThere item bytes items answers → IsAnswerThere item bytes (items ++ more) (answers ++ others)
there_longer item bytes items more answers others is = record {
  number = is.number;
  answer = is.answer;
  here = numbered_grows answers others is.number is.answer is.here;
  item_here = numbered_grows items more is.answer.item item is.item_here;
  same = is.same;
}

-- all lists grow
pub answers_longer : (sent written items more : List Sent) (answers there others : List Answer)
    → AnswersAmong sent answers items there → AnswersAmong (sent ++ written) answers (items ++ more) (there ++ others)
answers_longer sent written items more answers there others among number answer here =
    let is = among number answer here in
    record {
      item = is.item;
      item_here = numbered_grows sent written answer.item is.item is.item_here;
      there = there_longer is.item answer.bytes items more there others is.there;
    }

-- what is looked in grows
pub answers_there : (sent items more : List Sent) (answers there others : List Answer)
    → AnswersAmong sent answers items there → AnswersAmong sent answers (items ++ more) (there ++ others)
answers_there sent items more answers there others among number answer here =
    let is = among number answer here in
    record {
      item = is.item;
      item_here = is.item_here;
      there = there_longer is.item answer.bytes items more there others is.there;
    }

-- an answer more, to items that are alike
pub answers_both : (sent items : List Sent) (answers there : List Answer) (one other : Answer) (item : Sent)
    → numbered sent one.item ≡ Some item → numbered items other.item ≡ Some item → other.bytes ≡ one.bytes
    → AnswersAmong sent answers items there → AnswersAmong sent (answers ++ one ∷ []) items (there ++ other ∷ [])
answers_both sent items answers there one other item here item_there bytes among number answer at = ⊎_elim
    (λ (e : numbered answers number ≡ Some answer).
    let is = among number answer e in
    record {
      item = is.item;
      item_here = is.item_here;
      there = record {
        number = is.there.number;
        answer = is.there.answer;
        here = numbered_grows there (other ∷ []) is.there.number is.there.answer is.there.here;
        item_here = is.there.item_here;
        same = is.there.same;
      };
    })
    (λ (e : answer ≡ one). subst (λ a. IsAlsoThere sent a items (there ++ other ∷ [])) (sym e) (record {
      item = item;
      item_here = here;
      there = record {
        number = suc (length there);
        answer = other;
        here = last_numbered there other;
        item_here = item_there;
        same = bytes;
      };
    }))
    (numbered_push answers one number answer at)
