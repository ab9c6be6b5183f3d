-- What a connection was told that is done.
use Rattle.std.proofs.Common.{◌≡◌, ◌⊎◌, ◌||◌, inl, inr, ℕ, Bool, true, false, List, [], ◌∷◌, ◌++◌, drop, map, Option}
use Rattle.std.proofs.Common.{Some}
use Rattle.std.proofs.Common.{refl, sym, ap, ◌∙◌, subst, IfSome}
use Rattle.std.proofs.lemmas.Bool.{cases_Bool}
use Rattle.std.proofs.lemmas.List.{append-nil}
use Rattle.http_messages.specs.Head.{closes}
use Rattle.http_messages.specs.Message.{Arrival, Read, Refused, Ending, Rest, ArrivalsThen, Asks, awaits}
use Rattle.http_connection.specs.Connection.{is_over, ending_by, Leaves}
use Rattle.http_connection.proofs.Finished.{all-closed, all-rest}
use Rattle.connection_hall.specs.declared.served.Served.{Served}
use Rattle.connection_hall.specs.Answers.{Answer, own, arrivals_on, text_on, is_last, EndsBy, closes_last}
use Rattle.connection_hall.specs.Answers.{AnswersAll, ClosesBehind}
use Rattle.connection_hall.specs.Connections.{held_by, early_text, HoldsRest, IsTold}

-- ---- the last answer

not_last : (arrival : Arrival) (left came : List ℕ) → ArrivalsThen (Leaves left) came (arrival ∷ []) (Rest false)
    → is_last arrival ≡ false
not_last (Read request) left came h = elim (cases_Bool (closes request.head)) [
  | inl last ↦ absurd (let e = (h.2 last).1 in cc)
  | inr more ↦ more
]
not_last (Refused refusal) left came h = absurd (let e = h.2 in cc)

next_arrivals : (arrival : Arrival) (rest : List Arrival) (left came : List ℕ) → is_last arrival ≡ false
    → ArrivalsThen (Leaves left) came (arrival ∷ rest) (Rest false)
    → (later : List ℕ) × ArrivalsThen (Leaves left) later rest (Rest false)
next_arrivals (Read request) rest left came more h = (drop h.0 came, h.3 more)
next_arrivals (Refused refusal) rest left came more h = absurd (let e = more in cc)

closes_by : (closes last : Bool) → true ≡ (closes || last) → last ≡ false → closes ≡ true
closes_by true last is none = refl
closes_by false last is none = absurd (let a : true ≡ last = is in let b = none in cc)

goes_on : (closes last : Bool) → (closes || last) ≡ false → last ≡ false
goes_on true last is = absurd (let e : true ≡ false = is in cc)
goes_on false last is = is

-- if requests may follow the last arrival, the last answer closed the connection
closed_last : (answers : List Answer) (left came : List ℕ) → EndsBy answers true
    → ArrivalsThen (Leaves left) came (map (λ (answer : Answer). answer.arrival) answers) (Rest false)
    → closes_last answers ≡ true
closed_last [] left came ends h = absurd (let e : true ≡ false = ends in cc)
closed_last (last ∷ []) left came ends h =
    closes_by last.closes (is_last last.arrival) ends (not_last last.arrival left came h)
closed_last (answer ∷ next ∷ answers) left came ends h =
    let later =
    next_arrivals answer.arrival (map (λ (answer : Answer). answer.arrival) (next ∷ answers)) left came
    (goes_on answer.closes (is_last answer.arrival) ends.0) h in
    closed_last (next ∷ answers) left later.0 ends.1 later.1

-- ---- what is held asks for what is early

none_asks : (bytes : List ℕ) → (Asks bytes true → true ≡ false) → Asks bytes false
none_asks bytes none = λ parts n head. elim (cases_Bool (awaits parts)) [
  | inl asks ↦ absurd (let e = none (parts, n, head, asks) in cc)
  | inr quiet ↦ quiet
]

asks_early : {S : Type 0} (c : Served S) (is_early : Bool) → c.is_early ≡ is_early
    → (c.is_early ≡ true → Asks (held_by c) true) → (Asks (held_by c) true → c.is_early ≡ true)
    → Asks (held_by c) is_early
asks_early c true is early asks = early is
asks_early c false is early asks = none_asks (held_by c) (λ a. sym (asks a) ∙ is)

-- ---- it is done

wrote_all : (went owed text early : List ℕ) → went ++ owed ≡ text ++ early → owed ≡ [] → went ≡ text ++ early
wrote_all went owed text early is none = sym (append-nil went) ∙ ap (λ (l : List ℕ). went ++ l) (sym none) ∙ is

pub done_told : {S : Type 0} (came went : Option (List ℕ)) (is_ended : Bool) (answers : List Answer) (c : Served S)
    (all text : List ℕ) → came ≡ Some all → went ≡ Some text → IsTold came went is_ended answers c → c.owed.items ≡ []
    → (c.is_closing ≡ true) ⊎ ((is_ended ≡ true) × HoldsRest c)
    → AnswersAll all text (own c.number answers) ⊎ ClosesBehind all text (own c.number answers)
done_told came went is_ended answers c all text came_is went_is told none why =
    let mine = own c.number answers in
    let arrivals = arrivals_on c.number answers in
    let texts = text_on c.number answers in
    let bytes : all ≡ told.bytes =
    subst (λ (came : Option (List ℕ)). IfSome came (λ known. known ≡ told.bytes)) came_is told.came_is in
    let wrote : text ≡ texts ++ early_text c.is_early =
    wrote_all text c.owed.items texts (early_text c.is_early)
    (subst (λ (went : Option (List ℕ)). IfSome went (λ known. known ++ c.owed.items ≡ texts ++ early_text c.is_early))
    went_is told.went_is) none in
    let splits : (b : Bool) → is_over c.machine ≡ b → ArrivalsThen (Leaves (held_by c)) all arrivals (ending_by b) =
    λ b is. subst (λ (l : List ℕ). ArrivalsThen (Leaves (held_by c)) l arrivals (ending_by b)) (sym bytes)
    (subst (λ (b : Bool). ArrivalsThen (Leaves (held_by c)) told.bytes arrivals (ending_by b)) is told.read.splits) in
    let quiet : c.is_closing ≡ true → text ≡ texts ++ [] =
    λ closing. wrote ∙ ap (λ (b : Bool). texts ++ early_text b) (told.shut closing) in
    elim (cases_Bool (is_over c.machine)) [
      | inl over ↦ inl (record {
        ending = Ending.Closed;
        arrivals = all-closed (held_by c) all arrivals (splits true over);
        text = quiet (told.over over);
      })
      | inr open' ↦ elim (cases_Bool c.is_closing) [
        | inl closing ↦ inr (record {
          left = held_by c;
          arrivals = splits false open';
          text = quiet closing ∙ append-nil texts;
          closes = closed_last mine (held_by c) all (subst (λ (b : Bool). EndsBy mine b) closing told.ends)
              (splits false open');
        })
        | inr goes ↦ elim why [
          | inl closing ↦ absurd (let a = goes in let b = closing in cc)
          | inr ended ↦ inl (record {
            ending = Rest c.is_early;
            arrivals = all-rest (held_by c) all arrivals c.is_early (splits false open') ended.1.rest
                (asks_early c c.is_early refl told.early ended.1.interim);
            text = wrote;
          })
        ]
      ]
    ]
