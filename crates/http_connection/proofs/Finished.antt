-- What was finished of a connection, and what follows it.
use Rattle.std.proofs.Common.{◌≡◌, ℕ, Bool, true, false, List, [], ◌∷◌, ◌++◌, drop, refl, sym, ap, subst}
use Rattle.std.proofs.lemmas.List.{drop-append-le}
use Rattle.http_messages.specs.Head.{closes}
use Rattle.http_messages.specs.Message.{Arrival, Read, Refused, Ending, Rest, ArrivalsThen, HasArrivals}
use Rattle.http_messages.specs.Message.{BeginsRequest, IsRest, Asks, NoneFollows}
use Rattle.http_messages.specs.Request.{Request as Message}
use Rattle.http_messages.proofs.MoreBytes.{BeginsRequest-more, IsRefused-more}
use Rattle.http_connection.specs.Connection.{Leaves}

-- more bytes stand behind what is left
pub finished-more : (left more came : List ℕ) (arrivals : List Arrival) (ending : Ending)
    → ArrivalsThen (Leaves left) came arrivals ending
    → ArrivalsThen (Leaves (left ++ more)) (came ++ more) arrivals ending
finished-more left more came [] ending h = (ap (λ bytes. bytes ++ more) h.0, h.1)
finished-more left more came (Refused refusal ∷ arrivals) ending h = (IsRefused-more came more refusal h.0, h.1, h.2)
finished-more left more came (Read message ∷ arrivals) ending (k, begins, closed, goes) = (
  k,
  BeginsRequest-more came more message k begins,
  closed,
  λ open'. subst (λ (bytes : List ℕ). ArrivalsThen (Leaves (left ++ more)) bytes arrivals ending)
      (sym (drop-append-le k came more begins.whole))
      (finished-more left more (drop k came) arrivals ending (goes open')),
)

-- what stands behind the arrivals that were finished, whatever is said of what follows it
pub finished-then : (Follows : List ℕ → Ending → Type 0) (left came : List ℕ) (arrivals last : List Arrival)
    (ending : Ending) → ArrivalsThen (Leaves left) came arrivals (Rest false) → ArrivalsThen Follows left last ending
    → ArrivalsThen Follows came (arrivals ++ last) ending
finished-then Follows left came [] last ending h behind =
    subst (λ (bytes : List ℕ). ArrivalsThen Follows bytes last ending) (sym h.0) behind
finished-then Follows left came (Refused refusal ∷ arrivals) last ending h behind = absurd (let e = h.2 in cc)
finished-then Follows left came (Read message ∷ arrivals) last ending (k, begins, closed, goes) behind = (
  k,
  begins,
  (λ shut. absurd (let e = (closed shut).1 in cc)),
  λ open'. finished-then Follows left (drop k came) arrivals last ending (goes open') behind,
)

-- one more request
pub request-then : (left : List ℕ) (message : Message) (n : ℕ) (ending : Ending) → BeginsRequest left message n
    → (closes message.head ≡ true → ending ≡ Ending.Closed) → (closes message.head ≡ false → ending ≡ Rest false)
    → ArrivalsThen (Leaves (drop n left)) left (Read message ∷ []) ending
request-then left message n ending begins shut open' =
    (n, begins, (λ c. (refl, shut c)), λ o. (refl, open' o))

-- all is told where no request follows, or where the last closed
pub all-closed : (left came : List ℕ) (arrivals : List Arrival) → ArrivalsThen (Leaves left) came arrivals Ending.Closed
    → HasArrivals came arrivals Ending.Closed
all-closed left came [] h = absurd (let e = h.1 in cc)
all-closed left came (Refused refusal ∷ arrivals) h = h
all-closed left came (Read message ∷ arrivals) (k, begins, closed, goes) =
    (k, begins, closed, λ open'. all-closed left (drop k came) arrivals (goes open'))

pub all-rest : (left came : List ℕ) (arrivals : List Arrival) (asks : Bool)
    → ArrivalsThen (Leaves left) came arrivals (Rest false) → IsRest left → Asks left asks
    → HasArrivals came arrivals (Rest asks)
all-rest left came [] asks h rest asked =
    subst (λ (bytes : List ℕ). NoneFollows bytes (Rest asks)) (sym h.0) (asks, rest, asked, refl)
all-rest left came (Refused refusal ∷ arrivals) asks h rest asked = absurd (let e = h.2 in cc)
all-rest left came (Read message ∷ arrivals) asks (k, begins, closed, goes) rest asked = (
  k,
  begins,
  (λ shut. absurd (let e = (closed shut).1 in cc)),
  λ open'. all-rest left (drop k came) arrivals asks (goes open') rest asked,
)
