-- What becomes of a connection, and what it tells.
use Rattle.std.proofs.Common.{◌≡◌, ℕ, ◌-◌, ◌<◌, ◌≤◌, ◌||◌, Bool, true, false, List, [], ◌∷◌, ◌++◌, drop, length}
use Rattle.std.proofs.Common.{Some, None, refl, sym, ap, ◌∙◌, subst, subst₂, arith}
use Rattle.std.specs.Prelude.{nat_le, is_some, if◌then◌else◌}
use Rattle.std.specs.Option.{ForSome}
use Rattle.std.proofs.lemmas.Bool.Decides.{nat_tests}
use Rattle.std.proofs.lemmas.Grind.{common_steps}
use Rattle.http_messages.specs.Block.{IsUnended, from_block, skipped_len}
use Rattle.http_messages.specs.Head.{closes}
use Rattle.http_messages.specs.Message.{Arrival, Read, ArrivalsThen, BeginsRequest}
use Rattle.http_messages.specs.Request.{Request as Message}
use Rattle.http_connection.specs.declared.connection.Connection.{Connection}
use Rattle.http_connection.specs.declared.parsed.Parsed.{Parsed}
use Rattle.http_connection.specs.Connection.{held, lent_in, lent, lent_len, is_over, ending_by, Leaves, IsSound}
use Rattle.http_connection.specs.Connection.{HasFinished, LendsFirst, CanWait}
use Rattle.http_connection.specs.Parsed.{parsed_end, parsed_request, awaits_of, IsHeadOf}
use Rattle.http_connection.proofs.Heads.{IsHeadOf-more, BeginsRequest-whole, IsRest-cut, Asks-head, IsPlaced-head}
use Rattle.http_connection.proofs.Heads.{Asks-unended, IsRest-unended}
use Rattle.http_connection.proofs.Finished.{finished-more, finished-then, request-then}

two-or-none : (b : Bool) → (if b then 2 else 0) ≤ 2
two-or-none true = omega arith
two-or-none false = omega arith

skipped_len-two : (bytes : List ℕ) → skipped_len bytes ≤ 2
skipped_len-two bytes = two-or-none _

-- ---- bytes that came

-- the head that was parsed begins what is held still, as more bytes come
pub IsSound-more : (more : List ℕ) (old new : Connection) → held new ≡ held old ++ more → new.parsed ≡ old.parsed
    → IsSound old → IsSound new
IsSound-more more old new same parsed sound = record {
  head = λ p is.
      subst (λ (bytes : List ℕ). IsHeadOf bytes p) (sym same)
      (IsHeadOf-more (held old) more p (sound.head p (sym parsed ∙ is)));
}

pub IsSound-same : (old new : Connection) → held new ≡ held old → new.parsed ≡ old.parsed → IsSound old → IsSound new
IsSound-same old new same parsed sound = record {
  head = λ p is.
      subst (λ (bytes : List ℕ). IsHeadOf bytes p) (sym same) (sound.head p (sym parsed ∙ is));
}

pub IsSound-none : (c : Connection) → c.parsed ≡ None → IsSound c
IsSound-none c none = record { head = λ p is. absurd (let a = none in let b = is in cc) }

pub HasFinished-more : (came more : List ℕ) (arrivals : List Arrival) (old new : Connection)
    → held new ≡ held old ++ more → new.parsed ≡ old.parsed → new.is_over ≡ old.is_over
    → HasFinished came arrivals old → HasFinished (came ++ more) arrivals new
HasFinished-more came more arrivals old new same parsed over f = record {
  splits = subst (λ (bytes : List ℕ). ArrivalsThen (Leaves bytes) (came ++ more) arrivals (ending_by (is_over new)))
      (sym same)
      (subst (λ (b : Bool). ArrivalsThen (Leaves (held old ++ more)) (came ++ more) arrivals (ending_by b)) (sym over)
      (finished-more (held old) more came arrivals (ending_by (is_over old)) f.splits));
  sound = IsSound-more more old new same parsed f.sound;
}

-- the same bytes are held, in another place
pub HasFinished-same : (came : List ℕ) (arrivals : List Arrival) (old new : Connection) → held new ≡ held old
    → new.parsed ≡ old.parsed → is_over new ≡ is_over old → HasFinished came arrivals old
    → HasFinished came arrivals new
HasFinished-same came arrivals old new same parsed over f = record {
  splits = subst₂ (λ (bytes : List ℕ) (b : Bool). ArrivalsThen (Leaves bytes) came arrivals (ending_by b)) (sym same)
      (sym over) f.splits;
  sound = IsSound-same old new same parsed f.sound;
}

-- ---- a request that is lent

lent-if : (b : Bool) (x y : Message) → (if b then Some x else None) ≡ Some y → (b ≡ true) × (y ≡ x)
lent-if true x y e = (refl, let h = e in cc)
lent-if false x y e = absurd (let h = e in cc)

is_within : (a b : ℕ) → nat_le a b ≡ true → a ≤ b
is_within a b test = grind (arith, nat_tests, test)

is_lent-if : (b : Bool) (x : Message) → b ≡ true → (if b then Some x else None) ≡ Some x
is_lent-if true x e = refl
is_lent-if false x e = absurd (let h = e in cc)

nat_le-true : (a b : ℕ) → a ≤ b → nat_le a b ≡ true
nat_le-true a b within = grind (arith, nat_tests, within)

lent_len-is : (c : Connection) (p : Parsed) → c.parsed ≡ Some p → is_some (lent c) ≡ true → lent_len c ≡ parsed_end p
lent_len-is c p is some = grind (arith, common_steps, is, some)

-- the head that was parsed is that of a whole request
pub LendsFirst-whole : (c : Connection) (p : Parsed) → c.parsed ≡ Some p → IsSound c → parsed_end p ≤ length (held c)
    → LendsFirst c
LendsFirst-whole c p is sound whole =
    let lends : lent c ≡ Some (parsed_request (held c) p) = ap (lent_in (held c)) is
    ∙ is_lent-if (nat_le (parsed_end p) (length (held c))) (parsed_request (held c) p)
    (nat_le-true (parsed_end p) (length (held c)) whole) in
    record {
      request = parsed_request (held c) p;
      lends = lends;
      begins = subst (λ n. BeginsRequest (held c) (parsed_request (held c) p) n)
          (sym (lent_len-is c p is (ap is_some lends))) (BeginsRequest-whole (held c) p (sound.head p is) whole);
    }

-- or of one whose body is not all there
pub CanWait-cut : (c : Connection) (p : Parsed) → c.parsed ≡ Some p → IsSound c → is_over c ≡ false
    → length (held c) < parsed_end p → CanWait c (awaits_of p)
CanWait-cut c p is sound open' cut =
    let head = sound.head p is in
    let bound = (IsPlaced-head (held c) p head).bound in
    record {
      more = open';
      rest = IsRest-cut (held c) p head cut;
      asks = Asks-head (held c) p head;
      short = omega (arith, bound, cut);
    }

short-unended : (bytes : List ℕ) → IsUnended bytes → length bytes < 1064962
short-unended bytes u =
    let skipped = skipped_len-two bytes in
    let size : length (from_block bytes) ≡ length bytes - skipped_len bytes = grind (arith, common_steps) in
    let room = u.room in
    omega (arith, skipped, size, room)

-- or none is there
pub CanWait-unended : (c : Connection) → is_over c ≡ false → IsUnended (held c) → CanWait c false
CanWait-unended c open' unended = record {
  more = open';
  rest = IsRest-unended (held c) unended;
  asks = Asks-unended (held c) unended;
  short = short-unended (held c) unended;
}

-- a head that was parsed in what is held
pub IsSound-parsed : (old new : Connection) (p : Parsed) → held new ≡ held old → new.parsed ≡ Some p
    → IsHeadOf (held old) p → IsSound new
IsSound-parsed old new p same parsed head = record {
  head = λ q is.
      let one : p ≡ q = let e = sym parsed ∙ is in cc in
      subst (λ (x : Parsed). IsHeadOf (held new) x) one
      (subst (λ (bytes : List ℕ). IsHeadOf bytes p) (sym same) head);
}

-- the request that was lent is finished
pub HasFinished-finish : (old new : Connection) (p : Parsed) (came : List ℕ) (arrivals : List Arrival)
    → old.parsed ≡ Some p → is_over old ≡ false → held new ≡ drop (parsed_end p) (held old) → new.parsed ≡ None
    → is_over new ≡ (is_over old || p.framing.closes) → HasFinished came arrivals old
    → ForSome (lent old) (λ request. HasFinished came (arrivals ++ Read request ∷ []) new)
HasFinished-finish old new p came arrivals parsed open' dropped none over f = λ request is.
    let told = lent-if (nat_le (parsed_end p) (length (held old))) (parsed_request (held old) p) request
    (sym (ap (lent_in (held old)) parsed) ∙ is) in
    let head = f.sound.head p parsed in
    let whole = is_within (parsed_end p) (length (held old)) told.0 in
    let shuts : is_over new ≡ closes (parsed_request (held old) p).head =
    over ∙ (ap (λ (b : Bool). b || p.framing.closes) open' ∙ head.at.1.closes) in
    subst (λ (r : Message). HasFinished came (arrivals ++ Read r ∷ []) new) (sym told.1) (record {
      splits = finished-then (Leaves (held new)) (held old) came arrivals (Read (parsed_request (held old) p) ∷ [])
          (ending_by (is_over new))
          (subst (λ (b : Bool). ArrivalsThen (Leaves (held old)) came arrivals (ending_by b)) open' f.splits)
          (subst (λ (bytes : List ℕ). ArrivalsThen (Leaves bytes) (held old) (Read (parsed_request (held old) p) ∷ [])
          (ending_by (is_over new))) (sym dropped)
          (request-then (held old) (parsed_request (held old) p) (parsed_end p) (ending_by (is_over new))
          (BeginsRequest-whole (held old) p head whole)
          (λ shut. ap ending_by (shuts ∙ shut))
          (λ goes. ap ending_by (shuts ∙ goes))));
      sound = IsSound-none new none;
    })
