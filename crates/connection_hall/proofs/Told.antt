-- What one thing that a connection does changes of what it was told.
use Rattle.std.proofs.Common.{◌≡◌, ◌||◌, ℕ, Bool, true, false, List, [], ◌∷◌, ◌++◌, take, Option, Some, None, refl, sym}
use Rattle.std.proofs.Common.{ap, ap₂, ◌∙◌, subst, subst₂, append_assoc, IfSome, map, rules, Vec, Global, is_some}
use Rattle.std.proofs.Common.{vec_len, ◌==◌, ◌<◌, length, inl, inr, arith}
use Rattle.std.proofs.lemmas.Bool.Decides.{leb_tells}
use Rattle.std.proofs.lemmas.Grind.{common_steps}
use Rattle.std.specs.Prelude.{if◌then◌else◌, nat_eq}
use Rattle.std.specs.Option.{ForSome, option_map_or}
use Rattle.std.specs.List.{flat_map}
use Rattle.std.specs.Io.KnownBytes.{append_known}
use Rattle.std.proofs.lemmas.List.{append-nil, map-append}
use Rattle.std.proofs.lemmas.List.Elements.{filter-append}
use Rattle.std.proofs.lemmas.Grind.{flat_map-append}
use Rattle.http_messages.specs.Head.{closes}
use Rattle.http_messages.specs.Message.{Arrival, Read, Refused as RefusedArrival, ArrivalsThen, BeginsRequest}
use Rattle.http_messages.specs.Message.{IsRefused}
use Rattle.http_messages.specs.Message.{Asks, IsRest, awaits, interim}
use Rattle.http_messages.specs.Request.{Request as Message}
use Rattle.http_messages.specs.declared.refusal.Refusal.{Refusal}
use Rattle.http_messages.proofs.MoreBytes.{BeginsHead-more}
use Rattle.http_messages.proofs.Unique.{BeginsHead-unique, IsRefused-excludes, Asks-unique}
use Rattle.http_connection.specs.declared.connection.Connection.{Connection}
use Rattle.http_connection.specs.Connection.{held, is_over, has_ended, lent, ending_by, Leaves, IsSound, HasFinished}
use Rattle.http_connection.specs.Connection.{lent_closes, lent_len, max_request_len, TellsNext}
use Rattle.http_connection.specs.declared.event.Event.TheVariants.{NeedData}
use Rattle.connection_hall.specs.declared.loan.Loan.{Loan}
use Rattle.connection_hall.specs.declared.ready.Ready.{Ready}
use Rattle.connection_hall.specs.declared.ready.Ready.TheVariants.{Request, Refused}
use Rattle.connection_hall.specs.declared.served.Served.{Served}
use Rattle.connection_hall.specs.declared.stream.Stream.{Ghosts}
use Rattle.connection_hall.specs.Answers.{Answer, own, arrivals_on, text_on, text_of, interim_of, is_last, ends_with}
use Rattle.connection_hall.specs.Answers.{EndsBy, answer_to}
use Rattle.connection_hall.specs.Connections.{held_by, arrival, early_text, HoldsRest, IsReady, IsTold, NeedsMore}
use Rattle.connection_hall.specs.Connections.{Grows, KeepsStanding, MovesOn}
use Rattle.connection_hall.specs.Ready.{arrival_of, StandsFirst}

-- ---- the machine is asked

finished_same : (bytes : List ℕ) (arrivals : List Arrival) (old new : Connection) → held new ≡ held old
    → is_over new ≡ is_over old → IsSound new → HasFinished bytes arrivals old → HasFinished bytes arrivals new
finished_same bytes arrivals old new same over sound f = record {
  splits = subst (λ (left : List ℕ). ArrivalsThen (Leaves left) bytes arrivals (ending_by (is_over new))) (sym same)
      (subst (λ (b : Bool). ArrivalsThen (Leaves (held old)) bytes arrivals (ending_by b)) (sym over) f.splits);
  sound = sound;
}

-- less than a request is held still
pub rest_same : {S : Type 0} (old new : Served S) → held_by new ≡ held_by old → new.is_early ≡ old.is_early
    → HoldsRest old → HoldsRest new
rest_same old new same early r = record {
  rest = subst IsRest (sym same) r.rest;
  interim = λ asks. early ∙ r.interim (subst (λ (bytes : List ℕ). Asks bytes true) same asks);
}

-- the machine is another, which holds the same bytes
pub told_same : {S : Type 0} (came went : Option (List ℕ)) (is_ended : Bool) (answers : List Answer) (old new :
    Served S)
    → new ≡ record old { machine = new.machine } → held_by new ≡ held_by old
    → is_over new.machine ≡ is_over old.machine → has_ended new.machine ≡ has_ended old.machine
    → (IsSound old.machine → IsSound new.machine) → old.ready ≡ None → IsTold came went is_ended answers old
    → IsTold came went is_ended answers new
told_same came went is_ended answers old new rest same over ended sound none told =
    subst (λ (c : Served _). IsTold came went is_ended answers c) (sym rest) (record {
      bytes = told.bytes;
      read = finished_same told.bytes (arrivals_on old.number answers) old.machine new.machine same over
          (sound told.read.sound) told.read;
      came_is = told.came_is;
      went_is = told.went_is;
      ends = told.ends;
      over = λ is. told.over (sym over ∙ is);
      shut = told.shut;
      ended = ended ∙ told.ended;
      rest = λ is. rest_same old (record old { machine = new.machine }) same refl (told.rest (sym ended ∙ is));
      early = λ is. subst (λ (bytes : List ℕ). Asks bytes true) (sym same) (told.early is);
      ready = subst (λ (ready : Option Ready). IfSome ready (IsReady (record old { machine = new.machine }))) (sym none)
          tt;
    })

-- ---- the interim response is owed

text_early : (went : Option (List ℕ)) (owed owed' text : List ℕ) → owed ≡ [] → owed' ≡ interim
    → IfSome went (λ known. known ++ owed ≡ text ++ []) → IfSome went (λ known. known ++ owed' ≡ text ++ interim)
text_early None owed owed' text none is h = tt
text_early (Some known) owed owed' text none is h =
    let before : known ≡ text =
    sym (append-nil known) ∙ ap (λ (l : List ℕ). known ++ l) (sym none) ∙ h ∙ append-nil text in
    ap₂ (λ (a b : List ℕ). a ++ b) before is

pub told_interim : {S : Type 0} (came went : Option (List ℕ)) (is_ended : Bool) (answers : List Answer)
    (old new : Served S) → new ≡ record old { owed = new.owed; is_early = true } → old.owed.items ≡ []
    → new.owed.items ≡ interim → old.is_early ≡ false → old.ready ≡ None → old.is_closing ≡ false
    → Asks (held_by old) true
    → IsTold came went is_ended answers old → IsTold came went is_ended answers new
told_interim came went is_ended answers old new rest none is once none_ready open' asks told =
    subst (λ (c : Served _). IsTold came went is_ended answers c) (sym rest) (record {
      bytes = told.bytes;
      read = told.read;
      came_is = told.came_is;
      went_is = text_early went old.owed.items new.owed.items (text_on old.number answers) none is
          (subst (λ (b : Bool). IfSome went (λ known. known ++ old.owed.items
          ≡ text_on old.number answers ++ early_text b)) once told.went_is);
      ends = told.ends;
      over = told.over;
      shut = λ closing. absurd (let h : old.is_closing ≡ false = open' in let k : old.is_closing ≡ true = closing in
          cc);
      ended = told.ended;
      rest = λ ended. record { rest = (told.rest ended).rest; interim = λ asks. refl };
      early = λ early. asks;
      ready = subst (λ (ready : Option Ready). IfSome ready (IsReady (record old { owed = new.owed; is_early = true })))
          (sym none_ready) tt;
    })

-- ---- there was no memory

came_all : (came : Option (List ℕ)) (bytes : List ℕ) → IfSome came (λ known. known ≡ bytes)
    → IfSome came (λ known. (rest : List ℕ) × (known ≡ bytes ++ rest))
came_all None bytes h = tt
came_all (Some known) bytes h = ([], h ∙ sym (append-nil bytes))

-- what is ready stays so
ready_same : {S : Type 0} (ready : Option Ready) (a b : Served S) → b.machine ≡ a.machine → b.owed.items ≡ a.owed.items
    → b.is_closing ≡ a.is_closing → IfSome ready (IsReady a) → IfSome ready (IsReady b)
ready_same None a b machine owed closing h = tt
ready_same (Some ready) a b machine owed closing h = record {
  next = subst (λ (m : Connection). StandsFirst m ready) (sym machine) h.next;
  owes_nothing = owed ∙ h.owes_nothing;
  open_still = closing ∙ h.open_still;
}

-- what is owed holds the same bytes
pub told_unkept : {S : Type 0} (came went : Option (List ℕ)) (is_ended : Bool) (answers : List Answer)
    (old new : Served S) → new ≡ record old { owed = new.owed; machine = new.machine }
    → new.owed.items ≡ old.owed.items → IsTold came went is_ended answers (record old { machine = new.machine })
    → (first : List ℕ) × IfSome came (λ known. (rest : List ℕ) × (known ≡ first ++ rest))
    × IsTold (Some first) went is_ended answers new
told_unkept came went is_ended answers old new rest same told = (
  told.bytes,
  came_all came told.bytes told.came_is,
  subst (λ (c : Served _). IsTold (Some told.bytes) went is_ended answers c) (sym rest) (record {
    bytes = told.bytes;
    read = told.read;
    came_is = refl;
    went_is = subst (λ (owed : List ℕ). IfSome went (λ known. known ++ owed
        ≡ text_on old.number answers ++ early_text old.is_early)) (sym same) told.went_is;
    ends = told.ends;
    over = told.over;
    shut = told.shut;
    ended = told.ended;
    rest = λ ended. rest_same (record old { machine = new.machine })
        (record old { owed = new.owed; machine = new.machine }) refl refl (told.rest ended);
    early = told.early;
    ready = ready_same old.ready (record old { machine = new.machine })
        (record old { owed = new.owed; machine = new.machine }) refl same refl told.ready;
  }),
)

-- ---- bytes came, or the end of the input

asks_more : (bytes more : List ℕ) → Asks bytes true → Asks (bytes ++ more) true
asks_more bytes more asks = (asks.0, asks.1, BeginsHead-more bytes more asks.0 asks.1 asks.2, asks.3)

came_more : (came : Option (List ℕ)) (bytes more : List ℕ) → IfSome came (λ known. known ≡ bytes)
    → IfSome (append_known came more) (λ known. known ≡ bytes ++ more)
came_more None bytes more h = tt
came_more (Some known) bytes more h = ap (λ (l : List ℕ). l ++ more) h

came_first : (came : Option (List ℕ)) (bytes more : List ℕ) → IfSome came (λ known. known ≡ bytes)
    → IfSome (append_known came more) (λ known. (rest : List ℕ) × (known ≡ bytes ++ rest))
came_first None bytes more h = tt
came_first (Some known) bytes more h = (more, ap (λ (l : List ℕ). l ++ more) h)

pub told_read : {S : Type 0} (came came' went went' : Option (List ℕ)) (before after : Bool) (answers : List Answer)
    (old new : Served S) (more : List ℕ)
    → new ≡ record old { stream = new.stream; machine = new.machine; since = new.since }
    → ((bytes : List ℕ) (arrivals : List Arrival) → HasFinished bytes arrivals old.machine
    → HasFinished (bytes ++ more) arrivals new.machine)
    → held_by new ≡ held_by old ++ more → is_over new.machine ≡ is_over old.machine
    → has_ended new.machine ≡ has_ended old.machine → after ≡ false → came' ≡ append_known came more → went' ≡ went
    → NeedsMore old → IsTold came went before answers old → IsTold came' went' after answers new
told_read came came' went went' before after answers old new more rest reads same over ended goes_on came_is went_is
    needs
    told =
    let open' : has_ended new.machine ≡ false = ended ∙ needs.goes_on in
    subst (λ (c : Served _). IsTold came' went' after answers c) (sym rest) (record {
      bytes = told.bytes ++ more;
      read = reads told.bytes (arrivals_on old.number answers) told.read;
      came_is = subst (λ (came : Option (List ℕ)). IfSome came (λ known. known ≡ told.bytes ++ more)) (sym came_is)
          (came_more came told.bytes more told.came_is);
      went_is = subst (λ (went : Option (List ℕ)). IfSome went (λ known. known ++ old.owed.items
          ≡ text_on old.number answers ++ early_text old.is_early)) (sym went_is) told.went_is;
      ends = told.ends;
      over = λ is. told.over (sym over ∙ is);
      shut = told.shut;
      ended = open' ∙ sym goes_on;
      rest = λ is. absurd (let a = open' in cc);
      early = λ early. subst (λ (bytes : List ℕ). Asks bytes true) (sym same)
          (asks_more (held_by old) more (told.early early));
      ready = subst (λ (ready : Option Ready). IfSome ready
          (IsReady (record old { stream = new.stream; machine = new.machine; since = new.since })))
          (sym needs.none_ready) tt;
    })

-- what could not be kept came behind what is known
pub told_cut : {S : Type 0} (came came' went went' : Option (List ℕ)) (before after : Bool) (answers : List Answer)
    (old new : Served S) (more : List ℕ)
    → new ≡ record old { stream = new.stream; machine = new.machine; since = new.since }
    → held_by new ≡ held_by old → is_over new.machine ≡ is_over old.machine
    → has_ended new.machine ≡ has_ended old.machine → (IsSound old.machine → IsSound new.machine) → after ≡ false
    → came' ≡ append_known came more → went' ≡ went → NeedsMore old → IsTold came went before answers old
    → (first : List ℕ) × IfSome came' (λ known. (rest : List ℕ) × (known ≡ first ++ rest))
    × IsTold (Some first) went' after answers new
told_cut came came' went went' before after answers old new more rest same over ended sound goes_on came_is went_is
    needs
    told = (
      told.bytes,
      subst (λ (came : Option (List ℕ)). IfSome came (λ known. (rest : List ℕ) × (known ≡ told.bytes ++ rest)))
          (sym came_is) (came_first came told.bytes more told.came_is),
      subst (λ (c : Served _). IsTold (Some told.bytes) went' after answers c) (sym rest) (record {
        bytes = told.bytes;
        read = finished_same told.bytes (arrivals_on old.number answers) old.machine new.machine same over
            (sound told.read.sound) told.read;
        came_is = refl;
        went_is = subst (λ (went : Option (List ℕ)). IfSome went (λ known. known ++ old.owed.items
            ≡ text_on old.number answers ++ early_text old.is_early)) (sym went_is) told.went_is;
        ends = told.ends;
        over = λ is. told.over (sym over ∙ is);
        shut = told.shut;
        ended = ended ∙ needs.goes_on ∙ sym goes_on;
        rest = λ is. absurd (let a : has_ended new.machine ≡ false = ended ∙ needs.goes_on in cc);
        early = λ early. subst (λ (bytes : List ℕ). Asks bytes true) (sym same) (told.early early);
        ready = subst (λ (ready : Option Ready). IfSome ready
            (IsReady (record old { stream = new.stream; machine = new.machine; since = new.since })))
            (sym needs.none_ready) tt;
      }),
    )

came_none : (came : Option (List ℕ)) (bytes room : List ℕ) → IfSome came (λ known. known ≡ bytes)
    → IfSome (append_known came (take 0 room)) (λ known. known ≡ bytes)
came_none None bytes room h = tt
came_none (Some known) bytes room h = append-nil known ∙ h

-- nothing came, or the end of the input
pub told_idle : {S : Type 0} (came came' went went' : Option (List ℕ)) (before after : Bool) (answers : List Answer)
    (old new : Served S) (room : List ℕ) → new ≡ record old { stream = new.stream; machine = new.machine }
    → held_by new ≡ held_by old → is_over new.machine ≡ is_over old.machine
    → (IsSound old.machine → IsSound new.machine) → has_ended new.machine ≡ after
    → came' ≡ append_known came (take 0 room) → went' ≡ went → NeedsMore old → IsTold came went before answers old
    → IsTold came' went' after answers new
told_idle came came' went went' before after answers old new room rest same over sound ended came_is went_is needs
    told =
    let c : Served _ = record old { stream = new.stream; machine = new.machine } in
    subst (λ (c : Served _). IsTold came' went' after answers c) (sym rest) (record {
      bytes = told.bytes;
      read = finished_same told.bytes (arrivals_on old.number answers) old.machine new.machine same over
          (sound told.read.sound) told.read;
      came_is = subst (λ (came : Option (List ℕ)). IfSome came (λ known. known ≡ told.bytes)) (sym came_is)
          (came_none came told.bytes room told.came_is);
      went_is = subst (λ (went : Option (List ℕ)). IfSome went (λ known. known ++ old.owed.items
          ≡ text_on old.number answers ++ early_text old.is_early)) (sym went_is) told.went_is;
      ends = told.ends;
      over = λ is. told.over (sym over ∙ is);
      shut = told.shut;
      ended = ended;
      rest = λ is. rest_same old c same refl needs.rest;
      early = λ early. subst (λ (bytes : List ℕ). Asks bytes true) (sym same) (told.early early);
      ready = subst (λ (ready : Option Ready). IfSome ready (IsReady c)) (sym needs.none_ready) tt;
    })

-- a connection needs more if its machine does, and nothing is to be done before
pub needs_more : {S : Type 0} (c : Served S) (awaits : Bool) → TellsNext c.machine (NeedData awaits) → c.owed.items ≡ []
    → c.ready ≡ None → c.is_closing ≡ false → (awaits ≡ true → c.is_early ≡ true) → NeedsMore c
needs_more c awaits event owes none open' early = record {
  owes_nothing = owes;
  none_ready = none;
  open_still = open';
  goes_on = event.0;
  rest = record {
    rest = event.1.rest;
    interim = λ asks. early (sym (Asks-unique (held_by c) true awaits asks event.1.asks));
  };
  short = event.1.short;
}

-- a connection that needs more still does
pub needs_same : {S : Type 0} (old new : Served S) → new ≡ record old { stream = new.stream; machine = new.machine }
    → held_by new ≡ held_by old → has_ended new.machine ≡ has_ended old.machine → NeedsMore old → NeedsMore new
needs_same old new rest same ended needs =
    let c : Served _ = record old { stream = new.stream; machine = new.machine } in
    subst (λ (c : Served _). NeedsMore c) (sym rest) (record {
      owes_nothing = needs.owes_nothing;
      none_ready = needs.none_ready;
      open_still = needs.open_still;
      goes_on = ended ∙ needs.goes_on;
      rest = rest_same old c same refl needs.rest;
      short = subst (λ (bytes : List ℕ). length bytes < max_request_len) (sym same) needs.short;
    })

-- ---- what was to be answered is

ends_push : (answers : List Answer) (last : Answer) → EndsBy answers false
    → EndsBy (answers ++ last ∷ []) (ends_with last)
ends_push [] last h = refl
ends_push (one ∷ []) last h = (sym h, refl)
ends_push (one ∷ next ∷ answers) last h = (h.0, ends_push (next ∷ answers) last h.1)

pub nat_eq-refl : (n : ℕ) → nat_eq n n ≡ true
nat_eq-refl n = search rules

filter-one : (number : ℕ) (b : Bool) (last : Answer) → nat_eq last.on number ≡ b
    → own number (last ∷ []) ≡ (if b then last ∷ [] else [])
filter-one number true last is = rw is refl
filter-one number false last is = rw is refl

-- an answer on this connection is the last of its own, and one on another changes nothing
pub own-push : (number : ℕ) (answers : List Answer) (last : Answer) → nat_eq last.on number ≡ true
    → own number (answers ++ last ∷ []) ≡ own number answers ++ last ∷ []
own-push number answers last is =
    filter-append (λ (answer : Answer). nat_eq answer.on number) answers (last ∷ [])
    ∙ ap (λ (l : List Answer). own number answers ++ l) (filter-one number true last is)

pub own-other : (number : ℕ) (answers : List Answer) (last : Answer) → nat_eq last.on number ≡ false
    → own number (answers ++ last ∷ []) ≡ own number answers
own-other number answers last is =
    filter-append (λ (answer : Answer). nat_eq answer.on number) answers (last ∷ [])
    ∙ ap (λ (l : List Answer). own number answers ++ l) (filter-one number false last is)
    ∙ append-nil (own number answers)

arrivals-push : (number : ℕ) (answers : List Answer) (last : Answer) → nat_eq last.on number ≡ true
    → arrivals_on number (answers ++ last ∷ []) ≡ arrivals_on number answers ++ last.arrival ∷ []
arrivals-push number answers last is =
    ap (λ (l : List Answer). map (λ (answer : Answer). answer.arrival) l) (own-push number answers last is)
    ∙ map-append (λ (answer : Answer). answer.arrival) (own number answers) (last ∷ [])

text-push : (number : ℕ) (answers : List Answer) (last : Answer) → nat_eq last.on number ≡ true
    → text_on number (answers ++ last ∷ []) ≡ text_on number answers ++ text_of last
text-push number answers last is =
    ap (λ (l : List Answer). flat_map text_of l) (own-push number answers last is)
    ∙ flat_map-append text_of (own number answers) (last ∷ [])
    ∙ ap (λ (l : List ℕ). text_on number answers ++ l) (append-nil (text_of last))

-- with the interim response that went before, and what is left of it, it goes once
interim_once : (is_early : Bool) (asked : List ℕ) → (is_early ≡ true → asked ≡ interim)
    → early_text is_early ++ (if is_early then [] else asked) ≡ asked
interim_once true asked early = append-nil interim ∙ sym (early refl)
interim_once false asked early = refl

text_answered : (went : Option (List ℕ)) (is_early : Bool) (owed text asked reply : List ℕ)
    → (is_early ≡ true → asked ≡ interim) → IfSome went (λ known. known ++ owed ≡ text ++ early_text is_early)
    → IfSome went (λ known. known ++ (owed ++ (if is_early then [] else asked) ++ reply) ≡ (text ++ (asked ++ reply))
    ++ [])
text_answered None is_early owed text asked reply early h = tt
text_answered (Some known) is_early owed text asked reply early h =
    let left : List ℕ = if is_early then [] else asked in
    sym (append_assoc known (owed ++ left) reply)
    ∙ ap (λ (l : List ℕ). l ++ reply) (sym (append_assoc known owed left)
    ∙ ap (λ (l : List ℕ). l ++ left) h ∙ append_assoc text (early_text is_early) left
    ∙ ap (λ (l : List ℕ). text ++ l) (interim_once is_early asked early))
    ∙ append_assoc text asked reply
    ∙ sym (append-nil (text ++ (asked ++ reply)))

same_arrival : (a b : Arrival) → Some a ≡ Some b → b ≡ a
same_arrival a b e = cc

-- a request that is to be answered is the one that is lent
lent_is : (m : Connection) (request : Message) (last : Arrival) → lent m ≡ Some request
    → arrival_of (Some Request) (lent m) ≡ Some last → last ≡ Read request
lent_is m request last lends is =
    same_arrival (Read request) last
    (sym (ap (λ (lent : Option Message). arrival_of (Some Request) lent) lends) ∙ is)

request_asks : (bytes : List ℕ) (request : Message) (n : ℕ) → BeginsRequest bytes request n → Asks bytes true
    → interim_of (Read request) ≡ interim
request_asks bytes request n begins asks =
    let same = BeginsHead-unique bytes request.head asks.0 begins.head_len asks.1 begins.head asks.2 in
    let is : awaits request.head ≡ true = ap awaits same.0 ∙ asks.3 in
    rw is refl

-- if the interim response went before, what is to be answered asks for it
early_asked : {S : Type 0} (c : Served S) (ready : Option Ready) (last : Arrival)
    → arrival_of ready (lent c.machine) ≡ Some last → IfSome ready (IsReady c) → Asks (held_by c) true
    → interim_of last ≡ interim
early_asked c None last is r asks = absurd (let h = is in cc)
early_asked c (Some Request) last is r asks =
    let lends = r.next.1 in
    ap interim_of (lent_is c.machine lends.request last lends.lends is)
    ∙ request_asks (held_by c) lends.request (lent_len c.machine) lends.begins asks
early_asked c (Some (Refused refusal)) last is r asks =
    absurd (IsRefused-excludes (held_by c) asks.0 asks.1 refusal asks.2 r.next.1)

-- what is to be answered is more than a rest
not_rest : {S : Type 0} (c : Served S) (ready : Option Ready) (last : Arrival)
    → arrival_of ready (lent c.machine) ≡ Some last → IfSome ready (IsReady c) → ¬ (IsRest (held_by c))
not_rest c None last is r rest = absurd (let h = is in cc)
not_rest c (Some Request) last is r rest = rest.none r.next.1.request (lent_len c.machine) r.next.1.begins
not_rest c (Some (Refused refusal)) last is r rest = rest.refused refusal r.next.1

open_ready : {S : Type 0} (c : Served S) (ready : Option Ready) (last : Arrival)
    → arrival_of ready (lent c.machine) ≡ Some last → IfSome ready (IsReady c) → c.is_closing ≡ false
open_ready c None last is r = absurd (let h = is in cc)
open_ready c (Some ready) last is r = r.open_still

-- what is to be answered stands first
stands_first : {S : Type 0} (c : Served S) (ready : Option Ready) → IfSome ready (IsReady c)
    → IfSome ready (StandsFirst c.machine)
stands_first c None r = tt
stands_first c (Some ready) r = r.next

-- the machine finishes a request
pub finished_request : {S : Type 0} (c : Served S) (new : Connection) (bytes : List ℕ) (arrivals : List Arrival)
    (last : Arrival) → c.ready ≡ Some Request → arrival c ≡ Some last → IfSome c.ready (StandsFirst c.machine)
    → (is_over c.machine ≡ false
    → ForSome (lent c.machine) (λ request. HasFinished bytes (arrivals ++ Read request ∷ []) new))
    → is_over new ≡ (is_over c.machine || lent_closes c.machine)
    → HasFinished bytes (arrivals ++ last ∷ []) new × (is_over new ≡ is_last last)
finished_request c new bytes arrivals last ready is r finishes over =
    let first = subst (λ (o : Option Ready). IfSome o (StandsFirst c.machine)) ready r in
    let lends = first.1 in
    let same : last ≡ Read lends.request =
    lent_is c.machine lends.request last lends.lends
    (subst (λ (o : Option Ready). arrival_of o (lent c.machine) ≡ Some last) ready is) in
    let shuts : lent_closes c.machine ≡ closes lends.request.head =
    ap (λ (o : Option Message). option_map_or (λ (request : Message). closes request.head) o false) lends.lends in (
      subst (λ (a : Arrival). HasFinished bytes (arrivals ++ a ∷ []) new) (sym same)
          (finishes first.0 lends.request lends.lends),
      over ∙ ap (λ (b : Bool). b || lent_closes c.machine) first.0 ∙ shuts ∙ sym (ap is_last same),
    )

-- or what no request can follow
pub finished_refused : {S : Type 0} (c : Served S) (new : Connection) (bytes : List ℕ) (arrivals : List Arrival)
    (last : Arrival) (refusal : Refusal) → c.ready ≡ Some (Refused refusal) → arrival c ≡ Some last
    → IfSome c.ready (StandsFirst c.machine)
    → (is_over c.machine ≡ false → IsRefused (held_by c) refusal
    → HasFinished bytes (arrivals ++ RefusedArrival refusal ∷ []) new)
    → is_over new ≡ true → HasFinished bytes (arrivals ++ last ∷ []) new × (is_over new ≡ is_last last)
finished_refused c new bytes arrivals last refusal ready is r finishes over =
    let first = subst (λ (o : Option Ready). IfSome o (StandsFirst c.machine)) ready r in
    let same : last ≡ RefusedArrival refusal =
    same_arrival (RefusedArrival refusal) last
    (subst (λ (o : Option Ready). arrival_of o (lent c.machine) ≡ Some last) ready is) in (
      subst (λ (a : Arrival). HasFinished bytes (arrivals ++ a ∷ []) new) (sym same)
          (finishes first.0 first.1),
      over ∙ sym (ap is_last same),
    )

shut_by : (closes over : Bool) → over ≡ true → (closes || over) ≡ true
shut_by false over is = is
shut_by true over is = refl

pub told_answer : {S : Type 0} (came went : Option (List ℕ)) (is_ended : Bool) (answers : List Answer) (old : Served S)
    (m : Connection) (owed : Vec ℕ Global) (is_closing : Bool) (loan : Option Loan) (last : Arrival) (text : List ℕ)
    (closes : Bool) → arrival old ≡ Some last
    → owed.items ≡ old.owed.items ++ (if old.is_early then [] else interim_of last) ++ text
    → is_closing ≡ (closes || is_over m)
    → ((bytes : List ℕ) (arrivals : List Arrival) → HasFinished bytes arrivals old.machine
    → IfSome old.ready (StandsFirst old.machine)
    → HasFinished bytes (arrivals ++ last ∷ []) m × (is_over m ≡ is_last last))
    → has_ended m ≡ has_ended old.machine → IsTold came went is_ended answers old
    → IsTold came went is_ended (answers ++ answer_to old.number last text closes ∷ []) (record old {
      machine = m;
      owed = owed;
      is_early = false;
      ready = None;
      is_closing = is_closing;
      loan = loan;
      since = None;
    })
told_answer came went is_ended answers old m owed is_closing loan last text closes is owed_is closing_is finishes
    ended told =
    let answer : Answer = answer_to old.number last text closes in
    let here : nat_eq answer.on old.number ≡ true = nat_eq-refl old.number in
    let finished = finishes told.bytes (arrivals_on old.number answers) told.read (stands_first old old.ready
    told.ready) in
    record {
      bytes = told.bytes;
      read = subst (λ (arrivals : List Arrival). HasFinished told.bytes arrivals m)
          (sym (arrivals-push old.number answers answer here)) finished.0;
      came_is = told.came_is;
      went_is = subst₂ (λ (owed text : List ℕ). IfSome went (λ known. known ++ owed ≡ text ++ [])) (sym owed_is)
          (sym (text-push old.number answers answer here))
          (text_answered went old.is_early old.owed.items (text_on old.number answers) (interim_of last) text
          (λ early. early_asked old old.ready last is told.ready (told.early early)) told.went_is);
      ends = subst₂ EndsBy (sym (own-push old.number answers answer here))
          (sym (closing_is ∙ ap (λ (b : Bool). closes || b) finished.1))
          (ends_push (own old.number answers) answer
          (subst (λ (b : Bool). EndsBy (own old.number answers) b) (open_ready old old.ready last is told.ready)
          told.ends));
      over = λ over. closing_is ∙ shut_by closes (is_over m) over;
      shut = λ closing. refl;
      ended = ended ∙ told.ended;
      rest = λ over. absurd (not_rest old old.ready last is told.ready (told.rest (sym ended ∙ over)).rest);
      early = λ early. absurd (let h : false ≡ true = early in cc);
      ready = tt;
    }

-- an answer on another connection changes nothing
pub told_other : {S : Type 0} (came went : Option (List ℕ)) (is_ended : Bool) (answers : List Answer) (c : Served S)
    (last : Answer) → nat_eq last.on c.number ≡ false → IsTold came went is_ended answers c
    → IsTold came went is_ended (answers ++ last ∷ []) c
told_other came went is_ended answers c last other told =
    let same = sym (own-other c.number answers last other) in
    record {
      bytes = told.bytes;
      read = subst (λ (l : List Answer). HasFinished told.bytes (map (λ (answer : Answer). answer.arrival) l) c.machine)
          same told.read;
      came_is = told.came_is;
      went_is = subst (λ (l : List Answer). IfSome went (λ known. known ++ c.owed.items
          ≡ flat_map text_of l ++ early_text c.is_early)) same told.went_is;
      ends = subst (λ (l : List Answer). EndsBy l c.is_closing) same told.ends;
      over = told.over;
      shut = told.shut;
      ended = told.ended;
      rest = told.rest;
      early = told.early;
      ready = told.ready;
    }

pub none_of : {A : Type 0} (o : Option A) → is_some o ≡ false → o ≡ None
none_of None e = refl
none_of (Some x) e = absurd (let h = e in cc)

pub empty_of : (owed : Vec ℕ Global) → true ≡ (vec_len owed == 0) → owed.items ≡ []
empty_of owed none = grind (arith, common_steps, none)

-- ---- what stays, and what moves on

-- the machine is another, which holds the same bytes
pub moves_same : {S : Type 0} (old mid new : Served S) → mid.is_early ≡ old.is_early → held_by mid ≡ held_by old
    → has_ended mid.machine ≡ has_ended old.machine → MovesOn mid new → MovesOn old new
moves_same old mid new early same ended moves = elim moves [
  | inl held ↦ inl (subst (λ (bytes : List ℕ). length bytes < length (held_by new)) same held)
  | inr more ↦ inr (elim more [
    | inl ends ↦ inl (sym ended ∙ ends.0, ends.1)
    | inr asks ↦ inr (sym early ∙ asks.0, asks.1)
  ])
]

-- what moved on has moved on still
pub moves_on : {S : Type 0} (old mid new : Served S) → MovesOn old mid → Grows mid new → MovesOn old new
moves_on old mid new moves grows =
    let longer = grows.held in
    elim moves [
      | inl held ↦ inl (omega (arith, held, longer))
      | inr more ↦ inr (elim more [
        | inl ends ↦ inl (ends.0, grows.ended ends.1)
        | inr asks ↦ inr (asks.0, grows.early asks.1)
      ])
    ]

-- what is not so now was not so before
not_before : (before now : Bool) → (before ≡ true → now ≡ true) → now ≡ false → before ≡ false
not_before true now stays is = absurd (let a = stays refl in cc)
not_before false now stays is = refl

pub moves_after : {S : Type 0} (old mid new : Served S) → Grows old mid → MovesOn mid new → MovesOn old new
moves_after old mid new grows moves = elim moves [
  | inl held ↦ inl (let longer = grows.held in omega (arith, held, longer))
  | inr more ↦ inr (elim more [
    | inl ends ↦ inl (not_before (has_ended old.machine) (has_ended mid.machine) grows.ended ends.0, ends.1)
    | inr asks ↦ inr (not_before old.is_early mid.is_early grows.early asks.0, asks.1)
  ])
]

pub grows_self : {S : Type 0} (c : Served S) → Grows c c
grows_self c = record {
  held = omega arith;
  ended = λ ended. ended;
  early = λ early. early;
  idle = λ none. refl;
  first = λ none some. absurd (omega (arith, none, some));
  more = λ some. refl;
}

pub grows_on : {S : Type 0} (old mid new : Served S) → Grows old mid → Grows mid new → Grows old new
grows_on old mid new first second = record {
  held = let a = first.held in let b = second.held in omega (arith, a, b);
  ended = λ ended. second.ended (first.ended ended);
  early = λ early. second.early (first.early early);
  idle = λ none. let b = second.held in second.idle none ∙ first.idle (omega (arith, b, none));
  first = λ none some. elim (leb_tells (length (held_by mid)) 0) [
    | inl still ↦ second.first (let h = still.1 in omega (arith, h)) some
    | inr came ↦ second.more (let h = came.1 in omega (arith, h))
        ∙ first.first none (let h = came.1 in omega (arith, h))
  ];
  more = λ some. let a = first.held in second.more (omega (arith, a, some)) ∙ first.more some;
}

pub standing_on : {S N : Type 0} (s : Ghosts S N) (a b c : Served S) → KeepsStanding s a b → KeepsStanding s b c
    → KeepsStanding s a c
standing_on s a b c first second = record {
  number = second.number ∙ first.number;
  place = second.place ∙ first.place;
  loan = second.loan ∙ first.loan;
  closing = second.closing ∙ first.closing;
}

pub standing_self : {S N : Type 0} (s : Ghosts S N) (c : Served S) → KeepsStanding s c c
standing_self s c = record { number = refl; place = refl; loan = refl; closing = refl }
