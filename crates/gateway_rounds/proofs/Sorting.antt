-- What waits is sorted, one place after another.
use Rattle.std.proofs.Common.{length-append, ◌≡◌, ◌≢◌, ◌∙◌, ◌+◌, ◌<◌, ◌≤◌, ◌++◌, ◌∷◌, [], ℕ, true, false, List, Some}
use Rattle.std.proofs.Common.{None}
use Rattle.std.proofs.Common.{sym, ap, subst, inl, inr, ◌⊎◌, arith, refl, append_assoc, Bool, Option}
use Rattle.std.proofs.lemmas.Bool.Decides.{eqb_tells, leb_tells}
use Rattle.std.proofs.lemmas.List.{map-append}
use Rattle.std.proofs.lemmas.List.Sums.{sum_by_push}
use Rattle.std.specs.Prelude.{IfSome, IsSome}
use Rattle.filing_model.proofs.Lists.{append_nil}
use Rattle.std.specs.Option.{ForSome}
use Rattle.std.specs.List.{AllByRecursion}
use Rattle.http_messages.specs.Message.{Read}
use Rattle.sqlite.specs.Store.{Ghosts as Disk}
use Rattle.connection_hall.specs.declared.hall.Hall.{Hall}
use Rattle.connection_hall.specs.declared.stream.Stream.{Ghosts}
use Rattle.connection_hall.specs.Places.{arrival_in}
use Rattle.connection_hall.specs.Running.{arrival_at}
use Rattle.filing_model.specs.Request.{Request, has_key}
use Rattle.intake_core.specs.declared.intake.Intake.{Intake}
use Rattle.intake_core.specs.Held.{ForRequests, HoldsRequests, KeepsSetting}
use Rattle.gateway_rounds.specs.declared.new.New.{New}
use Rattle.gateway_rounds.specs.Groups.{places_of, places_in, asked_in, left_after, AreOther, HadItsTurn, HadNoRoom}
use Rattle.gateway_rounds.specs.Groups.{InOrder, IsBehind, IsLeftAt, IsLeftOut, IsRound}
use Rattle.gateway_rounds.specs.Groups.{HasRoom, IsWithin, IsAskedIn, IsFull, Joined, LooksUp, SortsAll, SortsPlace}
use Rattle.gateway_rounds.specs.Groups.{SortsUpTo}
use Rattle.gateway_rounds.specs.Groups.{request_of, body_of}
use Rattle.gateway_rounds.specs.Ports.{Port}
use Rattle.gateway_rounds.specs.Rounds.{body_len}
use Rattle.gateway_rounds.specs.Turns.{Turn, IsBefore, LooksUpTurns}
use Rattle.gateway_rounds.proofs.Lists.{all_append, all_parts, all_so, all_unmap, before_other, in_order_more}
use Rattle.gateway_rounds.proofs.Turns.{looks-append, nothing_looked_up, setting-append}

-- ---- who was left

module _ (from place : ℕ) (Looked Looked' : ℕ → Type 0) (here : Looked' place)
    (more : (i : ℕ) → Looked i → Looked' i) (behind : (i : ℕ) → Looked i → IsBefore from i place) where
  look_more : (left : Option ℕ) → IfSome left Looked → IfSome left Looked'
  look_more None looked = tt
  look_more (Some there) looked = more there looked

  look_left : (left : Option ℕ) → IfSome left Looked → IfSome (left_after left place false) Looked'
  look_left None looked = here
  look_left (Some there) looked = more there looked

  module _ {S : Type 0} (hall : Hall S) (turns group : List ℕ) where
    left_by_turn : (left : Option ℕ) → IfSome left Looked → IfSome left (IsLeftAt hall turns group)
        → IfSome left (IsLeftAt hall (turns ++ place ∷ []) group)
    left_by_turn None looked is = tt
    left_by_turn (Some there) looked is = record {
      no_turn = all_append (λ (p : ℕ). p ≢ there) turns (place ∷ []) is.no_turn
          ((λ same. before_other from there place (behind there looked) (sym same)), tt);
      not_in_group = is.not_in_group;
      waits = is.waits;
    }

    left_by_one : (left : Option ℕ) → IfSome left Looked → IfSome left (IsLeftAt hall turns group)
        → IfSome left (IsLeftAt hall turns (group ++ place ∷ []))
    left_by_one None looked is = tt
    left_by_one (Some there) looked is = record {
      no_turn = is.no_turn;
      not_in_group = all_append (λ (p : ℕ). p ≢ there) group (place ∷ []) is.not_in_group
          ((λ same. before_other from there place (behind there looked) (sym same)), tt);
      waits = is.waits;
    }

    left_now : (left : Option ℕ) → IsLeftAt hall turns group place → IfSome left (IsLeftAt hall turns group)
        → IfSome (left_after left place false) (IsLeftAt hall turns group)
    left_now None now is = now
    left_now (Some there) now is = is

  first_left : (left : Option ℕ) → IfSome left Looked
      → (there : ℕ) × (left_after left place false ≡ Some there) × ((there ≡ place) ⊎ IsBefore from there place)
  first_left None looked = (place, refl, inl refl)
  first_left (Some there) looked = (there, refl, inr (behind there looked))

pub left_same : (left : Option ℕ) (place : ℕ) → left_after left place true ≡ left
left_same None place = refl
left_same (Some there) place = refl

module _ {S : Type 0} (from : ℕ) (hall : Hall S) (group : List New) where
  out_longer : (left : Option ℕ) (new : New) (i : ℕ) → IsLeftOut from hall group left i
      → IsLeftOut from hall (group ++ new ∷ []) left i
  out_longer left new i is = record {
    first = is.first;
    rest = is.rest ++ new ∷ [];
    are = ap (λ (news : List New). news ++ new ∷ []) is.are ∙ append_assoc is.first is.rest (new ∷ []);
    before = is.before;
    full = is.full;
    where' = is.where';
  }

  out_still : (left : Option ℕ) (place i : ℕ) → IsLeftOut from hall group left i
      → IsLeftOut from hall group (left_after left place false) i
  out_still left place i is = record {
    first = is.first;
    rest = is.rest;
    are = is.are;
    before = is.before;
    full = is.full;
    where' = (is.where'.0, ap (λ (l : Option ℕ). left_after l place false) is.where'.1, is.where'.2);
  }

either_so : {Free Full Full' : Type 0} → (Full → Full') → Free ⊎ Full → Free ⊎ Full'
either_so so (inl free) = inl free
either_so so (inr full) = inr (so full)

some_so : (left : Option ℕ) {P Q : ℕ → Type 0} → ((i : ℕ) → P i → Q i) → IfSome left P → IfSome left Q
some_so None so is = tt
some_so (Some there) so is = so there is

-- ---- what waits in a place as it did before

module _ {S : Type 0} (old mid : Hall S) where
  asked_before : (new : New) → arrival_at mid new.place ≡ arrival_at old new.place → IsAskedIn mid new
      → IsAskedIn old new
  asked_before new same is = record { message = is.message; waits = sym same ∙ is.waits; asked = is.asked }

  found_before : (new : New) → arrival_at mid new.place ≡ arrival_at old new.place → (before : List Request)
      → (new.is_new ≡ true → has_key before (asked_in mid new) ≡ false)
      → new.is_new ≡ true → has_key before (asked_in old new) ≡ false
  found_before new same before found is =
      subst (λ a. has_key before (request_of new (body_of a)) ≡ false) same (found is)

within_more : (group : List New) (new : New) → IsWithin group → HasRoom group new.len → IsWithin (group ++ new ∷ [])
within_more group new within room =
    let many = length-append group (new ∷ []) in
    let long = sum_by_push (λ (one : New). one.len) group new in
    let few = room.0 in
    let short = room.1 in
    (omega (arith, many, few), omega (arith, long, short))

-- what is new joined the group, or found no room
pub new_sorted : {S N D : Type 0} (s : Ghosts S N) (g : Disk D) (place : ℕ) (old new : Port S)
    (group group' : List New) (intake intake' : Intake D) (one : New) (has_room : Bool)
    → (one.place ≡ place) × IsAskedIn old.hall one
    → ForSome (arrival_at old.hall place) (λ arrival. LooksUp g
    (λ old_style before. one.is_new ≡ true → has_key before (asked_in old.hall one) ≡ false) intake intake')
    → new ≡ old → (has_room ≡ true → (group' ≡ group ++ one ∷ []) × HasRoom group one.len)
    → (has_room ≡ false → (group' ≡ group) × IsFull group one.len)
    → SortsPlace s g place old new group group' intake intake' has_room
new_sorted s g place old new group group' intake intake' one true is looks same joined full =
    inr (record {
      one = one;
      there = is.0;
      waits = is.1;
      same = same;
      group_is = (joined refl).0;
      room = (joined refl).1;
      found = looks (Read is.1.message) (subst (λ (p : ℕ). arrival_at old.hall p ≡ Some (Read is.1.message)) is.0
          is.1.waits);
    })
new_sorted s g place old new group group' intake intake' one false is looks same joined full =
    let waits = subst (λ (p : ℕ). arrival_at old.hall p ≡ Some (Read is.1.message)) is.0 is.1.waits in
    let found = looks (Read is.1.message) waits in
    record {
      same = same;
      group_is = (full refl).0;
      full = subst (IsFull group) (is.1.asked.len ∙ ap body_len (sym waits)) (full refl).1;
      looks = record {
        same = λ clean before holds. ((found.same clean before holds).0, tt);
        setting = found.setting;
      };
    }

-- each place in which something waits was sorted, or there is none before
module _ {S N D : Type 0} (s : Ghosts S N) (g : Disk D) where
  -- the intake was only asked since
  looked : (turns : List Turn) (old new : Port S) (intake mid intake' : Intake D)
      → LooksUpTurns s g turns old new intake mid → ForRequests g mid intake' (HoldsRequests g intake')
      → KeepsSetting g mid intake' → LooksUpTurns s g turns old new intake intake'
  looked turns old new intake mid intake' first same setting = record {
    tells = first.tells;
    decided = λ clean before holds.
        let early = first.decided (setting.clean clean) before holds in (same clean before early.0, early.1);
    setting = setting-append g intake mid intake' first.setting setting;
  }

  -- nothing was sorted yet
  pub none_sorted : (from : ℕ) (port : Port S) (intake : Intake D)
      → SortsUpTo s g from (IsBehind from from) port port [] None intake intake
  none_sorted from port intake = record {
    turns = [];
    takes = nothing_looked_up s g port intake;
    turns_order = tt;
    turns_looked = tt;
    group_order = tt;
    group_looked = tt;
    waits = tt;
    apart = tt;
    found = λ clean before holds. tt;
    each = λ i looked away other. absurd (let low = looked.0 in let high = looked.1 in omega (arith, low, high));
    within = (omega arith, omega arith);
    left_looked = tt;
    left_at = tt;
  }

  module _ (from : ℕ) (old mid new : Port S) (group group' : List New) (left : Option ℕ)
      (intake intake_mid intake' : Intake D) (place : ℕ) (Looked Looked' : ℕ → Type 0) (here : Looked' place)
      (more : (i : ℕ) → Looked i → Looked' i) (behind : (i : ℕ) → Looked i → IsBefore from i place)
      (only : (i : ℕ) → Looked' i → Looked i ⊎ ((i ≡ place) ⊎ (arrival_at mid.hall i ≡ None)))
      (first : SortsUpTo s g from Looked old mid group left intake intake_mid) where
    same_at : (i : ℕ) → AreOther i (places_of first.turns) → arrival_at mid.hall i ≡ arrival_at old.hall i
    same_at i away = ap arrival_in (first.takes.tells.others i
        (all_unmap (λ (turn : Turn). turn.place) (λ (p : ℕ). p ≢ i) first.turns away))

    other_looked : (places : List ℕ) → AllByRecursion Looked places → AreOther place places
    other_looked = all_so Looked (λ p. p ≢ place) (λ p looked. before_other from p place (behind p looked))

    before_looked : (places : List ℕ) → AllByRecursion Looked places
        → AllByRecursion (λ p. IsBefore from p place) places
    before_looked = all_so Looked (λ p. IsBefore from p place) behind

    here_same : arrival_at mid.hall place ≡ arrival_at old.hall place
    here_same = same_at place (other_looked (places_of first.turns) first.turns_looked)

    -- where something else waits it was looked at before
    up_to_here : (i : ℕ) → Looked' i → i ≢ place → AreOther i (places_of first.turns) → AreOther i (places_in group)
        → (arrival_at old.hall i ≡ None) ⊎ IsLeftOut from old.hall group left i
    up_to_here i looked apart away other = elim (only i looked) [
      | inl early ↦ first.each i early away other
      | inr late ↦ elim late [
        | inl same ↦ absurd (apart same)
        | inr none ↦ inl (sym (same_at i away) ∙ none)
      ]
    ]

    apart_more : (news : List New) → AllByRecursion Looked (places_in news)
        → AllByRecursion (λ p. AreOther p (places_of first.turns)) (places_in news)
        → AllByRecursion (λ p. AreOther p (places_of first.turns ++ place ∷ [])) (places_in news)
    apart_more [] looked apart = tt
    apart_more (one ∷ news) looked apart = (
      all_append (λ (p : ℕ). p ≢ one.place) (places_of first.turns) (place ∷ []) apart.0
          ((λ same. before_other from one.place place (behind one.place looked.0) (sym same)), tt),
      apart_more news looked.1 apart.1,
    )

    -- it had its turn
    turn_sorted : HadItsTurn s g place mid new group group' intake_mid intake'
        → SortsUpTo s g from Looked' old new group' left intake intake'
    turn_sorted one =
        let turn = one.turn in
        let turns = first.turns in
        let there : places_of (turns ++ turn ∷ []) ≡ places_of turns ++ place ∷ [] =
        map-append (λ (turn : Turn). turn.place) turns (turn ∷ [])
        ∙ ap (λ (p : ℕ). places_of turns ++ p ∷ []) one.there in
        let elsewhere = all_unmap (λ (turn : Turn). turn.place) (λ (p : ℕ). p ≢ turn.place) turns
        (subst (λ (p : ℕ). AreOther p (places_of turns)) (sym one.there)
        (other_looked (places_of turns) first.turns_looked)) in
        let all : SortsUpTo s g from Looked' old new group left intake intake' = record {
          turns = turns ++ turn ∷ [];
          takes = looks-append s g turns (turn ∷ []) old mid new intake intake_mid intake' (elsewhere, tt) first.takes
              one.takes;
          turns_order = subst (InOrder (IsBefore from)) (sym there)
              (in_order_more (IsBefore from) (places_of turns) place first.turns_order
              (before_looked (places_of turns) first.turns_looked));
          turns_looked = subst (AllByRecursion Looked') (sym there)
              (all_append Looked' (places_of turns) (place ∷ [])
              (all_so Looked Looked' more (places_of turns) first.turns_looked) (here, tt));
          group_order = first.group_order;
          group_looked = all_so Looked Looked' more (places_in group) first.group_looked;
          waits = first.waits;
          apart = subst (λ (places : List ℕ). AllByRecursion (λ p. AreOther p places) (places_in group)) (sym there)
              (apart_more group first.group_looked first.apart);
          found = λ clean before holds. first.found (one.takes.setting.clean clean) before holds;
          each = λ i looked away other.
              let parts = all_parts (λ (p : ℕ). p ≢ i) (places_of turns) (place ∷ [])
              (subst (AreOther i) there away) in
              up_to_here i looked (λ same. parts.1.0 (sym same)) parts.0 other;
          within = first.within;
          left_looked = look_more from place Looked Looked' here more behind left first.left_looked;
          left_at = subst (λ (places : List ℕ). IfSome left (IsLeftAt old.hall places (places_in group))) (sym there)
              (left_by_turn from place Looked Looked' here more behind old.hall (places_of turns) (places_in group) left
              first.left_looked first.left_at);
        } in
        subst (λ (group : List New). SortsUpTo s g from Looked' old new group left intake intake') (sym one.group_is)
        all

    -- it joined the group
    one_joined : Joined g place mid new group group' intake_mid intake'
        → SortsUpTo s g from Looked' old new group' left intake intake'
    one_joined one =
        let it = one.one in
        let turns = first.turns in
        let there : places_in (group ++ it ∷ []) ≡ places_in group ++ place ∷ [] =
        map-append (λ (new : New). new.place) group (it ∷ [])
        ∙ ap (λ (p : ℕ). places_in group ++ p ∷ []) one.there in
        let at_its : arrival_at mid.hall it.place ≡ arrival_at old.hall it.place =
        subst (λ (p : ℕ). arrival_at mid.hall p ≡ arrival_at old.hall p) (sym one.there) here_same in
        let all : SortsUpTo s g from Looked' old mid (group ++ it ∷ []) left intake intake' = record {
          turns = turns;
          takes = looked turns old mid intake intake_mid intake' first.takes
              (λ clean before holds. (one.found.same clean before holds).0) one.found.setting;
          turns_order = first.turns_order;
          turns_looked = all_so Looked Looked' more (places_of turns) first.turns_looked;
          group_order = subst (InOrder (IsBefore from)) (sym there)
              (in_order_more (IsBefore from) (places_in group) place first.group_order
              (before_looked (places_in group) first.group_looked));
          group_looked = subst (AllByRecursion Looked') (sym there)
              (all_append Looked' (places_in group) (place ∷ [])
              (all_so Looked Looked' more (places_in group) first.group_looked) (here, tt));
          waits = all_append (IsAskedIn old.hall) group (it ∷ []) first.waits
              (asked_before old.hall mid.hall it at_its one.waits, tt);
          apart = subst (AllByRecursion (λ p. AreOther p (places_of turns))) (sym there)
              (all_append (λ (p : ℕ). AreOther p (places_of turns)) (places_in group) (place ∷ []) first.apart
              (other_looked (places_of turns) first.turns_looked, tt));
          found = λ clean before holds.
              let early = one.found.setting.clean clean in
              all_append (λ (new : New). new.is_new ≡ true → has_key before (asked_in old.hall new) ≡ false) group
              (it ∷ []) (first.found early before holds) (
                found_before old.hall mid.hall it at_its before
                    (one.found.same clean before (first.takes.decided early before holds).0).1,
                tt,
              );
          each = λ i looked away other.
              let parts = all_parts (λ (p : ℕ). p ≢ i) (places_in group) (place ∷ [])
              (subst (AreOther i) there other) in
              either_so (out_longer from old.hall group left it i)
              (up_to_here i looked (λ same. parts.1.0 (sym same)) away parts.0);
          within = within_more group it first.within one.room;
          left_looked = look_more from place Looked Looked' here more behind left first.left_looked;
          left_at = subst (λ (places : List ℕ). IfSome left (IsLeftAt old.hall (places_of turns) places)) (sym there)
              (left_by_one from place Looked Looked' here more behind old.hall (places_of turns) (places_in group) left
              first.left_looked first.left_at);
        } in
        subst (λ (group : List New). SortsUpTo s g from Looked' old new group left intake intake') (sym one.group_is)
        (subst (λ (port : Port S). SortsUpTo s g from Looked' old port (group ++ it ∷ []) left intake intake')
        (sym one.same) all)

    -- it found no room
    no_room : IsSome (arrival_at mid.hall place) → HadNoRoom g place mid new group group' intake_mid intake'
        → SortsUpTo s g from Looked' old new group' (left_after left place false) intake intake'
    no_room waits one =
        let turns = first.turns in
        let left' = left_after left place false in
        let all : SortsUpTo s g from Looked' old mid group left' intake intake' = record {
          turns = turns;
          takes = looked turns old mid intake intake_mid intake' first.takes
              (λ clean before holds. (one.looks.same clean before holds).0) one.looks.setting;
          turns_order = first.turns_order;
          turns_looked = all_so Looked Looked' more (places_of turns) first.turns_looked;
          group_order = first.group_order;
          group_looked = all_so Looked Looked' more (places_in group) first.group_looked;
          waits = first.waits;
          apart = first.apart;
          found = λ clean before holds. first.found (one.looks.setting.clean clean) before holds;
          each = λ i looked away other. elim (eqb_tells i place) [
            | inl same ↦ inr (subst (IsLeftOut from old.hall group left') (sym same.1) (record {
              first = group;
              rest = [];
              are = sym (append_nil group);
              before = before_looked (places_in group) first.group_looked;
              full = subst (λ a. IsFull group (body_len a)) here_same one.full;
              where' = first_left from place Looked Looked' here more behind left first.left_looked;
            }))
            | inr apart ↦ either_so (out_still from old.hall group left place i)
                (up_to_here i looked apart.1 away other)
          ];
          within = first.within;
          left_looked = look_left from place Looked Looked' here more behind left first.left_looked;
          left_at = left_now from place Looked Looked' here more behind old.hall (places_of turns) (places_in group)
              left
              (record {
                no_turn = other_looked (places_of turns) first.turns_looked;
                not_in_group = other_looked (places_in group) first.group_looked;
                waits = subst IsSome here_same waits;
              }) first.left_at;
        } in
        subst (λ (group : List New). SortsUpTo s g from Looked' old new group left' intake intake') (sym one.group_is)
        (subst (λ (port : Port S). SortsUpTo s g from Looked' old port group left' intake intake') (sym one.same) all)

    pub place_sorted : IsSome (arrival_at mid.hall place) → (has_room : Bool)
        → SortsPlace s g place mid new group group' intake_mid intake' has_room
        → SortsUpTo s g from Looked' old new group' (left_after left place has_room) intake intake'
    place_sorted waits true (inl one) =
        subst (λ (l : Option ℕ). SortsUpTo s g from Looked' old new group' l intake intake')
        (sym (left_same left place))
        (turn_sorted one)
    place_sorted waits true (inr one) =
        subst (λ (l : Option ℕ). SortsUpTo s g from Looked' old new group' l intake intake')
        (sym (left_same left place))
        (one_joined one)
    place_sorted waits false one = no_room waits one

  -- nothing waits in the places that were not looked at
  pub sorted_so : (from : ℕ) (old new : Port S) (group : List New) (left : Option ℕ) (intake intake' : Intake D)
      (Looked Looked' : ℕ → Type 0) → ((i : ℕ) → Looked i → Looked' i)
      → ((i : ℕ) → Looked' i → Looked i ⊎ (arrival_at new.hall i ≡ None))
      → SortsUpTo s g from Looked old new group left intake intake'
      → SortsUpTo s g from Looked' old new group left intake intake'
  sorted_so from old new group left intake intake' Looked Looked' more only first = record {
    turns = first.turns;
    takes = first.takes;
    turns_order = first.turns_order;
    turns_looked = all_so Looked Looked' more (places_of first.turns) first.turns_looked;
    group_order = first.group_order;
    group_looked = all_so Looked Looked' more (places_in group) first.group_looked;
    waits = first.waits;
    apart = first.apart;
    found = first.found;
    each = λ i looked away other. elim (only i looked) [
      | inl early ↦ first.each i early away other
      | inr none ↦ inl (sym (ap arrival_in (first.takes.tells.others i
          (all_unmap (λ (turn : Turn). turn.place) (λ (p : ℕ). p ≢ i) first.turns away))) ∙ none)
    ];
    within = first.within;
    left_looked = some_so left more first.left_looked;
    left_at = first.left_at;
  }

  -- ---- from a place on, and round

  module _ (from : ℕ) (old mid new : Port S) (group group' : List New) (left : Option ℕ)
      (intake intake_mid intake' : Intake D) (upto place : ℕ) (low : upto ≤ place)
      (none : (i : ℕ) → upto ≤ i → i < place → arrival_at mid.hall i ≡ None)
      (waits : IsSome (arrival_at mid.hall place)) (has_room : Bool)
      (one : SortsPlace s g place mid new group group' intake_mid intake' has_room) where
    round_more : (i : ℕ) → IsRound from upto i → IsRound from (place + 1) i
    round_more i (inl high) = inl high
    round_more i (inr early) = inr (omega (arith, early, low))

    round_behind : (i : ℕ) → place < from → IsRound from upto i → IsBefore from i place
    round_behind i end (inl high) = inl (high, end)
    round_behind i end (inr early) = inr (omega (arith, early, low), inr end)

    round_only : (i : ℕ) → IsRound from (place + 1) i
        → IsRound from upto i ⊎ ((i ≡ place) ⊎ (arrival_at mid.hall i ≡ None))
    round_only i (inl high) = inl (inl high)
    round_only i (inr here) = elim (leb_tells upto i) [
      | inl high ↦ elim (eqb_tells i place) [
        | inl same ↦ inr (inl same.1)
        | inr other ↦ inr (inr (none i high.1 (let apart = other.1 in omega (arith, here, apart))))
      ]
      | inr early ↦ inl (inr early.1)
    ]

    pub one_behind : from ≤ upto → SortsUpTo s g from (IsBehind from upto) old mid group left intake intake_mid
        → SortsUpTo s g from (IsBehind from (place + 1)) old new group' (left_after left place has_room) intake intake'
    one_behind start first =
        place_sorted from old mid new group group' left intake intake_mid intake' place (IsBehind from upto)
        (IsBehind from (place + 1)) (omega (arith, start, low), omega arith)
        (λ i looked. (looked.0, let high = looked.1 in omega (arith, high, low)))
        (λ i looked. inr (let high = looked.1 in omega (arith, high, low), inl looked.0))
        (λ i looked. elim (leb_tells upto i) [
          | inl high ↦ elim (eqb_tells i place) [
            | inl same ↦ inr (inl same.1)
            | inr other ↦ inr (inr (none i high.1 (let apart = other.1 in let here = looked.1 in
                omega (arith, here, apart))))
          ]
          | inr early ↦ inl (looked.0, early.1)
        ]) first waits has_room one

    pub one_before : place < from → SortsUpTo s g from (IsRound from upto) old mid group left intake intake_mid
        → SortsUpTo s g from (IsRound from (place + 1)) old new group' (left_after left place has_room) intake intake'
    one_before end first =
        place_sorted from old mid new group group' left intake intake_mid intake' place (IsRound from upto)
        (IsRound from (place + 1)) (inr (omega arith)) (λ i. round_more i)
        (λ i. round_behind i end) (λ i. round_only i) first waits has_room one

  module _ (from : ℕ) (old new : Port S) (group : List New) (left : Option ℕ) (intake intake' : Intake D) (upto : ℕ)
    where
      behind_only : (i : ℕ) → ((i : ℕ) → upto ≤ i → arrival_at new.hall i ≡ None) → IsRound from 0 i
          → IsBehind from upto i ⊎ (arrival_at new.hall i ≡ None)
      behind_only i none (inl high) = elim (leb_tells upto i) [
        | inl late ↦ inr (none i late.1)
        | inr early ↦ inl (high, early.1)
      ]
      behind_only i none (inr early) = absurd (omega (arith, early))

      -- all places behind were looked at
      pub turned_round : ((i : ℕ) → upto ≤ i → arrival_at new.hall i ≡ None)
          → SortsUpTo s g from (IsBehind from upto) old new group left intake intake'
          → SortsUpTo s g from (IsRound from 0) old new group left intake intake'
      turned_round none first =
          sorted_so from old new group left intake intake' (IsBehind from upto) (IsRound from 0)
          (λ i looked. inl looked.0) (λ i. behind_only i none) first

      -- all places were
      pub all_sorted : ((i : ℕ) → upto ≤ i → i < from → arrival_at new.hall i ≡ None)
          → SortsUpTo s g from (IsRound from upto) old new group left intake intake'
          → SortsAll s g from old new group left intake intake'
      all_sorted none first =
          sorted_so from old new group left intake intake' (IsRound from upto) (λ place. Unit {0}) (λ i looked. tt)
          (λ i looked. elim (leb_tells from i) [
            | inl high ↦ inl (inl high.1)
            | inr early ↦ elim (leb_tells upto i) [
              | inl late ↦ inr (none i late.1 early.1)
              | inr low ↦ inl (inr low.1)
            ]
          ]) first
