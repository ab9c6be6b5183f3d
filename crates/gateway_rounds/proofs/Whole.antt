-- A whole round.
use Rattle.std.proofs.Common.{◌≤◌, ◌≡◌, ◌≢◌, ◌∙◌, ◌+◌, ◌++◌, ◌∷◌, [], ℕ, List, refl, sym, ap}
use Rattle.std.proofs.Common.{subst, inl, inr, arith, length, take, drop, get_or, ◌⊎◌, false, Option, Some, None}
use Rattle.std.proofs.lemmas.List.{length-map, map-append}
use Rattle.std.specs.Prelude.{IfSome, IsSome}
use Rattle.std.proofs.lemmas.List.Sums.{sum_by-cons}
use Rattle.std.specs.List.{AllByRecursion, sum_by}
use Rattle.sqlite.specs.Store.{Ghosts as Disk}
use Rattle.connection_hall.specs.declared.hall.Hall.{Hall}
use Rattle.connection_hall.specs.declared.stream.Stream.{Ghosts}
use Rattle.connection_hall.specs.Places.{arrival_in}
use Rattle.connection_hall.specs.Running.{arrival_at}
use Rattle.filing_model.specs.Request.{Request, has_key}
use Rattle.intake_core.specs.declared.intake.Intake.{Intake}
use Rattle.intake_core.specs.Held.{HoldsRequests, KeepsSetting, limit_of, old_style_in}
use Rattle.gateway_rounds.specs.declared.new.New.{New}
use Rattle.gateway_rounds.specs.Groups.{places_of, places_in, body_of, request_of, AreFound, AreOther, FilesGroup}
use Rattle.gateway_rounds.specs.Groups.{InOrder, IsAskedIn, IsFull}
use Rattle.gateway_rounds.specs.Groups.{IsLeftAt, IsLeftOut, IsWithin, SortsAll}
use Rattle.gateway_rounds.specs.Ports.{Port}
use Rattle.gateway_rounds.specs.Rounds.{AnswersRound, FoundNoRoom, IsFullFor, IsLeft, body_len, body_len_at}
use Rattle.gateway_rounds.specs.Turns.{Turn, AreElsewhere, AreInOrder, IsBefore, TakesTurns, TellsTurns}
use Rattle.gateway_rounds.proofs.Lists.{all_append, all_map, all_parts, all_so, all_unmap}
use Rattle.gateway_rounds.proofs.Turns.{decides-append, moved, setting-append, tells-append}

-- ---- places and turns

pub in_order_of : (from : ℕ) (turns : List Turn) → InOrder (IsBefore from) (places_of turns) → AreInOrder from turns
in_order_of from [] order = tt
in_order_of from (turn ∷ turns) order = (
  all_unmap (λ (later : Turn). later.place) (IsBefore from turn.place) turns order.0,
  in_order_of from turns order.1,
)

-- the turns of the first places
split_turns : (turns : List Turn) (first rest : List ℕ) → places_of turns ≡ first ++ rest
    → (turns' : List Turn) × (more : List Turn) × (turns ≡ turns' ++ more) × (places_of turns' ≡ first)
split_turns turns [] rest same = ([], turns, refl, refl)
split_turns [] (place ∷ first) rest same = absurd (let h = same in cc)
split_turns (turn ∷ turns) (place ∷ first) rest same =
    let here : turn.place ≡ place = ap (λ (ps : List ℕ). get_or ps 0 0) same in
    let split = split_turns turns first rest (ap (λ (ps : List ℕ). drop 1 ps) same) in (
      turn ∷ split.0,
      split.1,
      ap (λ (ts : List Turn). turn ∷ ts) split.2,
      ap (λ (p : ℕ). p ∷ places_of split.0) here ∙ ap (λ (ps : List ℕ). place ∷ ps) split.3,
    )

sum-places : (f : ℕ → ℕ) (turns : List Turn) → sum_by (λ (turn : Turn). f turn.place) turns ≡ sum_by f (places_of turns)
sum-places f [] = refl
sum-places f (turn ∷ turns) =
    sum_by-cons (λ (turn : Turn). f turn.place) turn turns
    ∙ ap (λ (n : ℕ). f turn.place + n) (sum-places f turns)
    ∙ sym (sum_by-cons f turn.place (places_of turns))

module _ {S : Type 0} (hall : Hall S) where
  sum-waiting : (news : List New) → AllByRecursion (IsAskedIn hall) news
      → sum_by (λ (new : New). new.len) news ≡ sum_by (body_len_at hall) (places_in news)
  sum-waiting [] waits = refl
  sum-waiting (new ∷ news) waits =
      let here : new.len ≡ body_len_at hall new.place = waits.0.asked.len ∙ ap body_len (sym waits.0.waits) in
      sum_by-cons (λ (new : New). new.len) new news
      ∙ ap (λ (n : ℕ). n + sum_by (λ (new : New). new.len) news) here
      ∙ ap (λ (n : ℕ). body_len_at hall new.place + n) (sum-waiting news waits.1)
      ∙ sym (sum_by-cons (body_len_at hall) new.place (places_in news))

  same_length : (turns : List Turn) (news : List New) → places_of turns ≡ places_in news → length turns ≡ length news
  same_length turns news there =
      sym (length-map turns (λ (turn : Turn). turn.place)) ∙ ap length there
      ∙ length-map news (λ (new : New). new.place)

  same_sum : (turns : List Turn) (news : List New) → places_of turns ≡ places_in news
      → AllByRecursion (IsAskedIn hall) news
      → sum_by (λ (turn : Turn). body_len_at hall turn.place) turns ≡ sum_by (λ (new : New). new.len) news
  same_sum turns news there waits =
      sum-places (body_len_at hall) turns ∙ ap (sum_by (body_len_at hall)) there ∙ sym (sum-waiting news waits)

  within_for : (turns : List Turn) (news : List New) → places_of turns ≡ places_in news
      → AllByRecursion (IsAskedIn hall) news → IsWithin news
      → (length turns ≤ 64) × (sum_by (λ (turn : Turn). body_len_at hall turn.place) turns ≤ 4194304)
  within_for turns news there waits within = (
    subst (λ (n : ℕ). n ≤ 64) (sym (same_length turns news there)) within.0,
    subst (λ (n : ℕ). n ≤ 4194304) (sym (same_sum turns news there waits)) within.1,
  )

  full_for : (turns : List Turn) (news : List New) (place : ℕ) → places_of turns ≡ places_in news
      → AllByRecursion (IsAskedIn hall) news → IsFull news (body_len_at hall place) → IsFullFor hall turns place
  full_for turns news place there waits (inl many) =
      inl (let same = same_length turns news there in omega (arith, many, same))
  full_for turns news place there waits (inr long) =
      inr (let same = same_sum turns news there waits in omega (arith, long, same))

-- ---- what is new waits still

module _ {S N : Type 0} (s : Ghosts S N) (old mid : Port S) (turns : List Turn) (tells : TellsTurns s turns old mid)
  where
    waits_as_before : (place : ℕ) → AreOther place (places_of turns)
        → arrival_at mid.hall place ≡ arrival_at old.hall place
    waits_as_before place apart =
        ap arrival_in (tells.others place (all_unmap (λ (turn : Turn). turn.place) (λ (p : ℕ). p ≢ place) turns apart))

    pub wait_still : (group : List New) → AllByRecursion (λ place. AreOther place (places_of turns)) (places_in group)
        → AllByRecursion (IsAskedIn old.hall) group → AllByRecursion (IsAskedIn mid.hall) group
    wait_still [] apart waits = tt
    wait_still (new ∷ group) apart waits = (
      record {
        message = waits.0.message;
        waits = waits_as_before new.place apart.0 ∙ waits.0.waits;
        asked = waits.0.asked;
      },
      wait_still group apart.1 waits.1,
    )

    found_still : (before : List Request) (group : List New)
        → AllByRecursion (λ place. AreOther place (places_of turns)) (places_in group)
        → AreFound old.hall group before → AreFound mid.hall group before
    found_still before [] apart found = tt
    found_still before (new ∷ group) apart found = (
      λ is. subst (λ a. has_key before (request_of new (body_of a)) ≡ false)
          (sym (waits_as_before new.place apart.0)) (found.0 is),
      found_still before group apart.1 found.1,
    )

-- ---- who was left

module _ {S : Type 0} (hall : Hall S) (from : ℕ) (turns : List Turn) (group : List New)
    (there : places_of turns ≡ places_in group) (waits : AllByRecursion (IsAskedIn hall) group) (left : Option ℕ) where
  no_room_for : (i : ℕ) → IsLeftOut from hall group left i → FoundNoRoom from hall turns i
  no_room_for i out =
      let parts : places_of turns ≡ places_in out.first ++ places_in out.rest =
      there ∙ ap places_in out.are ∙ map-append (λ (new : New). new.place) out.first out.rest in
      let split = split_turns turns (places_in out.first) (places_in out.rest) parts in
      record {
        first = split.0;
        rest = split.1;
        are = split.2;
        before = all_unmap (λ (turn : Turn). turn.place) (λ (p : ℕ). IsBefore from p i) split.0
            (subst (AllByRecursion (λ p. IsBefore from p i)) (sym split.3) out.before);
        full = full_for hall split.0 out.first i split.3
            (all_parts (IsAskedIn hall) out.first out.rest
            (subst (AllByRecursion (IsAskedIn hall)) out.are waits)).0 out.full;
      }

  module _ (at_once : List Turn)
      (each : (i : ℕ) → AreOther i (places_of at_once) → AreOther i (places_in group)
      → (arrival_at hall i ≡ None) ⊎ IsLeftOut from hall group left i) where
    away_of : (i : ℕ) → AreElsewhere i (at_once ++ turns) → AreOther i (places_of at_once)
        × AreOther i (places_in group)
    away_of i away =
        let parts = all_parts (λ (turn : Turn). turn.place ≢ i) at_once turns away in (
          all_map (λ (turn : Turn). turn.place) (λ (p : ℕ). p ≢ i) at_once parts.0,
          subst (AreOther i) there (all_map (λ (turn : Turn). turn.place) (λ (p : ℕ). p ≢ i) turns parts.1),
        )

    each_turn : (i : ℕ) → AreElsewhere i (at_once ++ turns)
        → (arrival_at hall i ≡ None) ⊎ FoundNoRoom from hall turns i
    each_turn i away =
        let other = away_of i away in
        elim (each i other.0 other.1) [
          | inl none ↦ inl none
          | inr out ↦ inr (no_room_for i out)
        ]

    left_there : (next : ℕ) → IfSome left (IsLeftAt hall (places_of at_once) (places_in group)) → left ≡ Some next
        → IsLeft hall (at_once ++ turns) next
    left_there next is same =
        let at = subst (λ (l : Option ℕ). IfSome l (IsLeftAt hall (places_of at_once) (places_in group))) same is in
        record {
          elsewhere = all_append (λ (turn : Turn). turn.place ≢ next) at_once turns
              (all_unmap (λ (turn : Turn). turn.place) (λ (p : ℕ). p ≢ next) at_once at.no_turn)
              (all_unmap (λ (turn : Turn). turn.place) (λ (p : ℕ). p ≢ next) turns
              (subst (AreOther next) (sym there) at.not_in_group));
          waits = at.waits;
        }

    next_turn : (next : ℕ) → ((place : ℕ) → left ≡ Some place → next ≡ place)
        → IfSome left (IsLeftAt hall (places_of at_once) (places_in group)) → (i : ℕ)
        → IsLeft hall (at_once ++ turns) i
        → IsLeft hall (at_once ++ turns) next × ((next ≡ i) ⊎ IsBefore from next i)
    next_turn next is_next is i waiting =
        let other = away_of i waiting.elsewhere in
        elim (each i other.0 other.1) [
          | inl none ↦ absurd (let h = subst IsSome none waiting.waits in cc)
          | inr out ↦ (let place = out.where'.0 in let same = is_next place out.where'.1 in (
            subst (IsLeft hall (at_once ++ turns)) (sym same) (left_there place is out.where'.1),
            subst (λ (n : ℕ). (n ≡ i) ⊎ IsBefore from n i) (sym same) out.where'.2,
          ))
        ]

module _ {S N D : Type 0} (s : Ghosts S N) (g : Disk D) (old mid new : Port S) (group : List New)
    (left : Option ℕ) (next : ℕ) (intake dated intake_mid intake' : Intake D) where
  -- what was sorted was answered, and then the group
  pub round_done : KeepsSetting g intake dated
      → ((requests : List Request) → HoldsRequests g intake requests → HoldsRequests g dated requests)
      → SortsAll s g old.next old mid group left dated intake_mid → FilesGroup s g mid new group intake_mid intake'
      → ((place : ℕ) → left ≡ Some place → next ≡ place)
      → AnswersRound s g old (record new { next = next }) intake intake'
  round_done setting held sorts files is_next =
      let turns = sorts.turns in
      let at_once = setting-append g intake dated intake_mid setting sorts.takes.setting in
      record {
        at_once = turns;
        filed = files.turns;
        mid = mid;
        intake_mid = intake_mid;
        first = record {
          tells = sorts.takes.tells;
          decided = λ clean before holds.
              let all = sorts.takes.decided clean before (held before holds) in (
                all.0,
                moved (limit_of dated) (limit_of intake) (old_style_in dated before) (old_style_in intake before) before
                    before turns setting.limit (ap (λ (n : ℕ). take n before) setting.old_style) all.1,
              );
          setting = at_once;
        };
        second = record {
          waited = files.tells.waited;
          running = files.tells.running;
          lost = files.tells.lost;
          others = files.tells.others;
          port = record { asked = files.tells.port.asked; bounds = files.tells.port.bounds };
        };
        files = λ clean before holds.
            let clean_mid = files.setting.clean clean in
            let now = held before holds in
            let found = sorts.found clean_mid before now in
            let still = (sorts.takes.decided clean_mid before now).0 in
            let style = ap (λ (n : ℕ). take n before) at_once.old_style in
            let all = files.decided clean before still
            (found_still s old mid turns sorts.takes.tells before group sorts.apart found) in (
              all.0,
              all.1,
              all.2 ∙ style,
              moved (limit_of intake_mid) (limit_of intake) (old_style_in intake_mid before)
                  (old_style_in intake before)
                  before all.0 files.turns at_once.limit style all.3,
            );
        setting = files.setting;
        asks = files.asks;
        in_order = (
          in_order_of old.next turns sorts.turns_order,
          in_order_of old.next files.turns (subst (InOrder (IsBefore old.next)) (sym files.there) sorts.group_order),
        );
        apart = all_unmap (λ (turn : Turn). turn.place) (λ (p : ℕ). AreElsewhere p turns) files.turns
            (subst (AllByRecursion (λ p. AreElsewhere p turns)) (sym files.there)
            (all_so (λ (p : ℕ). AreOther p (places_of turns)) (λ (p : ℕ). AreElsewhere p turns)
            (λ p. all_unmap (λ (turn : Turn). turn.place) (λ (q : ℕ). q ≢ p) turns) (places_in group) sorts.apart));
        within = within_for old.hall files.turns group files.there sorts.waits sorts.within;
        each = each_turn old.hall old.next files.turns group files.there sorts.waits left turns
            (λ i away other. sorts.each i tt away other);
        next = next_turn old.hall old.next files.turns group files.there sorts.waits left turns
            (λ i away other. sorts.each i tt away other) next is_next sorts.left_at;
      }

-- ---- all turns of a round, one after another

pub round_takes : {S N D : Type 0} (s : Ghosts S N) (g : Disk D) (old new : Port S) (intake intake' : Intake D)
    (round : AnswersRound s g old new intake intake')
    → TakesTurns s g (round.at_once ++ round.filed) old new intake intake'
round_takes s g old new intake intake' round = record {
  tells = tells-append s round.at_once round.filed old round.mid new round.apart round.first.tells round.second;
  decided = λ clean before holds.
      let late = round.files clean before holds in
      let early = round.first.decided (round.setting.clean clean) before holds in (
        late.0,
        late.1,
        late.2,
        decides-append (limit_of intake) (old_style_in intake before) before before late.0 round.at_once round.filed
            early.1 late.3,
      );
  setting = setting-append g intake round.intake_mid intake' round.first.setting round.setting;
}
