use Rattle.std.proofs.Common.{◌≡◌, ◌∙◌, inl, inr, ap, refl, Some, None, vec_len, arith}
use Rattle.std.proofs.Common.{◌⊎◌, IsSome}
use Rattle.connection_hall.specs.declared.served.Served.{Served}
use Rattle.connection_hall.specs.Lending.{lent as lent_of, is_short, most_lent}
use Rattle.connection_hall.specs.Places.{lent}
use Rattle.connection_hall.specs.Running.{turns, IsShort}
use Rattle.connection_hall.proofs.Halls.{changed}
use Rattle.connection_hall.proofs.Hands.{served_lent, short_since, lent_is, slot_is}
use Rattle.connection_hall.proofs.InTime.{short_in_time}
use Rattle.connection_hall.proofs.hall.Hall.lend.Goals as goal

pub returns-then-lend-clause-running : goal.returns-then-lend-clause-running
returns-then-lend-clause-running g c answers traffic hand short running =
    let old = c.args.self.now in
    let it = c.args.served in
    let lent_it = c.lend-then-lend.new.self in
    let is = c.lend-then-lend.ensures.lent in
    let number = ap (λ (k : Served _). k.number) is in
    let same_owed = ap (λ (k : Served _). vec_len k.owed) is in
    let given = c.lend.ensures.given c.if-lend.true in
    let most = c.lend.ensures.most in
    let few = c.lend.new.self.few in
    let zero : lent (Some it) ≡ 0 = rw short.not_lent refl in
    let one : lent (Some lent_it) ≡ 1 = rw (ap (λ (k : Served _). k.loan) is) refl in
    c.enter.ensures.running answers traffic (record {
      served = served_lent g.S.Stream answers it lent_it (lent_is it lent_it _ _ is) hand.served;
      watched = ap (λ (k : Served _). g.S.Stream.place k.stream) is ∙ hand.watched;
      bounded = record {
        held = c.lend-then-lend.ensures.held 16384 (omega arith) hand.bounded.held;
        owed = let h = hand.bounded.owed in omega (arith, h, same_owed);
      };
      come = let h = hand.come in omega (arith, h, number);
    }) (inl refl)
    (changed g.S.Stream answers (turns old) _ old _ traffic it lent_it refl (record {
      bounds = refl;
      left = omega arith;
      most = most;
      limit = refl;
      noted = λ since noted. noted;
    }) refl number (λ all. omega (arith, all, given, zero, one)) (λ h. omega (arith, h, same_owed)) (λ i is. is)
    (λ i other low full. absurd (omega (arith, few, given, most, full.2))) running)

pub returns-else-lend-clause-running : goal.returns-else-lend-clause-running
returns-else-lend-clause-running g c answers traffic hand short running =
    let old = c.args.self.now in
    let it = c.args.served in
    let rests : Served g.row.S.Denot = record it { since = None } in
    let loans = c.lend.ensures.refused c.if-lend.false in
    let full = c.lend.ensures.all_lent c.if-lend.false in
    let is : is_short c.lend.new.self ≡ is_short c.lend.new.self = refl in
    let now_short = ap is_short loans in
    let now_lent = ap lent_of loans in
    let now_most = ap most_lent loans in
    c.enter-else-lend.ensures.running answers traffic (record {
      served = served_lent g.S.Stream answers it rests refl hand.served;
      watched = hand.watched;
      bounded = record { held = hand.bounded.held; owed = hand.bounded.owed };
      come = hand.come;
    }) (inr (inr (inl (short_since it rests refl refl short, now_short, omega (arith, now_lent, now_most, full)))))
    (changed g.S.Stream answers (turns old) _ old _ traffic it rests refl (record {
      bounds = refl;
      left = omega arith;
      most = now_most;
      limit = refl;
      noted = λ since noted. noted;
    }) refl refl (λ all. now_lent ∙ all) (λ h. h) (λ i is. is)
    (λ i other low one. inr (one.0, now_short, omega (arith, now_lent, now_most, full))) running)

pub returns-then-lend-clause-lent : goal.returns-then-lend-clause-lent
returns-then-lend-clause-lent g c short =
    slot_is (λ k. IsSome k.loan ⊎ IsShort c.enter.new.self k) _ c.lend-then-lend.new.self c.enter.ensures.here
    (inl (rw (ap (λ (k : Served _). k.loan) c.lend-then-lend.ensures.lent) refl))

pub returns-else-lend-clause-lent : goal.returns-else-lend-clause-lent
returns-else-lend-clause-lent g c short =
    let it = c.args.served in
    let rests : Served g.row.S.Denot = record it { since = None } in
    let loans = c.enter-else-lend.ensures.loans in
    let refused = c.lend.ensures.refused c.if-lend.false in
    let full = c.lend.ensures.all_lent c.if-lend.false in
    let new_lent = ap lent_of (loans ∙ refused) in
    let new_most = ap most_lent (loans ∙ refused) in
    slot_is (λ k. IsSome k.loan ⊎ IsShort c.enter-else-lend.new.self k) _ rests c.enter-else-lend.ensures.here
    (inr (short_since it rests refl refl short, ap is_short (loans ∙ refused), omega (arith, new_lent, new_most, full)))

pub returns-then-lend-clause-in_time : goal.returns-then-lend-clause-in_time
returns-then-lend-clause-in_time g c short = inl (c.enter.ensures.turn refl)

pub returns-else-lend-clause-in_time : goal.returns-else-lend-clause-in_time
returns-else-lend-clause-in_time g c short =
    let rests : Served g.row.S.Denot = record c.args.served { since = None } in
    short_in_time c.enter-else-lend.new.self c.args.place c.args.now rests c.enter-else-lend.ensures.here refl
    short.not_lent
