use Rattle.std.proofs.Common.{◌++◌, ◌∷◌, [], Result, Ok, Err, IfOk, OnOk, subst, rules}
use Rattle.sqlite.proofs.StateLemmas.{survives_weaker}
use Rattle.filing_model.specs.Request.{Request, firsts}
use Rattle.register_store.specs.Store.{shows}
use Rattle.register_tables.specs.Registers.{LeavesReceived, LeavesRegister}
use Rattle.register_store.proofs.StoreLemmas.{leaves}
use Rattle.intake_core.specs.Held.{old_style_of, with_request}
use Rattle.intake_core.specs.Moments.{with_moment}
use Rattle.intake_core.proofs.Dating.{leaves_with}
use Rattle.intake_core.proofs.intake.Intake.submit_request.Goals as goal

on_both : {T E : Type 0} (x : Result T E) (P : Type 0) (Q : T → Type 0) (R : Type 0) → (P → (a : T) → Q a → R)
    → OnOk x P → IfOk x Q → OnOk x R
on_both (Ok a) P Q R f p q = f p a q
on_both (Err e) P Q R f p q = tt

on_three : {T E : Type 0} (x : Result T E) (P : Type 0) (Q : T → Type 0) (M R : Type 0)
    → (P → (a : T) → Q a → M → R) → OnOk x P → IfOk x Q → OnOk x M → OnOk x R
on_three (Ok a) P Q M R f p q m = f p a q m
on_three (Err e) P Q M R f p q m = tt

pub returns-clause-decides : goal.returns-clause-decides
returns-clause-decides g c =
    let r : Request = c.args.request.now in
    let new = c.decide-result.new.self in
    let decided = c.decide-result.ensures.decided in
    record {
      answer = search rules;
      err = search rules;
      setting = search rules;
      full = c.decide-result.ensures.full;
      room = c.decide-result.ensures.room;
      crash = survives_weaker (shows g.S.Store c.args.self.now.store) (shows g.S.Store new.store) _ _
          (λ _ trees left requests h. left requests h tt tt) decided.crash;
      -- the requests that are kept are committed
      durable = λ clean requests h alive.
          on_both c.decide-result.result _ _ _ (λ still _ told. (
            still,
            λ trees left. subst (λ n. LeavesRegister n (firsts (requests ++ r ∷ [])) trees) decided.setting.old_style
                (leaves (old_style_of new) (firsts (requests ++ r ∷ [])) (shows g.S.Store new.store) told.1.rows.stands
                still trees (g.met.S.Store.settled new.store.conn.store trees still left)),
          ))
          (c.decide-result.ensures.is_open clean requests h alive)
          (decided.answer clean requests h tt);
      down = search rules;
      stops = search rules;
      up = search rules;
    }

pub returns-clause-dates : goal.returns-clause-dates
returns-clause-dates g c =
    let r : Request = c.args.request.now in
    let m = c.args.moment.milliseconds in
    let new = c.decide-result.new.self in
    let decided = c.decide-result.ensures.decided in
    let dated = c.decide-result.ensures.dated in
    record {
      dated = λ clean requests h moments had. dated.dated clean requests h moments had tt;
      same = dated.same;
      crash = survives_weaker (shows g.S.Store c.args.self.now.store) (shows g.S.Store new.store) _ _
          (λ _ trees left requests moments h had. left requests moments h had tt tt) dated.crash;
      durable = λ clean requests h moments had alive.
          on_three c.decide-result.result _ _ _ _ (λ still _ told are. (
            still,
            λ trees left. subst (λ n. LeavesReceived n (with_request requests r) (with_moment requests r m moments)
                trees) decided.setting.old_style
                (leaves_with new (with_request requests r) (with_moment requests r m moments)
                (g.met.S.Store.settled new.store.conn.store) told.1 are still trees left),
          ))
          (c.decide-result.ensures.is_open clean requests h alive)
          (decided.answer clean requests h tt)
          (dated.dated clean requests h moments had tt);
      next = dated.next;
    }
