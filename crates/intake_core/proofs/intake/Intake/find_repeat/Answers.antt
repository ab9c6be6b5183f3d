use Rattle.std.proofs.Common.{◌≡◌, List, take, Some, None, IsTrue, sym, ap, ◌∙◌, subst}
use Rattle.sqlite.specs.State.{HasCleanDisk}
use Rattle.filing_model.specs.Request.{Request}
use Rattle.filing_model.specs.Register.{kept}
use Rattle.filing_model.specs.Answer.{kept_for}
use Rattle.filing_model.specs.Style.{style_of, HasStyle}
use Rattle.filing_model.specs.declared.served.Style.{Style}
use Rattle.filing_model.proofs.Answers.{answer_kept}
use Rattle.filing_model.proofs.Keeping.{kept_has_key}
use Rattle.register_store.specs.Outcomes.{kept_as}
use Rattle.register_store.specs.Store.{shows, HasRequests}
use Rattle.register_rows.specs.declared.moment.Moment.{Moment}
use Rattle.table_rows.specs.Standing.{CommitsNothing}
use Rattle.intake_core.specs.Held.{old_style_in}
use Rattle.intake_core.proofs.Dating.{HoldsMoments-same}
use Rattle.intake_core.proofs.Deciding.{has_key-none}
use Rattle.intake_core.proofs.Together.{looks_asked}
use Rattle.intake_core.proofs.intake.Intake.find_repeat.Given.{Over}
use Rattle.intake_core.proofs.intake.Intake.find_repeat.Goals.{In-Some}
use Rattle.intake_core.proofs.intake.Intake.find_repeat.Goals as goal

-- what is kept of the request's filer and key
found : (g : Over) (c : In-Some g) → HasCleanDisk (shows g.S.Store c.find.new.self) → (requests : List Request)
    → HasRequests g.S.Store c.args.self.now.store requests
    → (kept_for (kept requests) c.args.request.now
    ≡ Some (kept_as c.args.request.now.filer c.args.request.now.key c.in-Some.row))
    × (c.in-Some.row.style ≡ style_of (old_style_in c.args.self.now requests) c.args.request.now)
found g c cleaned requests rows =
    let parts = c.request.inside in
    subst (λ (r : Request). (kept_for (kept requests) r ≡ Some (kept_as r.filer r.key c.in-Some.row))
    × (c.in-Some.row.style ≡ style_of (old_style_in c.args.self.now requests) r)) c.request.view_is (
      sym (rw c.in-Some.is at (c.in_ok-row.ensures.found cleaned requests rows parts.target parts.body.now)),
      rw c.in-Some.is at (c.in_ok-row.ensures.style cleaned requests rows parts.target parts.body.now),
    )

pub returns-in-Some-clause-repeat : goal.returns-in-Some-clause-repeat
returns-in-Some-clause-repeat g c = λ clean requests h.
    let r = c.args.request.now in
    let k = kept_as r.filer r.key c.in-Some.row in
    let cleaned : HasCleanDisk (shows g.S.Store c.find.new.self) =
    subst (λ s. HasCleanDisk (shows g.S.Store s)) c.repeat.ensures.rest.store clean in
    let is = found g (goal.at.returns-in-Some-clause-repeat g c).In-Some cleaned requests h.rows in (
      (
        c.repeat.ensures.answer.0 ∙ sym (answer_kept requests r k is.0),
        subst (λ (s : Style). HasStyle s c.repeat.result) is.1 c.repeat.ensures.answer.1,
      ),
      kept_has_key requests r k is.0,
    )

pub returns-in-Some-clause-is_open : goal.returns-in-Some-clause-is_open
returns-in-Some-clause-is_open g c = λ clean requests h.
    let cleaned : HasCleanDisk (shows g.S.Store c.find.new.self) =
    subst (λ s. HasCleanDisk (shows g.S.Store s)) c.repeat.ensures.rest.store clean in
    subst (λ s. IsTrue (shows g.S.Store s).is_open) (sym c.repeat.ensures.rest.store)
    (c.in_ok-row.ensures.durable cleaned requests h.rows).0

-- the answer is remembered, and nothing else changes
pub returns-in-Some-clause-looks : goal.returns-in-Some-clause-looks
returns-in-Some-clause-looks g c =
    let r = c.args.request.now in
    let old = c.args.self.now in
    let mid = record old { store = c.find.new.self } in
    let at_row = (goal.at.returns-in-Some-clause-looks g c).In-Some in
    let keeps = c.in_ok-row.ensures.keeps in
    let rest = c.repeat.ensures.rest in
    let asked = looks_asked old c.find.new.self keeps in
    record {
      same = λ clean requests h.
          let cleaned : HasCleanDisk (shows g.S.Store c.find.new.self) =
          subst (λ s. HasCleanDisk (shows g.S.Store s)) rest.store clean in
          let is = found g at_row cleaned requests h.rows in
          c.repeat.ensures.same requests (asked.same cleaned requests h) c.requires is.0
          (is.1 ∙ ap (λ n. style_of (take n requests) r) (sym keeps.old_style));
      moments = record {
        same = λ clean requests h moments had.
            let cleaned : HasCleanDisk (shows g.S.Store c.find.new.self) =
            subst (λ s. HasCleanDisk (shows g.S.Store s)) rest.store clean in
            HoldsMoments-same mid c.repeat.new.self moments rest.store
            (asked.moments.same cleaned requests h moments had);
        next = ap (λ (t : Moment). t.milliseconds) rest.moment;
      };
      setting = record {
        clean = λ clean. asked.setting.clean (subst (λ s. HasCleanDisk (shows g.S.Store s)) rest.store clean);
        limit = rest.limit;
        old_style = ap (λ s. s.old_style) rest.store ∙ keeps.old_style;
      };
      stopped = rest.stopped;
      count = ap (λ s. s.kept) rest.store ∙ keeps.counts.0;
      crash = subst (λ s. CommitsNothing (shows g.S.Store old.store) (shows g.S.Store s)) (sym rest.store) keeps.crash;
    }

pub returns-in-None-clause-new : goal.returns-in-None-clause-new
returns-in-None-clause-new g c = λ clean requests h is.
    let parts = c.request.inside in
    has_key-none requests c.args.request.now
    (subst (λ (r : Request). kept_for (kept requests) r ≡ None) c.request.view_is
    (sym (rw c.in-None.is at (c.in_ok-row.ensures.found clean requests h.rows parts.target parts.body.now))))

pub returns-in-None-clause-looks : goal.returns-in-None-clause-looks
returns-in-None-clause-looks g c = looks_asked c.args.self.now c.find.new.self c.in_ok-row.ensures.keeps

pub returns-in_err-row-clause-looks : goal.returns-in_err-row-clause-looks
returns-in_err-row-clause-looks g c = looks_asked c.args.self.now c.find.new.self c.find.ensures.keeps
