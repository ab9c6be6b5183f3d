use Rattle.std.proofs.Common.{◌≡◌, Bool, List, take, ◌++◌, ◌∷◌, [], false, Some, IsTrue, rules, sym, ap, ◌∙◌}
use Rattle.std.proofs.Common.{subst}
use Rattle.std.proofs.lemmas.List.{take-append-le}
use Rattle.sqlite.specs.State.{HasCleanDisk}
use Rattle.sqlite.proofs.StateLemmas.{survives_weaker}
use Rattle.xbrl_report.specs.Judgement.{IsAmendmentJudgement}
use Rattle.filing_model.specs.Request.{Request, firsts}
use Rattle.filing_model.specs.Answer.{answer_by}
use Rattle.filing_model.specs.Style.{style_of, HasStyle}
use Rattle.filing_model.specs.declared.served.Style.{Style}
use Rattle.filing_model.specs.declared.served.Style.TheVariants.{Problem}
use Rattle.filing_model.specs.Views.{the_request, view_outcome}
use Rattle.filing_model.proofs.Answers.{answer_new}
use Rattle.register_tables.specs.Registers.{LeavesReceived, LeavesRegister}
use Rattle.register_store.specs.Store.{shows}
use Rattle.register_store.proofs.StoreLemmas.{refused_so}
use Rattle.intake_core.specs.Cache.{IsNameIfAny}
use Rattle.register_rows.specs.declared.moment.Moment.{Moment}
use Rattle.intake_core.specs.Held.{old_style_of, old_style_in}
use Rattle.intake_core.specs.Moments.{HoldsMoments}
use Rattle.intake_core.proofs.Dating.{HoldsMoments-same, moment_new}
use Rattle.intake_core.proofs.Deciding.{IfSome-made, IsKeptIn-new, HoldsRequests-more, HoldsRequests-new, firsts-more}
use Rattle.intake_core.proofs.Deciding.{style_of-new}
use Rattle.intake_core.proofs.intake.Intake.keep_judged.Given.{Over}
use Rattle.intake_core.proofs.intake.Intake.keep_judged.Goals.{In_ok-judged}
use Rattle.intake_core.proofs.intake.Intake.keep_judged.Goals as goal

-- the request, by its parts
abbrev asked : (g : Over) → In_ok-judged g → Request
asked g c = let parts = c.request.inside in the_request parts.filer.now parts.key.now parts.target parts.body.now

-- it was judged by whether the filing that it names may be replaced
fair : (g : Over) (c : In_ok-judged g) (free : Bool) → c.args.free ≡ free
    → IsAmendmentJudgement (asked g c).filer (asked g c).body free c.in_ok-judged.judged
fair g c free is =
    subst (λ (f : Bool). IsAmendmentJudgement (asked g c).filer (asked g c).body f c.in_ok-judged.judged) is
    c.in_ok-judged.ensures.judged

pub returns-clause-kept : goal.returns-clause-kept
returns-clause-kept g c =
    let at_judged = (goal.at.returns-clause-kept g c).In_ok-judged in
    let r : Request = asked g at_judged in
    let made : IsNameIfAny c.args.request.now c.ok-name.result =
    rw c.ok-name.ensures.value (IfSome-made c.name_of.result _ c.name_of.ensures) in
    let named : IsNameIfAny r c.ok-name.result = rw (← c.request.view_is) at made in
    let remembered = rw (← c.request.view_is) at c.remember.ensures.same in
    rw (← c.request.view_is) (record {
      answer = λ clean requests h given.
          let cleaned : HasCleanDisk (shows g.S.Store c.add.new.self.store) =
          subst (λ s. HasCleanDisk (shows g.S.Store s)) c.remember.ensures.rest.store clean in
          let new = given.0 in
          let added = c.in_ok-outcome.ensures.added.added cleaned requests h.rows new (fair g at_judged _ given.1) in
          let styled : Problem ≡ style_of (old_style_in c.args.self.now requests) r =
          sym (style_of-new (old_style_of c.args.self.now) requests r new) in (
            (
              c.answer_by.ensures.0 ∙ ap (λ o. answer_by o false) added.0 ∙ sym (answer_new requests r new),
              subst (λ (s : Style). HasStyle s c.answer_by.result) styled c.answer_by.ensures.1,
            ),
            HoldsRequests-new requests r c.remember.new.self h.firsts' new
                (remembered (requests ++ r ∷ []) (HoldsRequests-more requests r c.args.self.now c.add.new.self new h
                c.in_ok-outcome.ensures.rest.0 c.in_ok-outcome.ensures.added.old_style added.1) named
                (IsKeptIn-new requests r (view_outcome c.in_ok-outcome.outcome) new added.0)
                (sym (ap (λ n. style_of (take n (requests ++ r ∷ [])) r) c.in_ok-outcome.ensures.added.old_style
                ∙ ap (λ rs. style_of rs r)
                (take-append-le (old_style_of c.args.self.now) requests (r ∷ []) h.rows.within)
                ∙ style_of-new (old_style_of c.args.self.now) requests r new))),
          );
      err = search rules;
      setting = search rules;
      stopped = search rules;
      running = search rules;
      crash =
          rw c.remember.ensures.rest.store
          (survives_weaker (shows g.S.Store c.args.self.now.store) (shows g.S.Store c.add.new.self.store) _ _
          (λ clean trees left requests h alive given.
          subst (λ (rs : List Request). LeavesRegister (old_style_of c.args.self.now) rs trees)
          (sym (firsts-more requests r h.firsts' given.0))
          (left requests h.rows alive given.0 (fair g at_judged _ given.1))) c.add.ensures.added.crash);
    })

pub returns-clause-is_open : goal.returns-clause-is_open
returns-clause-is_open g c =
    let at_judged = (goal.at.returns-clause-is_open g c).In_ok-judged in
    rw (← c.request.view_is) (λ clean requests h new free.
    let cleaned : HasCleanDisk (shows g.S.Store c.add.new.self.store) =
    subst (λ s. HasCleanDisk (shows g.S.Store s)) c.remember.ensures.rest.store clean in
    subst (λ s. IsTrue (shows g.S.Store s).is_open) (sym c.remember.ensures.rest.store)
    (c.in_ok-outcome.ensures.added.durable cleaned requests h.rows new (fair g at_judged _ free)).0)

pub returns-in_err-outcome-clause-kept : goal.returns-in_err-outcome-clause-kept
returns-in_err-outcome-clause-kept g c =
    let at_judged = (goal.at.returns-in_err-outcome-clause-kept g c).In_ok-judged in
    let r : Request = asked g at_judged in
    rw (← c.request.view_is) (record {
      answer = search rules;
      err = search rules;
      setting = search rules;
      stopped = search rules;
      running = search rules;
      crash =
          survives_weaker (shows g.S.Store c.args.self.now.store) (shows g.S.Store c.add.new.self.store) _ _
          (λ clean trees left requests h alive given.
          subst (λ (rs : List Request). LeavesRegister (old_style_of c.args.self.now) rs trees)
          (sym (firsts-more requests r h.firsts' given.0))
          (left requests h.rows alive given.0 (fair g at_judged _ given.1))) c.add.ensures.added.crash;
    })

pub returns-clause-dated : goal.returns-clause-dated
returns-clause-dated g c =
    let at_judged = (goal.at.returns-clause-dated g c).In_ok-judged in
    let r : Request = asked g at_judged in
    let m = c.args.moment.milliseconds in
    rw (← c.request.view_is) (record {
      dated = λ clean requests h moments had given.
          let cleaned : HasCleanDisk (shows g.S.Store c.add.new.self.store) =
          subst (λ s. HasCleanDisk (shows g.S.Store s)) c.remember.ensures.rest.store clean in
          let added = c.in_ok-outcome.ensures.moments.added cleaned requests h.rows moments had in
          HoldsMoments-same c.add.new.self c.remember.new.self _ c.remember.ensures.rest.store
          (subst (HoldsMoments g.S.Store c.add.new.self) (sym (moment_new requests r m moments given.0)) added);
      same = λ clean requests h moments had. tt;
      crash =
          rw c.remember.ensures.rest.store
          (survives_weaker (shows g.S.Store c.args.self.now.store) (shows g.S.Store c.add.new.self.store) _ _
          (λ clean trees left requests moments h had alive given.
          subst (λ ms. LeavesReceived (old_style_of c.args.self.now) (firsts (requests ++ r ∷ [])) ms trees)
          (sym (moment_new requests r m moments given.0))
          (subst (λ (rs : List Request). LeavesReceived (old_style_of c.args.self.now) rs (moments ++ Some m
          ∷ []) trees)
          (sym (firsts-more requests r h.firsts' given.0))
          (left requests moments h.rows had alive
          (record { key = given.0; judged = fair g at_judged _ given.1 }, tt)))) c.add.ensures.moments.crash);
      next =
          ap (λ (t : Moment). t.milliseconds) (c.remember.ensures.rest.moment ∙ c.in_ok-outcome.ensures.rest.3);
    })

pub returns-in_err-outcome-clause-dated : goal.returns-in_err-outcome-clause-dated
returns-in_err-outcome-clause-dated g c =
    let at_judged = (goal.at.returns-in_err-outcome-clause-dated g c).In_ok-judged in
    let r : Request = asked g at_judged in
    let m = c.args.moment.milliseconds in
    rw (← c.request.view_is) (record {
      dated = λ clean requests h moments had given. search rules;
      same = λ clean requests h moments had.
          refused_so c.from_residual-in_err-outcome.result
          (c.in_err-outcome.ensures.moments.same clean requests h.rows moments had);
      crash =
          survives_weaker (shows g.S.Store c.args.self.now.store) (shows g.S.Store c.add.new.self.store) _ _
          (λ clean trees left requests moments h had alive given.
          subst (λ ms. LeavesReceived (old_style_of c.args.self.now) (firsts (requests ++ r ∷ [])) ms trees)
          (sym (moment_new requests r m moments given.0))
          (subst (λ (rs : List Request). LeavesReceived (old_style_of c.args.self.now) rs (moments ++ Some m
          ∷ []) trees)
          (sym (firsts-more requests r h.firsts' given.0))
          (left requests moments h.rows had alive
          (record { key = given.0; judged = fair g at_judged _ given.1 }, tt)))) c.add.ensures.moments.crash;
      next = search rules;
    })
