use Rattle.std.proofs.Common.{List, take, ap, subst, ◌∙◌}
use Rattle.std.specs.List.{AllZip, zip}
use Rattle.intake_core.specs.Group.{Given, after}
use Rattle.intake_core.specs.Held.{limit_of, old_style_in, old_style_of}
use Rattle.gateway_server.specs.Decided.{IsOfGiven}
use Rattle.gateway_server.proofs.Grouped.{decide_in_turn}
use Rattle.gateway_server.proofs.Kept.{keeps_after}
use Rattle.gateway_server.proofs.group.file_all.Goals as goal

pub returns-clause-decided : goal.returns-clause-decided
returns-clause-decided g c = λ clean before h new.
    let told = c.in_ok-results.ensures.decides in
    let each = c.in_ok-results.ensures.each in
    let given : List Given = c.in_ok-results.results.items in
    let ds = zip c.args.requests.now given in
    let answers = told.answers clean before h new in (
      after before ds,
      answers.1,
      ap (λ n. take n (after before ds)) told.setting.old_style
          ∙ (keeps_after (old_style_of c.args.intake.now) before ds h.rows.within h.firsts').0,
      decide_in_turn (limit_of c.args.intake.now) (old_style_in c.args.intake.now before) before c.args.requests.now
          given c.tell.new.all.items each
          (subst (λ (xs : List Given). AllZip IsOfGiven xs c.tell.new.all.items) c.as_slice.ensures.value
          c.tell.ensures.are)
          answers.0,
    )

pub returns-clause-submitted : goal.returns-clause-submitted
returns-clause-submitted g c = record {
  given = c.in_ok-results.results.items;
  are = subst (λ (xs : List Given). AllZip IsOfGiven xs c.tell.new.all.items) c.as_slice.ensures.value
      c.tell.ensures.are;
  decides = c.in_ok-results.ensures.decides;
  dates = c.in_ok-results.ensures.dates;
}
