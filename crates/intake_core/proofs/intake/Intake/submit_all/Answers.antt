use Rattle.std.proofs.Common.{◌≡◌, ◌++◌, ◌∷◌, [], List, length, take, refl, sym, ap, ◌∙◌, subst, arith}
use Rattle.std.proofs.lemmas.List.{drop-map, length-take-le}
use Rattle.std.proofs.lemmas.Slice.{between_to_end}
use Rattle.std.specs.List.{zip}
use Rattle.sqlite.proofs.StateLemmas.{survives_weaker}
use Rattle.table_rows.proofs.StepLemmas.{nothing_yet}
use Rattle.filing_model.specs.Request.{Request}
use Rattle.register_rows.specs.declared.moment.Moment.{Moment}
use Rattle.register_tables.specs.Registers.{LeavesOnlyReceived}
use Rattle.intake_core.specs.Group.{DecidesEachIf, Given, after}
use Rattle.intake_core.specs.Held.{shows}
use Rattle.intake_core.specs.Looked.{AreNewIf, WasOpen}
use Rattle.intake_core.specs.Moments.{DatesAllIf, DatesEachIf, moments_after}
use Rattle.intake_core.specs.Together.{AddsResultsIf, in_milliseconds}
use Rattle.intake_core.proofs.Dating.{leaves_with, length_milliseconds}
use Rattle.intake_core.proofs.Group.{adds_if, adds_none, adds_rest}
use Rattle.intake_core.proofs.intake.Intake.submit_all.Given as begins
use Rattle.intake_core.proofs.intake.Intake.submit_all.Goals as goal

zip_none : (rs : List Request) → let none : List Given = [] in zip rs none ≡ []
zip_none [] = refl
zip_none (r ∷ rs) = refl

-- all of them
total : (g : begins.Over) (c : goal.After-submit_others g)
    → AddsResultsIf g.S.Store (WasOpen g.S.Store c.args.are_new c.args.self.now)
    (AreNewIf c.args.are_new c.args.requests.now) c.args.requests.now (in_milliseconds c.args.moments.now)
    c.args.self.now c.submit_others.new.self c.in_ok-results.results c.submit_others.new.results
total g c =
    let all = c.args.requests.now in
    let moments = c.args.moments.now in
    let ms = in_milliseconds moments in
    let next = c.submit_next.ensures in
    let count = c.len-count.result in
    let is : next.0 ≡ count =
    omega (
      arith,
      c.len-count.ensures,
      next.3.len,
      next.3.each,
      length-take-le next.0 all next.2,
      ap length c.in_ok-results.ensures.items,
    ) in
    adds_rest (WasOpen g.S.Store c.args.are_new c.args.self.now) (AreNewIf c.args.are_new all) all ms count
    c.args.self.now c.submit_next.new.self c.submit_others.new.self c.in_ok-results.results c.submit_next.new.results
    c.submit_others.new.results (length_milliseconds moments ∙ c.requires.moments)
    (subst (λ n. AddsResultsIf g.S.Store (WasOpen g.S.Store c.args.are_new c.args.self.now)
    (AreNewIf c.args.are_new all) (take n all) (take n ms) c.args.self.now c.submit_next.new.self
    c.in_ok-results.results c.submit_next.new.results) is next.3)
    c.submit_others.ensures
    (between_to_end all count (length all) (omega arith))
    (ap in_milliseconds (between_to_end moments count (length moments) (omega arith))
    ∙ sym (drop-map (λ (t : Moment). t.milliseconds) count moments))
    (omega (arith, is, next.2))

pub returns-then-is_empty-clause-decides : goal.returns-then-is_empty-clause-decides
returns-then-is_empty-clause-decides g c =
    let none = adds_if (WasOpen g.S.Store c.args.are_new c.args.self.now) (AreNewIf c.args.are_new c.args.requests.now)
    (adds_none {g = g.S.Store} c.args.self.now c.new.result) in
    subst (λ given. DecidesEachIf g.S.Store (WasOpen g.S.Store c.args.are_new c.args.self.now)
    (AreNewIf c.args.are_new c.args.requests.now) (zip c.args.requests.now given) c.args.self.now c.args.self.now)
    (sym c.new.ensures.items)
    (rw (zip_none c.args.requests.now) none.decides)

pub returns-then-is_empty-clause-dates : goal.returns-then-is_empty-clause-dates
returns-then-is_empty-clause-dates g c =
    let i = c.args.self.now in
    let ms = in_milliseconds c.args.moments.now in
    let none : DatesEachIf g.S.Store (WasOpen g.S.Store c.args.are_new i) (AreNewIf c.args.are_new c.args.requests.now)
    [] ms i i = record {
      all = record {
        dated = λ clean F h moments had _. had;
        crash = survives_weaker (shows g.S.Store i) (shows g.S.Store i) _ _ (λ clean trees none. absurd none)
            (nothing_yet (shows g.S.Store i));
        next = refl;
      };
      durable = λ clean F h moments had _ alive.
          leaves_with i F moments (g.met.S.Store.settled i.store.conn.store) h had alive;
    } in
    subst (λ given. DatesEachIf g.S.Store (WasOpen g.S.Store c.args.are_new i)
    (AreNewIf c.args.are_new c.args.requests.now) (zip c.args.requests.now given) ms i i) (sym c.new.ensures.items)
    (rw (zip_none c.args.requests.now) none)

pub returns-clause-each : goal.returns-clause-each
returns-clause-each g c =
    let adds = total g c in
    ap length (adds.are ∙ ap (λ rs. rs ++ adds.given) c.in_ok-results.ensures.items) ∙ adds.each

pub returns-clause-decides : goal.returns-clause-decides
returns-clause-decides g c =
    let adds = total g c in
    let all = c.args.requests.now in
    subst (λ given. DecidesEachIf g.S.Store (WasOpen g.S.Store c.args.are_new c.args.self.now)
    (AreNewIf c.args.are_new all) (zip all given) c.args.self.now c.submit_others.new.self)
    (sym (adds.are ∙ ap (λ rs. rs ++ adds.given) c.in_ok-results.ensures.items)) adds.decides

pub returns-clause-dates : goal.returns-clause-dates
returns-clause-dates g c =
    let adds = total g c in
    let all = c.args.requests.now in
    let ms = in_milliseconds c.args.moments.now in
    let old = c.args.self.now in
    let new = c.submit_others.new.self in
    let given : adds.given ≡ c.submit_others.new.results.items =
    sym (adds.are ∙ ap (λ rs. rs ++ adds.given) c.in_ok-results.ensures.items) in
    let ds = zip all c.submit_others.new.results.items in
    let dates : DatesAllIf g.S.Store (WasOpen g.S.Store c.args.are_new old) (AreNewIf c.args.are_new all) ds ms old new
    = subst (λ given. DatesAllIf g.S.Store (WasOpen g.S.Store c.args.are_new old) (AreNewIf c.args.are_new all)
    (zip all given) ms old new) given adds.dates in
    let decides : DecidesEachIf g.S.Store (WasOpen g.S.Store c.args.are_new old) (AreNewIf c.args.are_new all) ds old
    new = subst (λ given. DecidesEachIf g.S.Store (WasOpen g.S.Store c.args.are_new old) (AreNewIf c.args.are_new all)
    (zip all given) old new) given adds.decides in
    record {
      all = dates;
      durable = λ clean F h moments had holds alive.
          subst (λ n. LeavesOnlyReceived (shows g.S.Store new) n (after F ds) (moments_after F ds ms moments))
          decides.setting.old_style
          (leaves_with new _ _ (g.met.S.Store.settled new.store.conn.store) (decides.answers clean F h holds).1
          (dates.dated clean F h moments had holds) alive);
    }
