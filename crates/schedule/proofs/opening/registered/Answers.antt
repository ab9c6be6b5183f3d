use Rattle.std.proofs.Common.{◌≡◌, Err, refl, sym, ◌∙◌, subst}
use Rattle.std.specs.Prelude.{◌↔◌, true}
use Rattle.table_rows.proofs.CleanLemmas.{always_clean}
use Rattle.intake_core.specs.declared.intake.Unavailable.TheVariants.{Down}
use Rattle.intake_process.specs.Process.{KeepsBy}
use Rattle.schedule.specs.OutboxEnd.{lying_in}
use Rattle.schedule.specs.Processes.{is_asleep}
use Rattle.schedule.proofs.opening.registered.Goals as goal

pub returns-in-Some-clause-list : goal.returns-in-Some-clause-list
returns-in-Some-clause-list g c = λ limit requests keeps.
    let kept =
    subst (λ i. KeepsBy {g = g.D.Disk} i (lying_in c.args.process.now.place) limit 0 requests)
    (sym c.in-Some.ensures.value) keeps.1 in
    c.register.ensures.rows (always_clean g.met.D.Honest.honest c.register.new.self.store.conn) requests kept.0.holds

pub returns-in-Some-clause-kept : goal.returns-in-Some-clause-kept
returns-in-Some-clause-kept g c = λ limit requests keeps.
    let kept =
    subst (λ i. KeepsBy {g = g.D.Disk} i (lying_in c.args.process.now.place) limit 0 requests)
    (sym c.in-Some.ensures.value) keeps.1 in
    let told = c.register.ensures in (
      keeps.0,
      (
        record {
          holds = told.kept (always_clean g.met.D.Honest.honest c.register.new.self.store.conn) requests kept.0.holds;
          limit_is = told.setting.limit ∙ kept.0.limit_is;
          old_style_is = told.setting.old_style ∙ kept.0.old_style_is;
        },
        kept.1,
      ),
    )

pub returns-in-Some-clause-down : goal.returns-in-Some-clause-down
returns-in-Some-clause-down g c =
    subst (λ i. (c.register.result ≡ Err Down) ↔ (is_asleep i ≡ true)) c.in-Some.ensures.value (
      c.register.ensures.up,
      λ stopped. (c.register.ensures.down stopped).0,
    )

pub returns-in-None-clause-down : goal.returns-in-None-clause-down
returns-in-None-clause-down g c = (λ _. subst (λ i. is_asleep i ≡ true) c.in-None.ensures.value refl, λ _. refl)
