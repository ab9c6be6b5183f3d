use Rattle.std.proofs.Common.{◌≡◌, [], refl, subst, ap, sym, ◌∙◌}
use Rattle.sqlite.specs.State.{HasCleanDisk}
use Rattle.table_rows.specs.Tables.{no_schema}
use Rattle.filing_model.specs.Request.{firsts}
use Rattle.register_store.specs.Store.{shows}
use Rattle.intake_process.proofs.beginning.make_intake.Goals as goal

pub returns-in-Ok-clause-made : goal.returns-in-Ok-clause-made
unfolding firsts
returns-in-Ok-clause-made g c =
    let empty : c.args.conn.schema ≡ no_schema = sym c.schema.ensures.value ∙ c.if-not-is_empty.ensures.0 refl in (
      empty,
      λ clean.
          let opened = subst (λ s. HasCleanDisk (shows g.S.Store s)) c.new.ensures.store clean in
          let made = c.in-Ok.ensures.outcome.made opened empty in (
            record {
              holds = c.new.ensures.holds [] refl made;
              limit_is = c.new.ensures.limit;
              old_style_is =
                  ap (λ s. s.old_style) c.new.ensures.store ∙ c.in-Ok.ensures.outcome.counts.2;
            },
            (c.totals_of-totals.ensures.0 ∙ made.kept_is, c.totals_of-totals.ensures.1 ∙ made.filings_is),
          ),
    )
