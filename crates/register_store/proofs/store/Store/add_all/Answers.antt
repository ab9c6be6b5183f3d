use Rattle.std.proofs.Common.{◌≡◌, ◌+◌, length, map, sym, ap, ◌∙◌, rules}
use Rattle.filing_model.specs.Views.{view_outcome}
use Rattle.filing_model.proofs.Lists.{length-map}
use Rattle.register_store.specs.Outcomes.{outcomes_from}
use Rattle.register_store.specs.Store.{StoreParts}
use Rattle.register_store.proofs.AddsSeveral.{number_is}
use Rattle.register_store.proofs.SeveralLemmas.{outcomes_are, outcomes_many}
use Rattle.register_store.proofs.StoreLemmas.{refused_so}
use Rattle.register_store.proofs.store.Store.add_all.Goals as goal

pub returns-clause-adds : goal.returns-clause-adds
returns-clause-adds g c =
    let rows = c.args.rows.now in
    let kept = c.keep.ensures.keeps in
    let told : map view_outcome c.in_ok-outcomes.outcomes.items ≡ outcomes_from (c.args.self.now.filings + 1) rows =
    c.in_ok-outcomes.ensures ∙ ap (λ (s : StoreParts _). outcomes_from (s.filings + 1) rows) c.self.view_is in
    record {
      added = λ clean F was fresh. (
        told ∙ outcomes_are F rows fresh _ (number_is g.S.Store _ F was),
        c.in_ok-keep.ensures.keeps.added clean F was fresh,
      );
      same = λ clean F has. tt;
      each = sym (length-map view_outcome c.in_ok-outcomes.outcomes.items) ∙ ap length told ∙ outcomes_many _ rows;
      count = c.in_ok-keep.ensures.keeps.count;
      counts = tt;
      old_style = kept.old_style;
      crash = kept.crash;
      durable = λ clean F was fresh. c.in_ok-keep.ensures.keeps.durable clean F was fresh;
    }

pub returns-clause-moments : goal.returns-clause-moments
returns-clause-moments g c =
    let done = c.in_ok-keep.ensures.moments in
    record {
      added = done.added;
      same = λ clean F was moments had. tt;
      crash = c.keep.ensures.moments.crash;
      durable = done.durable;
    }

pub returns-in_err-keep-clause-moments : goal.returns-in_err-keep-clause-moments
returns-in_err-keep-clause-moments g c =
    let failed = c.in_err-keep.ensures.moments in
    record {
      added = λ clean F was moments had. search rules;
      same = λ clean F was moments had.
          refused_so c.from_residual-in_err-keep.result (failed.same clean F was moments had);
      crash = c.keep.ensures.moments.crash;
      durable = λ clean F was moments had fresh. search rules;
    }
