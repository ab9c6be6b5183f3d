use Rattle.std.proofs.Common.{◌+◌, ap, ◌∙◌, rules}
use Rattle.register_rows.specs.Outcomes.{outcome_of}
use Rattle.register_store.specs.NewRows.{IsNew}
use Rattle.register_store.specs.Store.{StoreParts}
use Rattle.register_store.proofs.AddsSeveral.{number_is, survives_alone}
use Rattle.register_store.proofs.SeveralLemmas.{outcome_is}
use Rattle.register_store.proofs.StoreLemmas.{refused_so}
use Rattle.register_store.proofs.store.Store.add.Goals as goal

pub returns-clause-adds : goal.returns-clause-adds
returns-clause-adds g c =
    let row = c.args.row.now in
    let kept = rw c.from_ref.ensures.value at c.keep.ensures.keeps in
    let done = rw c.from_ref.ensures.value at c.in_ok-keep.ensures.keeps in
    let told = c.in_ok-outcome.ensures
    ∙ ap (λ (s : StoreParts _). outcome_of (s.filings + 1) row.judged.now) c.self.view_is in
    record {
      added = λ clean F was new_key is.
          let fresh : IsNew F row = record { key = new_key; judged = is } in (
            told ∙ outcome_is F row fresh _ (number_is g.S.Store _ F was),
            done.added clean F was (fresh, tt),
          );
      same = λ clean F has. tt;
      count = done.count;
      counts = tt;
      old_style = kept.old_style;
      crash = survives_alone g.S.Store row c.args.self.now c.keep.new.self kept.crash;
      durable = λ clean F was new_key is. done.durable clean F was (record { key = new_key; judged = is }, tt);
    }

pub returns-clause-moments : goal.returns-clause-moments
returns-clause-moments g c =
    let kept = rw c.from_ref.ensures.value at c.keep.ensures.moments in
    let done = rw c.from_ref.ensures.value at c.in_ok-keep.ensures.moments in
    record { added = done.added; same = λ clean F was moments had. tt; crash = kept.crash; durable = done.durable }

pub returns-in_err-keep-clause-moments : goal.returns-in_err-keep-clause-moments
returns-in_err-keep-clause-moments g c =
    let kept = rw c.from_ref.ensures.value at c.keep.ensures.moments in
    let failed = c.in_err-keep.ensures.moments in
    record {
      added = λ clean F was moments had. search rules;
      same = λ clean F was moments had.
          refused_so c.from_residual-in_err-keep.result (failed.same clean F was moments had);
      crash = kept.crash;
      durable = λ clean F was moments had fresh. search rules;
    }

pub returns-in_err-keep-clause-adds : goal.returns-in_err-keep-clause-adds
returns-in_err-keep-clause-adds g c =
    let kept = rw c.from_ref.ensures.value at c.keep.ensures.keeps in
    let failed = c.in_err-keep.ensures.keeps in record {
      added = λ clean F was new_key is. search rules;
      same = λ clean F was. refused_so c.from_residual-in_err-keep.result (failed.same clean F was);
      count = search rules;
      counts = refused_so c.from_residual-in_err-keep.result failed.counts;
      old_style = kept.old_style;
      crash = survives_alone g.S.Store c.args.row.now c.args.self.now c.keep.new.self kept.crash;
      durable = λ clean F was new_key is. search rules;
    }
