use Rattle.std.proofs.Common.{◌+◌, ◌-◌, ℕ, List, ap, sym, ◌∙◌, arith, rules}
use Rattle.sqlite.specs.Held.{Held, state}
use Rattle.register_rows.specs.Catalogue.{Entry, view_lines}
use Rattle.register_store.specs.Store.{StoreParts}
use Rattle.register_store.proofs.AddsSeveral.{crash_all, crash_with, dates_none, durable_all, durable_with, filings_all}
use Rattle.register_store.proofs.AddsSeveral.{keeps_none, kept_all, moments_kept, moments_stand, placed_first}
use Rattle.register_store.proofs.AddsSeveral.{stands_all, within_all}
use Rattle.register_store.proofs.SeveralLemmas.{past_least, past_most}
use Rattle.register_store.proofs.StoreLemmas.{has_dated, has_kept, refused_so}
use Rattle.register_store.proofs.store.Store.keep.Goals as goal

abbrev parts : {S : Type 0} → Held S → ℕ → ℕ → ℕ → List Entry → StoreParts S
parts conn kept filings old_style catalogue =
    record { conn = conn; kept = kept; filings = filings; old_style = old_style; catalogue = catalogue }

pub returns-clause-keeps : goal.returns-clause-keeps
returns-clause-keeps g c =
    let rows = c.args.rows.now in
    let may = c.requires.rows in
    let it = c.self.inside in
    let store = parts it.conn it.kept it.filings it.old_style (view_lines it.catalogue) in
    record {
      added = λ clean F.
          rw (← c.self.view_is) (λ was fresh.
          let adds = c.in_ok-next.ensures.adds clean in record {
            stands = stands_all g.S.Store store rows may F was fresh (state g.S.Store c.keep_all.new.conn)
                c.keep_all.ensures.autocommit adds;
            kept_is = kept_all g.S.Store store rows may F was fresh;
            filings_is =
                ap (λ n. n - 1) c.in_ok-next.ensures.next ∙ filings_all g.S.Store store rows may F was fresh;
            within = within_all g.S.Store store rows may F was fresh;
            catalogue_is =
                c.note_all.ensures F (c.reserve.ensures.same ∙ was.catalogue_is)
                (placed_first g.S.Store store F was adds.was_open) fresh;
          });
      same = λ clean F has. tt;
      count = search rules;
      counts = tt;
      old_style = search rules;
      crash =
          rw (← c.self.view_is) (crash_all g.S.Store store rows may (state g.S.Store c.keep_all.new.conn)
          c.keep_all.ensures.crash);
      durable = λ clean F.
          rw (← c.self.view_is) (λ was fresh. durable_all g.S.Store store rows may F was fresh
          c.keep_all.new.conn c.keep_all.ensures.autocommit (c.in_ok-next.ensures.adds clean)
          (c.in_ok-next.ensures.durable clean));
    }

pub returns-in_err-next-clause-keeps : goal.returns-in_err-next-clause-keeps
returns-in_err-next-clause-keeps g c =
    let rows = c.args.rows.now in
    let it = c.self.inside in
    let store = parts it.conn it.kept it.filings it.old_style (view_lines it.catalogue) in
    record {
      added = λ clean F has fresh. search rules;
      same = λ clean F. rw (← c.self.view_is) (λ had.
          refused_so c.from_residual-in_err-next.result
          (has_kept g.S.Store _ (view_lines c.reserve.new.self) c.reserve.ensures.same c.keep_all.new.conn F had
          c.keep_all.ensures.autocommit (c.in_err-next.ensures.neither clean)));
      count = search rules;
      counts = search rules;
      old_style = search rules;
      crash =
          rw (← c.self.view_is) (crash_all g.S.Store store rows c.requires.rows (state g.S.Store c.keep_all.new.conn)
          c.keep_all.ensures.crash);
      durable = λ clean F has fresh. search rules;
    }

pub returns-in_err-reserve-clause-keeps : goal.returns-in_err-reserve-clause-keeps
returns-in_err-reserve-clause-keeps g c =
    rw (← c.self.view_is) (keeps_none g.S.Store _ (view_lines c.reserve.new.self) c.reserve.ensures.same c.args.rows.now
    c.from_residual.result c.from_residual.ensures.0)

pub returns-clause-moments : goal.returns-clause-moments
returns-clause-moments g c =
    let rows = c.args.rows.now in
    let may = c.requires.rows in
    let it = c.self.inside in
    let store = parts it.conn it.kept it.filings it.old_style (view_lines it.catalogue) in
    record {
      added = λ clean F. rw (← c.self.view_is) (λ was moments had. record {
        stands = moments_stand g.S.Store store rows may F moments was had (state g.S.Store c.keep_all.new.conn)
            c.keep_all.ensures.autocommit (c.in_ok-next.ensures.adds clean);
        one_each = sym (moments_kept g.S.Store store rows may F moments was had);
      });
      same = λ clean F was moments had. tt;
      crash =
          rw (← c.self.view_is) (crash_with g.S.Store store rows may (state g.S.Store c.keep_all.new.conn)
          c.keep_all.ensures.crash);
      durable = λ clean F.
          rw (← c.self.view_is) (λ was moments had fresh. durable_with g.S.Store store rows may F moments was had fresh
          c.keep_all.new.conn (c.in_ok-next.ensures.adds clean) (c.in_ok-next.ensures.durable clean));
    }

pub returns-in_err-next-clause-moments : goal.returns-in_err-next-clause-moments
returns-in_err-next-clause-moments g c =
    let it = c.self.inside in
    let store = parts it.conn it.kept it.filings it.old_style (view_lines it.catalogue) in
    record {
      added = λ clean F was moments had. search rules;
      same = λ clean F. rw (← c.self.view_is) (λ was moments had.
          refused_so c.from_residual-in_err-next.result
          (has_dated g.S.Store _ (view_lines c.reserve.new.self) c.reserve.ensures.same c.keep_all.new.conn moments had
          c.keep_all.ensures.autocommit (c.in_err-next.ensures.neither clean)));
      crash =
          rw (← c.self.view_is) (crash_with g.S.Store store c.args.rows.now c.requires.rows
          (state g.S.Store c.keep_all.new.conn) c.keep_all.ensures.crash);
      durable = λ clean F was moments had fresh. search rules;
    }

pub returns-in_err-reserve-clause-moments : goal.returns-in_err-reserve-clause-moments
returns-in_err-reserve-clause-moments g c =
    rw (← c.self.view_is) (dates_none g.S.Store _ (view_lines c.reserve.new.self) c.reserve.ensures.same
    c.args.rows.now c.from_residual.result c.from_residual.ensures.0)

pub overflow_sub-self : goal.overflow_sub-self
overflow_sub-self g c =
    omega (arith, c.in_ok-next.ensures.next, past_least (c.self.inside.filings + 1) c.args.rows.now)

pub invariant_of-self-2 : goal.invariant_of-self-2
invariant_of-self-2 g c = record {
  autocommit = c.keep_all.ensures.autocommit;
  unlimited = search rules;
  few = omega (arith, c.requires.few, ap (λ (s : StoreParts _). s.kept) c.self.view_is);
  fewer = omega (
    arith,
    c.in_ok-next.ensures.next,
    past_most (c.self.inside.filings + 1) c.args.rows.now,
    c.self.invariant.fewer,
  );
  within = omega (arith, c.self.invariant.within);
}
