use Rattle.std.proofs.Common.{sym, ◌∙◌, rules}
use Rattle.sqlite.specs.Held.{state}
use Rattle.sqlite.proofs.StateLemmas.{survives_weaker}
use Rattle.filing_model.specs.Views.{view_state}
use Rattle.outbox_core.proofs.EntryLemmas.{length_set}
use Rattle.outbox_core.proofs.ListLemmas.{leaves_last}
use Rattle.outbox_core.proofs.outbox.Outbox.take.Goals as goal

pub returns-in-Ok : goal.returns-in-Ok
returns-in-Ok g c = record {
  moved = λ clean entries was.
      let had = rw (← c.self.view_is) at was in
      let out = c.in-Ok.ensures.moved clean _ had.stands in (
        out.0,
        record {
          stands = out.1;
          count = had.count
              ∙ sym (length_set entries c.args.id (view_state c.in-Ok.state));
        },
      );
  no_entry = search rules;
  kept = search rules;
  stopped = search rules;
  stops = search rules;
  filer = search rules;
  crash =
      rw (← c.self.view_is) (survives_weaker (state g.S.Store c.self.inside.conn)
      (state g.S.Store c.take_entry.new.conn) _ _ (λ _ trees h entries had alive. h _ had.stands alive)
      c.take_entry.ensures.crash);
  durable = λ clean entries was.
      let had = rw (← c.self.view_is) at was in
      let out = c.in-Ok.ensures.moved clean _ had.stands in (
        out.2,
        λ trees may. leaves_last (state g.S.Store c.take_entry.new.conn) _ out.1 out.2 trees
            (g.met.S.Store.settled c.take_entry.new.conn.store trees out.2 may),
      );
}

pub returns-in-Err : goal.returns-in-Err
returns-in-Err g c = record {
  moved = search rules;
  no_entry = λ clean entries was is. let had = rw (← c.self.view_is) at was in
      c.in-Err.ensures.no_entry clean _ had.stands is;
  kept = λ clean entries was. let had = rw (← c.self.view_is) at was in
      record { stands = c.in-Err.ensures.kept clean _ had.stands; count = had.count };
  stopped = search rules;
  stops = search rules;
  filer = search rules;
  crash =
      rw (← c.self.view_is) (survives_weaker (state g.S.Store c.self.inside.conn)
      (state g.S.Store c.take_entry.new.conn) _ _ (λ _ trees h entries had alive. h _ had.stands alive)
      c.take_entry.ensures.crash);
  durable = search rules;
}
