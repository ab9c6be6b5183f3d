use Rattle.std.proofs.Common.{arith, length-append, rules}
use Rattle.sqlite.specs.Held.{state}
use Rattle.sqlite.proofs.StateLemmas.{survives_weaker}
use Rattle.outbox_core.proofs.ListLemmas.{leaves_last}
use Rattle.outbox_core.proofs.outbox.Outbox.put.Goals as goal

pub returns-in-Ok : goal.returns-in-Ok
returns-in-Ok g c = record {
  added = λ clean entries was.
      let had = rw (← c.self.view_is) at was in
      let out =
      rw (c.as_str.ensures.value, c.as_slice.ensures.value)
      at (c.in-Ok.ensures.added clean _ had.stands had.count) in
      let id = out.0 in
      (id, record { stands = out.1; count = simp length-append (omega arith) });
  unused = λ clean entries was. let had = rw (← c.self.view_is) at was in
      rw c.as_str.ensures.value at (c.in-Ok.ensures.unused clean _ had.stands);
  used = search rules;
  too_large = search rules;
  kept = search rules;
  stopped = search rules;
  stops = search rules;
  filer = search rules;
  crash =
      rw (← c.self.view_is) (survives_weaker (state g.S.Store c.self.inside.conn) (state g.S.Store c.add_entry.new.conn)
      _ _
      (λ _ trees h entries had alive. rw (
        c.as_str.ensures.value,
        c.as_slice.ensures.value,
      ) at (h _ had.stands alive had.count)) c.add_entry.ensures.crash);
  durable = λ clean entries was.
      let had = rw (← c.self.view_is) at was in
      let out =
      rw (c.as_str.ensures.value, c.as_slice.ensures.value)
      at (c.in-Ok.ensures.added clean _ had.stands had.count) in (
        out.2,
        λ trees may. leaves_last (state g.S.Store c.add_entry.new.conn) _ out.1 out.2 trees
            (g.met.S.Store.settled c.add_entry.new.conn.store trees out.2 may),
      );
}

pub returns : goal.returns
returns g c = record {
  added = search rules;
  unused = search rules;
  used = λ clean entries was id is. let had = rw (← c.self.view_is) at was in
      rw c.as_str.ensures.value at (c.in-Err.ensures.used clean _ had.stands id is);
  too_large = search rules;
  kept = λ clean entries was. let had = rw (← c.self.view_is) at was in
      record { stands = c.in-Err.ensures.kept clean _ had.stands; count = had.count };
  stopped = search rules;
  stops = search rules;
  filer = search rules;
  crash =
      rw (← c.self.view_is) (survives_weaker (state g.S.Store c.self.inside.conn) (state g.S.Store c.add_entry.new.conn)
      _ _
      (λ _ trees h entries had alive. rw (
        c.as_str.ensures.value,
        c.as_slice.ensures.value,
      ) at (h _ had.stands alive had.count)) c.add_entry.ensures.crash);
  durable = search rules;
}
