use Rattle.register_tables.proofs.select.picks.counted.Goals as goal

pub returns-clause-shown : goal.returns-clause-shown
returns-clause-shown g c clean = record {
  rows = c.in_ok-rows.rows.items;
  shown = c.in_ok-rows.ensures.shown clean;
  value = rw c.deref.ensures.value at c.count_in.ensures.value;
  complete = rw c.deref.ensures.value at c.count_in.ensures.complete;
}
