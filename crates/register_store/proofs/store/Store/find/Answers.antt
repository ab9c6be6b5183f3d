use Rattle.register_store.proofs.StoreLemmas.{answers_last, keeps_store}
use Rattle.register_store.proofs.store.Store.find.Goals as goal

pub returns : goal.returns
returns g c = record {
  found = λ clean F has. let had = rw (← c.self.view_is) at has in
      rw (← c.as_str.ensures.value) (c.find_kept.ensures.found clean c.self.inside.old_style F had.stands);
  style = λ clean F. rw (← c.self.view_is, ← c.as_str.ensures.value)
      (λ had. c.find_kept.ensures.style clean F had.stands);
  keeps = rw (← c.self.view_is) (keeps_store g.S.Store _ c.find_kept.new.conn c.find_kept.ensures.leaves);
  durable =
      λ clean F. rw (← c.self.view_is) (λ had. answers_last g.S.Store _ c.find_kept.new.conn F had clean
      c.find_kept.result c.find_kept.ensures.leaves (g.met.S.Store.settled c.find_kept.new.conn.store));
}
