use Rattle.std.proofs.Common.{◌≡◌, ◌≤◌, ◌∷◌, None, pos, ap, sym, subst, ◌∙◌, w64, arith}
use Rattle.std.proofs.lemmas.List.{get_or_past}
use Rattle.std.proofs.lemmas.Int.{to_z-of_z}
use Rattle.std.proofs.lemmas.Result.{IfOk-weaker}
use Rattle.sqlite.specs.Held.{state}
use Rattle.table_rows.specs.Reading.{ReadsRows}
use Rattle.register_rows.specs.Schema.{received_table}
use Rattle.register_tables.specs.Reads.{by_first, by_second}
use Rattle.register_store.specs.Found.{has_seq}
use Rattle.register_store.specs.Moments.{moment_in}
use Rattle.register_store.proofs.DateLemmas.{moment_read, moment_within}
use Rattle.register_store.proofs.ListLemmas.{knows_all}
use Rattle.register_store.proofs.StoreLemmas.{answers_last, keeps_store}
use Rattle.table_rows.proofs.OutcomeLemmas.{concluded}
use Rattle.register_store.proofs.store.Store.moment_at.Goals as goal
use Rattle.register_store.proofs.store.Store.moment_at.Goals.{then-seq-self, else-seq-self}

pub returns-clause-moment : goal.returns-clause-moment
returns-clause-moment g c clean F has moments had =
    let was = rw (← c.self.view_is) at has in
    let dated = rw (← c.self.view_is) at had in
    let old = state g.S.Store c.self.inside.conn in
    let new = state g.S.Store c.moment_at.new.conn in
    let place = c.if-seq-self.place in
    let rows = c.in_ok-rows.rows.items in
    let low : place ≤ c.self.inside.kept = elim c.if-seq-self.branch [
      | then-seq-self w ↦ omega (arith, w.place-is, w.if-seq-self.true)
      | else-seq-self w ↦ omega (arith, w.place-is)
    ] in
    let same : moment_in moments place ≡ moment_in moments c.args.seq = elim c.if-seq-self.branch [
      | then-seq-self w ↦ ap (moment_in moments) w.place-is
      | else-seq-self w ↦
          ap (moment_in moments) w.place-is
          ∙ sym (get_or_past (None ∷ moments) c.args.seq None (omega (arith, w.if-seq-self.false, dated.one_each)))
    ] in
    let read : ReadsRows received_table (has_seq (pos place)) by_first by_second rows old new =
    subst (λ s. ReadsRows received_table (has_seq s) by_first by_second rows old new)
    (to_z-of_z w64 (pos place) (record { sfits = omega (arith, low, c.self.invariant.few) }))
    (c.in_ok-rows.ensures.read clean (knows_all F old was.stands)) in
    IfOk-weaker c.read_first.result _ _ (λ moment h. h ∙ same)
    (c.read_first.ensures (moment_in moments place) (moment_within moments old new rows dated.stands place read)
    (c.deref.ensures.value ∙ moment_read moments old new rows dated.stands place read))

pub returns-clause-keeps : goal.returns-clause-keeps
returns-clause-keeps g c =
    rw (← c.self.view_is) (keeps_store g.S.Store _ c.moment_at.new.conn c.moment_at.ensures.leaves)

pub returns-clause-durable : goal.returns-clause-durable
returns-clause-durable g c clean F = rw (← c.self.view_is) (λ had.
    answers_last g.S.Store _ c.moment_at.new.conn F had clean c.read_first.result
    (concluded c.read_first.result c.in_ok-rows.ensures.leaves)
    (g.met.S.Store.settled c.moment_at.new.conn.store))

pub returns-in_err-rows-clause-keeps : goal.returns-in_err-rows-clause-keeps
returns-in_err-rows-clause-keeps g c =
    rw (← c.self.view_is) (keeps_store g.S.Store _ c.moment_at.new.conn c.moment_at.ensures.leaves)
