use Rattle.std.proofs.Common.{◌≡◌, sym, ◌∙◌, ap, subst, Some, rules}
use Rattle.sqlite.specs.Held.{state}
use Rattle.sqlite.proofs.StateLemmas.{survives_weaker}
use Rattle.table_rows.specs.Standing.{HasCommitted}
use Rattle.filing_model.specs.Outbox.{Entry}
use Rattle.outbox_tables.specs.Entries.{entry_at}
use Rattle.outbox_core.specs.Entries.{with_state}
use Rattle.filing_model.specs.Views.{view_state}
use Rattle.outbox_tables.specs.Rows.{IsOutboxOf, LeavesOutbox}
use Rattle.outbox_core.proofs.EntryLemmas.{same_state}
use Rattle.outbox_core.proofs.ReadLemmas.{some_mapped}
use Rattle.outbox_core.proofs.entries.move_entry.Goals as goal

pub returns-then-eq-clause-moved : goal.returns-then-eq-clause-moved
returns-then-eq-clause-moved g c clean it was alive at =
    let same : c.in-Ok.to ≡ c.args.from = search rules in
    let still =
    same_state it.entries c.args.id (view_state c.in-Ok.to) (at ∙ ap (λ s. Some (view_state s)) (sym same)) in (
      c.in-Ok.ensures.moved,
      subst (λ l. HasCommitted (IsOutboxOf (record { filer = it.filer; entries = l }))
          (state g.S.Store c.args.conn.now)) (sym still) was,
      alive,
    )

pub returns-in-Ok-set_state-clause-moved : goal.returns-in-Ok-set_state-clause-moved
returns-in-Ok-set_state-clause-moved g c clean it was alive at =
    let some = some_mapped (λ (e : Entry). e.state) (entry_at it.entries c.args.id) _ at in
    let made = c.in-Ok-set_state.ensures.moved clean it was alive some in
    (c.in-Ok.ensures.moved, made.0, made.1)

pub returns-in-Ok-set_state-clause-crash : goal.returns-in-Ok-set_state-clause-crash
returns-in-Ok-set_state-clause-crash g c =
    survives_weaker (state g.S.Store c.args.conn.now) (state g.S.Store c.set_state.new.conn) _ _
    (λ _ trees h it was alive at. subst (λ s. LeavesOutbox (with_state it c.args.id s) trees) c.in-Ok.ensures.moved
    (h it was alive (some_mapped (λ (e : Entry). e.state) (entry_at it.entries c.args.id) _ at)))
    c.set_state.ensures.crash

pub returns-in-Err-clause-crash : goal.returns-in-Err-clause-crash
returns-in-Err-clause-crash g c =
    survives_weaker (state g.S.Store c.args.conn.now) (state g.S.Store c.set_state.new.conn) _ _
    (λ _ trees h it was alive at. subst (λ s. LeavesOutbox (with_state it c.args.id s) trees) c.in-Ok.ensures.moved
    (h it was alive (some_mapped (λ (e : Entry). e.state) (entry_at it.entries c.args.id) _ at)))
    c.set_state.ensures.crash
