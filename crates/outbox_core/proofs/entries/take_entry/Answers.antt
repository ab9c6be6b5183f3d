use Rattle.std.proofs.Common.{arith, sym}
use Rattle.std.proofs.lemmas.Result.{err_from_is_err_and}
use Rattle.sqlite.specs.Held.{state}
use Rattle.sqlite.specs.State.{HasCleanDisk}
use Rattle.sqlite.proofs.StateLemmas.{survives_weaker, survives_then}
use Rattle.http_messages.specs.Replies.{reply_parts}
use Rattle.table_rows.proofs.LeavingLemmas.{stands}
use Rattle.table_rows.proofs.ResultLemmas.{if_ok}
use Rattle.filing_model.specs.Outbox.{moved}
use Rattle.outbox_tables.specs.Entries.{entry_at}
use Rattle.outbox_core.specs.Entries.{with_state}
use Rattle.filing_model.specs.Views.{view_state}
use Rattle.outbox_tables.specs.Rows.{LeavesOutbox}
use Rattle.outbox_core.proofs.ReadLemmas.{moved_read, none_there, entry_read}
use Rattle.outbox_core.proofs.entries.take_entry.Goals as goal

pub returns-in-Some-clause-moved : goal.returns-in-Some-clause-moved
returns-in-Some-clause-moved g c clean it was =
    let was_clean : HasCleanDisk (state g.S.Store c.state_of_entry.new.conn) =
    omega (arith, c.move_entry.ensures.crash.clean) in
    let o = entry_at it.entries c.args.id in
    let at = sym (rw c.in-Some.is at (c.in_ok-from.ensures.found was_clean it was)) in
    if_ok c.move_entry.result _ _
    (λ to p. (
      moved_read o (view_state c.in-Some.from) (view_state to) (λ s. moved s (reply_parts c.args.reply.now))
          at p.0,
      p.1,
      p.2,
    ))
    (c.move_entry.ensures.moved clean it (stands c.in_ok-from.ensures.leaves was_clean was)
    (c.in_ok-from.ensures.leaves.left was_clean).0.is_open at)

pub returns-in-Some-clause-kept : goal.returns-in-Some-clause-kept
returns-in-Some-clause-kept g c clean it was =
    let was_clean : HasCleanDisk (state g.S.Store c.state_of_entry.new.conn) =
    omega (arith, c.move_entry.ensures.crash.clean) in
    c.move_entry.ensures.kept clean it (stands c.in_ok-from.ensures.leaves was_clean was)

pub returns-in-Some-clause-crash : goal.returns-in-Some-clause-crash
returns-in-Some-clause-crash g c =
    let old = state g.S.Store c.args.conn.now in
    let mid = state g.S.Store c.state_of_entry.new.conn in
    let new = state g.S.Store c.move_entry.new.conn in
    survives_then old mid new _ _ _ (λ _ trees none. absurd none)
    (λ clean trees h it was alive.
    let was_clean : HasCleanDisk mid = omega (arith, c.move_entry.ensures.crash.clean) in
    let o = entry_at it.entries c.args.id in
    let at = sym (rw c.in-Some.is at (c.in_ok-from.ensures.found was_clean it was)) in
    entry_read o (view_state c.in-Some.from) (λ s. LeavesOutbox
    (with_state it c.args.id (moved s (reply_parts c.args.reply.now))) trees) at
    (h it (stands c.in_ok-from.ensures.leaves was_clean was) (c.in_ok-from.ensures.leaves.left was_clean).0.is_open at))
    c.state_of_entry.ensures.leaves.survives c.move_entry.ensures.crash

pub returns-in-None-clause-no_entry : goal.returns-in-None-clause-no_entry
returns-in-None-clause-no_entry g c clean it was is =
    none_there (entry_at it.entries c.args.id) (rw c.in-None.is at (c.in_ok-from.ensures.found clean it was))

pub returns-in-None-clause-crash : goal.returns-in-None-clause-crash
returns-in-None-clause-crash g c =
    survives_weaker (state g.S.Store c.args.conn.now) (state g.S.Store c.state_of_entry.new.conn) _ _
    (λ _ trees none. absurd none) c.state_of_entry.ensures.leaves.survives

pub returns-in_err-from-clause-crash : goal.returns-in_err-from-clause-crash
returns-in_err-from-clause-crash g c =
    survives_weaker (state g.S.Store c.args.conn.now) (state g.S.Store c.state_of_entry.new.conn) _ _
    (λ _ trees none. absurd none) c.state_of_entry.ensures.leaves.survives

pub returns-in-None-clause-kept : goal.returns-in-None-clause-kept
returns-in-None-clause-kept g c clean it was = stands c.in_ok-from.ensures.leaves clean was

pub returns-in_err-from-clause-kept : goal.returns-in_err-from-clause-kept
returns-in_err-from-clause-kept g c clean it was =
    let told = err_from_is_err_and c.from_residual.result c.from_residual.ensures.1 in
    rw told.1 (stands c.in_err-from.ensures.leaves clean was)
