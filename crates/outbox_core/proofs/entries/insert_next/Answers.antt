use Rattle.std.proofs.Common.{◌≡◌, ◌+◌, length, arith, subst}
use Rattle.sqlite.specs.Held.{state}
use Rattle.sqlite.proofs.StateLemmas.{survives_weaker}
use Rattle.outbox_core.specs.Entries.{opened}
use Rattle.outbox_core.specs.Changes.{Adds, AddsTo}
use Rattle.outbox_core.proofs.InsertLemmas.{added_stands, added_leaves, still_stands}
use Rattle.outbox_core.proofs.entries.insert_next.Goals as goal

pub returns-in-Ok-clause-added : goal.returns-in-Ok-clause-added
returns-in-Ok-clause-added g c clean it was alive counted fits =
    let old = state g.S.Store c.args.conn.now in
    let new = state g.S.Store c.keep_entry.new.conn in
    let e = opened c.args.key.now c.args.target c.args.body.now in
    let next : c.args.count + 1 ≡ 1 + length it.entries = omega arith in
    let made =
    added_stands it e fits old new was c.keep_entry.ensures.autocommit
    (subst (λ id. Adds id e old new) next (c.in-Ok.ensures.adds clean)) in
    (next, made.0, made.1)

pub returns-in-Ok-clause-crash : goal.returns-in-Ok-clause-crash
returns-in-Ok-clause-crash g c =
    let old = state g.S.Store c.args.conn.now in
    let e = opened c.args.key.now c.args.target c.args.body.now in
    survives_weaker old (state g.S.Store c.keep_entry.new.conn) _ _ (λ _ trees left it was alive counted fits.
    let next : c.args.count + 1 ≡ 1 + length it.entries = omega arith in
    added_leaves it e fits old trees was alive (subst (λ id. AddsTo id e old.now trees) next left))
    c.keep_entry.ensures.crash

pub returns-in-Err-clause-crash : goal.returns-in-Err-clause-crash
returns-in-Err-clause-crash g c =
    let old = state g.S.Store c.args.conn.now in
    let e = opened c.args.key.now c.args.target c.args.body.now in
    survives_weaker old (state g.S.Store c.keep_entry.new.conn) _ _ (λ _ trees left it was alive counted fits.
    let next : c.args.count + 1 ≡ 1 + length it.entries = omega arith in
    added_leaves it e fits old trees was alive (subst (λ id. AddsTo id e old.now trees) next left))
    c.keep_entry.ensures.crash

pub returns-in-Err-clause-kept : goal.returns-in-Err-clause-kept
returns-in-Err-clause-kept g c clean it was =
    still_stands it (state g.S.Store c.args.conn.now) (state g.S.Store c.keep_entry.new.conn) was
    c.keep_entry.ensures.autocommit (c.in-Err.ensures.neither clean)
