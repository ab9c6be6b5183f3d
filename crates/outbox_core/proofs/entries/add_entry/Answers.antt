use Rattle.std.proofs.Common.{◌≡◌, ◌⊎◌, ℕ, Result, Ok, Err, IfErr, inl, inr, subst, arith, sym, ◌∙◌, Some, None, ap}
use Rattle.std.proofs.Common.{find}
use Rattle.sqlite.specs.Held.{state}
use Rattle.sqlite.specs.State.{HasCleanDisk}
use Rattle.sqlite.proofs.StateLemmas.{survives_weaker, survives_then}
use Rattle.table_rows.proofs.LeavingLemmas.{stands}
use Rattle.table_rows.proofs.ResultLemmas.{on_ok}
use Rattle.outbox_core.specs.Entries.{has_text}
use Rattle.outbox_tables.specs.Entries.{numbered}
use Rattle.outbox_core.proofs.ReadLemmas.{none_found}
use Rattle.outbox_core.proofs.ListLemmas.{one_more}
use Rattle.outbox_core.specs.declared.fault.PutFault.{PutFault}
use Rattle.outbox_core.specs.declared.fault.PutFault.TheVariants as put
use Rattle.outbox_core.proofs.entries.add_entry.Goals as goal

abbrev IsCaused : PutFault → Type 0
IsCaused fault = (fault ≡ put.Memory) ⊎ (fault ≡ put.Store)

-- a refusal by memory or the store is no other
caused : (r : Result ℕ PutFault) (fault : PutFault) → IfErr r IsCaused → r ≡ Err fault → IsCaused fault
caused (Ok id) fault why is = absurd cc
caused (Err f) fault why is = let same : f ≡ fault = cc in subst IsCaused same why

not_used : (id : ℕ) → IsCaused (put.KeyUsed id) → ⊥
not_used id (inl is) = absurd cc
not_used id (inr is) = absurd cc

not_large : IsCaused put.TooLarge → ⊥
not_large (inl is) = absurd cc
not_large (inr is) = absurd cc

pub returns-in-Ok-None-clause-added : goal.returns-in-Ok-None-clause-added
returns-in-Ok-None-clause-added g c clean it was counted =
    let was_clean : HasCleanDisk (state g.S.Store c.id_of_key.new.conn) =
    omega (arith, c.insert_next.ensures.crash.clean) in
    let none : find (has_text c.args.key.now) (numbered it.entries) ≡ None =
    none_found _ (rw c.in-Ok-None.field-0-is at (c.in-Ok-None.ensures.found was_clean it was)) in
    let stands = stands c.in-Ok-None.ensures.leaves was_clean was in
    let alive = (c.in-Ok-None.ensures.leaves.left was_clean).0.is_open in
    c.insert_next.ensures.added clean it stands alive counted
    (one_more it c.args.key.now c.args.target c.args.body.now c.requires.key c.requires.target c.requires.body none
    (stands.now alive).list)

pub returns-in-Ok-None-clause-unused : goal.returns-in-Ok-None-clause-unused
returns-in-Ok-None-clause-unused g c clean it was =
    let was_clean : HasCleanDisk (state g.S.Store c.id_of_key.new.conn) =
    omega (arith, c.insert_next.ensures.crash.clean) in
    on_ok c.insert_next.result (none_found (find (has_text c.args.key.now) (numbered it.entries))
    (rw c.in-Ok-None.field-0-is at (c.in-Ok-None.ensures.found was_clean it was)))

pub returns-in-Ok-None-clause-kept : goal.returns-in-Ok-None-clause-kept
returns-in-Ok-None-clause-kept g c clean it was =
    let was_clean : HasCleanDisk (state g.S.Store c.id_of_key.new.conn) =
    omega (arith, c.insert_next.ensures.crash.clean) in
    c.insert_next.ensures.kept clean it (stands c.in-Ok-None.ensures.leaves was_clean was)

pub returns-in-Ok-None-clause-crash : goal.returns-in-Ok-None-clause-crash
returns-in-Ok-None-clause-crash g c =
    let old = state g.S.Store c.args.conn.now in
    let mid = state g.S.Store c.id_of_key.new.conn in
    let new = state g.S.Store c.insert_next.new.conn in
    survives_then old mid new _ _ _ (λ _ trees none. absurd none)
    (λ clean trees h it was alive counted.
    let was_clean : HasCleanDisk mid = omega (arith, c.insert_next.ensures.crash.clean) in
    let none : find (has_text c.args.key.now) (numbered it.entries) ≡ None =
    none_found _ (rw c.in-Ok-None.field-0-is at (c.in-Ok-None.ensures.found was_clean it was)) in
    let stands = stands c.in-Ok-None.ensures.leaves was_clean was in
    let still = (c.in-Ok-None.ensures.leaves.left was_clean).0.is_open in
    h it stands still counted (one_more it c.args.key.now c.args.target c.args.body.now c.requires.key c.requires.target
    c.requires.body none (stands.now still).list))
    c.id_of_key.ensures.leaves.survives c.insert_next.ensures.crash

pub returns-in-Ok-Some-clause-used : goal.returns-in-Ok-Some-clause-used
returns-in-Ok-Some-clause-used g c clean it was id is =
    let same : c.in-Ok-Some.id ≡ id = cc in
    let found = rw c.in-Ok-Some.field-0-is at (c.in-Ok-Some.ensures.found clean it was) in
    sym found ∙ ap Some same

pub returns-in-Ok-Some-clause-crash : goal.returns-in-Ok-Some-clause-crash
returns-in-Ok-Some-clause-crash g c =
    survives_weaker (state g.S.Store c.args.conn.now) (state g.S.Store c.id_of_key.new.conn) _ _
    (λ _ trees none. absurd none) c.id_of_key.ensures.leaves.survives

pub returns-in-Err-clause-crash : goal.returns-in-Err-clause-crash
returns-in-Err-clause-crash g c =
    survives_weaker (state g.S.Store c.args.conn.now) (state g.S.Store c.id_of_key.new.conn) _ _
    (λ _ trees none. absurd none) c.id_of_key.ensures.leaves.survives

pub returns-in-Ok-None-clause-used : goal.returns-in-Ok-None-clause-used
returns-in-Ok-None-clause-used g c clean it was id is =
    absurd (not_used id (caused c.insert_next.result (put.KeyUsed id) c.insert_next.ensures.causes is))

pub returns-in-Ok-None-clause-any_size : goal.returns-in-Ok-None-clause-any_size
returns-in-Ok-None-clause-any_size g c is =
    not_large (caused c.insert_next.result put.TooLarge c.insert_next.ensures.causes is)

pub returns-in-Ok-Some-clause-kept : goal.returns-in-Ok-Some-clause-kept
returns-in-Ok-Some-clause-kept g c clean it was = stands c.in-Ok-Some.ensures.leaves clean was

pub returns-in-Err-clause-kept : goal.returns-in-Err-clause-kept
returns-in-Err-clause-kept g c clean it was = stands c.in-Err.ensures.leaves clean was
