use Rattle.std.proofs.Common.{◌≡◌, ℤ, pos, subst, arith, w64, to_z, [], ◌∷◌}
use Rattle.std.proofs.lemmas.Int.{ints}
use Rattle.sqlite.specs.declared.types.Value.TheVariants.{Int}
use Rattle.sqlite.specs.Held.{state}
use Rattle.sqlite.specs.State.{Executes, CommitsBy}
use Rattle.sqlite.proofs.StateLemmas.{survives_weaker}
use Rattle.table_rows.proofs.WriteLemmas.{refused_stands}
use Rattle.filing_model.specs.Views.{view_state}
use Rattle.outbox_tables.specs.Rows.{IsOutboxOf, code_of, number_of}
use Rattle.outbox_core.proofs.Texts.{update_text}
use Rattle.outbox_core.proofs.UpdateLemmas.{bound_number, update_stands, update_leaves}
use Rattle.outbox_core.proofs.ListLemmas.{another_state}
use Rattle.outbox_core.proofs.rows.set_state.Goals as goal

pub returns-clause-moved : goal.returns-clause-moved
returns-clause-moved g c clean it was alive found =
    let old = state g.S.Store c.args.conn.now in
    let new = state g.S.Store c.execute.new.self in
    let to = view_state c.args.state in
    let id : to_z w64 c.args.id ≡ pos c.args.id = omega (arith, ints) in
    let ran =
    rw (
      c.params-to_sql.ensures,
      c.params-to_sql-2.ensures,
      c.params-to_sql-3.ensures,
      c.code_of.ensures,
      c.number_of.ensures,
      bound_number to,
    ) at (c.execute.ensures.runs clean) in
    let fits = another_state it c.args.id to c.requires.number (was.now alive).list in
    update_stands old new it was alive to c.args.id found fits c.execute.result
    (subst (λ (n : ℤ). Executes update_text (Int n ∷ Int (pos (code_of to)) ∷ number_of to ∷ []) old new
    c.execute.result) id ran)

pub returns-clause-kept : goal.returns-clause-kept
returns-clause-kept g c clean it was =
    let old = state g.S.Store c.args.conn.now in
    let new = state g.S.Store c.execute.new.self in
    refused_stands update_text _ old new (IsOutboxOf it) was c.execute.result (c.execute.ensures.runs clean)

pub returns-clause-crash : goal.returns-clause-crash
returns-clause-crash g c =
    let old = state g.S.Store c.args.conn.now in
    let new = state g.S.Store c.execute.new.self in
    let to = view_state c.args.state in
    let id : to_z w64 c.args.id ≡ pos c.args.id = omega (arith, ints) in
    let left =
    rw (
      c.params-to_sql.ensures,
      c.params-to_sql-2.ensures,
      c.params-to_sql-3.ensures,
      c.code_of.ensures,
      c.number_of.ensures,
      bound_number to,
    ) at c.execute.ensures.survives in
    survives_weaker old new _ _ (λ _ trees h it was alive found.
    let fits = another_state it c.args.id to c.requires.number (was.now alive).list in
    update_leaves old new it was alive to c.args.id found fits trees
    (subst (λ (n : ℤ). CommitsBy update_text (Int n ∷ Int (pos (code_of to)) ∷ number_of to ∷ []) old trees) id h))
    left
