use Rattle.std.proofs.Common.{◌≡◌, w64, pos, arith, ap, ◌∙◌}
use Rattle.std.specs.Prelude.{string_bytes, option_map}
use Rattle.std.proofs.lemmas.Int.{to_z-of_z}
use Rattle.sqlite.specs.declared.types.Value.TheVariants.{Blob}
use Rattle.sqlite.specs.Values.{or_null}
use Rattle.sqlite.specs.Held.{state}
use Rattle.table_rows.proofs.GainLemmas.{bound_maybe, bound_maybe_blob}
use Rattle.register_store.proofs.OurGains.{fact_gains, held_as, on_ran}
use Rattle.register_store.proofs.rows.FactInsertItem.insert.Goals as goal

pub returns : goal.returns
returns g c =
    let inside = c.self.inside in
    let value : or_null (λ b. Blob b.now) c.bytes_of-value.result
    ≡ or_null Blob (option_map (λ s. string_bytes s) inside.value) =
    held_as Blob _ c.bytes_of-value.result ∙ ap (or_null Blob) c.bytes_of-value.ensures in
    record {
      leaves = c.run.ensures.leaves;
      was_inside = c.run.ensures.inside;
      gains = λ clean. on_ran c.run.result (c.run.ensures.ran clean) (λ ran.
          rw (← c.self.view_is)
          (fact_gains (state g.S.Store c.args.tx.now.conn.now) (state g.S.Store c.run.new.tx.conn.now)
          (pos c.args.number) (pos c.args.at) _ _ _ (option_map (λ s. string_bytes s) inside.value) inside.decimals
          ran.0
          (rw (
            c.params-to_sql.ensures,
            c.params-to_sql-2.ensures,
            c.params-to_sql-3.ensures,
            c.params-to_sql-4.ensures,
            c.params-to_sql-5.ensures,
            c.params-to_sql-6.ensures,
            c.params-to_sql-7.ensures,
            c.as_bytes-id.ensures.value,
            c.as_bytes-concept.ensures.value,
            c.as_bytes-dimensions.ensures.value,
            value,
            bound_maybe_blob (option_map (λ s. string_bytes s) inside.value),
            bound_maybe inside.decimals,
            to_z-of_z w64 (pos c.args.number) (record { sfits = omega (arith, c.requires.number) }),
            to_z-of_z w64 (pos c.args.at) (record { sfits = omega (arith, c.requires.at) }),
          ) at ran.1)));
    }
