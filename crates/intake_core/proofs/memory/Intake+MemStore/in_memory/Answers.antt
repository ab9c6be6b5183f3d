use Rattle.std.proofs.Common.{rules, ◌≡◌, [], refl}
use Rattle.sqlite.proofs.Callers.{memory_is_clean}
use Rattle.sqlite.specs.Held.{state}
use Rattle.sqlite.specs.Steps.{over_memory}
use Rattle.filing_model.specs.Request.{firsts}
use Rattle.table_rows.specs.Tables.{no_schema}
use Rattle.intake_core.proofs.memory.Intake+MemStore.in_memory.Goals as goal

pub returns-in_ok-create-in-Ok-clause-empty : goal.returns-in_ok-create-in-Ok-clause-empty
unfolding firsts
returns-in_ok-create-in-Ok-clause-empty c =
    let none : (state over_memory c.in-Ok.conn).now.schema ≡ no_schema = search (rules) in
    let made = c.in_ok-create-in-Ok.ensures.outcome.made in
    c.new.ensures.holds [] refl (made (memory_is_clean c.in_ok-create-in-Ok.field-0.conn) none)
