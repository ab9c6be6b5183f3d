use Rattle.std.proofs.Common.{rules, ◌≡◌}
use Rattle.drill_commands.specs.Status.{status_by}
use Rattle.drill_commands.proofs.tasks.perform_input.Goals as goal

pub returns-in-Ok : goal.returns-in-Ok
returns-in-Ok g c =
    let says : c.in-Ok.status ≡ status_by c.perform_script.result = search rules in
    record {
      before = c.new.result;
      after = c.perform_script.new.reader;
      input_is_read = search rules;
      fresh = c.new.ensures.failures;
      result = c.perform_script.result;
      performs = c.perform_script.ensures;
      says = says;
    }

pub returns-in-Err : goal.returns-in-Err
returns-in-Err g c =
    let says : c.tell.result ≡ status_by c.perform_script.result = search rules in
    record {
      before = c.new.result;
      after = c.perform_script.new.reader;
      input_is_read = search rules;
      fresh = c.new.ensures.failures;
      result = c.perform_script.result;
      performs = c.perform_script.ensures;
      says = says;
    }
