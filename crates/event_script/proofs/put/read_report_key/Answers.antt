use Rattle.std.proofs.Common.{sym, rules}
use Rattle.key_string.proofs.Fields.{key_of_field-spelled}
use Rattle.event_script.proofs.Keys.{key_of_field-fault}
use Rattle.event_script.proofs.put.read_report_key.Goals as goal

pub returns-in-Ok : goal.returns-in-Ok
returns-in-Ok c = sym (key_of_field-spelled c.args.field.now c.in-Ok.key c.in-Ok.ensures.ok.1 c.in-Ok.ensures.ok.0)

pub returns-in-Err : goal.returns-in-Err
returns-in-Err c = sym (key_of_field-fault c.args.field.now c.in-Err._fault c.in-Err.ensures.fault (search rules))
