use Rattle.std.proofs.Common.{refl}
use Rattle.key_string.proofs.Fields.{key_of_field-spelled}
use Rattle.gateway_requests.proofs.Keys.{NoKeyOf-fault}
use Rattle.gateway_requests.proofs.route.key_in.Goals as goal

pub returns-in-Ok : goal.returns-in-Ok
returns-in-Ok c = (
  c.args.value.now,
  refl,
  key_of_field-spelled c.args.value.now c.in-Ok.key c.in-Ok.ensures.ok.1
      c.in-Ok.ensures.ok.0,
)

pub returns-in-Err : goal.returns-in-Err
returns-in-Err c = rw c.from_fault.ensures (NoKeyOf-fault c.args.value.now c.in-Err.fault c.in-Err.ensures.fault)
