use Rattle.std.proofs.Common.{Ok, Err, refl, sym, ◌∙◌, inl, map}
use Rattle.std.specs.Prelude.{string_bytes}
use Rattle.intake_commands.proofs.Done.{unwanted}
use Rattle.intake_commands.proofs.Performed.{read_as, as_served, as_reading, as_writing}
use Rattle.intake_commands.proofs.program.perform.Goals as goal

pub returns-in-Ok-Err : goal.returns-in-Ok-Err
returns-in-Ok-Err g c =
    let read = read_as (map string_bytes c.args.words.now) c.in-Ok-Err.field-0-is c.in-Ok-Err.ensures.read in
    unwanted _ _ _ (sym c.if-asks_for_init.false ∙ c.asks_for_init.ensures)
    (inl (Err c.in-Ok-Err.fault, read, (c.tell-in-Ok-Err.ensures, refl)))

pub returns-in-Serve : goal.returns-in-Serve
returns-in-Serve g c =
    let read = read_as (map string_bytes c.args.words.now) c.in-Ok-Ok.field-0-is c.in-Ok-Ok.ensures.read in
    unwanted _ _ _ (sym c.if-asks_for_init.false ∙ c.asks_for_init.ensures)
    (inl (
      Ok c.in-Ok-Ok.asked,
      read,
      as_served _ _ _ _ _ _ _ c.in-Serve.serving _ _ c.in-Serve.is c.perform_in.ensures c.port_of-port.ensures,
    ))

pub returns-in_default : goal.returns-in_default
returns-in_default g c =
    let read = read_as (map string_bytes c.args.words.now) c.in-Ok-Ok.field-0-is c.in-Ok-Ok.ensures.read in
    unwanted _ _ _ (sym c.if-asks_for_init.false ∙ c.asks_for_init.ensures)
    (inl (
      Ok c.in-Ok-Ok.asked,
      read,
      as_reading _ _ _ _ _ _ _ c.access.result c.opens_for_reading.result _ c.in_default.not-Serve
          c.access.ensures c.opens_for_reading.ensures c.if-opens_for_reading.true c.perform_in-in_default.ensures,
    ))

pub returns : goal.returns
returns g c =
    let read = read_as (map string_bytes c.args.words.now) c.in-Ok-Ok.field-0-is c.in-Ok-Ok.ensures.read in
    unwanted _ _ _ (sym c.if-asks_for_init.false ∙ c.asks_for_init.ensures)
    (inl (
      Ok c.in-Ok-Ok.asked,
      read,
      as_writing _ _ _ _ _ _ _ c.access.result c.opens_for_reading.result _ c.in_default-2.not-Serve
          c.access.ensures c.opens_for_reading.ensures c.if-opens_for_reading.false c.perform_in-in_default-2.ensures,
    ))
