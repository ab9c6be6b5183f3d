use Rattle.std.proofs.Common.{refl}
use Rattle.http_wire.specs.Wire.{wire}
use Rattle.intake_process.proofs.Away.{nothing}
use Rattle.intake_process.proofs.turning.turn_away.Goals as goal

pub returns-in-Err : goal.returns-in-Err
returns-in-Err g c = nothing (wire g.R.Source g.W.Sink c.args.reader.now c.args.writer.now) _ c.new.ensures.items refl
