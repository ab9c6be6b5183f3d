use Rattle.std.proofs.Common.{◌≡◌, take, arith}
use Rattle.std.proofs.lemmas.Grind.{common_steps}
use Rattle.http_connection.proofs.BufferLemmas.{slice_range-same}
use Rattle.http_connection.proofs.buffer.Buffer.make_room.Goals as goal

pub returns-in_ok-longer-clause-bytes : goal.returns-in_ok-longer-clause-bytes
returns-in_ok-longer-clause-bytes c =
    let old = c.args.self.now in
    let longer = c.copy_into.new.room.items in
    let same : take old.end longer ≡ take old.end old.room.items = grind (arith, common_steps) in
    slice_range-same longer old.room.items old.start old.end old.ordered same
