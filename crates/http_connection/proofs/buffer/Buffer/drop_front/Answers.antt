use Rattle.std.proofs.Common.{◌≡◌, ◌≤◌, ◌-◌, length, arith, vec_len}
use Rattle.std.proofs.lemmas.Grind.{common_steps}
use Rattle.http_connection.proofs.BufferLemmas.{slice_range-drop, slice_range-len}
use Rattle.http_connection.proofs.buffer.Buffer.drop_front.Goals as goal

pub returns : goal.returns
returns c =
    let old = c.args.self.now in
    let size : length old.room.items ≡ vec_len old.room = grind (arith, common_steps) in
    let within : old.end ≤ length old.room.items = omega (arith, size, old.within) in
    let fits : c.args.count ≤ old.end - old.start =
    omega (arith, c.requires, slice_range-len old.room.items old.start old.end old.ordered within) in
    slice_range-drop old.room.items old.start old.end c.args.count old.ordered within fits
