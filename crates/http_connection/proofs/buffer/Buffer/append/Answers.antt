use Rattle.std.proofs.Common.{◌++◌, ap₂, ◌∙◌}
use Rattle.http_connection.proofs.BufferLemmas.{slice_range-join, slice_range-same}
use Rattle.http_connection.proofs.buffer.Buffer.append.Goals as goal

pub returns-clause-bytes : goal.returns-clause-bytes
returns-clause-bytes c =
    let old = c.args.self.now in
    let room = c.copy_into.new.room.items in
    slice_range-join room old.start old.end _ old.ordered
    ∙ ap₂ (λ front back. front ++ back)
    (slice_range-same room old.room.items old.start old.end old.ordered c.copy_into.ensures.front)
    c.copy_into.ensures.put
