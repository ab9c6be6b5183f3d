use Rattle.std.proofs.Common.{ap, ◌∙◌}
use Rattle.sha2.specs.Sha256.{sha256}
use Rattle.register_extracts.specs.Digest.{fields, next_digest}
use Rattle.register_extracts.specs.Views.{view_row}
use Rattle.register_extracts.proofs.Adding.{lines_behind}
use Rattle.register_extracts.proofs.digest.next.Goals as goal

pub returns : goal.returns
unfolding next_digest
returns c =
    let first = c.add_number.ensures _ (c.update.ensures _ c.new-hasher.ensures) in
    let second = c.add_line.ensures _ first in
    let third = c.add_line-2.ensures _ second in
    let fourth = c.add_number-2.ensures _ third in
    let fifth = c.add_number-3.ensures _ fourth in
    let sixth = c.add_number-4.ensures _ fifth in
    let seventh = c.add_body.ensures _ sixth in
    rw (c.as_slice.ensures, c.as_bytes.ensures.value, c.as_bytes-2.ensures.value) at (c.finalize.ensures _ seventh)
    ∙ ap sha256 (lines_behind c.args.before.now (fields c.args.seq (view_row c.args.row.now)))
