use Rattle.std.proofs.Common.{false}
use Rattle.event_script.specs.Lines.{unescaped}
use Rattle.event_script.proofs.Bytes.{option_map-push}
use Rattle.event_script.proofs.stranger.unescape.Goals as goal

pub loop-byte-preserved : goal.loop-byte-preserved
loop-byte-preserved c =
    rw (
      c.in_ok-push.ensures.items,
      ← option_map-push c.loop-byte.bytes.items c.in-Some.byte (unescaped false c.in-Some.after.now),
      ← c.in-Some.ensures.parts,
    ) c.loop-byte.invariant
