use Rattle.std.proofs.Common.{take}
use Rattle.outbox_commands.specs.Puts.{AreReadFor, AreFit}
use Rattle.outbox_commands.proofs.putting.read_each.Given as goal

abbrev pub invariant-loop-file : goal.invariant-loop-file
invariant-loop-file g l =
    AreReadFor l.key_text (take l.file-index l.files) l.reports.items × AreFit l.is_strict l.reports.items
