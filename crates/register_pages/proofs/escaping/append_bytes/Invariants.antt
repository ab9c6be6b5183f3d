use Rattle.std.proofs.Common.{take}
use Rattle.register_pages.specs.Reading.{AddsText}
use Rattle.register_pages.specs.Visible.{visible}
use Rattle.register_pages.proofs.escaping.append_bytes.Given as goal

abbrev pub invariant-loop-byte : goal.invariant-loop-byte
invariant-loop-byte l = AddsText (visible (take l.byte-index l.bytes)) l.initial.written.items l.written.items
