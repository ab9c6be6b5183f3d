use Rattle.std.proofs.Common.{sym, subst, take}
use Rattle.std.proofs.lemmas.List.{take_more}
use Rattle.register_pages.specs.Reading.{AddsText}
use Rattle.register_pages.specs.Visible.{visible}
use Rattle.register_pages.proofs.ReadingLemmas.{adds_none, adds_more}
use Rattle.register_pages.proofs.VisibleLemmas.{visible_more}
use Rattle.register_pages.proofs.escaping.append_bytes.Goals as goal

pub loop-byte-init : goal.loop-byte-init
loop-byte-init c = adds_none _

pub loop-byte-preserved : goal.loop-byte-preserved
loop-byte-preserved c =
    let i = c.loop-byte.byte-index in
    subst (λ t. AddsText (visible t) c.args.written.now.items c.append_byte.new.written.items)
    (sym (take_more c.args.bytes.now i 0 c.loop-byte-test.true))
    (subst (λ t. AddsText t c.args.written.now.items c.append_byte.new.written.items)
    (sym (visible_more (take i c.args.bytes.now) _))
    (adds_more (visible (take i c.args.bytes.now)) _ _ _ _ c.loop-byte.invariant c.in_ok-append_byte.ensures))
