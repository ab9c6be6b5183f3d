use Rattle.std.proofs.Common.{◌++◌, drop, subst, take}
use Rattle.std.proofs.lemmas.List.{take_rest}
use Rattle.std.proofs.lemmas.Result.{on_ok_weaker}
use Rattle.register_pages.specs.Reading.{AddsText}
use Rattle.register_pages.specs.Short.{ellipsis}
use Rattle.register_pages.specs.Visible.{visible}
use Rattle.register_pages.proofs.ReadingLemmas.{adds_more}
use Rattle.register_pages.proofs.VisibleLemmas.{visible_parts}
use Rattle.register_pages.proofs.short.append_ends.Goals as goal

pub returns : goal.returns
returns c =
    let first = take c.args.first c.args.bytes.now in
    let last = drop c.args.behind c.args.bytes.now in
    rw (visible_parts first last) (on_ok_weaker c.append_bytes-3.result (λ then.
    adds_more (visible first ++ ellipsis) (visible last) _ _ _ (adds_more (visible first) ellipsis _ _ _
    c.in_ok-append_bytes.ensures (rw c.as_bytes.ensures.value at c.in_ok-append_bytes-2.ensures))
    (subst (λ text. AddsText (visible text) c.append_bytes-2.new.written.items c.append_bytes-3.new.written.items)
    (take_rest c.args.bytes.now c.args.behind) then)) c.append_bytes-3.ensures)
