use Rattle.std.proofs.Common.{◌≡◌, ◌+◌, ◌∷◌, ◌++◌, [], length, drop, refl, ap, ◌∙◌, arith}
use Rattle.std.proofs.lemmas.List.{append_assoc, drop-drop, length-append, map-append}
use Rattle.event_script.specs.Text.{lines_of}
use Rattle.event_script.proofs.read.read_filers.Goals as goal

pub loop-filer-preserved : goal.loop-filer-preserved
loop-filer-preserved c =
    let items : c.push_reserved.new.self.items ≡ c.loop-filer.filers.items ++ c.in_ok-filer.filer ∷ [] =
    rw (c.push_reserved.ensures.items, c.in_ok-reserve.ensures.items) refl in
    let count : length c.push_reserved.new.self.items ≡ length c.loop-filer.filers.items + 1 =
    rw (items, length-append) refl in
    let so_far = length c.loop-filer.filers.items in
    let all = lines_of c.args.text.rest.now in (
      rw (
        items,
        map-append,
        append_assoc,
        c.in_ok-filer.ensures.ok,
        ← c.in-Some.ensures.filer,
      ) c.loop-filer.invariant.0,
      rw count (c.in-Some.ensures.behind ∙ ap (drop 1) c.loop-filer.invariant.1 ∙ drop-drop 1 so_far all),
      omega (arith, count, c.loop-filer.invariant.2, c.in-Some.ensures.number),
    )
