use Rattle.std.proofs.Common.{◌≡◌, ℕ, ◌+◌, ◌-◌, ◌<◌, ◌≤◌, ◌&&◌, List, length, take, slice_index, IsTrue, sym, ◌∙◌}
use Rattle.std.proofs.Common.{ap, inl, inr, arith, rules, get_or-take}
use Rattle.std.proofs.lemmas.List.{places}
use Rattle.std.proofs.lemmas.Bool.{cases_lt, and_parts}
use borrow.Rule.Slice.PartMut.{put_mid}
use Rattle.sqlite_disk.specs.Events.{agrees}
use Rattle.found_files.specs.Found.{model}
use Rattle.sqlite_disk.proofs.EventLemmas.{Holds-agrees}
use Rattle.found_files.proofs.file.FoundFileDisk.read_at.Goals as goal

pub loop-done-preserved : goal.loop-done-preserved
loop-done-preserved g c =
    let at = c.args.at in
    let done = c.loop-done.done in
    let inv = c.loop-done.invariant in
    let now = model (g.C.Calls.history c.loop-done.self.calls) c.loop-done.self in
    let got = c.in_ok-done.field-0 in
    let e = c.in_ok-done.ensures in
    let part = take got c.read_some.new.buf in
    let from = c.saturating_add.result in
    let is : from ≡ at + done = omega (arith, c.saturating_add.ensures, e.count.2) in
    let room : got ≤ length c.read_some.new.buf = search (rules, places) in
    let left : length c.read_some.new.buf ≡ length c.loop-done.buf - done = search (rules, places) in
    let taken : length part ≡ got = search (rules, places) in
    let holds = λ (h : IsTrue (now.is_honest && agrees now.seen from part)).
    Holds-agrees now.seen from part (and_parts _ _ h).1 in
    rw e.noted (
      search (rules, places),
      inv.1,
      inv.2,
      inv.3,
      inv.4,
      inv.5,
      λ h. inv.6 (and_parts now.is_honest (agrees now.seen from part) h).0,
      λ h some. omega (arith, (holds h).within, ap length inv.1),
      λ (h : IsTrue (now.is_honest && agrees now.seen from part)) i low. elim (cases_lt i done) [
        | inl early ↦
            let kept : slice_index c.loop-done.buf i
            ≡ slice_index (put_mid done (length c.loop-done.buf - done) c.loop-done.buf c.read_some.new.buf) i
            = search (rules, places) in
            inv.8 (and_parts now.is_honest (agrees now.seen from part) h).0 i early ∙ kept
        | inr late ↦
            let here : at + i ≡ from + (i - done) = omega arith in
            let inside : i - done < got = omega arith in
            let within : i - done < length part = omega arith in
            let put : slice_index c.read_some.new.buf (i - done)
            ≡ slice_index (put_mid done (length c.loop-done.buf - done) c.loop-done.buf c.read_some.new.buf) i
            = search (rules, places) in
            ap (λ (s : List ℕ). slice_index s (at + i)) (sym inv.1) ∙ ap (slice_index now.seen) here
            ∙ (holds h).each (i - done) within
            ∙ get_or-take got c.read_some.new.buf (i - done) 0 inside ∙ put
      ],
      inv.9,
      inv.10,
      inv.11,
    )
