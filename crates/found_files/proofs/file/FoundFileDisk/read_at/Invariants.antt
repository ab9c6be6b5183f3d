use Rattle.std.proofs.Common.{◌≡◌, ℕ, ◌+◌, ◌-◌, ◌<◌, ◌≤◌, length, slice_index, IsTrue}
use Rattle.found_files.specs.Found.{model}
use Rattle.found_files.proofs.file.FoundFileDisk.read_at.Given as goal

abbrev pub invariant-loop-done : goal.invariant-loop-done
invariant-loop-done g l =
    let old = model (g.C.Calls.history l.fn.self.calls) l.fn.self in
    let now = model (g.C.Calls.history l.self.calls) l.self in
    (l.done ≤ length l.buf) × (now.seen ≡ old.seen) × (now.synced ≡ old.synced) × (now.steps ≡ old.steps)
    × (now.is_usable ≡ old.is_usable) × (now.faults ≡ old.faults)
    × (IsTrue now.is_honest → IsTrue old.is_honest)
    × (IsTrue now.is_honest → 0 < l.done → l.at + l.done ≤ length old.seen)
    × (IsTrue now.is_honest → (i : ℕ) → i < l.done → slice_index old.seen (l.at + i) ≡ slice_index l.buf i)
    × (now.caught ≡ old.caught) × (now.refused ≡ old.refused) × (now.key ≡ old.key)

abbrev pub decreases-loop-done : goal.decreases-loop-done
decreases-loop-done g l = length l.initial.buf - l.done
