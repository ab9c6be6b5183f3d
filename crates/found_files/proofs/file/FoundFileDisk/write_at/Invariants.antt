use Rattle.std.proofs.Common.{◌≡◌, ℕ, ◌+◌, ◌-◌, ◌<◌, ◌≤◌, length, slice_index, IsTrue, true}
use Rattle.sqlite_disk.specs.Disk.{Torn, Mixed, Follows}
use Rattle.sqlite_disk.specs.History.{MayLeave}
use Rattle.found_files.specs.Found.{model}
use Rattle.found_files.proofs.file.FoundFileDisk.write_at.Given as goal

abbrev pub invariant-loop-done : goal.invariant-loop-done
invariant-loop-done g l =
    let old = model (g.C.Calls.history l.fn.self.calls) l.fn.self in
    let now = model (g.C.Calls.history l.self.calls) l.self in
    let step = Torn l.at (length l.bytes) in
    let was = MayLeave true old.seen old.synced old.steps in
    let is = MayLeave true now.seen now.synced now.steps in
    (l.done ≤ length l.bytes) × (now.is_usable ≡ old.is_usable) × (now.faults ≡ old.faults)
    × (now.is_honest ≡ old.is_honest)
    × (0 < l.done → l.at + l.done ≤ length now.seen)
    × step old.seen now.seen × Follows step was is
    × ((i : ℕ) → i < l.done → slice_index now.seen (l.at + i) ≡ slice_index l.bytes i)
    × (now.is_fair ≡ old.is_fair) × (now.caught ≡ old.caught) × (now.refused ≡ old.refused) × (now.key ≡ old.key)
    × (IsTrue true → Follows (Mixed l.at l.bytes) was is)

abbrev pub decreases-loop-done : goal.decreases-loop-done
decreases-loop-done g l = length l.bytes - l.done
