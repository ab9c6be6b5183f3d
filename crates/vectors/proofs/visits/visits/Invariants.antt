use Rattle.std.proofs.Common.{IsTrue}
use Rattle.sqlite_disk.specs.Memory.{memory_is_usable}
use Rattle.vectors.proofs.visits.visits.Given as goal

abbrev pub invariant-loop-visit : goal.invariant-loop-visit
invariant-loop-visit l = IsTrue (memory_is_usable l.files.log) × IsTrue (memory_is_usable l.files.db)
