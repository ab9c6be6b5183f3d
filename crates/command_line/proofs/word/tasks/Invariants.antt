use Rattle.std.proofs.Common.{◌≡◌, map, take}
use Rattle.command_line.specs.Words.{name_of}
use Rattle.command_line.proofs.word.tasks.Given as goal

abbrev pub invariant-loop-word : goal.invariant-loop-word
invariant-loop-word g l = map name_of l.tasks.items ≡ map (λ w. w.name.now) (take l.word-index l.words)
