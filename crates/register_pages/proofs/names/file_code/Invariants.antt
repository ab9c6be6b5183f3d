use Rattle.std.proofs.Common.{◌≡◌, take}
use Rattle.register_pages.specs.Pages.{file_code}
use Rattle.register_pages.proofs.names.file_code.Given as goal

abbrev pub invariant-loop-letter : goal.invariant-loop-letter
invariant-loop-letter l = l.code.items ≡ file_code (take l.letter-index l.filer)
