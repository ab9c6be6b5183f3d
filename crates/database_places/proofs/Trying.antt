-- What lies in a place while its files are tried again.
use Rattle.std.specs.Prelude.{◌≡◌, Option, Some, None, ⊤}
use Rattle.sqlite_disk.specs.declared.Files.{Files}

-- what lay there, where that is known, lies there still
abbrev pub Stays : {D : Type 0} → Option (Option (Files D)) → Option (Option (Files D)) → Type 0
Stays None new = ⊤
Stays (Some there) new = new ≡ Some there
