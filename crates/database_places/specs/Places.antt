-- What is taken out of a place and put into it; own rules. Contracts see of a place, if that is known, the files that
-- lie there, if there are some.
use Rattle.std.specs.Prelude.{◌≡◌, ◌↔◌, Bool, true, [], Option, Some, None, Result, IfOk, OnErr, ⊤}
use Rattle.sqlite_disk.specs.declared.Disk.{Ghosts}
use Rattle.sqlite_disk.specs.declared.Files.{Files}
use Rattle.sqlite.specs.Files.{image_of, IsNothing}

-- each read of such a disk gave what was written
abbrev pub IsHonest : {D : Type 0} → Ghosts D → Type 0
IsHonest {D} g = (disk : D) → g.is_clean disk ≡ true

-- the answer says whether no files lie there
abbrev pub TellsMissing : {D : Type 0} → Option (Option (Files D)) → Bool → Type 0
TellsMissing None told = ⊤
TellsMissing (Some there) told = (told ≡ true) ↔ (there ≡ None)

-- if the answer says that empty files lie there, the database file has no bytes
abbrev pub TellsEmpty : {D : Type 0} → Ghosts D → Option (Option (Files D)) → Bool → Type 0
TellsEmpty g (Some (Some files)) told = told ≡ true → g.seen files.db ≡ []
TellsEmpty g _ told = ⊤

-- The files that lay there are taken out, or new ones if there were none. A refusal takes nothing.
abbrev pub Takes : {D E : Type 0} → Ghosts D → Option (Option (Files D)) → Option (Option (Files D))
    → Result (Files D) E → Type 0
Takes g None new result = ⊤
Takes g (Some (Some there)) new result =
    IfOk result (λ files. (files ≡ there) × (new ≡ Some None)) × OnErr result (new ≡ Some (Some there))
Takes g (Some None) new result =
    IfOk result (λ files. IsNothing (image_of g files) × (new ≡ Some None)) × OnErr result (new ≡ Some None)

-- these files lie there now
abbrev pub Leaves : {D : Type 0} → Option (Option (Files D)) → Option (Option (Files D)) → Files D → Type 0
Leaves None new files = ⊤
Leaves (Some there) new files = new ≡ Some (Some files)

-- files that lay there still lie there
abbrev pub KeepsLying : {D : Type 0} → Option (Option (Files D)) → Option (Option (Files D)) → Type 0
KeepsLying (Some (Some files)) new = new ≡ Some (Some files)
KeepsLying _ new = ⊤

-- files lie there of which this holds
abbrev pub Lie : {D : Type 0} → Option (Option (Files D)) → (Files D → Type 0) → Type 0
Lie lying Are = (files : Files _) × (lying ≡ Some (Some files)) × Are files
