-- The upgrade of a register of an earlier version.
use Rattle.std.specs.Prelude.{◌≡◌, true, List, ℕ, codes, Some}
use Rattle.database_places.specs.declared.access.Access.TheVariants.{Writes}
use Rattle.register_extracts.specs.declared.fault.Why.TheVariants.{Output}
use Rattle.intake_process.specs.Meaning.{Meaning, printing}

-- the line that says that a register was migrated
abbrev pub migrated_line : List ℕ
migrated_line = codes "migrated\n"

abbrev pub migrating : Meaning
migrating =
    record (printing (λ _ _. Some migrated_line) (λ why. why ≡ Output)) {
      is_for_earlier = true;
      judges = true;
      access = Writes;
    }
