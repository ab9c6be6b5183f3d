-- What a fault says of the files of a register.
use Rattle.std.specs.Prelude.{Bool, true, false, Result, Ok, Err}
use Rattle.register_tables.specs.declared.fault.OpenFault.TheVariants.{Memory, Disk}
use Rattle.register_extracts.specs.declared.fault.Why.{Why}
use Rattle.register_extracts.specs.declared.fault.Why.TheVariants as why

-- the files gave no database, or the database no register
abbrev pub is_refusal : Why → Bool
is_refusal (why.Files fault) = true
is_refusal (why.Open fault) = true
is_refusal (why.Migrate fault) = true
is_refusal other = false

abbrev pub is_refused : {X : Type 0} → Result X Why → Bool
is_refused (Ok done) = false
is_refused (Err why) = is_refusal why

-- Whether such a fault leaves doubt of what lies in the place. The place gave no database once the files were taken, a
-- register was being made, or memory or the disk refused a migration, which may be committed all the same. Otherwise
-- nothing was taken, or nothing was committed.
abbrev pub leaves_doubt : Bool → Why → Bool
leaves_doubt was_taken (why.Files fault) = was_taken
leaves_doubt was_taken (why.Create fault) = true
leaves_doubt was_taken (why.Migrate Memory) = true
leaves_doubt was_taken (why.Migrate Disk) = true
leaves_doubt was_taken other = false
