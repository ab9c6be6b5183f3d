-- Errands to a register: what they print of it, and what becomes of it. `out` and `out'` are what the output has before
-- and after, if that is known.
use Rattle.std.specs.Prelude.{◌≡◌, ◌⊎◌, ◌≤◌, ℕ, Bool, true, false, List, length, replicate, Option, Some, None}
use Rattle.std.specs.Prelude.{Result, Ok, Err, IsSome, IfErr, IfSome, OnOk}
use Rattle.std.specs.Io.KnownBytes.{Appends}
use Rattle.sqlite.specs.Store.{Ghosts}
use Rattle.sqlite.specs.Held.{Held, state}
use Rattle.sqlite.specs.Effect.{Database}
use Rattle.sqlite.specs.State.{HasCleanDisk, Survives}
use Rattle.table_rows.specs.Standing.{HasCommitted, CommitsNothing}
use Rattle.filing_model.specs.Request.{Request, firsts}
use Rattle.register_rows.specs.Received.{Received}
use Rattle.register_tables.specs.declared.opening.form.Earlier.{Earlier}
use Rattle.register_tables.specs.Earlier.{IsAlone, IsEarlierOf}
use Rattle.register_tables.specs.Faults.{IsFailure}
use Rattle.register_tables.specs.Migrating.{IsNotMigrated, MigratesTo}
use Rattle.register_tables.specs.Opening.{IsRefused, IsReadAsRegister}
use Rattle.register_tables.specs.Registers.{ForRows, IsRegisterOf}
use Rattle.register_extracts.specs.declared.fault.Why.{Why}
use Rattle.register_extracts.specs.declared.fault.Why.TheVariants as why
use Rattle.register_pages.specs.Pages.{File, WritesSite}
use Rattle.intake_process.specs.declared.tasks.errand.Errand.{Errand}
use Rattle.intake_process.specs.declared.tasks.errand.Errand.TheVariants as asked
use Rattle.intake_process.specs.declared.tasks.errand.Question.TheVariants as question
use Rattle.intake_process.specs.Checking.{checking}
use Rattle.intake_process.specs.Extracting.{digesting, exporting, paging}
use Rattle.intake_process.specs.Fault.{is_refusal, is_refused}
use Rattle.intake_process.specs.Listing.{listing}
use Rattle.intake_process.specs.Meaning.{Meaning}
use Rattle.intake_process.specs.Migrating.{migrating}
use Rattle.intake_process.specs.Showing.{filing_body, request_body, showing}

-- what each errand is
abbrev pub meaning : Errand → Meaning
meaning (asked.Ask (question.List filer dated)) = listing filer dated
meaning (asked.Ask (question.Show number dated)) = showing number dated
meaning (asked.Ask (question.FilingBody number)) = filing_body number
meaning (asked.Ask (question.RequestBody filer key)) = request_body filer key
meaning (asked.Check against) = checking against
meaning asked.Migrate = migrating
meaning (asked.Export form wanted) = exporting form wanted
meaning (asked.Digest until) = digesting until
meaning (asked.Pages folder) = paging

-- ---- the version that an errand is for

-- the database is a register of these requests in an earlier version, or in this one
abbrev pub IsRegisterBy : Bool → ℕ → List Request → Database → Type 0
IsRegisterBy true old_style requests db =
    (form : Earlier) × IsAlone form db.schema × IsEarlierOf form old_style requests db
IsRegisterBy false old_style requests db = IsRegisterOf old_style requests db

-- these are the moments of its requests: an earlier version knew none
abbrev pub AreMomentsBy : Bool → List Request → List (Option ℕ) → Database → Type 0
AreMomentsBy true requests moments db = moments ≡ replicate (length requests) None
AreMomentsBy false requests moments db = (length moments ≡ length requests) × Received db moments

-- the database was read as such a register
abbrev pub IsReadBy : {S : Type 0} → Ghosts S → Bool → Held S → Type 0
IsReadBy g true conn = (form : Earlier) → IsAlone form (state g conn).now.schema
    → (old_style : ℕ) × (requests : List Request) × IsEarlierOf form old_style requests (state g conn).now
IsReadBy g false conn = IsReadAsRegister g conn

abbrev pub IsRegisterFor : Errand → ℕ → List Request → Database → Type 0
IsRegisterFor errand = IsRegisterBy (meaning errand).is_for_earlier

abbrev pub AreMomentsFor : Errand → List Request → List (Option ℕ) → Database → Type 0
AreMomentsFor errand = AreMomentsBy (meaning errand).is_for_earlier

-- ---- why it is not done

-- what a fault says of the register of these requests, with these moments
abbrev pub IsTrueOf : Meaning → List Request → List (Option ℕ) → Why → Type 0
IsTrueOf m requests moments why.Memory = IsSome (m.text requests moments)
IsTrueOf m requests moments why.Output = IsSome (m.text requests moments)
IsTrueOf m requests moments (why.NoFiling number) = m.text requests moments ≡ None
IsTrueOf m requests moments why.NoRequest = m.text requests moments ≡ None
IsTrueOf m requests moments (why.TooFew kept) = (kept ≡ length requests) × (m.text requests moments ≡ None)
IsTrueOf m requests moments (why.Another count) = (count ≤ length requests) × (m.text requests moments ≡ None)
IsTrueOf m requests moments other = Unit {0}

-- Why an errand to such a register is not done: memory or the disk refused it, or a fault came that may come, and is
-- true. If the files gave no database, the fault of that is left to the contract of their place.
abbrev pub MayFail : Errand → List Request → List (Option ℕ) → Why → Type 0
MayFail errand requests moments (why.Files fault) = Unit {0}
MayFail errand requests moments (why.Open fault) = ((meaning errand).is_for_earlier ≡ false) × IsFailure fault
MayFail errand requests moments (why.Migrate fault) = ((meaning errand).is_for_earlier ≡ true) × IsFailure fault
MayFail errand requests moments other = (meaning errand).may other × IsTrueOf (meaning errand) requests moments other

-- Nothing was printed, unless the output failed. What is printed filing by filing is begun, unless it is refused.
abbrev pub IsQuietBy : Option (ℕ → List Request → List (Option ℕ) → List ℕ) → Option (List ℕ) → Option (List ℕ) → Why
    → Type 0
IsQuietBy None out out' it = (it ≡ why.Output) ⊎ (out' ≡ out)
IsQuietBy (Some begun) out out' it = is_refusal it ≡ true → out' ≡ out

abbrev pub IsQuiet : Errand → Option (List ℕ) → Option (List ℕ) → Why → Type 0
IsQuiet errand = IsQuietBy (meaning errand).begun

-- memory or the database failed under way, and not the output
abbrev pub is_broken_off : Why → Bool
is_broken_off (why.Store fault) = true
is_broken_off why.Memory = true
is_broken_off other = false

-- If it was broken off, the first filings were printed whole, and nothing of the others.
abbrev pub IsBegun : Errand → List Request → List (Option ℕ) → Option (List ℕ) → Option (List ℕ) → Why → Type 0
IsBegun errand requests moments out out' why =
    IfSome (meaning errand).begun (λ begun. is_broken_off why ≡ true
    → (many : ℕ) × Appends out out' (begun many requests moments))

-- What comes of an errand: its text is printed, or it failed, and nothing was printed, or what it began with.
abbrev pub Tells : {X : Type 0} → Errand → List Request → List (Option ℕ) → Option (List ℕ) → Option (List ℕ)
    → Result X Why → Type 0
Tells errand requests moments out out' (Ok done) =
    (text : List ℕ) × ((meaning errand).text requests moments ≡ Some text) × Appends out out' text
Tells errand requests moments out out' (Err why) =
    MayFail errand requests moments why × IsQuiet errand out out' why × IsBegun errand requests moments out out' why

-- ---- an errand to any database

-- What a fault says of a database. A refusal says why the database gave no register. A crash in a migration leaves all
-- of it or nothing, and nothing was committed if neither memory nor the disk failed.
abbrev pub Says : {S : Type 0} → Ghosts S → Errand → Held S → Held S → Why → Type 0
Says g errand old new (why.Files fault) = ⊥
Says g errand old new (why.Open fault) =
    ((meaning errand).is_for_earlier ≡ false) × (HasCleanDisk (state g new) → IsRefused g fault old new)
Says g errand old new (why.Migrate fault) =
    ((meaning errand).is_for_earlier ≡ true) × (HasCleanDisk (state g new) → IsNotMigrated g fault old new)
    × Survives (state g old) (state g new) (MigratesTo g old)
    × (IsFailure fault ⊎ CommitsNothing (state g old) (state g new))
Says g errand old new other = (meaning errand).may other

-- What an errand does with a connection to a database. Clauses on rows hold if the disk is clean at the end.
pub record RunsErrand {S X : Type 0} (g : Ghosts S) (errand : Errand) (out out' : Option (List ℕ)) (old new : Held S)
    (result : Result X Why) : Type 0 where
  -- Of a register of these requests, with these moments, its text is printed, and they are committed afterwards as a
  -- register of this version.
  pub told : HasCleanDisk (state g new) → (old_style : ℕ) (requests : List Request) → firsts requests ≡ requests
      → IsRegisterFor errand old_style requests (state g old).now
      → (moments : List (Option ℕ)) → AreMomentsFor errand requests moments (state g old).now
      → Tells errand requests moments out out' result
  pub kept : HasCleanDisk (state g new) → is_refused result ≡ false
      → (old_style : ℕ) (requests : List Request) → firsts requests ≡ requests
      → IsRegisterFor errand old_style requests (state g old).now
      → HasCommitted (IsRegisterOf old_style requests) (state g new)
  -- Unless it is refused, the database is read as a register.
  pub found : HasCleanDisk (state g new) → is_refused result ≡ false → IsReadBy g (meaning errand).is_for_earlier old
  -- An errand to a register of this version writes nothing, and one of this version is not migrated.
  pub reads : (meaning errand).is_for_earlier ≡ false → CommitsNothing (state g old) (state g new)
  pub current : HasCleanDisk (state g new) → (meaning errand).is_for_earlier ≡ true
      → ForRows g old (λ _ _. is_refused result ≡ true)
  pub refused : IfErr result (Says g errand old new)
  pub quiet : IfErr result (IsQuiet errand out out')

-- Which pages an errand writes into a folder: those of the register, if it is for pages and is done; none, if it is
-- refused or for others.
pub record FillsFolder {S X : Type 0} (g : Ghosts S) (errand : Errand) (pages pages' : Option (List File))
    (old new : Held S) (result : Result X Why) : Type 0 where
  pub filled : HasCleanDisk (state g new) → (old_style : ℕ) (requests : List Request) → firsts requests ≡ requests
      → IsRegisterFor errand old_style requests (state g old).now
      → (meaning errand).fills ≡ true → OnOk result (WritesSite requests pages pages')
  pub refused : is_refused result ≡ true → pages' ≡ pages
  pub others : (meaning errand).fills ≡ false → pages' ≡ pages
