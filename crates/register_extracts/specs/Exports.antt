-- What an export of a register does. `out` and `out'` are what the output has before and after it, if that is known.
use Rattle.std.specs.Prelude.{◌≡◌, ℕ, false, List, Option, Result, IfErr, OnOk}
use Rattle.std.specs.Io.KnownBytes.{Appends}
use Rattle.sqlite.specs.Store.{Ghosts}
use Rattle.sqlite.specs.Held.{Held, state}
use Rattle.sqlite.specs.State.{HasCleanDisk}
use Rattle.table_rows.specs.Standing.{HasCommitted, CommitsNothing, StaysOnOk}
use Rattle.register_extracts.specs.declared.facts.record.FactForm.{FactForm}
use Rattle.filing_model.specs.Register.{kept}
use Rattle.register_tables.specs.Faults.{IsFailure}
use Rattle.register_tables.specs.Opening.{IsRefused, IsReadAsRegister}
use Rattle.register_tables.specs.Registers.{ForRows, IsRegisterOf}
use Rattle.register_extracts.specs.Dated.{ForDatedRows}
use Rattle.register_extracts.specs.declared.fault.Why.{Why}
use Rattle.register_extracts.specs.declared.fault.Why.TheVariants as why
use Rattle.register_extracts.specs.declared.records.Wanted.{Wanted}
use Rattle.register_extracts.specs.Faults.{IfOpen, IsPrintingWhy, OpenOr, UnlessRefused}
use Rattle.register_extracts.specs.Records.{export_begun, export_text}

-- this holds unless the output failed
abbrev pub UnlessOutput : Type 0 → Why → Type 0
UnlessOutput Holds why.Output = Unit {0}
UnlessOutput Holds other = Holds

-- this holds if the writing was broken off, and not by the output
abbrev pub IfBrokenOff : Type 0 → Why → Type 0
IfBrokenOff Holds (why.Open fault) = Unit {0}
IfBrokenOff Holds other = UnlessOutput Holds other

-- What `export` writes out of the register that a database is: the facts of the filings that are
-- wanted, byte for byte.
pub record ExportsFacts {S X : Type 0} (g : Ghosts S) (form : FactForm) (wanted : Wanted)
    (out out' : Option (List ℕ)) (old new : Held S) (result : Result X Why) : Type 0 where
  -- The rows stand for requests with moments, and there is one such list of each at most.
  pub exported : HasCleanDisk (state g new)
      → OnOk result (ForDatedRows g old (λ requests moments.
      Appends out out' (export_text form wanted (kept requests) moments)))
  -- If the writing is broken off, and not by the output, the records of the first filings are written, and no others.
  pub begun : HasCleanDisk (state g new)
      → IfErr result (IfBrokenOff (ForDatedRows g old (λ requests moments.
      (many : ℕ) × Appends out out' (export_begun many form wanted (kept requests) moments))))
  -- It is refused, or not read, or memory or the output failed.
  pub fails : IfErr result (OpenOr IsPrintingWhy)
  -- Unless it is refused, it is read as a register, and what its rows stand for is still committed.
  pub found : HasCleanDisk (state g new) → UnlessRefused result (IsReadAsRegister g old)
  pub kept : HasCleanDisk (state g new)
      → UnlessRefused result (ForRows g old (λ old_style requests. HasCommitted (IsRegisterOf old_style requests)
      (state g new)))
  -- A refusal of the opening says why, and nothing was written out. If the rows stand for requests, memory or the disk
  -- refused.
  pub refused : HasCleanDisk (state g new) → IfErr result (IfOpen (λ why. IsRefused g why old new))
  pub failed : HasCleanDisk (state g new) → IfErr result (IfOpen (λ why. ForRows g old (λ _ _. IsFailure why)))
  pub quiet : IfErr result (IfOpen (λ _. out' ≡ out))
  -- The connection is as it was. A crash leaves what it could leave before.
  pub same : StaysOnOk (state g old) (state g new) result
  pub mode : new.in_transaction ≡ false
  pub survives : CommitsNothing (state g old) (state g new)
