-- What computing the digest of a register does.
use Rattle.std.specs.Prelude.{◌≡◌, ℕ, false, nat_le, if◌then◌else◌, List, length, Option, Some, None, unwrap_or, Result}
use Rattle.std.specs.Prelude.{IfOk, IfErr}
use Rattle.sqlite.specs.Store.{Ghosts}
use Rattle.sqlite.specs.Held.{Held, state}
use Rattle.sqlite.specs.State.{HasCleanDisk}
use Rattle.table_rows.specs.Standing.{HasCommitted, CommitsNothing, StaysOnOk}
use Rattle.filing_model.specs.Request.{Request}
use Rattle.register_tables.specs.Faults.{IsFailure}
use Rattle.register_tables.specs.Opening.{IsRefused, IsReadAsRegister}
use Rattle.register_tables.specs.Registers.{ForRows, IsRegisterOf}
use Rattle.register_extracts.specs.Dated.{ForDatedRows}
use Rattle.register_extracts.specs.declared.digest.Digest.{Digest}
use Rattle.register_extracts.specs.declared.fault.Why.{Why}
use Rattle.register_extracts.specs.declared.fault.Why.TheVariants as why
use Rattle.register_extracts.specs.Digest.{digest_until}
use Rattle.register_extracts.specs.Faults.{IfOpen, IsDigestWhy, OpenOr, UnlessRefused}
use Rattle.register_extracts.specs.Views.{Digested, view_digest}

-- the digest of the first requests, so many, or of all if no number is given, with these moments; `None` if there are
-- not so many
abbrev pub digested : Option ℕ → List Request → List (Option ℕ) → Option Digested
digested until requests moments =
    let count = unwrap_or until (length requests) in
    if nat_le count (length requests)
    then Some (record { count = count; bytes = digest_until count requests moments })
    else None

-- this holds of how many requests are kept, if that is fewer than were asked for
abbrev pub IfTooFew : (ℕ → Type 0) → Why → Type 0
IfTooFew Holds (why.TooFew kept) = Holds kept
IfTooFew Holds other = Unit {0}

-- What `digest_register` computes of the register that a database is. Nothing is written to the database.
pub record DigestsRegister {S : Type 0} (g : Ghosts S) (until : Option ℕ) (old new : Held S)
    (result : Result Digest Why) : Type 0 where
  -- The rows stand for requests with moments, and there is one such list of each at most.
  pub computed : HasCleanDisk (state g new)
      → IfOk result (λ digest. ForDatedRows g old (λ requests moments.
      digested until requests moments ≡ Some (view_digest digest)))
  -- If fewer are kept than were asked for, it is said how many; and only then.
  pub few : HasCleanDisk (state g new) → IfErr result (IfTooFew (λ kept. ForDatedRows g old (λ requests moments.
      (kept ≡ length requests) × (digested until requests moments ≡ None))))
  -- It is refused, or not read, or keeps too few.
  pub fails : IfErr result (OpenOr IsDigestWhy)
  -- Unless it is refused, it is read as a register, and what its rows stand for is still committed.
  pub found : HasCleanDisk (state g new) → UnlessRefused result (IsReadAsRegister g old)
  pub kept : HasCleanDisk (state g new)
      → UnlessRefused result (ForRows g old (λ old_style requests. HasCommitted (IsRegisterOf old_style requests)
      (state g new)))
  -- A refusal of the opening says why. If the rows stand for requests, memory or the disk refused.
  pub refused : HasCleanDisk (state g new) → IfErr result (IfOpen (λ why. IsRefused g why old new))
  pub failed : HasCleanDisk (state g new) → IfErr result (IfOpen (λ why. ForRows g old (λ _ _. IsFailure why)))
  -- The connection is as it was. A crash leaves what it could leave before.
  pub same : StaysOnOk (state g old) (state g new) result
  pub mode : new.in_transaction ≡ false
  pub survives : CommitsNothing (state g old) (state g new)
