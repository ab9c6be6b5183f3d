-- What is particular to an errand to a register.
use Rattle.std.specs.Prelude.{ℕ, Bool, false, List, Option, None}
use Rattle.filing_model.specs.Request.{Request}
use Rattle.database_places.specs.declared.access.Access.{Access}
use Rattle.database_places.specs.declared.access.Access.TheVariants.{Reads}
use Rattle.register_extracts.specs.declared.fault.Why.{Why}
use Rattle.register_extracts.specs.declared.fault.Why.TheVariants as why

-- All that errands differ in: what each of them does is said over these fields alone (`Errands`).
pub record Meaning : Type 1 where
  -- What is printed of a register that keeps these requests, each with its moment, if that is known; `None` if what is
  -- asked for is not there.
  pub text : List Request → List (Option ℕ) → Option (List ℕ)
  -- Which faults may come of a register that was opened, whatever it keeps.
  pub may : Why → Type 0
  -- It is for a register of an earlier version, and otherwise for one of this version.
  pub is_for_earlier : Bool
  -- What is printed of the first filings, so many, if it prints filing by filing; `None` if it prints all at the end.
  pub begun : Option (ℕ → List Request → List (Option ℕ) → List ℕ)
  -- It writes pages into a folder.
  pub fills : Bool
  -- The filer's code that it has, which has to be that of a filer.
  pub filer : Option (List ℕ)
  -- It judges the register, so that a verdict is shown.
  pub judges : Bool
  -- What it does to the file.
  pub access : Access

-- it prints this of a register of this version, all at the end, and changes nothing
abbrev pub printing : (List Request → List (Option ℕ) → Option (List ℕ)) → (Why → Type 0) → Meaning
printing text may = record {
  text = text;
  may = may;
  is_for_earlier = false;
  begun = None;
  fills = false;
  filer = None;
  judges = false;
  access = Reads;
}

-- a text was not printed: there was no memory for it, or the output failed
abbrev pub IsUnprinted : Why → Type 0
IsUnprinted why.Memory = Unit {0}
IsUnprinted why.Output = Unit {0}
IsUnprinted other = ⊥
