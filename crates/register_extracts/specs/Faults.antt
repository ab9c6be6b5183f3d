-- Which faults come of what is asked of a register. A function answers only those that its contract names.
use Rattle.std.specs.Prelude.{Result, Err}
use Rattle.register_tables.specs.declared.fault.OpenFault.{OpenFault}
use Rattle.register_extracts.specs.declared.fault.Why.{Why}
use Rattle.register_extracts.specs.declared.fault.Why.TheVariants as why

-- this holds of the fault by which an opening was refused; nothing is said of the faults of a sound register
abbrev pub IfOpen : (OpenFault → Type 0) → Why → Type 0
IfOpen Holds (why.Open fault) = Holds fault
IfOpen Holds other = Unit {0}

-- this holds unless the register is refused: also if it is sound, and not all is done
abbrev pub UnlessRefused : {X : Type 0} → Result X Why → Type 0 → Type 0
UnlessRefused (Err (why.Open fault)) Holds = Unit {0}
UnlessRefused other Holds = Holds

-- ---- which faults there are of a sound register

-- it was not read, or no memory was left
abbrev pub IsReadingWhy : Why → Type 0
IsReadingWhy (why.Store fault) = Unit {0}
IsReadingWhy why.Memory = Unit {0}
IsReadingWhy other = ⊥

-- besides, the output failed
abbrev pub IsPrintingWhy : Why → Type 0
IsPrintingWhy why.Output = Unit {0}
IsPrintingWhy other = IsReadingWhy other

-- it was not read, or it keeps fewer requests than were asked for
abbrev pub IsDigestWhy : Why → Type 0
IsDigestWhy (why.Store fault) = Unit {0}
IsDigestWhy (why.TooFew kept) = Unit {0}
IsDigestWhy other = ⊥

-- the opening was refused; or the register is sound, and this holds of the fault
abbrev pub OpenOr : (Why → Type 0) → Why → Type 0
OpenOr Holds (why.Open fault) = Unit {0}
OpenOr Holds other = Holds other
