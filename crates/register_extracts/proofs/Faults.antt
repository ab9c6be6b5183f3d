-- What is known of a fault by the name that it has.
use Rattle.register_tables.specs.declared.fault.OpenFault.{OpenFault}
use Rattle.std.proofs.Common.{Err}
use Rattle.register_extracts.specs.declared.fault.Why.{Why}
use Rattle.register_extracts.specs.declared.fault.Why.TheVariants as why
use Rattle.register_extracts.specs.Exports.{IfBrokenOff, UnlessOutput}
use Rattle.register_extracts.specs.Faults.{IfOpen, OpenOr, UnlessRefused}

-- a fault of a sound register is no refusal of the opening
pub not_open : (May : Why → Type 0) → ((fault : OpenFault) → May (why.Open fault) → ⊥) → (Holds : OpenFault → Type 0)
    → (w : Why) → May w → IfOpen Holds w
not_open May never Holds (why.Open fault) may = absurd (never fault may)
not_open May never Holds other may = tt

pub open_or : (May : Why → Type 0) (w : Why) → May w → OpenOr May w
open_or May (why.Open fault) may = tt
open_or May other may = may

pub unless_refused : (X : Type 0) (w : Why) (P : Type 0) → P → UnlessRefused {X = X} (Err w) P
unless_refused X (why.Open fault) P p = tt
unless_refused X other P p = p

pub unless_output : (w : Why) (P : Type 0) → P → UnlessOutput P w
unless_output why.Output P p = tt
unless_output other P p = p

pub if_broken_off : (w : Why) (P : Type 0) → UnlessOutput P w → IfBrokenOff P w
if_broken_off (why.Open fault) P p = tt
if_broken_off other P p = p
