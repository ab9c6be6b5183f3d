-- Why an event was not played, once the event is numbered.
use Rattle.std.specs.Prelude.{ℕ}
use Rattle.schedule.specs.declared.ends.fault.EndFault.{EndFault}
use Rattle.schedule.specs.declared.ends.fault.EndFault.TheVariants as cause
use Rattle.schedule.specs.declared.fault.Fault.{Fault}
use Rattle.schedule.specs.declared.fault.Fault.TheVariants as fault
use Rattle.schedule.specs.declared.fault.Unplayed.{Unplayed}
use Rattle.schedule.specs.declared.fault.Unplayed.TheVariants.{NoSuch, Refused}

-- the fault if an end refused at the event of this number
abbrev pub refused_at : ℕ → EndFault → Fault
refused_at event cause.Memory = fault.Memory
refused_at event cause.Store = fault.Store event
refused_at event cause.Reopen = fault.Reopen event

-- the fault if the event of this number was not played
abbrev pub fault_at : ℕ → Unplayed → Fault
fault_at event NoSuch = fault.NoSuch event
fault_at event (Refused cause) = refused_at event cause
