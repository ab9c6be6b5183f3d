-- As what fault it is reported that an event was not played.
use Rattle.std.proofs.Common.{◌≡◌, ℕ, refl}
use Rattle.schedule.specs.declared.ends.fault.EndFault.{EndFault}
use Rattle.schedule.specs.declared.ends.fault.EndFault.TheVariants as cause
use Rattle.schedule.specs.declared.fault.Fault.TheVariants.{NoSuch, Store, Reopen}
use Rattle.schedule.specs.declared.fault.Unplayed.{Unplayed}
use Rattle.schedule.specs.declared.fault.Unplayed.TheVariants as why
use Rattle.schedule.specs.Faults.{fault_at, refused_at}
use Rattle.schedule.specs.Played.{Tells}

-- what is reported as NoSuch was it
pub no_such_why : (event n : ℕ) (w : Unplayed) → fault_at event w ≡ NoSuch n → w ≡ why.NoSuch
no_such_why event n why.NoSuch is = refl
no_such_why event n (why.Refused cause.Memory) is = absurd (cc)
no_such_why event n (why.Refused cause.Store) is = absurd (cc)
no_such_why event n (why.Refused cause.Reopen) is = absurd (cc)

-- what is reported as Store was it
pub store_why : (event n : ℕ) (w : Unplayed) → fault_at event w ≡ Store n → w ≡ why.Refused cause.Store
store_why event n why.NoSuch is = absurd (cc)
store_why event n (why.Refused cause.Memory) is = absurd (cc)
store_why event n (why.Refused cause.Store) is = refl
store_why event n (why.Refused cause.Reopen) is = absurd (cc)

-- what is reported as Reopen was it
pub reopen_why : (event n : ℕ) (w : Unplayed) → fault_at event w ≡ Reopen n → w ≡ why.Refused cause.Reopen
reopen_why event n why.NoSuch is = absurd (cc)
reopen_why event n (why.Refused cause.Memory) is = absurd (cc)
reopen_why event n (why.Refused cause.Store) is = absurd (cc)
reopen_why event n (why.Refused cause.Reopen) is = refl

-- the fault at an event tells that event
pub refused_tells_own : (event : ℕ) (c : EndFault) → Tells event (refused_at event c)
refused_tells_own event cause.Memory = tt
refused_tells_own event cause.Store = refl
refused_tells_own event cause.Reopen = refl

pub tells_own : (event : ℕ) (w : Unplayed) → Tells event (fault_at event w)
tells_own event why.NoSuch = refl
tells_own event (why.Refused cause) = refused_tells_own event cause
