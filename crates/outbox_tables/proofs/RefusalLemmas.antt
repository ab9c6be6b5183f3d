-- What an opening or a making was refused for.
use Rattle.std.proofs.Common.{◌≡◌, ◌≢◌, ◌⊎◌, ℕ, Result, Err, String, Global, inl, inr, refl, sym, subst, ◌∙◌}
use Rattle.sqlite.specs.Store.{Ghosts}
use Rattle.sqlite.specs.Held.{Held, state}
use Rattle.outbox_tables.specs.declared.fault.OutboxFault.{OutboxFault}
use Rattle.outbox_tables.specs.declared.fault.OutboxFault.TheVariants.{BadFiler, Taken, NotOurs, Damaged, Memory, Disk}
use Rattle.outbox_tables.specs.Faults.{IsOfMaking, outbox_fault_by, meta_fault_by, entry_fault_by}
use Rattle.outbox_tables.specs.Audit.{meta_text, StopsFor, IsNoOutbox, ReadsFiler, IsRefusedIn}
use Rattle.table_rows.specs.declared.cause.Cause.{Cause}
use Rattle.table_rows.specs.declared.cause.Cause.TheVariants as cause
use Rattle.table_rows.specs.declared.cause.Cause.TheVariants.{Disk as Stopped}

module _ {S : Type 0} (g : Ghosts S) (form : ℕ) (Damages : ℕ → Held S → Held S → Type 0) (Stops : Held S → Held S
    → Type 0) (fault : OutboxFault) where
  abbrev Refused : OutboxFault → Held S → Held S → Type 0
  Refused = IsRefusedIn g form Damages Stops

  -- as the filer is looked for
  pub refused_first : (old new : Held S) → (fault ≡ NotOurs) ⊎ ((fault ≡ Memory) ⊎ (fault ≡ Disk))
      → (fault ≡ NotOurs → IsNoOutbox form (state g old) (state g new))
      → (fault ≡ Disk → StopsFor Stopped meta_text (state g old) (state g new)) → Refused fault old new
  refused_first old new (inl none) ours disk = subst (λ f. Refused f old new) (sym none) (ours none)
  refused_first old new (inr (inl memory)) ours disk = subst (λ f. Refused f old new) (sym memory) tt
  refused_first old new (inr (inr stopped)) ours disk =
      subst (λ f. Refused f old new) (sym stopped) (inl (disk stopped))

  -- as the targets and the entries are read
  pub refused_later : (old mid new : Held S) → ReadsFiler form (state g old) (state g mid)
      → ((row : ℕ) × (fault ≡ Damaged row)) ⊎ ((fault ≡ Memory) ⊎ (fault ≡ Disk))
      → ((row : ℕ) → fault ≡ Damaged row → Damages row mid new) → (fault ≡ Disk → Stops mid new)
      → Refused fault old new
  refused_later old mid new read (inl damaged) at disk =
      subst (λ f. Refused f old new) (sym damaged.1) (mid, read, at damaged.0 damaged.1)
  refused_later old mid new read (inr (inl memory)) at disk = subst (λ f. Refused f old new) (sym memory) tt
  refused_later old mid new read (inr (inr stopped)) at disk =
      subst (λ f. Refused f old new) (sym stopped) (inr (mid, read, disk stopped))

-- ---- the cause, where the fault is known

pub meta_other : (why : Cause) → meta_fault_by why ≡ NotOurs → why ≡ cause.Other
meta_other cause.Memory is = absurd cc
meta_other cause.Disk is = absurd cc
meta_other cause.Other is = refl

pub meta_stopped : (why : Cause) → meta_fault_by why ≡ Disk → why ≡ cause.Disk
meta_stopped cause.Memory is = absurd cc
meta_stopped cause.Disk is = refl
meta_stopped cause.Other is = absurd cc

pub entry_other : (why : Cause) (row : ℕ) → entry_fault_by why ≡ Damaged row → (row ≡ 0) × (why ≡ cause.Other)
entry_other cause.Memory row is = absurd cc
entry_other cause.Disk row is = absurd cc
entry_other cause.Other row is = let none : 0 ≡ row = cc in (sym none, refl)

pub entry_stopped : (why : Cause) → entry_fault_by why ≡ Disk → why ≡ cause.Disk
entry_stopped cause.Memory is = absurd cc
entry_stopped cause.Disk is = refl
entry_stopped cause.Other is = absurd cc

-- ---- the tables were not made

pub of_making : (why : Cause) → IsOfMaking (outbox_fault_by why)
of_making cause.Memory = (λ is. absurd cc, λ row is. absurd cc)
of_making cause.Disk = (λ is. absurd cc, λ row is. absurd cc)
of_making cause.Other = (λ is. absurd cc, λ row is. absurd cc)

-- where a statement failed, neither the filer nor a name is told of
unnamed : (why : Cause) → (outbox_fault_by why ≢ BadFiler) × (outbox_fault_by why ≢ Taken)
unnamed cause.Memory = (λ is. absurd cc, λ is. absurd cc)
unnamed cause.Disk = (λ is. absurd cc, λ is. absurd cc)
unnamed cause.Other = (λ is. absurd cc, λ is. absurd cc)

told : (a b : OutboxFault) → ◌≡◌ {A = Result (String Global) OutboxFault} (Err a) (Err b) → a ≡ b
told a b e = cc

pub unmade : (why : Cause) (fault : OutboxFault) → fault ≡ outbox_fault_by why
    → (◌≡◌ {A = Result (String Global) OutboxFault} (Err fault) (Err BadFiler))
    ⊎ (◌≡◌ {A = Result (String Global) OutboxFault} (Err fault) (Err Taken)) → ⊥
unmade why fault is (inl e) = (unnamed why).0 (sym is ∙ told fault BadFiler e)
unmade why fault is (inr e) = (unnamed why).1 (sym is ∙ told fault Taken e)
