-- A report is put in, and its id is printed; own rules.
use Rattle.std.specs.Prelude.{◌≡◌, ◌⊎◌, ℕ, Bool, List, Option, Result, Ok, Err}
use Rattle.std.specs.Io.KnownBytes.{Appends}
use Rattle.sqlite.specs.Store.{Ghosts}
use Rattle.outbox_core.specs.declared.fault.PutFault.{PutFault}
use Rattle.outbox_core.specs.Calls.{PutsEntry}
use Rattle.outbox_core.specs.OutboxParts.{OutboxParts}
use Rattle.outbox_process.specs.declared.fault.Why.{Why}
use Rattle.outbox_process.specs.declared.fault.Why.TheVariants.{Put, NotTold}
use Rattle.outbox_process.specs.Lines.{id_line}

-- the id of the report was printed and answered, or could not be printed; or the fault is answered, and nothing was
-- printed
abbrev pub IsPutTold : Result ℕ PutFault → Option (List ℕ) → Option (List ℕ) → Result ℕ Why → Type 0
IsPutTold (Ok id) out out' result =
    ((result ≡ Ok id) × Appends out out' (id_line id)) ⊎ ((wants : Bool) × (result ≡ Err (NotTold id wants)))
IsPutTold (Err fault) out out' result = (result ≡ Err (Put fault)) × (out' ≡ out)

-- A report was put in, and its id was printed and answered; or it was refused, and the fault was answered.
pub record PutsAndTells {S : Type 0} (g : Ghosts S) (box box' : OutboxParts S) (key : List ℕ) (target : Option ℕ)
    (body : List ℕ) (out out' : Option (List ℕ)) (result : Result ℕ Why) : Type 0 where
  pub came : Result ℕ PutFault
  pub puts : PutsEntry g box box' key target body came
  pub told : IsPutTold came out out' result
