-- What a task does follows from what its call did.
use Rattle.std.proofs.Common.{◌≡◌, ◌≤◌, ◌^◌, ℕ, Bool, true, false, true≢false, Result, Err, List, None, Bor, refl}
use Rattle.std.proofs.Common.{◌≢◌, ap, subst, sym, inr, MatchBool}
use Rattle.std.specs.Prelude.{not}
use Rattle.sqlite_disk.specs.declared.Disk.{Ghosts}
use Rattle.command_line.specs.declared.fault.CommandFault.TheVariants as command
use Rattle.connection_hall.specs.declared.stream.Stream.{Ghosts as Streams}
use Rattle.gateway_rounds.specs.Ports.{Port}
use Rattle.intake_process.specs.declared.tasks.errand.Errand.{Errand}
use Rattle.intake_commands.specs.declared.options.Serving.{Serving}
use Rattle.intake_commands.specs.declared.options.Task.{Task}
use Rattle.intake_commands.specs.declared.options.Task.TheVariants.{Run, Serve, Visit, Lint}
use Rattle.intake_process.specs.Process.{Parts}
use Rattle.intake_process.specs.Turns.{ServesRegister}
use Rattle.intake_process.specs.declared.serving.ServingFault.{ServingFault}
use Rattle.intake_commands.specs.declared.fault.NotDone.{NotDone}
use Rattle.intake_commands.specs.declared.fault.NotDone.TheVariants as fault
use Rattle.intake_commands.specs.Tasks.{Does, IsServingTold, Means, Performs, ServesPort, is_wanted, most_asked}

-- ---- what is wanted, and what is not

pub wanted : (b : Bool) (P Q : Type 0) → true ≡ b → P → MatchBool b P Q
wanted true P Q is p = p
wanted false P Q is p = absurd (true≢false is)

pub unwanted : (b : Bool) (P Q : Type 0) → false ≡ b → Q → MatchBool b P Q
unwanted true P Q is q = absurd (true≢false (sym is))
unwanted false P Q is q = q

-- ---- a port is served

pub served_as : {D S N : Type 0} {g : Ghosts D} (s : Streams S N) (task : Serving) (found : Bool) (keys : ℕ)
    (port port' : Port S) (old new : Parts g) (served : Result ℕ ServingFault) (result : Result ℕ NotDone)
    → found ≡ not task.new → keys ≡ task.limit → keys ≤ 2 ^ 62
    → ServesRegister s found keys most_asked port port' None None old new served → IsServingTold task served result
    → ServesPort s task port port' old new result
served_as s task found keys port port' old new served result found_is keys_is few serves told =
    let limited =
    subst (λ k. ServesRegister s found k most_asked port port' None None old new served) keys_is serves in
    inr (inr (
      subst (λ k. k ≤ 2 ^ 62) keys_is few,
      served,
      subst (λ f. ServesRegister s f task.limit most_asked port port' None None old new served) found_is limited,
      told,
    ))

-- ---- no port is served

either : (b : Bool) (P Q R : Type 0) → (P → R) → (Q → R) → MatchBool b P Q → R
either true P Q R p q is = p is
either false P Q R p q is = q is

pub kept_port : {D S N : Type 0} {g : Ghosts D} (s : Streams S N) (task : Task) (old new : Means g S)
    (result : Result ℕ NotDone) → ((serving : Serving) → task ≢ Serve serving) → Does s task old new result
    → new.port ≡ old.port
kept_port s (Run limit) old new result other does = ap (λ m. m.port) does.0
kept_port s (Serve serving) old new result other does = absurd (other serving refl)
kept_port s (Visit name errand) old new result other does =
    either (is_wanted errand) _ _ _ (λ visits. ap (λ m. m.port) visits.0) (λ none. ap (λ m. m.port) none.0) does
kept_port s (Lint filer form files) old new result other does = ap (λ m. m.port) does.0

-- ---- nothing is done, since a code is no filer's

pub not_wanted : {D S N : Type 0} {g : Ghosts D} (s : Streams S N) (task : Task) (name : Bor (List ℕ))
    (errand : Errand) (old : Means g S) (status : ℕ) → task ≡ Visit name errand → false ≡ is_wanted errand
    → status ≡ 2 → Performs s task old old status
not_wanted s task name errand old status is other says =
    subst (λ task. Performs s task old old status) (sym is)
    (Err (fault.Command command.Filer), unwanted (is_wanted errand) _ _ other (refl, refl), says)
