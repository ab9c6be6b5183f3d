-- Intakes that stay up as long as their database refuses no call.
use Rattle.std.proofs.Common.{true, false}
use Rattle.std.proofs.Common.{◌≡◌, ℕ, ◌-◌, ◌^◌, ◌<◌, ◌≤◌, Option, Some, None, IsSome, refl, sym, ◌∙◌, ap, subst, inl}
use Rattle.std.proofs.Common.{inr, arith}
use Rattle.sqlite_disk.specs.declared.Disk.{Ghosts}
use Rattle.sqlite_store.specs.declared.store.FileStore.{FileStore}
use Rattle.connection_hall.specs.declared.stream.Stream.{Ghosts as Streams}
use Rattle.gateway_rounds.specs.Ports.{KeepsPort, Port}
use Rattle.intake_core.specs.declared.intake.Intake.{Intake}
use Rattle.intake_core.specs.Held.{has_stopped}
use Rattle.intake_process.specs.declared.process.AnsweredBy.{AnsweredBy}
use Rattle.intake_process.specs.declared.process.AnsweredBy.TheVariants as outcome
use Rattle.intake_process.specs.Process.{Parts, IsUp, IsUnrefused, StaysUp, CountsRefusal, AnswersPort, AnswersPortBy}
use Rattle.intake_process.proofs.Keeping.{not_true}

-- ---- calls that were refused

grows_by : (o : AnsweredBy) (old new : ℕ) → CountsRefusal o old new → old ≤ new
grows_by outcome.Failed old new (inl more) = omega (arith, more)
grows_by outcome.Failed old new (inr full) = omega (arith, full.0)
grows_by outcome.Served old new same = omega (arith, same)
grows_by outcome.TurnedAway old new same = omega (arith, same)

-- none was, where none was counted
not_failed : (o : AnsweredBy) (old new : ℕ) → CountsRefusal o old new → new ≡ old → new < 2 ^ 64 - 1
    → o ≡ outcome.Failed → ⊥
not_failed outcome.Failed old new (inl more) same counts failed = omega (arith, more, same)
not_failed outcome.Failed old new (inr full) same counts failed = omega (arith, full.1, same, counts)
not_failed outcome.Served old new is same counts failed = cc
not_failed outcome.TurnedAway old new is same counts failed = cc

pub is_some_up : {S : Type 0} (intake : Option (Intake S)) → IsUp intake → IsSome intake
is_some_up (Some intake) up = refl
is_some_up None up = absurd up

module _ {D : Type 0} {g : Ghosts D} where
  -- ---- one call, and then more

  first_of : (old mid new : Parts g) → old.refused_calls ≤ mid.refused_calls → mid.refused_calls ≤ new.refused_calls
      → IsUnrefused old new → IsUnrefused old mid
  first_of old mid new first second u =
      record { up = u.up; same = omega (arith, first, second, u.same); counts = omega (arith, second, u.counts) }

  pub before : (old mid new : Parts g) → StaysUp old mid → StaysUp mid new → IsUnrefused old new → IsUnrefused old mid
  before old mid new a b u = first_of old mid new a.grows b.grows u

  pub after : (old mid new : Parts g) → StaysUp old mid → StaysUp mid new → IsUnrefused old new → IsUnrefused mid new
  after old mid new a b u =
      record { up = a.up (before old mid new a b u); same = omega (arith, a.grows, b.grows, u.same); counts = u.counts }

  -- a call that changes no count
  pub until : (old last new : Parts g) → new.refused_calls ≡ last.refused_calls → IsUnrefused old new
      → IsUnrefused old last
  until old last new calls u = record { up = u.up; same = sym calls ∙ u.same; counts = omega (arith, calls, u.counts) }

  pub same : (process : Parts g) → StaysUp process process
  same process = record { grows = omega arith; up = λ u. u.up; certain = λ u. refl }

  pub join : (old mid new : Parts g) → StaysUp old mid → StaysUp mid new → StaysUp old new
  join old mid new a b = record {
    grows = omega (arith, a.grows, b.grows);
    up = λ u. b.up (after old mid new a b u);
    certain = λ u. b.certain (after old mid new a b u) ∙ a.certain (before old mid new a b u);
  }

  -- it was closed
  pub was_closed : (old new : Parts g) → old.intake ≡ None → new.refused_calls ≡ old.refused_calls → StaysUp old new
  was_closed old new none calls = record {
    grows = omega (arith, calls);
    up = λ u. absurd (subst (λ i. IsUp i) none u.up);
    certain = λ u. absurd (subst (λ i. IsUp i) none u.up);
  }

  -- ---- what waits on a port

  module _ {S N : Type 0} (s : Streams S N) (port port' : Port S) where
    up_after : (old new : Option (Intake (FileStore D g))) (by : AnsweredBy) → AnswersPortBy s port port' old new by
        → IsSome old → (by ≡ outcome.Failed → ⊥) → IsUp new
    up_after (Some old) new by answered is other =
        subst (λ i. IsUp i) (sym answered.1)
        (not_true (has_stopped answered.0) (λ stopped. other (answered.3.1 stopped)))
    up_after None new by answered is other = absurd (let h : false ≡ true = is in cc)

    pub keeps_port : (old new : Option (Intake (FileStore D g))) (by : AnsweredBy)
        → AnswersPortBy s port port' old new by → KeepsPort port port'
    keeps_port (Some old) new by answered = record {
      asked = answered.2.second.port.asked ∙ answered.2.first.tells.port.asked;
      bounds = answered.2.second.port.bounds ∙ answered.2.first.tells.port.bounds;
    }
    keeps_port None new by answered = answered.1.tells.port

    pub answered : (old last : Parts g) (by : AnsweredBy) → AnswersPort s port port' old last by → StaysUp old last
    answered old last by it = record {
      grows = grows_by by old.refused_calls last.refused_calls it.3;
      up = λ u. up_after old.intake last.intake by it.0 (is_some_up old.intake u.up)
          (not_failed by old.refused_calls last.refused_calls it.3 u.same u.counts);
      certain = λ u. it.2;
    }

    -- after which the register was closed, if the database refused a call
    pub went : (old last new : Parts g) (by : AnsweredBy) → AnswersPort s port port' old last by
        → ((by ≡ outcome.Failed → ⊥) → new ≡ last) → new.refused_calls ≡ last.refused_calls → StaysUp old new
    went old last new by it others calls =
        let stays = answered old last by it in
        let other : IsUnrefused old new → by ≡ outcome.Failed → ⊥ =
        λ u. (let v = until old last new calls u in
        not_failed by old.refused_calls last.refused_calls it.3 v.same v.counts) in
        record {
          grows = omega (arith, stays.grows, calls);
          up = λ u. subst (λ (p : Parts g). IsUp p.intake) (sym (others (other u)))
              (stays.up (until old last new calls u));
          certain =
              λ u. ap (λ (p : Parts g). p.is_certain) (others (other u)) ∙ stays.certain (until old last new calls u);
        }
