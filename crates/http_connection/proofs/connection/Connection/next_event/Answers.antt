use Rattle.std.proofs.Common.{ℕ, List, refl, sym, ap, subst, rules}
use Rattle.std.specs.Prelude.{slice_range}
use Rattle.http_messages.specs.Block.{IsBlockEnd, IsUnended, skipped_len}
use Rattle.http_messages.specs.Head.{IsHeadFault}
use Rattle.http_connection.specs.declared.connection.Connection.{Connection}
use Rattle.http_connection.specs.Connection.{held, IsSound}
use Rattle.http_connection.specs.Parsed.{IsHeadOf}
use Rattle.http_connection.proofs.Telling.{CanWait-unended, IsSound-parsed}
use Rattle.http_connection.proofs.connection.Connection.next_event.Goals as goal
use Rattle.http_connection.proofs.connection.Connection.next_event.Goals.{then-is_none+in-End+in-Ok+in-Some-1}
use Rattle.http_connection.proofs.connection.Connection.next_event.Goals.{then-is_none+in-End+in-Ok+in-None-1}
use Rattle.http_connection.proofs.connection.Connection.next_event.Goals.{else-is_none}

pub returns-in-Err : goal.returns-in-Err
returns-in-Err c = record {
  event = λ _. (
    c.if-self.false,
    (
      c.in-End.end,
      subst (λ (bytes : List ℕ). IsBlockEnd bytes c.in-End.end) c.as_slice.ensures.value c.in-End.ensures,
      search rules,
      subst (λ (bytes : List ℕ). IsHeadFault (slice_range bytes (skipped_len bytes) c.in-End.end) c.in-Err.fault)
          c.as_slice-in-End.ensures.value c.in-Err.ensures.fault,
    ),
  );
  sound = λ sound. sound;
  memory = tt;
  kept = λ has. (refl, record { bytes = refl; parsed = refl; over = refl; ended = refl });
  refused = tt;
  held = refl;
  over = refl;
  ended = refl;
}

pub returns-in-More-clause-event : goal.returns-in-More-clause-event
returns-in-More-clause-event c = λ sound.
    c.wait.ensures (CanWait-unended _ c.if-self.false (subst IsUnended c.as_slice.ensures.value c.in-More.ensures))

pub returns-clause-sound : goal.returns-clause-sound
returns-clause-sound c = λ sound. elim c.if-is_none.branch [
  | then-is_none+in-End+in-Ok+in-Some-1 w ↦ IsSound-parsed c.args.self.now c.if-is_none.self w.in-Ok.parsed
      (ap held w.self-is) (ap (λ (s : Connection). s.parsed) w.self-is)
      (subst (λ (bytes : List ℕ). IsHeadOf bytes w.in-Ok.parsed) w.as_slice-in-End.ensures.value w.in-Ok.ensures.ok)
  | then-is_none+in-End+in-Ok+in-None-1 w ↦ IsSound-parsed c.args.self.now c.if-is_none.self w.in-Ok.parsed
      (ap held w.self-is) (ap (λ (s : Connection). s.parsed) w.self-is)
      (subst (λ (bytes : List ℕ). IsHeadOf bytes w.in-Ok.parsed) w.as_slice-in-End.ensures.value w.in-Ok.ensures.ok)
  | else-is_none w ↦ subst IsSound (sym w.self-is) sound
]

pub returns-clause-event : goal.returns-clause-event
returns-clause-event c = λ sound. c.event_of_head.ensures (returns-clause-sound c sound)
