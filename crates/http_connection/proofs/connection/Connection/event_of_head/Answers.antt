use Rattle.std.proofs.Common.{ℕ, List, ◌<◌, ◌≤◌, length, sym, subst, subst₂}
use Rattle.http_connection.specs.Connection.{CanWait}
use Rattle.http_connection.proofs.Telling.{LendsFirst-whole, CanWait-cut}
use Rattle.http_connection.proofs.connection.Connection.event_of_head.Goals as goal

pub returns-then-as_slice-whole_len : goal.returns-then-as_slice-whole_len
returns-then-as_slice-whole_len c = λ sound. (
  c.requires.open,
  LendsFirst-whole c.args.self.now c.in-Some.parsed c.in-Some.is sound
      (subst₂ (λ (n : ℕ) (bytes : List ℕ). n ≤ length bytes) c.whole_len.ensures c.as_slice.ensures.value
      c.if-as_slice-whole_len.true),
)

pub returns : goal.returns
returns c = λ sound.
    c.wait.ensures (subst (CanWait c.args.self.now) (sym c.awaits.ensures)
    (CanWait-cut c.args.self.now c.in-Some.parsed c.in-Some.is sound c.requires.open
    (subst₂ (λ (n : ℕ) (bytes : List ℕ). length bytes < n) c.whole_len.ensures c.as_slice.ensures.value
    c.if-as_slice-whole_len.false)))
