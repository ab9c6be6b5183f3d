use Rattle.std.proofs.Common.{◌≡◌, ◌≢◌, ◌≤◌, ◌+◌, ℕ, List, length, take, arith, rules}
use Rattle.std.proofs.lemmas.Grind.{common_steps}
use Rattle.http_wire.proofs.ReceivedLemmas.{Receives-got}
use Rattle.http_wire.proofs.reading.Reading.read.Goals as goal

-- a read that gave bytes gave at least one
some_taken : (room : List ℕ) (reads count : ℕ) → count ≢ 0 → count ≤ length room
    → reads + 1 ≤ reads + length (take count room)
some_taken room reads count some within =
    let size : length (take count room) ≡ count = grind (arith, common_steps, within) in
    omega (arith, size, some)

pub returns-clause-reads : goal.returns-clause-reads
returns-clause-reads g c =
    let got = c.in_ok-count.ensures in
    let front = take c.in_ok-count.count c.read_into.new.room in
    record {
      receives = Receives-got _ _ _ _ front (grind (
        arith,
        common_steps,
        c.receive_reserved.ensures.taken,
        c.reserve.ensures.state.bytes,
        c.in_ok-count.ensures.bound,
        c.read_into.ensures.len,
      ))
          got.given (omega arith) (some_taken c.read_into.new.room c.args.self.now.reads c.in_ok-count.count
          c.if-count-eq0.false (search rules)) (λ idle. absurd (omega (arith, idle)));
      fine = got.fine;
      fault = tt;
    }
