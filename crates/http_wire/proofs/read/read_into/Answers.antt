use Rattle.std.proofs.Common.{◌≡◌, ℕ, ◌+◌, ◌-◌, ◌^◌, ◌<◌, ◌≤◌, inl, inr, ⊎_elim, arith}
use Rattle.std.proofs.lemmas.Bool.{cases_lt}
use Rattle.http_wire.specs.Device.{one_more, HasFailed}
use Rattle.http_wire.proofs.read.read_into.Goals as goal

-- one failure more was counted, or no more can be
failed : (old new : ℕ) → new ≡ one_more old → HasFailed old new
failed old new more = ⊎_elim
    (λ (low : old + 1 < 2 ^ 64 - 1). inl (omega arith))
    (λ (high : 2 ^ 64 - 1 ≤ old + 1). inr (omega arith)) (cases_lt (old + 1) (2 ^ 64 - 1))

pub returns-in-Err-clause-fault : goal.returns-in-Err-clause-fault
returns-in-Err-clause-fault g c =
    failed (g.R.Source.read_failures c.args.reader.now) (g.R.Source.read_failures c.read.new.self)
    (rw c.in-Err.is at c.read.ensures.failures)
