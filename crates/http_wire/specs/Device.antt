-- What readers and writers report of their calls; own rules, beyond those of std.
use Rattle.std.specs.Prelude.{◌≡◌, ◌⊎◌, ℕ, ◌+◌, ◌-◌, ◌^◌, ◌<◌, min, Result, IfOk, List, length, is_ok, if◌then◌else◌}

-- one failure more, counted up to 2^64 - 1
abbrev pub one_more : ℕ → ℕ
one_more count = min (count + 1) (2 ^ 64 - 1)

-- a call that failed is counted, and another one is not
abbrev pub Counts : {A E : Type 0} → ℕ → ℕ → Result A E → Type 0
Counts old new r = new ≡ (if is_ok r then old else one_more old)

-- a failure was counted between the two, or no more can be
abbrev pub HasFailed : ℕ → ℕ → Type 0
HasFailed old new = (old < new) ⊎ (new ≡ 2 ^ 64 - 1)

-- a write takes some of a text that isn't empty
abbrev pub TakesSome : {E : Type 0} → Result ℕ E → List ℕ → Type 0
TakesSome r text = IfOk r (λ n. n ≡ 0 → length text ≡ 0)
