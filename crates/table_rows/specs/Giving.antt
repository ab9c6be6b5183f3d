-- Calls over a connection that hand something out, or refuse and give the connection back, or up.
use Rattle.std.specs.Prelude.{Result, IfErr}
use Rattle.std.specs.Result.{result_map_both}

-- the answer, or the fault without the connection that comes back beside it
abbrev pub without_conn : {T E C : Type 0} → Result T (E × C) → Result T E
without_conn = result_map_both (λ it. it) (λ refusal. refusal.0)

-- What a call does that gives the connection back: it hands out what this says, and a refusal is as that says.
pub record OrGivesBack {T E C : Type 0} (HandsOut : Result T E → Type 0) (Back : E → C → Type 0)
    (result : Result T (E × C)) : Type 0 where
  pub outcome : HandsOut (without_conn result)
  pub back : IfErr result (λ refusal. Back refusal.0 refusal.1)

-- What it does if a refusal gives the connection up. No clause can name the last state of such a connection: this says
-- that some such state is its last. The call that gives the connection back says it of the one that comes back.
pub record OrGivesUp {T E C : Type 0} (HandsOut : Result T E → Type 0) (Back : E → C → Type 0)
    (result : Result T E) : Type 0 where
  pub outcome : HandsOut result
  pub refused : IfErr result (λ fault. (last : C) × Back fault last)
