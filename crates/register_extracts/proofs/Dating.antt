-- What stands of the moments of a register.
use Rattle.std.proofs.Common.{◌≡◌, ℕ, List, Option, None, Ok, true, false, length, replicate, sym, subst, ⊎_elim, ◌∙◌}
use Rattle.std.proofs.lemmas.Bool.{cases_Bool}
use Rattle.std.proofs.lemmas.List.{length-replicate}
use Rattle.sqlite.specs.Store.{Ghosts}
use Rattle.sqlite.specs.Held.{Held, state}
use Rattle.sqlite.specs.State.{State, HasCleanDisk}
use Rattle.filing_model.specs.Request.{Request}
use Rattle.table_rows.specs.Standing.{HasCommitted}
use Rattle.register_rows.specs.Received.{Received}
use Rattle.register_tables.specs.declared.opening.Counts.{Counts}
use Rattle.register_tables.specs.Opening.{ReadsRegister}
use Rattle.register_tables.specs.Registers.{IsRegisterOf}

-- after the rows were read they have their moments still, and these are committed
pub still : {S : Type 0} (g : Ghosts S) (old mid : Held S) (counts : Counts) → ReadsRegister g old mid (Ok counts)
    → HasCleanDisk (state g mid) → {old_style : ℕ} {F : List Request}
    → HasCommitted (IsRegisterOf old_style F) (state g mid) → {moments : List (Option ℕ)}
    → Received (state g old).now moments → HasCommitted (λ db. Received db moments) (state g mid)
still g old mid counts read clean was {moments} received = record {
  autocommit = was.autocommit;
  now = λ alive. subst (λ db. Received db moments) (sym (read.same clean).0.now_is) received;
  committed = was.committed;
}

-- a register has moments, one for each of its requests
pub record HasSomeMoments (F : List Request) (s : State) : Type 0 where
  pub moments : List (Option ℕ)
  pub one_each : length moments ≡ length F
  pub dated : HasCommitted (λ db. Received db moments) s

pub some_moments : {old_style : ℕ} (F : List Request) (s : State) → HasCommitted (IsRegisterOf old_style F) s
    → HasSomeMoments F s
some_moments F s was = ⊎_elim
    (λ (alive : s.is_open ≡ true).
    let rows = (was.now alive).rows in record {
      moments = rows.moments;
      one_each = rows.one_each;
      dated = record { autocommit = was.autocommit; now = λ _. rows.received; committed = was.committed };
    })
    (λ (shut : s.is_open ≡ false). record {
      moments = replicate (length F) None;
      one_each = length-replicate (length F) None;
      dated = record {
        autocommit = was.autocommit;
        now = λ alive. absurd (let both : true ≡ false = sym alive ∙ shut in cc both);
        committed = was.committed;
      };
    })
    (cases_Bool s.is_open)
