use Rattle.std.proofs.Common.{not, [], refl, sym, ap, subst, ◌∙◌, IsTrue}
use Rattle.sqlite.specs.Held.{state}
use Rattle.sqlite.proofs.StateLemmas.{survives_weaker}
use Rattle.table_rows.proofs.StepLemmas.{nothing_yet}
use Rattle.register_tables.specs.Registers.{IsRegisterOf}
use Rattle.register_tables.proofs.Making.{makes_empty}
use Rattle.register_tables.proofs.schema.create.make_register.Goals as goal

pub returns-then-is_taken-clause-makes : goal.returns-then-is_taken-clause-makes
returns-then-is_taken-clause-makes g c =
    let old = state g.S.Store c.args.conn.now in
    let settled : IsTrue c.is_settled.result = c.is_settled.ensures.value ∙ ap not c.requires.autocommit in
    record {
      autocommit = c.requires.autocommit;
      made = λ clean none. tt;
      durable = λ clean. tt;
      neither =
          λ clean. record {
            was_open = λ opened. opened;
            now = c.is_settled.ensures.settled settled;
            committed =
                λ opened. refl;
          };
      crash = survives_weaker old old _ _ (λ _ db none. absurd none) (nothing_yet old);
    }

pub returns-in-Ok-clause-makes : goal.returns-in-Ok-clause-makes
returns-in-Ok-clause-makes g c =
    let writes = c.in-Ok.ensures in
    record {
      autocommit = writes.autocommit;
      made = λ clean none.
          let all = writes.written clean in
          let register = makes_empty g.S.Store c.args.conn.now all.last all.done none in (
            all.is_open,
            subst (IsRegisterOf 0 []) (sym all.now_is) register,
            all.committed_is ∙ sym all.now_is,
          );
      durable = writes.durable;
      neither = λ clean. tt;
      crash =
          writes.crash;
    }

pub returns-in-Err-clause-makes : goal.returns-in-Err-clause-makes
returns-in-Err-clause-makes g c =
    let writes = c.in-Err.ensures in
    record {
      autocommit = writes.autocommit;
      made = λ clean none. tt;
      durable = λ clean. tt;
      neither =
          writes.neither;
      crash = writes.crash;
    }
