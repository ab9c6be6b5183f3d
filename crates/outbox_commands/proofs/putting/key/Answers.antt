use Rattle.std.proofs.Common.{IfErr, sym, subst}
use Rattle.outbox_commands.specs.Puts.{IsNoKeyFor}
use Rattle.outbox_commands.proofs.Opened.{is_none}
use Rattle.outbox_commands.proofs.putting.key.Goals as goal

pub returns-in_default-clause-refused : goal.returns-in_default-clause-refused
returns-in_default-clause-refused c =
    subst (λ text. IfErr c.random_key.result (IsNoKeyFor text)) (sym (is_none c.args.text c.in_default.not-Some))
    c.random_key.ensures
