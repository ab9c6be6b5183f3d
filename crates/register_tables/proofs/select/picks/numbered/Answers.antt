use Rattle.std.proofs.Common.{pos, arith, w64}
use Rattle.std.proofs.lemmas.Int.{to_z-of_z}
use Rattle.register_tables.proofs.select.picks.numbered.Goals as goal

pub returns-clause-shown : goal.returns-clause-shown
returns-clause-shown g c clean =
    let fits = to_z-of_z w64 (pos c.args.number) (record { sfits = omega (arith, c.requires.number) }) in
    rw (c.params-to_sql.ensures, fits) at c.select.ensures.shown clean

pub returns-clause-failed : goal.returns-clause-failed
returns-clause-failed g c clean =
    let fits = to_z-of_z w64 (pos c.args.number) (record { sfits = omega (arith, c.requires.number) }) in
    rw (c.params-to_sql.ensures, fits) at c.select.ensures.failed clean
