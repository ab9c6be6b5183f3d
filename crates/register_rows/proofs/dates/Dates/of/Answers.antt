use Rattle.std.proofs.Common.{refl}
use Rattle.register_rows.proofs.MomentLemmas.{none_dated, some_dated}
use Rattle.register_rows.proofs.dates.Dates.of.Goals as goal

pub returns-in-Some : goal.returns-in-Some
returns-in-Some c =
    let found = c.in-Some.ensures.some in
    record {
      many = refl;
      sound_are = c.dated_from.ensures;
      none = λ zero seq moment more fits e. some_dated c.in-Some.first c.args.rows.now c.dated_from.result
          c.dated_from.ensures found.1.0 found.1.1 found.1.2 found.1.3 zero;
    }

pub returns-in-None : goal.returns-in-None
returns-in-None c =
    let none = c.in-None.ensures.none refl in
    record { many = refl; sound_are = none_dated 0 c.args.rows.now none; none = λ zero. none }
