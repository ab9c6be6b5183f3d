use Rattle.std.proofs.Common.{◌≡◌, true, refl, arith}
use Rattle.std.proofs.lemmas.Grind.{common_steps}
use Rattle.http_messages.specs.Message.{interim}
use Rattle.connection_hall.proofs.Told.{told_interim, told_unkept}
use Rattle.connection_hall.proofs.served.Served.owe_interim.Goals as goal

pub returns-then-is_err-clause-served : goal.returns-then-is_err-clause-served
returns-then-is_err-clause-served g c answers served asks =
    let now = c.args.self.now in
    let none : c.extend_from_slice.new.self.items ≡ now.owed.items =
    grind (arith, common_steps, c.extend_from_slice.ensures.items, c.is_err.ensures.value, c.if-is_err.true) in (
      told_unkept (g.S.Stream.came now.stream) (g.S.Stream.went now.stream) (g.S.Stream.is_ended now.stream) answers now
          (record now { owed = c.extend_from_slice.new.self }) refl none served,
      tt,
      λ same. absurd (let e = same in cc),
    )

pub returns-clause-served : goal.returns-clause-served
returns-clause-served g c answers served asks =
    let now = c.args.self.now in
    let text : c.extend_from_slice.new.self.items ≡ interim =
    grind (
      arith,
      common_steps,
      c.extend_from_slice.ensures.items,
      c.is_err.ensures.negation,
      c.if-is_err.false,
      c.requires.none_owed,
    ) in
    told_interim (g.S.Stream.came now.stream) (g.S.Stream.went now.stream) (g.S.Stream.is_ended now.stream) answers now
    (record now { owed = c.extend_from_slice.new.self; is_early = true }) refl c.requires.none_owed text c.requires.once
    c.requires.none_ready c.requires.open asks served
