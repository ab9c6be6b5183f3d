use Rattle.std.proofs.Common.{◌∙◌, ap, sym, None, get_or, refl, sum_by, slice_index, arith}
use Rattle.connection_hall.specs.Running.{turns, is_late_at}
use Rattle.connection_hall.proofs.Halls.{lined, one_more, sum_more}
use Rattle.connection_hall.proofs.hall.Hall.grow.Goals as goal

pub returns-then-place-len-clause-running : goal.returns-then-place-len-clause-running
returns-then-place-len-clause-running g c answers traffic running =
    let old = c.args.self.now in
    lined g.S.Stream answers (turns old) _ old _ traffic
    (λ i. ap (λ l. get_or l i None) c.push_reserved.ensures.items ∙ one_more old.places.items None i)
    (λ f none. ap (λ l. sum_by f l) c.push_reserved.ensures.items ∙ sum_more f old.places.items none)
    refl refl refl refl refl (λ i it is turn. c.grow.ensures.turns i ∙ turn) running

pub returns-then-place-len-clause-called : goal.returns-then-place-len-clause-called
returns-then-place-len-clause-called g c named called k at there =
    let old = c.args.self.now in
    let i = slice_index named k in
    let same = ap (λ l. get_or l i None) c.push_reserved.ensures.items ∙ one_more old.places.items None i in
    c.grow.ensures.turns i ∙ called k at (rw same at there)

pub returns-then-place-len-clause-delays : goal.returns-then-place-len-clause-delays
returns-then-place-len-clause-delays g c =
    let old = c.args.self.now in
    record {
      taken = λ i some.
          rw (ap (λ l. get_or l i None) c.push_reserved.ensures.items ∙ one_more old.places.items None i) some;
      turns = λ i some is. c.grow.ensures.turns i ∙ is;
      waits = λ i some. let same = c.grow.ensures.waits i in omega (arith, same);
    }

pub returns-then-place-len-clause-late : goal.returns-then-place-len-clause-late
returns-then-place-len-clause-late g c now called i late =
    let old = c.args.self.now in
    let same = ap (λ l. get_or l i None) c.push_reserved.ensures.items ∙ one_more old.places.items None i in
    c.grow.ensures.turns i ∙ called i (ap (λ slot. is_late_at old slot now) (sym same) ∙ late)
