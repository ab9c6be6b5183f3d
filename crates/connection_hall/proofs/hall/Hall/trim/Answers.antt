use Rattle.std.proofs.Common.{◌≡◌, ◌≤◌, ◌∙◌, ap, ℕ, None, get_or, length, refl, sum_by}
use Rattle.connection_hall.specs.Running.{turns}
use Rattle.connection_hall.proofs.Halls.{lined, get_used, sum_used, below_used, some_used}
use Rattle.connection_hall.proofs.hall.Hall.trim.Goals as goal

pub returns-clause-running : goal.returns-clause-running
returns-clause-running g c answers traffic running =
    let old = c.args.self.now in
    let used = c.count_used-used.result in
    let within : used ≤ length old.places.items = rw c.deref.ensures.value at c.count_used-used.ensures.within in
    let free : (i : ℕ) → used ≤ i → get_or old.places.items i None ≡ None =
    λ i high. rw c.deref.ensures.value at (c.count_used-used.ensures.free i high) in
    lined g.S.Stream answers (turns old) _ old _ traffic
    (λ i. ap (λ l. get_or l i None) c.truncate.ensures.items ∙ get_used old.places.items used within free i)
    (λ f none. ap (λ l. sum_by f l) c.truncate.ensures.items ∙ sum_used f old.places.items used none free)
    refl refl refl refl refl
    (λ i it is turn. c.shrink.ensures.turns i (below_used old.places.items used i it free is) ∙ turn) running

pub returns-clause-delays : goal.returns-clause-delays
returns-clause-delays g c =
    let old = c.args.self.now in
    let used = c.count_used-used.result in
    let within : used ≤ length old.places.items = rw c.deref.ensures.value at c.count_used-used.ensures.within in
    let free : (i : ℕ) → used ≤ i → get_or old.places.items i None ≡ None =
    λ i high. rw c.deref.ensures.value at (c.count_used-used.ensures.free i high) in
    record {
      taken = λ i some.
          rw (ap (λ l. get_or l i None) c.truncate.ensures.items ∙ get_used old.places.items used within free i) some;
      turns = λ i some is. c.shrink.ensures.turns i (some_used old.places.items used i free some) ∙ is;
      waits = λ i some. c.shrink.ensures.waits i (some_used old.places.items used i free some);
    }
