use Rattle.std.proofs.Common.{sym, ap, ◌∙◌, subst}
use Rattle.filing_model.specs.Request.{firsts}
use Rattle.schedule.specs.Processes.{Keeps, is_taken}
use Rattle.schedule.proofs.server.Server.restart.Goals as goal

pub invariant_of-self-2 : goal.invariant_of-self-2
invariant_of-self-2 g c =
    let limit = c.self.inside.limit in
    let F = firsts c.self.inside.done.items in
    let keeps = subst (λ p. Keeps p limit F) (sym c.take.ensures.value ∙ c.in-Some.is) c.self.invariant.1 in
    (c.self.invariant.0, c.in_ok-open.ensures.kept F (c.in_ok-close.ensures.kept limit F keeps))

pub returns-clause-restarted : goal.returns-clause-restarted
returns-clause-restarted g c =
    let inside = c.self.inside in
    rw (sym c.self.view_is) (λ i. record {
      limit = inside.limit;
      done = inside.done.items;
      up =
          c.in_ok-open.ensures.up i;
      taken = sym (ap is_taken (sym c.take.ensures.value ∙ c.in-Some.is)) i;
    })
