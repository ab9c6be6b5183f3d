use Rattle.std.proofs.Common.{◌≡◌, ℕ, drop, refl, sym, ◌∙◌, subst}
use Rattle.http_connection.specs.Connection.{held}
use Rattle.http_connection.specs.Buffer.{buffered}
use Rattle.http_messages.proofs.BlockLemmas.{HasNoEndUpTo-zero}
use Rattle.http_connection.proofs.Telling.{HasFinished-finish}
use Rattle.http_connection.proofs.connection.Connection.finish.Goals as goal

pub invariant_of-self-clause-unended : goal.invariant_of-self-clause-unended
invariant_of-self-clause-unended c = λ more. HasNoEndUpTo-zero _

pub returns-clause-finished : goal.returns-clause-finished
returns-clause-finished c = λ came arrivals f open'.
    HasFinished-finish c.args.self.now _ c.in-Some.parsed came arrivals (sym c.take.ensures.value ∙ c.in-Some.is) open'
    (subst (λ (n : ℕ). buffered c.drop_front.new.self ≡ drop n (held c.args.self.now)) c.whole_len.ensures
    c.drop_front.ensures) c.take.ensures.after refl f
