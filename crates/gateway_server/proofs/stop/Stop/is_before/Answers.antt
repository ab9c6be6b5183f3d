use Rattle.std.proofs.Common.{◌≡◌, ℕ, max, subst, nat_eq, MatchBool, arith}
use Rattle.std.proofs.lemmas.Bool.{cases_from_iff}
use Rattle.std.proofs.lemmas.Bool.Decides.{Decides-eqb}
use Rattle.gateway_server.proofs.stop.Stop.is_before.Goals as goal

pub returns-in-Before : goal.returns-in-Before
returns-in-Before c =
    let request : ℕ = c.in-Before.request in
    let same : c.max.result ≡ max 1 request = omega (arith, c.max.ensures) in
    rw c.in-Before.is (subst (λ (n : ℕ). MatchBool (nat_eq c.args.number c.max.result) (c.args.number ≡ n)
    (Prim.¬◌ (c.args.number ≡ n))) same (cases_from_iff (Decides-eqb c.args.number c.max.result)))
