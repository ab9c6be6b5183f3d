use Rattle.std.proofs.Common.{ℕ, List, ◌++◌, refl, subst, sym}
use Rattle.http_messages.specs.Block.{from_block, HasNoEndUpTo}
use Rattle.http_connection.specs.Connection.{held}
use Rattle.http_connection.specs.Parsed.{IsPlaced}
use Rattle.http_connection.proofs.Heads.{unended-more, IsPlaced-more}
use Rattle.http_connection.proofs.Telling.{HasFinished-more, IsSound-more}
use Rattle.http_connection.proofs.connection.Connection.receive_reserved.Goals as goal

pub invariant_of-self-clause-unended : goal.invariant_of-self-clause-unended
invariant_of-self-clause-unended c =
    let old = c.args.self.now in
    subst (λ (all : List ℕ). (more : List ℕ) → HasNoEndUpTo (from_block (all ++ more)) old.searched)
    (sym c.append.ensures.bytes) (unended-more (held old) c.args.bytes.now old.searched old.unended)

pub invariant_of-self-clause-placed : goal.invariant_of-self-clause-placed
invariant_of-self-clause-placed c =
    let old = c.args.self.now in
    λ p is. subst (λ (all : List ℕ). IsPlaced all p) (sym c.append.ensures.bytes)
    (IsPlaced-more (held old) c.args.bytes.now p (old.placed p is))

pub returns-clause-more : goal.returns-clause-more
returns-clause-more c = λ came arrivals f.
    HasFinished-more came c.args.bytes.now arrivals c.args.self.now _ c.append.ensures.bytes refl refl f

pub returns-clause-sound : goal.returns-clause-sound
returns-clause-sound c = IsSound-more c.args.bytes.now c.args.self.now _ c.append.ensures.bytes refl
