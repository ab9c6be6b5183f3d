use Rattle.http_messages.proofs.BlockLemmas.{HasNoEndUpTo-zero}
use Rattle.http_connection.proofs.connection.Connection.over.Goals as goal

pub invariant_of-result-clause-unended : goal.invariant_of-result-clause-unended
invariant_of-result-clause-unended c = λ more. HasNoEndUpTo-zero _
