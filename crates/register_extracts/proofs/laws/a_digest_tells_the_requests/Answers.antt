use Rattle.register_extracts.proofs.Requests.{told_requests}
use Rattle.register_extracts.proofs.laws.a_digest_tells_the_requests.Goals as goal

pub returns : goal.returns
returns c = told_requests
