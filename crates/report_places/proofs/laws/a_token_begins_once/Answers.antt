use Rattle.report_places.proofs.Once.{begins_once}
use Rattle.report_places.proofs.laws.a_token_begins_once.Goals as goal

pub returns : goal.returns
returns c = begins_once
