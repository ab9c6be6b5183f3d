use Rattle.programs.proofs.Exchanging.{sent, handed}
use Rattle.programs.proofs.an_exchange_is_sent_and_handed.Goals as goal

pub returns-clause-sent : goal.returns-clause-sent
returns-clause-sent c = sent

pub returns-clause-handed : goal.returns-clause-handed
returns-clause-handed c = handed
