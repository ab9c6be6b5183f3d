use Rattle.programs.proofs.Still.{other_status, no_json, other_words}
use Rattle.programs.proofs.fronts.what_settles_nothing.Goals as goal

pub returns-clause-status : goal.returns-clause-status
returns-clause-status c = other_status

pub returns-clause-no_json : goal.returns-clause-no_json
returns-clause-no_json c = no_json

pub returns-clause-words : goal.returns-clause-words
returns-clause-words c = other_words
