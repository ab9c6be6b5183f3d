use Rattle.register_rows.proofs.OneList.{one_list}
use Rattle.register_rows.proofs.laws.there_is_one_list_of_moments.Goals as goal

pub returns : goal.returns
returns c = one_list
