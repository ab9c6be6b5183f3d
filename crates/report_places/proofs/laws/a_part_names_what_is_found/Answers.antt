use Rattle.report_places.proofs.Agree.{named_member, indexed_element}
use Rattle.report_places.proofs.laws.a_part_names_what_is_found.Goals as goal

pub returns : goal.returns
returns c = record { members = named_member; elements = indexed_element }
