use Rattle.std.proofs.Common.{[], sym, arith}
use Rattle.report_places.specs.Entries.{Entry}
use Rattle.report_places.proofs.ByName.{none_at_all, the_last, another_name}
use Rattle.report_places.proofs.entries.last_of_name.Goals as goal

abbrev no_entry : Entry
no_entry = (record { ref_ptr = (0, 0); now = [] }, 0)

pub returns-then-end-eq0 : goal.returns-then-end-eq0
returns-then-end-eq0 c =
    let end = c.end_of_name-end in
    sym (none_at_all c.args.name.now c.args.entries.now c.requires end.result end.ensures.within end.ensures.end
    (omega arith))

pub returns-then-is_eq : goal.returns-then-is_eq
returns-then-is_eq c =
    let end = c.end_of_name-end in
    sym (the_last c.args.name.now c.args.entries.now c.requires end.result end.ensures.within end.ensures.end
    (omega arith) no_entry (grind arith))

pub returns-else-is_eq : goal.returns-else-is_eq
returns-else-is_eq c =
    let end = c.end_of_name-end in
    sym (another_name c.args.name.now c.args.entries.now c.requires end.result end.ensures.within end.ensures.end
    (omega arith) no_entry (grind arith))
