use Rattle.std.proofs.Common.{◌≡◌, take}
use Rattle.std.specs.List.{flat_map}
use Rattle.register_extracts.specs.Fields.{record_text, view_head}
use Rattle.register_extracts.proofs.records.records_of.Given as goal

abbrev pub invariant-loop-fact : goal.invariant-loop-fact
invariant-loop-fact l = l.text.items ≡ flat_map (record_text l.form (view_head l.head)) (take l.fact-index l.facts)
