use Rattle.std.proofs.Common.{◌≡◌, length}
use Rattle.http_messages.specs.FieldsNamed.{values_left}
use Rattle.http_messages.proofs.fields.FieldsNamedIterator.next.Given as goal

abbrev pub invariant-loop-field : goal.invariant-loop-field
invariant-loop-field l = values_left l.self ≡ values_left l.fn.self

abbrev pub decreases-loop-field : goal.decreases-loop-field
decreases-loop-field l = length l.self.spans.now
