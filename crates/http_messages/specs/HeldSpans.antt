-- Which spans a head holds.
use Rattle.http_messages.specs.declared.head.HeadSpans.{HeadSpans}
use Rattle.http_messages.specs.declared.head.HeldSpans.{HeldSpans}
use Rattle.http_messages.specs.declared.head.HeldSpans.TheVariants.{Own, Lent}

-- the spans
abbrev pub spans_of : HeldSpans → HeadSpans
spans_of (Own spans) = spans
spans_of (Lent spans) = spans.now
