use Rattle.std.proofs.Common.{sym}
use Rattle.http_messages.proofs.Unique.{SpellsRequest-prefix_free}
use Rattle.http_messages.proofs.laws.request_is_no_front_of_another.Goals as goal

pub returns : goal.returns
returns c = λ bytes more request other first second. let free =
    SpellsRequest-prefix_free bytes more request other first second in (free.0, sym free.1)
