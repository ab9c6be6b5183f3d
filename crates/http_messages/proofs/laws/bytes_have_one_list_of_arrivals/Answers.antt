use Rattle.http_messages.proofs.Unique.{HasArrivals-unique}
use Rattle.http_messages.proofs.laws.bytes_have_one_list_of_arrivals.Goals as goal

pub returns : goal.returns
returns c =
    λ bytes arrivals others ending other first second. HasArrivals-unique bytes others arrivals other ending second
    first
