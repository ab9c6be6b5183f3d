use Rattle.std.proofs.Common.{refl}
use Rattle.key_string.specs.Filer.{is_filer}
use Rattle.vectors.proofs.amendments.request_length.Goals as goal

pub append_request-requires-clause-filer : goal.append_request-requires-clause-filer
unfolding is_filer
append_request-requires-clause-filer c = refl
