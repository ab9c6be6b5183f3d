use Rattle.std.proofs.Common.{refl}
use Rattle.register_extracts.specs.Digest.{digest_after, first_digest}
use Rattle.register_extracts.proofs.digest.Digest.new.Goals as goal

pub returns : goal.returns
unfolding first_digest digest_after
returns c = record { count_is = refl; digest_is = c.digest.ensures }
