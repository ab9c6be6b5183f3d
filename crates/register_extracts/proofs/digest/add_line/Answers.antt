use Rattle.std.proofs.Common.{subst, [], ◌∷◌, ◌++◌}
use Rattle.std.proofs.lemmas.List.{append_assoc}
use Rattle.sha2.specs.Hashers.{Holds256}
use Rattle.register_extracts.specs.Digest.{line}
use Rattle.register_extracts.proofs.digest.add_line.Goals as goal

pub returns : goal.returns
unfolding line
returns c m held =
    subst (Holds256 c.update-2.new.self) (append_assoc m c.args.text.now (10 ∷ []))
    (c.update-2.ensures (m ++ c.args.text.now) (c.update.ensures m held))
