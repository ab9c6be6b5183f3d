use Rattle.std.proofs.Common.{◌≡◌, ◌++◌, append_assoc, codes, string_bytes, subst}
use Rattle.std.specs.Fmt.{decimal}
use Rattle.intake_process.specs.Listing.{moment_line}
use Rattle.intake_process.proofs.tasks.dating.moment_line.Goals as goal

pub returns-in_ok-line-in-Some : goal.returns-in_ok-line-in-Some
unfolding moment_line
returns-in_ok-line-in-Some c =
    rw c.in-Some.is
    (subst (λ text. string_bytes c.in_ok-line-in-Some.line ≡ codes "{\"number\":" ++ decimal c.args.number
    ++ codes ",\"received\":\"" ++ text ++ codes "\"}\n") c.in_ok-text-in-Some.ensures
    (simp append_assoc c.in_ok-line-in-Some.ensures.ok))

pub returns-in_ok-line-in-None : goal.returns-in_ok-line-in-None
unfolding moment_line
returns-in_ok-line-in-None c = rw c.in-None.is (simp append_assoc c.in_ok-line-in-None.ensures.ok)
