use Rattle.std.proofs.Common.{subst}
use Rattle.filing_model.specs.Register.{kept}
use Rattle.table_rows.proofs.LeavingLemmas.{clean_before, passed, passed_then}
use Rattle.register_extracts.specs.Digest.{digest_until}
use Rattle.register_extracts.specs.Views.{count_of}
use Rattle.register_pages.specs.Shown.{TellsDigest}
use Rattle.register_pages.proofs.about.about_register.Goals as goal

pub returns-clause-told : goal.returns-clause-told
returns-clause-told g c clean old_style F was moments one_each dated low low' =
    let digest = c.in_ok-digest.digest in
    let is = c.in_ok-digest.ensures.digested (clean_before c.in_ok-last.ensures.leaves clean) old_style F was moments
    one_each dated low low' in
    subst (λ count. TellsDigest count (digest_until c.args.kept F moments) c.in_ok-about.about) is.0
    (subst (λ bytes. TellsDigest (count_of digest) bytes c.in_ok-about.about) is.1 c.in_ok-about.ensures)

pub returns-clause-leaves : goal.returns-clause-leaves
returns-clause-leaves g c = passed_then c.in_ok-digest.ensures.leaves (passed c.in_ok-last.ensures.leaves)
