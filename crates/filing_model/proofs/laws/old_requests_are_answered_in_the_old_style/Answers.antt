use Rattle.filing_model.proofs.Styles.{style-old}
use Rattle.filing_model.proofs.laws.old_requests_are_answered_in_the_old_style.Goals as goal

pub returns : goal.returns
returns c = style-old
