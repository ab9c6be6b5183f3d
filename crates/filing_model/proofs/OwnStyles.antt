-- An answer has the style that it carries.
use Rattle.std.proofs.Common.{refl}
use Rattle.filing_model.specs.declared.answer.Answer.{Answer as Given}
use Rattle.filing_model.specs.declared.answer.Answer.TheVariants.{Registered, Refused, KeyReused}
use Rattle.filing_model.specs.Style.{HasStyle}
use Rattle.filing_model.specs.Style.{carried_style}

pub HasStyle-carried : (a : Given) → HasStyle (carried_style a) a
HasStyle-carried (Registered number repeat) = tt
HasStyle-carried (Refused findings repeat style) = refl
HasStyle-carried (KeyReused style) = refl
