-- In which style a refusal is written: as problem details, or as an earlier version wrote it.
use Rattle.std.specs.Prelude.{◌≡◌, List, if◌then◌else◌}
use Rattle.filing_model.specs.declared.answer.Answer.{Answer}
use Rattle.filing_model.specs.declared.answer.Answer.TheVariants.{Registered, Refused, KeyReused}
use Rattle.filing_model.specs.declared.served.Style.{Style}
use Rattle.filing_model.specs.declared.served.Style.TheVariants.{Old, Problem}
use Rattle.filing_model.specs.Request.{Request, has_key}

-- the style of a request, if these are the old-style ones: their filers' keys keep the old style
abbrev pub style_of : List Request → Request → Style
style_of old_style r = if has_key old_style r then Old else Problem

-- the answer has this style; that of a registration has either
abbrev pub HasStyle : Style → Answer → Type 0
HasStyle style (Registered number repeat) = Unit {0}
HasStyle style (Refused findings repeat told) = told ≡ style
HasStyle style (KeyReused told) = told ≡ style

-- the style that an answer carries; a registration is written alike in both
abbrev pub carried_style : Answer → Style
carried_style (Registered number repeat) = Problem
carried_style (Refused findings repeat style) = style
carried_style (KeyReused style) = style
