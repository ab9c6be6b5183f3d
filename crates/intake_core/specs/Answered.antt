-- What a request is answered, and in which style.
use Rattle.std.specs.Prelude.{◌≡◌, List}
use Rattle.filing_model.specs.declared.answer.Answer.{Answer as Given}
use Rattle.filing_model.specs.Answer.{answer}
use Rattle.filing_model.specs.Request.{Request}
use Rattle.filing_model.specs.Style.{style_of, HasStyle}
use Rattle.filing_model.specs.Views.{view_answer}

-- This is the answer to a request that comes after these, in the style of its filer and key. The old-style requests
-- were kept before there were problem details.
abbrev pub IsAnswerTo : List Request → List Request → Request → Given → Type 0
IsAnswerTo old_style requests r a = (view_answer a ≡ answer requests r) × HasStyle (style_of old_style r) a
