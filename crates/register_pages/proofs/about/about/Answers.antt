use Rattle.std.proofs.Common.{◌++◌, ap, ◌∙◌}
use Rattle.std.specs.Prelude.{codes}
use Rattle.hex.specs.Hex.{encode_lower}
use Rattle.register_extracts.specs.Views.{bytes_of}
use Rattle.register_pages.proofs.about.about.Goals as goal

pub returns : goal.returns
returns c = (
  _,
  codes "</code>",
  c.in_ok-constant-2.ensures ∙ ap (λ l. l ++ codes "</code>") (c.in_ok-digest.ensures
      ∙ ap (λ l. l ++ encode_lower (bytes_of c.args.digest.now)) (c.in_ok-constant.ensures
      ∙ ap (λ l. l ++ codes " ") (rw c.count-2.ensures at c.in_ok-number.ensures))),
)
