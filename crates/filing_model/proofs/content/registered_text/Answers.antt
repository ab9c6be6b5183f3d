use Rattle.std.proofs.Common.{ℕ, List, ◌++◌, ap, ap₂, ◌∙◌}
use Rattle.std.specs.Prelude.{codes}
use Rattle.filing_model.proofs.ContentTexts.{registered_pieces}
use Rattle.filing_model.proofs.content.registered_text.Goals as goal

pub returns : goal.returns
returns c =
    let first =
    c.in_ok-extend_from_slice.ensures.items ∙ ap (λ l. l ++ codes "{\"number\":") c.in_ok-text.ensures.items in
    let second =
    c.in_ok-extend_from_slice-2.ensures.items ∙ ap₂ (λ (xs ys : List ℕ). xs ++ ys) first (c.as_bytes.ensures.value
    ∙ c.format.ensures.text) in
    c.in_ok-extend_from_slice-3.ensures.items ∙ ap (λ l. l ++ codes ",\"status\":\"registered\"}") second
    ∙ registered_pieces c.args.number
