use Rattle.std.proofs.Common.{ℕ, List, ◌++◌, ap, ap₂, ◌∙◌}
use Rattle.std.specs.Prelude.{codes}
use Rattle.http_messages.specs.Posting.{target_path}
use Rattle.http_messages.proofs.LinePieces.{OnOk-appended, post_line_pieces}
use Rattle.http_messages.proofs.posting.push_request_line.Goals as goal

pub returns : goal.returns
returns c =
    let first = c.in_ok-extend_from_slice.ensures.items in
    let second =
    c.in_ok-extend_from_slice-2.ensures.items ∙ ap₂ (λ (xs ys : List ℕ). xs ++ ys) first c.as_bytes.ensures.value in
    let third = c.in_ok-push_target.ensures ∙ ap (λ l. l ++ target_path c.args.target) second in
    OnOk-appended c.extend_from_slice-3.result _ _ _ _ c.extend_from_slice-3.ensures.items
    (ap (λ l. l ++ codes " HTTP/1.1\r\n") third ∙ post_line_pieces c.args.out.now.items c.args.filer.now c.args.target)
