use Rattle.std.proofs.Common.{◌≡◌, ◌++◌, ◌∷◌, take}
use Rattle.std.specs.List.{flat_map}
use Rattle.json.specs.Token.{begin_array}
use Rattle.json.specs.Tree.{json_tokens}
use Rattle.serde_json.specs.Written.{outline}
use Rattle.filing_model.specs.Reply.{listing_data}
use Rattle.filing_model.specs.Views.{view_row}
use Rattle.filing_model.proofs.reply.write_rows.Given as goal

abbrev pub invariant-loop-row : goal.invariant-loop-row
invariant-loop-row l = record {
  more : l.writer.tokens ≡ l.fn.writer.tokens ++ begin_array
      ∷ flat_map (λ r. json_tokens (outline (listing_data (view_row r)))) (take l.row-index l.rows);
  before : l.writer.before ≡ l.fn.writer.before;
}
