use Rattle.std.proofs.Common.{◌≡◌, ◌++◌, ◌∷◌, take}
use Rattle.std.specs.List.{flat_map}
use Rattle.json.specs.Token.{begin_array}
use Rattle.json.specs.Tree.{json_tokens}
use Rattle.serde_json.specs.Written.{outline}
use Rattle.filing_model.specs.Reply.{finding_data}
use Rattle.filing_model.proofs.content.write_findings.Given as goal

abbrev pub invariant-loop-finding : goal.invariant-loop-finding
invariant-loop-finding l = record {
  more : l.writer.tokens ≡ l.fn.writer.tokens ++ begin_array
      ∷ flat_map (λ f. json_tokens (outline (finding_data f))) (take l.finding-index l.findings);
  before : l.writer.before ≡ l.fn.writer.before;
}
