use Rattle.std.proofs.Common.{◌++◌, ◌∷◌, ◌∙◌, ap}
use Rattle.std.specs.List.{flat_map}
use Rattle.std.proofs.lemmas.List.{take_all}
use Rattle.json.specs.Token.{begin_array}
use Rattle.json.specs.Tree.{json_tokens}
use Rattle.serde_json.specs.Written.{outline}
use Rattle.filing_model.specs.Reply.{finding_data}
use Rattle.filing_model.proofs.JsonTokens.{array_whole, item_next}
use Rattle.filing_model.proofs.content.write_findings.Goals as goal

pub loop-finding-init : goal.loop-finding-init
loop-finding-init c = record {
  more = c.in_ok-begin_array.ensures.ok;
  before = c.in_ok-begin_array.ensures.room.0;
}

pub loop-finding-preserved : goal.loop-finding-preserved
loop-finding-preserved c =
    let wrote = c.in_ok-write_finding.ensures in
    record {
      more = item_next finding_data c.args.findings.now c.loop-finding.finding-index c.finding-item.result
          c.finding-item.result c.args.writer.now.tokens c.loop-finding.writer.tokens c.write_finding.new.writer.tokens
          c.loop-finding-test.true c.finding-item.is
          c.loop-finding.invariant.more wrote.more;
      before = wrote.before ∙ c.loop-finding.invariant.before;
    }

pub returns : goal.returns
returns c = record {
  more = array_whole finding_data c.args.findings.now c.args.writer.now.tokens c.loop-finding.writer.tokens
      c.end_array.new.self.tokens
      (c.loop-finding.invariant.more
      ∙ ap (λ fs. c.args.writer.now.tokens ++ begin_array
      ∷ flat_map (λ f. json_tokens (outline (finding_data f))) fs)
      (take_all c.loop-finding.finding-index c.args.findings.now c.loop-finding-test.false))
      c.end_array.result c.end_array.ensures.ok;
  before = c.end_array.ensures.room.0 ∙ c.loop-finding.invariant.before;
}
