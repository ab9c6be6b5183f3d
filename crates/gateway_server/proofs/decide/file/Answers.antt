use Rattle.filing_model.specs.Views.{the_request}
use Rattle.gateway_server.proofs.Grouped.{files}
use Rattle.gateway_server.proofs.decide.file.Goals as goal

pub returns-clause-decided : goal.returns-clause-decided
returns-clause-decided g c =
    files g.S.Store (the_request c.args.filer.now c.args.key.now c.args.target c.args.body.now) c.args.intake.now
    c.submit.new.self c.submit.result c.decided_by.result c.submit.ensures.decides c.decided_by.ensures.given

pub returns-clause-leaves : goal.returns-clause-leaves
returns-clause-leaves g c = record {
  given = c.submit.result;
  is = c.decided_by.ensures.given;
  decides = c.submit.ensures.decides;
  dates = c.submit.ensures.dates;
}
