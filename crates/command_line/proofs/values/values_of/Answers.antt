use Rattle.std.proofs.Common.{◌∙◌, map, ap, Some, None}
use Rattle.std.proofs.lemmas.Result.{IfOk-weaker}
use Rattle.clap.specs.Words.{found_of}
use Rattle.command_line.proofs.ValueLemmas.{values_read}
use Rattle.command_line.proofs.values.values_of.Goals as goal

pub returns-in-Some : goal.returns-in-Some
returns-in-Some c =
    let given = Some (map (λ text. text.now) c.in-Some.texts.now) in
    let all = values_read (found_of c.args.values.now) c.args.name.now given c.in-Some.ensures in
    IfOk-weaker c.from_slice.result _ _ (λ texts same. ap (map (λ text. text.now)) same ∙ all)
    c.from_slice.ensures.items

pub returns-in-None : goal.returns-in-None
returns-in-None c = ap (map (λ text. text.now)) c.new.ensures.items
    ∙ values_read (found_of c.args.values.now) c.args.name.now None c.in-None.ensures
