use Rattle.std.proofs.Common.{◌≡◌, false, refl, rules}
use Rattle.std.proofs.lemmas.Option.{IfSome_then}
use Rattle.std.proofs.lemmas.Result.{IfOk-weaker}
use Rattle.http_messages.specs.Posting.{IsTarget}
use Rattle.register_rows.specs.Columns.{begins_with}
use Rattle.register_tables.proofs.Ours.{answers_with}
use Rattle.register_tables.proofs.WalkLemmas.{next_of}
use Rattle.register_tables.proofs.opening.walk.pass_judged.Goals as goal

pub returns-clause-reads : goal.returns-clause-reads
returns-clause-reads g c =
    let left = c.args.left in
    let row = c.args.row.now in
    let seq = c.args.seq in
    let target = c.target_of-target.result.0 in
    let behind = record left { amends = c.target_of-target.result.1 } in
    let fits : IsTarget target = c.is_target.ensures.0 (search rules) in
    let ends : begins_with 0 seq c.target_of-target.result.1.now ≡ false = search rules in
    answers_with g.S.Store _ _ c.pass_filed.result c.pass_filed.ensures.rest
    (λ passed db own h F at.
    let said = h F (record { filed_are = at.filed_are; number_is = at.number_is; place = at.place }) in
    next_of F seq left behind row target c.pass_filed.new.filed db (refl, refl, refl, refl)
    c.target_of-target.ensures.begins ends (c.in-Some.ensures target fits).1 c.target_of-target.ensures.only passed
    (IfSome_then passed own (λ tail h. h.1)) said.0 said.1) c.pass_filed.ensures.reads

pub returns-clause-number : goal.returns-clause-number
returns-clause-number g c =
    IfOk-weaker c.pass_filed.result _ _ (λ passed h. IfSome_then passed h (λ tail rest. rest.0))
    c.pass_filed.ensures.rest
