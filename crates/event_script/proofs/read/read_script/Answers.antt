use Rattle.std.proofs.Common.{◌≡◌}
use Rattle.event_script.proofs.Reading.{script_of-limit, script_of-plain}
use Rattle.event_script.proofs.Fitting.{filers_are, limit_is_small}
use Rattle.event_script.proofs.read.read_script.Goals as goal

pub returns-in-Some-clause-read : goal.returns-in-Some-clause-read
returns-in-Some-clause-read c =
    let said =
    script_of-limit c.args.text.now c.in-Some.behind.rest.now c.in-Some.limit
    (rw c.new-lines.ensures.rest at c.in-Some.ensures.limit)
    (rw c.new-lines.ensures.rest at c.in-Some.ensures.behind) in
    let number : c.in-Some.behind.number ≡ 2 = rw c.new-lines.ensures.number at c.in-Some.ensures.number in
    rw (said, ← number) c.read_behind_limit.ensures.read

pub returns-in-Some-clause-wrong : goal.returns-in-Some-clause-wrong
returns-in-Some-clause-wrong c =
    let said =
    script_of-limit c.args.text.now c.in-Some.behind.rest.now c.in-Some.limit
    (rw c.new-lines.ensures.rest at c.in-Some.ensures.limit)
    (rw c.new-lines.ensures.rest at c.in-Some.ensures.behind) in
    let number : c.in-Some.behind.number ≡ 2 = rw c.new-lines.ensures.number at c.in-Some.ensures.number in
    rw (said, ← number) c.read_behind_limit.ensures.wrong

pub returns-in-None-clause-read : goal.returns-in-None-clause-read
returns-in-None-clause-read c =
    let said = script_of-plain c.args.text.now (rw c.new-lines.ensures.rest at c.in-None.ensures.limit) in
    rw said (rw (c.new-lines.ensures.rest, c.new-lines.ensures.number) at c.read_behind_limit-in-None.ensures.read)

pub returns-in-None-clause-wrong : goal.returns-in-None-clause-wrong
returns-in-None-clause-wrong c =
    let said = script_of-plain c.args.text.now (rw c.new-lines.ensures.rest at c.in-None.ensures.limit) in
    rw said (rw (c.new-lines.ensures.rest, c.new-lines.ensures.number) at c.read_behind_limit-in-None.ensures.wrong)

pub returns-in-Some-clause-filers : goal.returns-in-Some-clause-filers
returns-in-Some-clause-filers c = filers_are c.args.text.now c.read_behind_limit.result (returns-in-Some-clause-read c)

pub returns-in-Some-clause-limit : goal.returns-in-Some-clause-limit
returns-in-Some-clause-limit c =
    limit_is_small c.args.text.now c.read_behind_limit.result (returns-in-Some-clause-read c)

pub returns-in-None-clause-filers : goal.returns-in-None-clause-filers
returns-in-None-clause-filers c =
    filers_are c.args.text.now c.read_behind_limit-in-None.result (returns-in-None-clause-read c)

pub returns-in-None-clause-limit : goal.returns-in-None-clause-limit
returns-in-None-clause-limit c =
    limit_is_small c.args.text.now c.read_behind_limit-in-None.result (returns-in-None-clause-read c)
