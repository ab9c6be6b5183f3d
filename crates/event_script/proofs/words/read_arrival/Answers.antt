use Rattle.std.proofs.Common.{◌≤◌, sym, rules}
use Rattle.event_script.proofs.Digits.{number_up_to-small}
use Rattle.event_script.proofs.words.read_arrival.Goals as goal

pub returns : goal.returns
returns c =
    let small : c.in_ok-number.number ≤ 4294967295 =
    number_up_to-small 4294967295 c.args.word.now c.in_ok-number.number (sym c.in_ok-number.ensures) in
    search rules
