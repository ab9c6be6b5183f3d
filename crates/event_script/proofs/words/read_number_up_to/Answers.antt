use Rattle.std.proofs.Common.{◌≡◌, true, sym, rules}
use Rattle.std.specs.List.{list_all}
use Rattle.std.specs.Char.{is_ascii_digit}
use Rattle.std.proofs.lemmas.Str.Parse.{parse_digits}
use Rattle.http_messages.proofs.DigitLemmas.{decimal_numerals}
use Rattle.event_script.proofs.Digits.{number_up_to-none}
use Rattle.event_script.proofs.words.read_number_up_to.Goals as goal

pub returns-in_default-2 : goal.returns-in_default-2
returns-in_default-2 c =
    let all : list_all is_ascii_digit c.args.word.now ≡ true = search rules in
    let parsed = parse_digits decimal_numerals 64 c.args.word.now c.parse.result c.parse.ensures.value.0 all in
    sym (number_up_to-none c.args.greatest c.args.word.now (search rules) (rw c.in_default.is at parsed))
