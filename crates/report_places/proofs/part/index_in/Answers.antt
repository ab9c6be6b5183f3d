use Rattle.std.proofs.Common.{◌≡◌, arith}
use Rattle.std.proofs.lemmas.Bool.Decides.{nat_tests}
use Rattle.fast_float.specs.Text.{scan}
use Rattle.serde_json.specs.Find.{index_of}
use Rattle.report_places.proofs.part.index_in.Goals as goal

pub returns-in_err-index : goal.returns-in_err-index
unfolding index_of
returns-in_err-index c =
    let parts : scan c.args.part.now ≡ c.scan-numeral.result =
    rw (← c.as_bytes-bytes.ensures.value, c.scan-numeral.ensures.parts) in
    rw parts (grind (arith, nat_tests))

pub returns-then-len-bytes : goal.returns-then-len-bytes
unfolding index_of
returns-then-len-bytes c =
    let parts : scan c.args.part.now ≡ c.scan-numeral.result =
    rw (← c.as_bytes-bytes.ensures.value, c.scan-numeral.ensures.parts) in
    rw parts (grind (arith, nat_tests))

pub returns-else-len-bytes : goal.returns-else-len-bytes
unfolding index_of
returns-else-len-bytes c =
    let parts : scan c.args.part.now ≡ c.scan-numeral.result =
    rw (← c.as_bytes-bytes.ensures.value, c.scan-numeral.ensures.parts) in
    rw parts (grind (arith, nat_tests))
