use Rattle.key_string.proofs.FilerLemmas.{is_filer-no}
use Rattle.key_string.proofs.filer.read_filer.Goals as goal

pub returns-in-Err : goal.returns-in-Err
returns-in-Err c = is_filer-no c.args.bytes.now c.in-Err.ensures.cases.0
