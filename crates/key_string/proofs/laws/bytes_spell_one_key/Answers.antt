use Rattle.key_string.proofs.Reading.{SpellsKey-same}
use Rattle.key_string.proofs.laws.bytes_spell_one_key.Goals as goal

pub returns : goal.returns
returns c = λ bytes key other first second. SpellsKey-same bytes other key second first
