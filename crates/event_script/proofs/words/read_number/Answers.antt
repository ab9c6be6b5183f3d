use Rattle.event_script.proofs.words.read_number.Goals as goal

pub returns : goal.returns
returns c = c.read_number_up_to.ensures
