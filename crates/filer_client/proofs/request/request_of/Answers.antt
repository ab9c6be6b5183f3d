use Rattle.filer_client.proofs.request.request_of.Goals as goal

pub returns-in-Ok : goal.returns-in-Ok
returns-in-Ok c =
    record { bytes = rw (c.new-text.ensures.items, c.as_slice.ensures.value) at c.in-Ok.ensures.ok; memory = tt }
