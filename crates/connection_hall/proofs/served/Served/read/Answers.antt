use Rattle.std.proofs.Common.{refl, ◌∙◌, sym, take, inr}
use Rattle.connection_hall.proofs.Told.{told_read, told_idle, told_cut, needs_same}
use Rattle.connection_hall.proofs.served.Served.read.Goals as goal

pub returns-in-Ok-clause-served : goal.returns-in-Ok-clause-served
returns-in-Ok-clause-served g c answers served needs =
    let now = c.args.self.now in
    told_read _ _ _ _ _ _ answers now _ (take c.in-Bytes.count c.read.new.room) refl c.in-Ok.ensures.more
    c.in-Ok.ensures.taken c.in-Ok.ensures.over c.in-Ok.ensures.ended c.in-Bytes.ensures.ended c.in-Bytes.ensures.came
    c.in-Bytes.ensures.went needs served

pub returns-in-Err-clause-served : goal.returns-in-Err-clause-served
returns-in-Err-clause-served g c answers served needs =
    let now = c.args.self.now in (
      told_cut _ _ _ _ _ _ answers now _ (take c.in-Bytes.count c.read.new.room) refl c.in-Err.ensures.refused
          c.in-Err.ensures.over c.in-Err.ensures.ended c.in-Err.ensures.sound c.in-Bytes.ensures.ended
          c.in-Bytes.ensures.came c.in-Bytes.ensures.went needs served,
      tt,
      λ same. absurd (let e = same in cc),
    )

pub returns-in-Nothing-clause-served : goal.returns-in-Nothing-clause-served
returns-in-Nothing-clause-served g c answers served needs =
    let now = c.args.self.now in (
      told_idle _ _ _ _ _ _ answers now _ c.read.new.room refl refl refl (λ sound. sound)
          (needs.goes_on ∙ sym c.in-Nothing.ensures.ended) c.in-Nothing.ensures.came c.in-Nothing.ensures.went needs
          served,
      inr (needs_same now _ refl refl refl needs, c.in-Nothing.ensures.idle),
    )

pub returns-in-End-clause-served : goal.returns-in-End-clause-served
returns-in-End-clause-served g c answers served needs =
    let now = c.args.self.now in
    told_idle _ _ _ _ _ _ answers now _ c.read.new.room refl c.receive_end.ensures.held c.receive_end.ensures.over
    c.receive_end.ensures.sound (c.receive_end.ensures.ended ∙ sym c.in-End.ensures.ended) c.in-End.ensures.came
    c.in-End.ensures.went needs served
