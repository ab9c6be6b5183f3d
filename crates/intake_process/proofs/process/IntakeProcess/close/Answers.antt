use Rattle.std.proofs.Common.{sym, subst, ◌∙◌, refl, ap}
use Rattle.database_places.specs.Closing.{IsClosedIn}
use Rattle.database_places.specs.Places.{Leaves}
use Rattle.sqlite_disk.specs.declared.Files.{Files}
use Rattle.intake_process.specs.Process.{parts, IsLeftBy}
use Rattle.intake_process.proofs.Keeping.{closes, not_closes, closes_none, left_by, ok_gives}
use Rattle.intake_process.proofs.process.IntakeProcess.close.Goals as goal

pub returns-then-is_err : goal.returns-then-is_err
returns-then-is_err g c =
    let old = g.P.Place.lying c.args.self.now.place in
    let new = g.P.Place.lying c.close-outcome.new.place in
    not_closes c.in-Some.intake _ _ _ (sym c.take.ensures.value
    ∙ c.in-Some.is) c.take.ensures.after refl refl c.parted-kept.ensures.0 (sym c.is_err.ensures.value
    ∙ c.if-is_err.true)
    (subst (λ conn. (files : Files _) × Leaves old new files
    × IsLeftBy g.D.Disk conn files c.close-outcome.result) c.parted-kept.ensures.1
    (left_by c.parted-kept.result.1 old new c.close-outcome.result c.close-outcome.ensures.closed
    c.close-outcome.ensures.refused))

pub returns-else-is_err : goal.returns-else-is_err
returns-else-is_err g c =
    let old = g.P.Place.lying c.args.self.now.place in
    let new = g.P.Place.lying c.close-outcome.new.place in
    let left =
    ok_gives c.close-outcome.result (sym c.is_err.ensures.value
    ∙ c.if-is_err.false) c.close-outcome.ensures.closed in
    closes c.in-Some.intake left.0 _ _ _ (sym c.take.ensures.value
    ∙ c.in-Some.is) c.take.ensures.after refl refl c.parted-kept.ensures.0
    (subst (λ conn. IsClosedIn g.D.Disk conn left.0) c.parted-kept.ensures.1 left.2) left.1
    (subst (λ conn. (files : Files _) × Leaves old new files
    × IsLeftBy g.D.Disk conn files c.close-outcome.result) c.parted-kept.ensures.1
    (left_by c.parted-kept.result.1 old new c.close-outcome.result c.close-outcome.ensures.closed
    c.close-outcome.ensures.refused))

pub returns-in-None : goal.returns-in-None
returns-in-None g c =
    let old = parts g.P.Place.lying c.args.self.now in
    closes_none old _ _ (sym c.take.ensures.value
    ∙ c.in-None.is) (ap (λ i. record old { intake = i }) (c.take.ensures.after
    ∙ sym (sym c.take.ensures.value ∙ c.in-None.is))) refl
