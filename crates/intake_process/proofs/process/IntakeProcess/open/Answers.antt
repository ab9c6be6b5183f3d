use Rattle.std.proofs.Common.{true, sym, ◌∙◌, refl, ap}
use Rattle.database_places.specs.Opening.{is_found}
use Rattle.database_places.proofs.Certainty.{falls}
use Rattle.database_places.proofs.Lying.{kept_lying, missing, there}
use Rattle.database_places.proofs.Options.{none_of}
use Rattle.intake_process.specs.Process.{parts, without_files}
use Rattle.intake_process.proofs.Keeping.{refuses, is_open, not_begun, opens}
use Rattle.intake_process.proofs.process.IntakeProcess.open.Goals as goal

pub returns-then-is_some : goal.returns-then-is_some
returns-then-is_some g c =
    is_open (is_found c.args.opening) c.args.limit (parts g.P.Place.lying c.args.self.now) (sym c.is_some.ensures
    ∙ c.if-is_some.true)

pub returns-in-Err : goal.returns-in-Err
returns-in-Err g c =
    let closed = none_of c.args.self.now.intake (sym c.is_some.ensures ∙ c.if-is_some.false) in
    refuses g.met.D.Disk.seen_may_stay (is_found c.args.opening) c.args.limit _ _ c.in-Err.unopened.was_taken _
    (falls c.args.self.now.is_certain c.leaves_doubt.result _ c.leaves_doubt.ensures) closed closed refl
    c.in-Err.ensures.opens
    (λ is none. let is_missing = missing (is_found c.args.opening) (g.P.Place.lying c.args.self.now.place) _
    c.in-Err.unopened c.in-Err.ensures.opens is none in
    (ap without_files is_missing.0, is_missing.1))

pub returns-in-Ok-begin : goal.returns-in-Ok-begin
returns-in-Ok-begin g c =
    opens (is_found c.args.opening) c.args.limit _ _ c.in-Ok.conn c.in-Ok-begin.intake c.in-Ok-begin.totals
    (none_of c.args.self.now.intake (sym c.is_some.ensures ∙ c.if-is_some.false)) refl refl refl
    c.in-Ok-begin.ensures.up c.in-Ok.ensures.opens.comes c.in-Ok-begin.ensures.found
    c.in-Ok-begin.ensures.made c.in-Ok-begin.ensures.limited
    (there (is_found c.args.opening) (g.P.Place.lying c.args.self.now.place) _ c.in-Ok.conn c.in-Ok.ensures.opens)

pub returns-then-is_of_others : goal.returns-then-is_of_others
returns-then-is_of_others g c =
    let closed = none_of c.args.self.now.intake (sym c.is_some.ensures ∙ c.if-is_some.false) in
    let doubt = c.leaves_doubt-in-Err-begin in
    let old = g.P.Place.lying c.args.self.now.place in
    let mid = g.P.Place.lying c.open.new.place in
    let new = g.P.Place.lying c.remove_new_log.new.place in
    refuses g.met.D.Disk.seen_may_stay (is_found c.args.opening) c.args.limit _ _ true _
    (falls c.args.self.now.is_certain doubt.result _ doubt.ensures) closed closed refl
    (not_begun (is_found c.args.opening) old mid new c.in-Ok.conn c.in-Err-begin.back c.give_up.ensures.0
    c.in-Err-begin.why c.in-Ok.ensures.opens.comes c.in-Err-begin.ensures.refused
    (kept_lying mid (g.P.Place.lying c.give_up.new.place) new c.give_up.ensures.0 c.give_up.ensures.1
    c.remove_new_log.ensures) c.give_up.ensures.2)
    (there (is_found c.args.opening) old _ c.in-Ok.conn c.in-Ok.ensures.opens)

pub returns-else-is_of_others : goal.returns-else-is_of_others
returns-else-is_of_others g c =
    let closed = none_of c.args.self.now.intake (sym c.is_some.ensures ∙ c.if-is_some.false) in
    let doubt = c.leaves_doubt-in-Err-begin in
    let old = g.P.Place.lying c.args.self.now.place in
    refuses g.met.D.Disk.seen_may_stay (is_found c.args.opening) c.args.limit _ _ true _
    (falls c.args.self.now.is_certain doubt.result _ doubt.ensures) closed closed refl
    (not_begun (is_found c.args.opening) old (g.P.Place.lying c.open.new.place) (g.P.Place.lying c.give_up.new.place)
    c.in-Ok.conn c.in-Err-begin.back c.give_up.ensures.0 c.in-Err-begin.why c.in-Ok.ensures.opens.comes
    c.in-Err-begin.ensures.refused c.give_up.ensures.1 c.give_up.ensures.2)
    (there (is_found c.args.opening) old _ c.in-Ok.conn c.in-Ok.ensures.opens)
