use Rattle.std.proofs.Common.{true, sym, ◌∙◌, refl, ap, inl}
use Rattle.database_places.proofs.Certainty.{falls}
use Rattle.database_places.proofs.Lying.{kept_lying, missing, there}
use Rattle.database_places.proofs.Options.{none_of}
use Rattle.outbox_process.specs.Process.{parts, has_to_be_there, without_files}
use Rattle.outbox_process.proofs.Keeping.{refuses, is_open, not_begun, opens}
use Rattle.outbox_process.proofs.process.OutboxProcess.open.Goals as goal

pub returns-then-is_some : goal.returns-then-is_some
returns-then-is_some g c =
    is_open c.args.beginning (parts g.P.Place.lying c.args.self.now) (sym c.is_some.ensures ∙ c.if-is_some.true)

pub returns-in-Err : goal.returns-in-Err
returns-in-Err g c =
    let closed = none_of c.args.self.now.outbox (sym c.is_some.ensures ∙ c.if-is_some.false) in
    let opens = rw c.opening_of.ensures at c.in-Err.ensures.opens in
    let taken = c.in-Err.unopened.was_taken in
    refuses g.met.D.Disk.seen_may_stay c.args.beginning _ _ taken _
    (falls c.args.self.now.is_certain taken _ refl) closed closed (inl (c.in-Err.unopened.fault, refl, opens))
    (λ is none. ap without_files (missing (has_to_be_there c.args.beginning) (g.P.Place.lying c.args.self.now.place) _
    c.in-Err.unopened opens is none).0)

pub returns-in-Ok-begin : goal.returns-in-Ok-begin
returns-in-Ok-begin g c =
    opens c.args.beginning _ _ c.in-Ok.conn c.in-Ok-begin.outbox
    (none_of c.args.self.now.outbox (sym c.is_some.ensures ∙ c.if-is_some.false)) refl refl
    c.in-Ok.ensures.opens.comes c.in-Ok-begin.ensures.begins c.in-Ok-begin.ensures.up
    (there (has_to_be_there c.args.beginning) (g.P.Place.lying c.args.self.now.place) _ c.in-Ok.conn
    (rw c.opening_of.ensures at c.in-Ok.ensures.opens))

pub returns-then-is_of_others : goal.returns-then-is_of_others
returns-then-is_of_others g c =
    let closed = none_of c.args.self.now.outbox (sym c.is_some.ensures ∙ c.if-is_some.false) in
    let doubt = c.leaves_doubt in
    let old = g.P.Place.lying c.args.self.now.place in
    let mid = g.P.Place.lying c.open.new.place in
    let new = g.P.Place.lying c.remove_new_log.new.place in
    refuses g.met.D.Disk.seen_may_stay c.args.beginning _ _ true _
    (falls c.args.self.now.is_certain doubt.result _ doubt.ensures) closed closed
    (not_begun c.args.beginning old mid new c.in-Ok.conn c.in-Err-begin.back c.give_up.ensures.0
    c.in-Err-begin.refusal.why c.in-Ok.ensures.opens.comes c.in-Err-begin.ensures.refused
    (kept_lying mid (g.P.Place.lying c.give_up.new.place) new c.give_up.ensures.0 c.give_up.ensures.1
    c.remove_new_log.ensures) c.give_up.ensures.2)
    (there (has_to_be_there c.args.beginning) old _ c.in-Ok.conn (rw c.opening_of.ensures at c.in-Ok.ensures.opens))

pub returns-else-is_of_others : goal.returns-else-is_of_others
returns-else-is_of_others g c =
    let closed = none_of c.args.self.now.outbox (sym c.is_some.ensures ∙ c.if-is_some.false) in
    let doubt = c.leaves_doubt in
    let old = g.P.Place.lying c.args.self.now.place in
    refuses g.met.D.Disk.seen_may_stay c.args.beginning _ _ true _
    (falls c.args.self.now.is_certain doubt.result _ doubt.ensures) closed closed
    (not_begun c.args.beginning old (g.P.Place.lying c.open.new.place) (g.P.Place.lying c.give_up.new.place)
    c.in-Ok.conn c.in-Err-begin.back c.give_up.ensures.0 c.in-Err-begin.refusal.why c.in-Ok.ensures.opens.comes
    c.in-Err-begin.ensures.refused c.give_up.ensures.1 c.give_up.ensures.2)
    (there (has_to_be_there c.args.beginning) old _ c.in-Ok.conn (rw c.opening_of.ensures at c.in-Ok.ensures.opens))
