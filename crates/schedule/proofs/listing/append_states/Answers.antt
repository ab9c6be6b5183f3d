use Rattle.std.proofs.Common.{rules}
use Rattle.schedule.proofs.Entries.{element_at}
use Rattle.schedule.proofs.Steps.{set_asleep, set_same}
use Rattle.schedule.proofs.listing.append_states.Goals as goal

pub returns-in_err-states-clause-same : goal.returns-in_err-states-clause-same
returns-in_err-states-clause-same g c =
    let filers = c.args.filers.now.items in
    let filer = c.index_mut.result.now in
    set_same (λ f. f.box) filers c.args.at filer c.states.new.self
    (element_at filers c.args.at filer c.requires c.index_mut.ensures.value) c.states.ensures.same

pub returns-clause-same : goal.returns-clause-same
returns-clause-same g c =
    let filers = c.args.filers.now.items in
    let filer = c.index_mut.result.now in
    set_same (λ f. f.box) filers c.args.at filer c.states.new.self
    (element_at filers c.args.at filer c.requires c.index_mut.ensures.value) c.states.ensures.same

pub returns-in_err-states-clause-store : goal.returns-in_err-states-clause-store
returns-in_err-states-clause-store g c =
    λ e. set_asleep c.args.filers.now.items c.args.at c.states.new.self c.requires
    (c.in_err-states.ensures.store (search rules))

pub returns-clause-store : goal.returns-clause-store
returns-clause-store g c = λ e. absurd (c.append.ensures.memory e)

pub returns-in_err-states-clause-stays : goal.returns-in_err-states-clause-stays
returns-in_err-states-clause-stays g c =
    let filers = c.args.filers.now.items in
    let filer = c.index_mut.result.now in
    set_same (λ f. f.taken) filers c.args.at filer c.states.new.self
    (element_at filers c.args.at filer c.requires c.index_mut.ensures.value) c.states.ensures.stays

pub returns-clause-stays : goal.returns-clause-stays
returns-clause-stays g c =
    let filers = c.args.filers.now.items in
    let filer = c.index_mut.result.now in
    set_same (λ f. f.taken) filers c.args.at filer c.states.new.self
    (element_at filers c.args.at filer c.requires c.index_mut.ensures.value) c.states.ensures.stays
