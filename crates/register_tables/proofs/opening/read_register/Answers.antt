use Rattle.std.proofs.Common.{◌≡◌, ◌∙◌, not, ap, inr, Err, IsTrue, rules}
use Rattle.sqlite.specs.Held.{state}
use Rattle.sqlite.specs.State.{HasCleanDisk}
use Rattle.table_rows.proofs.LeavingLemmas.{ended}
use Rattle.register_tables.specs.declared.fault.OpenFault.TheVariants.{NotOurs}
use Rattle.register_tables.specs.Opening.{IsRefused}
use Rattle.register_tables.proofs.Opened.{no_form, not_opened, reads_register}
use Rattle.register_tables.proofs.opening.read_register.Goals as goal

pub returns-in-None : goal.returns-in-None
returns-in-None g c =
    let settled : IsTrue c.is_settled.result = c.is_settled.ensures.value ∙ ap not c.requires.autocommit in
    reads_register g.S.Store c.args.conn.now c.read_form.new.conn c.read_in.new.conn c.is_settled.ensures.live
    c.requires.autocommit c.requires.unlimited (c.is_settled.ensures.settled settled)
    (rw c.in-None.is at c.in_ok-read_form.ensures.read) c.in_ok-read_form.ensures.leaves c.read_in.result
    c.read_in.ensures

pub returns-in-Some : goal.returns-in-Some
returns-in-Some g c =
    let refused : HasCleanDisk (state g.S.Store c.read_form.new.conn)
    → IsRefused g.S.Store NotOurs c.args.conn.now c.read_form.new.conn =
    λ clean. inr (c.in-Some.field-0, (c.read_form.new.conn, rw c.in-Some.is at c.in_ok-read_form.ensures.read clean)) in
    not_opened g.S.Store c.args.conn.now c.read_form.new.conn c.requires.unlimited c.requires.autocommit NotOurs refused
    (ended c.in_ok-read_form.ensures.leaves)

pub returns-in_err-read_form : goal.returns-in_err-read_form
returns-in_err-read_form g c =
    let why = c.in_err-read_form.field-0.0 in
    let told : c.from_residual.result ≡ Err why = search rules in
    rw told (not_opened g.S.Store c.args.conn.now c.read_form.new.conn c.requires.unlimited c.requires.autocommit why
    (λ clean. no_form g.S.Store c.args.conn.now c.read_form.new.conn c.requires.unlimited why
    (c.in_err-read_form.ensures.refused clean)) c.in_err-read_form.ensures.leaves)
