use Rattle.std.proofs.Common.{◌≡◌, [], ◌∷◌, true, None, Some, inl, inr, option_map, sym, ap, subst, ◌∙◌}
use Rattle.sqlite.specs.Held.{state}
use Rattle.key_string.specs.Filer.{is_filer}
use Rattle.table_rows.specs.Rows.{TableHas}
use Rattle.outbox_tables.specs.Schema.{meta_table}
use Rattle.outbox_tables.specs.Rows.{form_row}
use Rattle.outbox_tables.specs.Audit.{filer_in}
use Rattle.outbox_tables.proofs.AuditLemmas.{filer_found, filer_code}
use Rattle.table_rows.specs.Causes.{cause_of}
use Rattle.outbox_tables.specs.declared.fault.OutboxFault.TheVariants as fault
use Rattle.table_rows.proofs.LeavingLemmas.{ended}
use Rattle.outbox_tables.proofs.HeldLemmas.{meta_held}
use Rattle.outbox_tables.proofs.RefusalLemmas.{meta_other, meta_stopped}
use Rattle.outbox_tables.proofs.SoundLemmas.{filer_is, meta_readable, unread}
use Rattle.outbox_tables.proofs.opening.filer_of.Goals as goal

pub returns-in-Some-clause-found : goal.returns-in-Some-clause-found
returns-in-Some-clause-found g c clean declared =
    let old = state g.S.Store c.args.conn.now in
    let held =
    meta_held old (state g.S.Store c.meta_rows.new.conn) declared c.in-Ok.rows.items
    (c.in-Ok.ensures.shown clean) in
    let some : filer_in c.args.form c.in-Ok.rows.items ≡ Some c.in-Some.filer.now =
    rw c.as_slice.ensures.value at (sym c.filer_in.ensures ∙ ap (option_map (λ f. f.now)) c.in-Some.is) in
    let found = filer_found old.now c.args.form c.in-Ok.rows.items c.in-Some.filer.now held some in
    subst (λ f. TableHas old.now meta_table (form_row c.args.form f ∷ [])) (sym c.in_ok-from_str-in-Some.ensures.ok)
    found.0

pub returns-in-Some-clause-code : goal.returns-in-Some-clause-code
returns-in-Some-clause-code g c =
    let some : filer_in c.args.form c.in-Ok.rows.items ≡ Some c.in-Some.filer.now =
    rw c.as_slice.ensures.value at (sym c.filer_in.ensures ∙ ap (option_map (λ f. f.now)) c.in-Some.is) in
    subst (λ f. is_filer f ≡ true) (sym c.in_ok-from_str-in-Some.ensures.ok)
    (filer_code c.args.form c.in-Ok.rows.items c.in-Some.filer.now some)

pub returns-in-Some-clause-read : goal.returns-in-Some-clause-read
returns-in-Some-clause-read g c clean =
    let some : filer_in c.args.form c.in-Ok.rows.items ≡ Some c.in-Some.filer.now =
    rw c.as_slice.ensures.value at (sym c.filer_in.ensures ∙ ap (option_map (λ f. f.now)) c.in-Some.is) in (
      c.in-Ok.rows.items,
      c.in-Ok.ensures.shown clean,
      subst (λ f. filer_in c.args.form c.in-Ok.rows.items ≡ Some f) (sym c.in_ok-from_str-in-Some.ensures.ok) some,
    )

pub returns-in-Ok-clause-ours : goal.returns-in-Ok-clause-ours
returns-in-Ok-clause-ours g c clean filer common held is unlimited =
    let none : filer_in c.args.form c.in-Ok.rows.items ≡ None =
    rw c.as_slice.ensures.value at (sym c.filer_in.ensures ∙ ap (option_map (λ f. f.now)) c.in-None.is) in
    let some =
    filer_is (state g.S.Store c.args.conn.now) (state g.S.Store c.meta_rows.new.conn) common c.args.form filer held
    is c.in-Ok.rows.items (c.in-Ok.ensures.shown clean) in
    absurd (let both = sym none ∙ some in cc)

pub returns-clause-ours : goal.returns-clause-ours
returns-clause-ours g c clean filer common held is unlimited =
    let readable =
    meta_readable (state g.S.Store c.args.conn.now) (state g.S.Store c.meta_rows.new.conn) common unlimited
    c.in-Err.error (c.in-Err.ensures.failed clean) in
    rw c.meta_fault.ensures (unread (cause_of c.in-Err.error) readable)

pub returns-clause-not_ours : goal.returns-clause-not_ours
returns-clause-not_ours g c clean is =
    let ours : c.meta_fault.result ≡ fault.NotOurs = cc in
    inr (
      c.in-Err.error,
      c.in-Err.ensures.failed clean,
      meta_other (cause_of c.in-Err.error) (sym c.meta_fault.ensures ∙ ours),
    )

pub returns-clause-disk : goal.returns-clause-disk
returns-clause-disk g c clean is =
    let stopped : c.meta_fault.result ≡ fault.Disk = cc in (
      c.in-Err.error,
      c.in-Err.ensures.failed clean,
      meta_stopped (cause_of c.in-Err.error) (sym c.meta_fault.ensures ∙ stopped),
    )

pub returns-in-Ok-clause-not_ours : goal.returns-in-Ok-clause-not_ours
returns-in-Ok-clause-not_ours g c clean is =
    let none : filer_in c.args.form c.in-Ok.rows.items ≡ None =
    rw c.as_slice.ensures.value at (sym c.filer_in.ensures ∙ ap (option_map (λ f. f.now)) c.in-None.is) in
    inl (c.in-Ok.rows.items, c.in-Ok.ensures.shown clean, none)

pub returns-in-Ok-clause-leaves : goal.returns-in-Ok-clause-leaves
returns-in-Ok-clause-leaves g c = ended c.in-Ok.ensures.leaves

pub returns-clause-leaves : goal.returns-clause-leaves
returns-clause-leaves g c = ended c.in-Err.ensures.leaves
