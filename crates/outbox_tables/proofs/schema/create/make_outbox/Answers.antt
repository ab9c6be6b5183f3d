use Rattle.std.proofs.Common.{◌≡◌, Result, Ok, Err, String, Global, true, false, inl, inr, sym, subst, ◌∙◌}
use Rattle.std.proofs.Common.{true≢false, rules}
use Rattle.std.proofs.lemmas.Result.{err_from_is_err_and}
use Rattle.key_string.specs.Filer.{is_filer}
use Rattle.sqlite.specs.Held.{state}
use Rattle.sqlite.proofs.StateLemmas.{survives_weaker}
use Rattle.table_rows.specs.Causes.{cause_of}
use Rattle.outbox_tables.specs.Entries.{empty}
use Rattle.outbox_tables.specs.Rows.{IsOutboxOf}
use Rattle.outbox_tables.specs.Schema.{is_taken}
use Rattle.outbox_tables.specs.declared.fault.OutboxFault.{OutboxFault}
use Rattle.outbox_tables.proofs.MakeLemmas.{all_made, made_leaves, nothing_keeps}
use Rattle.outbox_tables.proofs.RefusalLemmas.{of_making, unmade}
use Rattle.outbox_tables.proofs.schema.create.make_outbox.Goals as goal

never : {X : Type 0} (code : String Global) (fault : OutboxFault)
    → ◌≡◌ {A = Result (String Global) OutboxFault} (Ok code) (Err fault) → X
never code fault e = absurd cc

pub returns : goal.returns
returns g c =
    let old = c.args.conn.now in
    let end = c.write_all.new.conn in
    let is : is_filer c.args.filer.now ≡ true = search rules in
    let free : is_taken (state g.S.Store old).now.schema ≡ false = search rules in
    let wrote =
    rw (c.plain.ensures, c.plain-2.ensures, c.plain-3.ensures, c.params-to_sql.ensures) at c.in_ok-write_all.ensures in
    record {
      autocommit = c.write_all.ensures.autocommit;
      code = c.in_ok-code.ensures.ok;
      made = λ clean none.
          let done = wrote.written clean in
          subst (IsOutboxOf (empty c.args.filer.now)) (sym done.now_is)
          (all_made g.S.Store c.args.filer.now old is done.last done.done none);
      bad_filer = (λ e. never _ _ e, λ no. absurd (true≢false (sym is ∙ no)));
      taken = (λ e. never _ _ e, λ both. absurd (true≢false (sym both.1 ∙ free)));
      untouched = search rules;
      failed = λ clean. tt;
      no_other = tt;
      ran = wrote.written;
      undone = λ clean. tt;
      crash = survives_weaker (state g.S.Store old) (state g.S.Store end) _ _
          (λ _ trees made. made_leaves g.S.Store c.args.filer.now old is trees made) wrote.crash;
      durable = wrote.durable;
    }

pub returns-in_err-write_all : goal.returns-in_err-write_all
returns-in_err-write_all g c =
    let old = c.args.conn.now in
    let end = c.write_all.new.conn in
    let error = c.in_err-write_all.field-0.0 in
    let is : is_filer c.args.filer.now ≡ true = search rules in
    let free : is_taken (state g.S.Store old).now.schema ≡ false = search rules in
    let wrote =
    rw (c.plain.ensures, c.plain-2.ensures, c.plain-3.ensures, c.params-to_sql.ensures) at c.in_err-write_all.ensures in
    let told =
    err_from_is_err_and c.from_residual-in_err-write_all.result c.from_residual-in_err-write_all.ensures.1 in
    let neither = unmade (cause_of error) told.0 told.2 in
    rw told.1 (record {
      autocommit = c.write_all.ensures.autocommit;
      code = tt;
      made = λ clean none. tt;
      bad_filer = (λ e. absurd (neither (inl e)), λ no. absurd (true≢false (sym is ∙ no)));
      taken = (λ e. absurd (neither (inr e)), λ both. absurd (true≢false (sym both.1 ∙ free)));
      untouched = λ either. absurd (neither either);
      failed = λ clean bad taken. inr (error, told.2, wrote.undone clean);
      no_other = rw told.2 (of_making (cause_of error));
      ran = λ clean. tt;
      undone = λ clean. nothing_keeps (wrote.neither clean);
      crash = survives_weaker (state g.S.Store old) (state g.S.Store end) _ _
          (λ _ trees made. made_leaves g.S.Store c.args.filer.now old is trees made) wrote.crash;
      durable = λ clean. tt;
    })
