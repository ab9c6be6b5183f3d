use Rattle.std.proofs.Common.{not, Err, IsTrue, sym, ap, subst, ◌∙◌, string_bytes, rules}
use Rattle.std.proofs.lemmas.Result.{err_from_is_err_and}
use Rattle.sqlite.specs.Held.{state}
use Rattle.sqlite.specs.Effect.{Database, IsDatabase}
use Rattle.sqlite.specs.State.{IsUnchanged}
use Rattle.table_rows.specs.Rows.{TableHas}
use Rattle.table_rows.specs.Standing.{HasCommitted}
use Rattle.table_rows.proofs.LeavingLemmas.{asked_then, clean_before, keeps_commit, stands}
use Rattle.outbox_tables.specs.Schema.{IsDeclared, entry_table, target_table}
use Rattle.outbox_tables.specs.Entries.{contents_of}
use Rattle.outbox_tables.specs.Rows.{IsOutboxOf, entry_rows, target_rows}
use Rattle.outbox_tables.specs.Audit.{AreDamaged, AreStopped}
use Rattle.outbox_tables.proofs.ListLemmas.{kept_list}
use Rattle.outbox_tables.proofs.DistinctLemmas.{distinct_held}
use Rattle.outbox_tables.proofs.HeldLemmas.{has_common}
use Rattle.outbox_tables.proofs.RefusalLemmas.{refused_first, refused_later}
use Rattle.outbox_tables.proofs.opening.read_outbox.Goals as goal

pub returns : goal.returns
returns g c =
    let old = state g.S.Store c.args.conn.now in
    let mid = state g.S.Store c.filer_of.new.conn in
    let both = asked_then c.in_ok-filer.ensures.leaves c.in_ok-count.ensures.leaves in
    record {
      found = λ clean declared.
          let was_clean = clean_before c.count_all.ensures.leaves clean in
          let one = c.in_ok-filer.ensures.found was_clean (has_common _ declared) in
          let code = c.in_ok-filer.ensures.code in
          let same : IsUnchanged old mid = c.in_ok-filer.ensures.leaves.left was_clean in
          let still : IsDeclared mid.now.schema =
          subst (λ (d : Database). IsDeclared d.schema) (sym same.0.now_is) declared in
          let two = c.in_ok-count.ensures.counted clean still in
          let it = contents_of (string_bytes c.in_ok-filer.filer) two.0 in
          let sound : IsDatabase old.now = (c.is_settled.ensures.live same.0.was_open).0 in
          let entries = subst (λ (d : Database). TableHas d entry_table (entry_rows two.0)) same.0.now_is two.1 in
          let targets = subst (λ (d : Database). TableHas d target_table (target_rows two.0)) same.0.now_is two.2 in
          let here : IsOutboxOf it old.now = record {
            sound = sound;
            rows = record { declared = declared; meta_is = one; entries_are = entries; targets_are = targets };
            list = kept_list (string_bytes c.in_ok-filer.filer) two.0 code two.3
                (distinct_held old.now two.0 sound (has_common _ declared) entries);
          } in
          let settled : IsTrue c.is_settled.result = c.is_settled.ensures.value ∙ ap not c.requires.autocommit in
          let stood : HasCommitted (IsOutboxOf it) old =
          record {
            autocommit = c.requires.autocommit;
            now = λ _. here;
            committed =
                λ alive. sym (c.is_settled.ensures.settled settled alive);
          } in
          (two.0, here, stands both clean stood, two.4);
      says = λ clean. (c.filer_of.new.conn, c.in_ok-filer.ensures.read (clean_before c.count_all.ensures.leaves clean));
      «open» = search rules;
      code = search rules;
      few = search rules;
      refused = search rules;
      sound = search rules;
      others = search rules;
      kept = keeps_commit both;
      crash = both.survives;
      autocommit = search rules;
    }

pub returns-in_err-count : goal.returns-in_err-count
returns-in_err-count g c =
    let told = err_from_is_err_and c.from_residual-in_err-count.result c.from_residual-in_err-count.ensures.1 in
    let both = asked_then c.in_ok-filer.ensures.leaves c.in_err-count.ensures.leaves in
    rw (told.1, told.2) (record {
      found = search rules;
      says = search rules;
      «open» = search rules;
      code = search rules;
      few = search rules;
      refused = λ clean.
          let was_clean = clean_before c.count_all.ensures.leaves clean in
          refused_later g.S.Store 2 (AreDamaged g.S.Store) (AreStopped g.S.Store) c.in_err-count.field-0.0
          c.args.conn.now c.filer_of.new.conn c.count_all.new.conn (_, c.in_ok-filer.ensures.read was_clean)
          c.in_err-count.ensures.others
          (λ row is. c.in_err-count.ensures.damaged clean row (ap Err is))
          (λ is. c.in_err-count.ensures.disk clean (ap Err is));
      sound = λ clean it is.
          let was_clean = clean_before c.count_all.ensures.leaves clean in
          let left = c.in_ok-filer.ensures.leaves in
          c.in_err-count.ensures.whole clean it (subst (IsOutboxOf it) (sym (left.left was_clean).0.now_is) is)
          (left.survives.limit ∙ c.requires.unlimited);
      others = search rules;
      kept = keeps_commit both;
      crash = both.survives;
      autocommit = both.mode c.requires.autocommit;
    })

pub returns-in_err-filer : goal.returns-in_err-filer
returns-in_err-filer g c =
    let told = err_from_is_err_and c.from_residual.result c.from_residual.ensures.1 in
    let left = c.in_err-filer.ensures.leaves in
    rw (told.1, told.2) (record {
      found = search rules;
      says = search rules;
      «open» = search rules;
      code = search rules;
      few = search rules;
      refused = λ clean.
          refused_first g.S.Store 2 (AreDamaged g.S.Store) (AreStopped g.S.Store) c.in_err-filer.field-0.0
          c.args.conn.now c.filer_of.new.conn c.in_err-filer.ensures.others
          (λ is. c.in_err-filer.ensures.not_ours clean (ap Err is))
          (λ is. c.in_err-filer.ensures.disk clean (ap Err is));
      sound = λ clean it is. c.in_err-filer.ensures.ours clean it.filer (has_common _ is.rows.declared) is.rows.meta_is
          is.list.filer c.requires.unlimited;
      others = search rules;
      kept = keeps_commit left;
      crash = left.survives;
      autocommit = left.mode c.requires.autocommit;
    })
