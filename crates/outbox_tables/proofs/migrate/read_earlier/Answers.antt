use Rattle.std.proofs.Common.{[], ap, Err, sym, subst, ◌∙◌, string_bytes, IsPermutation, rules}
use Rattle.std.proofs.lemmas.Result.{err_from_is_err_and}
use Rattle.sqlite.specs.Held.{state}
use Rattle.sqlite.specs.Effect.{Database}
use Rattle.sqlite.specs.State.{IsUnchanged}
use Rattle.std.proofs.lemmas.List.Sorted.{IsPermutation-refl}
use Rattle.table_rows.specs.Rows.{TableHas}
use Rattle.table_rows.proofs.LeavingLemmas.{asked_then, clean_before}
use Rattle.outbox_tables.specs.Schema.{HasCommon, entry_table}
use Rattle.outbox_tables.specs.Rows.{entry_rows}
use Rattle.outbox_tables.proofs.ListLemmas.{kept_list}
use Rattle.outbox_tables.proofs.DistinctLemmas.{distinct_held}
use Rattle.outbox_tables.proofs.SoundLemmas.{kept_entries}
use Rattle.outbox_tables.proofs.EarlierLemmas.{untargeted, no_targets}
use Rattle.outbox_tables.proofs.RefusalLemmas.{refused_first, refused_later}
use Rattle.outbox_tables.proofs.migrate.read_earlier.Goals as goal

pub returns-clause-found : goal.returns-clause-found
returns-clause-found g c clean common live =
    let old = state g.S.Store c.args.conn.now in
    let was_clean = clean_before c.count_entries.ensures.leaves clean in
    let one = c.in_ok-filer.ensures.found was_clean common in
    let same : IsUnchanged old (state g.S.Store c.filer_of.new.conn) = c.in_ok-filer.ensures.leaves.left was_clean in
    let code = c.in_ok-filer.ensures.code in
    let sound = live same.0.was_open in
    let still : HasCommon (state g.S.Store c.filer_of.new.conn).now.schema =
    subst (λ (d : Database). HasCommon d.schema) (sym same.0.now_is) common in
    let two = c.in_ok-count.ensures.counted clean still tt in
    let entries = subst (λ (d : Database). TableHas d entry_table (entry_rows two.0)) same.0.now_is two.1 in (
      two.0,
      record {
        sound = sound;
        declared = common;
        meta_is = one;
        entries_are = entries;
        untargeted = untargeted two.0 two.2;
        list = kept_list (string_bytes c.in_ok-filer.filer) two.0 code two.3
            (distinct_held old.now two.0 sound common entries);
      },
      two.4,
    )

pub returns-clause-read : goal.returns-clause-read
returns-clause-read g c clean =
    let was_clean = clean_before c.count_entries.ensures.leaves clean in
    let two = c.in_ok-count.ensures.read clean in
    (c.filer_of.new.conn, c.in_ok-filer.ensures.read was_clean, two.0, two.1, two.2, two.3)

pub returns-in_err-count-clause-refused : goal.returns-in_err-count-clause-refused
returns-in_err-count-clause-refused g c clean =
    let told = err_from_is_err_and c.from_residual-in_err-count.result c.from_residual-in_err-count.ensures.1 in
    let was_clean = clean_before c.count_entries.ensures.leaves clean in
    rw (told.1, told.2)
    (refused_later g.S.Store 1 _ _ c.in_err-count.field-0.0 c.args.conn.now c.filer_of.new.conn c.count_entries.new.conn
    (_, c.in_ok-filer.ensures.read was_clean) c.in_err-count.ensures.others
    (λ row is. c.in_err-count.ensures.damaged clean row (ap Err is))
    (λ is. c.in_err-count.ensures.disk clean (ap Err is)))

pub returns-in_err-count-clause-sound : goal.returns-in_err-count-clause-sound
returns-in_err-count-clause-sound g c clean it is unlimited =
    let told = err_from_is_err_and c.from_residual-in_err-count.result c.from_residual-in_err-count.ensures.1 in
    let was_clean = clean_before c.count_entries.ensures.leaves clean in
    let same = (c.in_ok-filer.ensures.leaves.left was_clean).0.now_is in
    let still : HasCommon (state g.S.Store c.filer_of.new.conn).now.schema =
    subst (λ (d : Database). HasCommon d.schema) (sym same) is.declared in
    let entries = subst (λ (d : Database). TableHas d entry_table (entry_rows it.entries)) (sym same) is.entries_are in
    let none : IsPermutation _ [] =
    subst (λ rows. IsPermutation rows []) (sym (no_targets it.entries is.untargeted)) (IsPermutation-refl []) in
    rw (told.1, told.2) (c.in_err-count.ensures.whole clean it.entries still entries (kept_entries it is.list) none
    (c.in_ok-filer.ensures.leaves.survives.limit ∙ unlimited))

pub returns-clause-leaves : goal.returns-clause-leaves
returns-clause-leaves g c = asked_then c.in_ok-filer.ensures.leaves c.in_ok-count.ensures.leaves

pub returns-in_err-count-clause-leaves : goal.returns-in_err-count-clause-leaves
returns-in_err-count-clause-leaves g c = let left =
    asked_then c.in_ok-filer.ensures.leaves c.in_err-count.ensures.leaves in search rules

pub returns-in_err-filer-clause-refused : goal.returns-in_err-filer-clause-refused
returns-in_err-filer-clause-refused g c clean =
    let told = err_from_is_err_and c.from_residual.result c.from_residual.ensures.1 in
    rw (told.1, told.2)
    (refused_first g.S.Store 1 _ _ c.in_err-filer.field-0.0 c.args.conn.now c.filer_of.new.conn
    c.in_err-filer.ensures.others (λ is. c.in_err-filer.ensures.not_ours clean (ap Err is))
    (λ is. c.in_err-filer.ensures.disk clean (ap Err is)))
