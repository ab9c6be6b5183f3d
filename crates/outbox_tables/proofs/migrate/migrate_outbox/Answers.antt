use Rattle.std.proofs.Common.{◌≡◌, inl, inr, true, false, refl, sym, subst, ◌∙◌, string_bytes, arith, rules}
use Rattle.std.proofs.lemmas.Result.{err_from_is_err_and}
use Rattle.sqlite.specs.Held.{state}
use Rattle.sqlite.specs.Effect.{Database}
use Rattle.sqlite.specs.State.{HasCleanDisk}
use Rattle.table_rows.proofs.LeavingLemmas.{keeps_commit}
use Rattle.table_rows.proofs.StepLemmas.{keeps_then}
use Rattle.table_rows.specs.Statements.{begun}
use Rattle.outbox_tables.specs.Entries.{contents_of}
use Rattle.outbox_tables.specs.Rows.{IsOutboxOf}
use Rattle.outbox_tables.specs.Earlier.{IsAlone, IsEarlierOf, is_blocked}
use Rattle.outbox_tables.proofs.EarlierLemmas.{alone_common, makes_current, survives_migrating}
use Rattle.outbox_tables.proofs.MakeLemmas.{nothing_keeps}
use Rattle.outbox_tables.proofs.migrate.migrate_outbox.Goals as goal

pub returns-then-is_used : goal.returns-then-is_used
returns-then-is_used g c = record {
  autocommit = c.in_ok-found.ensures.leaves.mode c.requires.autocommit;
  migrated = λ clean alone. tt;
  code = tt;
  few = tt;
  ran = λ clean. tt;
  refused = λ clean.
      let used : is_blocked (state g.S.Store c.read_earlier.new.conn).now.schema ≡ true = let told =
      rw c.schema.ensures.value at c.if-is_used.ensures in sym told in
      inr (
        string_bytes c.in_ok-found.found.filer,
        c.in_ok-found.found.count,
        c.read_earlier.new.conn,
        c.in_ok-found.ensures.read clean,
        inl (refl, used, refl),
      );
  sound = search rules;
  undone = keeps_commit c.in_ok-found.ensures.leaves;
  crash = search rules;
  durable = λ clean. tt;
}

pub returns : goal.returns
returns g c =
    let filer = string_bytes c.in_ok-found.found.filer in
    let count = c.in_ok-found.found.count in
    let came = c.args.conn.now in
    let mid = c.read_earlier.new.conn in
    let end = c.write_all.new.conn in
    let wrote = rw (c.plain.ensures, c.plain-2.ensures) at c.in_ok-write_all.ensures in
    let before : HasCleanDisk (state g.S.Store end) → HasCleanDisk (state g.S.Store mid) =
    λ clean. omega (arith, c.write_all.ensures.crash.clean) in
    let free : is_blocked (state g.S.Store mid).now.schema ≡ false = let told =
    rw c.schema.ensures.value at c.if-is_used.ensures in sym told in
    record {
      autocommit = c.write_all.ensures.autocommit;
      migrated = λ clean alone.
          let done = wrote.written clean in
          let found =
          c.in_ok-found.ensures.found (before clean) (alone_common _ alone)
          (λ alive. (c.is_settled.ensures.live alive).0) in
          let it = contents_of (string_bytes c.in_ok-found.found.filer) found.0 in
          let same = sym (c.in_ok-found.ensures.leaves.left (before clean)).0.now_is in
          let still : IsAlone (state g.S.Store mid).now.schema =
          subst (λ (d : Database). IsAlone d.schema) same alone in
          let made =
          makes_current g.S.Store (begun mid) done.last it done.done still (subst (IsEarlierOf it) same found.1) in
          let outbox : IsOutboxOf it (state g.S.Store end).now = subst (IsOutboxOf it) (sym done.now_is) made in (
            found.0,
            found.1,
            record {
              autocommit = c.write_all.ensures.autocommit;
              now = λ _. outbox;
              committed = λ _. done.committed_is ∙ sym done.now_is;
            },
            found.2,
          );
      code = c.in_ok-found.ensures.code;
      few = c.in_ok-found.ensures.few;
      ran = λ clean. record {
        mid = mid;
        found = c.in_ok-found.ensures.read (before clean);
        free = free;
        written = wrote.written clean;
      };
      refused = λ clean. tt;
      sound = λ clean. tt;
      undone = λ clean. tt;
      crash =
          survives_migrating g.S.Store filer count came mid end free
          (λ clean. (c.in_ok-found.ensures.read clean, (c.in_ok-found.ensures.leaves.left clean).0.now_is))
          c.in_ok-found.ensures.leaves.survives wrote.crash;
      durable = wrote.durable;
    }

pub returns-in_err-write_all : goal.returns-in_err-write_all
returns-in_err-write_all g c =
    let filer = string_bytes c.in_ok-found.found.filer in
    let count = c.in_ok-found.found.count in
    let came = c.args.conn.now in
    let mid = c.read_earlier.new.conn in
    let end = c.write_all.new.conn in
    let wrote = rw (c.plain.ensures, c.plain-2.ensures) at c.in_err-write_all.ensures in
    let before : HasCleanDisk (state g.S.Store end) → HasCleanDisk (state g.S.Store mid) =
    λ clean. omega (arith, c.write_all.ensures.crash.clean) in
    let free : is_blocked (state g.S.Store mid).now.schema ≡ false = let told =
    rw c.schema.ensures.value at c.if-is_used.ensures in sym told in
    let told =
    err_from_is_err_and c.from_residual-in_err-write_all.result c.from_residual-in_err-write_all.ensures.1 in
    rw (told.1, told.2) (record {
      autocommit = c.write_all.ensures.autocommit;
      migrated = λ clean alone. tt;
      code = tt;
      few = tt;
      ran = λ clean. tt;
      refused = λ clean. inr (
        filer,
        count,
        mid,
        c.in_ok-found.ensures.read (before clean),
        inr (free, c.in_err-write_all.field-0.0, refl, wrote.undone clean),
      );
      sound = search rules;
      undone = λ clean.
          keeps_then (state g.S.Store came) (state g.S.Store mid) (state g.S.Store end)
          (keeps_commit c.in_ok-found.ensures.leaves (before clean)) (nothing_keeps (wrote.neither clean));
      crash =
          survives_migrating g.S.Store filer count came mid end free
          (λ clean. (c.in_ok-found.ensures.read clean, (c.in_ok-found.ensures.leaves.left clean).0.now_is))
          c.in_ok-found.ensures.leaves.survives wrote.crash;
      durable = λ clean. tt;
    })
