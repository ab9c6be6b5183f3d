use Rattle.std.proofs.Common.{◌≡◌, inl, inr, not, true, false, None, Err, IsTrue, refl, sym, ap, ◌∙◌, rules, arith}
use Rattle.std.proofs.Common.{length}
use Rattle.std.proofs.lemmas.List.{length-replicate}
use Rattle.sqlite.specs.Held.{state}
use Rattle.sqlite.specs.State.{HasCleanDisk}
use Rattle.sqlite.proofs.StateLemmas.{survives_then, survives_weaker}
use Rattle.register_tables.specs.declared.opening.form.Earlier.{Earlier}
use Rattle.register_tables.specs.Earlier.{is_blocked, ForEarlier}
use Rattle.register_tables.specs.Migrating.{IsMigrated, MigratesTo}
use Rattle.register_tables.specs.Opening.{IsCounted}
use Rattle.register_tables.proofs.Surveyed.{to_end, migrates, migrates_only, current_only, not_blocked, not_current}
use Rattle.register_tables.proofs.Surveyed.{survey_sound}
use Rattle.register_tables.proofs.Surveyed.{adds_nothing, nothing_then}
use Rattle.register_tables.proofs.migrate.migrate_register.Goals as goal

pub returns-then-is_blocked : goal.returns-then-is_blocked
returns-then-is_blocked g c = record {
  autocommit = c.read_earlier.ensures.leaves.mode c.requires.autocommit;
  migrated = λ clean form alone. tt;
  only = λ clean. tt;
  few = tt;
  ran = λ clean. tt;
  current = λ clean. tt;
  refused = λ clean.
      let used : is_blocked (state g.S.Store c.read_earlier.new.conn).now.schema c.in_ok-found.found.form ≡ true =
      let told = rw c.schema.ensures.value at c.if-is_blocked.ensures in sym told in
      inr (
        c.in_ok-found.found.form,
        c.in_ok-found.found.counts,
        c.read_earlier.new.conn,
        c.in_ok-found.ensures.found clean,
        inl (refl, used, refl),
      );
  sound = λ clean form old_style F is free.
      let used : is_blocked (state g.S.Store c.read_earlier.new.conn).now.schema c.in_ok-found.found.form ≡ true =
      let told = rw c.schema.ensures.value at c.if-is_blocked.ensures in sym told in
      absurd (not_blocked g.S.Store c.args.conn.now c.read_earlier.new.conn c.in_ok-found.found.form
      c.in_ok-found.found.counts (c.in_ok-found.ensures.found clean) form old_style F is free used);
  neither = λ clean.
      let settled : IsTrue c.is_settled.result = c.is_settled.ensures.value ∙ ap not c.requires.autocommit in
      adds_nothing (c.is_settled.ensures.settled settled) c.in_ok-found.ensures.leaves clean;
  crash = survives_weaker (state g.S.Store c.args.conn.now) (state g.S.Store c.read_earlier.new.conn) _ _
      (λ _ db none. absurd none) c.read_earlier.ensures.leaves.survives;
  unwritten = inr c.read_earlier.ensures.leaves.survives;
  durable = λ clean. tt;
  undated = λ clean. tt;
}

pub returns-in-Ok : goal.returns-in-Ok
returns-in-Ok g c =
    let ran : HasCleanDisk (state g.S.Store c.write.new.conn)
    → (form : Earlier) × IsMigrated g.S.Store form c.in_ok-found.found.counts c.args.conn.now c.write.new.conn =
    λ clean.
    let mid : HasCleanDisk (state g.S.Store c.read_earlier.new.conn) = omega (arith, c.write.ensures.crash.clean) in
    let free : is_blocked (state g.S.Store c.read_earlier.new.conn).now.schema c.in_ok-found.found.form ≡ false =
    let told = rw c.schema.ensures.value at c.if-is_blocked.ensures in sym told in (
      c.in_ok-found.found.form,
      record {
        mid = c.read_earlier.new.conn;
        surveyed =
            c.in_ok-found.ensures.found mid;
        free = free;
        written = c.in-Ok.ensures.written clean;
      },
    ) in
    let only : HasCleanDisk (state g.S.Store c.write.new.conn)
    → ForEarlier g.S.Store c.args.conn.now (λ _. IsCounted g.S.Store c.write.new.conn c.in_ok-found.found.counts) =
    λ clean form old_style F alone is.
    let done = ran clean in
    migrates_only g.S.Store c.args.conn.now c.write.new.conn done.0 form c.in_ok-found.found.counts done.1
    c.write.ensures.autocommit old_style F alone is in
    record {
      autocommit = c.write.ensures.autocommit;
      migrated = λ clean form alone.
          let done = ran clean in
          migrates g.S.Store c.args.conn.now c.write.new.conn done.0 form c.in_ok-found.found.counts done.1
          c.write.ensures.autocommit c.is_settled.ensures.live alone;
      only = only;
      few = c.in_ok-found.ensures.few;
      ran = ran;
      current = λ clean old_style F is.
          let done = ran clean in
          not_current g.S.Store c.args.conn.now done.1.mid done.0 c.in_ok-found.found.counts done.1.surveyed old_style F
          is;
      refused = λ clean. tt;
      sound = λ clean. tt;
      neither = λ clean. tt;
      crash =
          survives_then (state g.S.Store c.args.conn.now) (state g.S.Store c.read_earlier.new.conn)
          (state g.S.Store c.write.new.conn) _ _ (MigratesTo g.S.Store c.args.conn.now) (λ _ db none. absurd none)
          (λ late db is. record {
            form = c.in_ok-found.found.form;
            counts = c.in_ok-found.found.counts;
            mid =
                c.read_earlier.new.conn;
            surveyed =
                c.in_ok-found.ensures.found (omega (arith, c.write.ensures.crash.clean));
            written = is;
          })
          c.read_earlier.ensures.leaves.survives c.write.ensures.crash;
      unwritten = tt;
      durable = λ clean form old_style F alone is.
          let found = only clean form old_style F alone is in
          let alive = (c.in-Ok.ensures.written clean).is_open in (
            alive,
            λ trees left. record {
              db = (state g.S.Store c.write.new.conn).now;
              is =
                  c.in-Ok.ensures.durable clean trees left;
              register = found.1.now alive;
            },
          );
      undated = λ clean form old_style F alone is trees left.
          let done = ran clean in
          let stands =
          current_only g.S.Store c.args.conn.now c.write.new.conn done.0 form c.in_ok-found.found.counts done.1
          c.write.ensures.autocommit old_style F alone is in
          let current = stands.now (c.in-Ok.ensures.written clean).is_open in
          record {
            db = (state g.S.Store c.write.new.conn).now;
            is = c.in-Ok.ensures.durable clean trees left;
            register = current.register;
            one_each = length-replicate (length F) None;
            received = current.undated;
          };
    }

pub returns-in-Err : goal.returns-in-Err
returns-in-Err g c = record {
  autocommit = c.write.ensures.autocommit;
  migrated = λ clean form alone. tt;
  only = λ clean. tt;
  few = tt;
  ran = λ clean. tt;
  current = λ clean. tt;
  refused = λ clean.
      let mid : HasCleanDisk (state g.S.Store c.read_earlier.new.conn) = omega (arith, c.write.ensures.crash.clean) in
      let free : is_blocked (state g.S.Store c.read_earlier.new.conn).now.schema c.in_ok-found.found.form ≡ false =
      let told = rw c.schema.ensures.value at c.if-is_blocked.ensures in sym told in
      inr (
        c.in_ok-found.found.form,
        c.in_ok-found.found.counts,
        c.read_earlier.new.conn,
        c.in_ok-found.ensures.found mid,
        inr (
          free,
          c.in-Err.error,
          c.write_fault.ensures,
          c.in-Err.ensures.undone clean,
        ),
      );
  sound = search rules;
  neither = λ clean.
      let mid : HasCleanDisk (state g.S.Store c.read_earlier.new.conn) = omega (arith, c.write.ensures.crash.clean) in
      nothing_then (state g.S.Store c.args.conn.now) (state g.S.Store c.read_earlier.new.conn)
      (state g.S.Store c.write.new.conn)
      (to_end g.S.Store c.args.conn.now c.read_earlier.new.conn c.in_ok-found.found.form c.in_ok-found.found.counts
      (c.in_ok-found.ensures.found mid)) (c.in-Err.ensures.neither clean);
  crash =
      survives_then (state g.S.Store c.args.conn.now) (state g.S.Store c.read_earlier.new.conn)
      (state g.S.Store c.write.new.conn) _ _ (MigratesTo g.S.Store c.args.conn.now) (λ _ db none. absurd none)
      (λ late db is. record {
        form = c.in_ok-found.found.form;
        counts = c.in_ok-found.found.counts;
        mid =
            c.read_earlier.new.conn;
        surveyed =
            c.in_ok-found.ensures.found (omega (arith, c.write.ensures.crash.clean));
        written = is;
      })
      c.read_earlier.ensures.leaves.survives c.write.ensures.crash;
  unwritten = inl (search rules);
  durable = λ clean. tt;
  undated = λ clean. tt;
}

pub returns-in_err-found : goal.returns-in_err-found
returns-in_err-found g c =
    let told : c.from_residual.result ≡ Err c.in_err-found.field-0.0 = search rules in
    rw told (record {
      autocommit = c.read_earlier.ensures.leaves.mode c.requires.autocommit;
      migrated = λ clean form alone. tt;
      only = λ clean. tt;
      few = tt;
      ran = λ clean. tt;
      current = λ clean. tt;
      refused = λ clean. inl (c.in_err-found.ensures.refused clean);
      sound = λ clean form old_style F is free. survey_sound g.S.Store c.args.conn.now c.read_earlier.new.conn
          c.requires.unlimited c.in_err-found.field-0.0 (c.in_err-found.ensures.refused clean) form old_style F is;
      neither = λ clean.
          let settled : IsTrue c.is_settled.result = c.is_settled.ensures.value ∙ ap not c.requires.autocommit in
          adds_nothing (c.is_settled.ensures.settled settled) c.in_err-found.ensures.leaves clean;
      crash = survives_weaker (state g.S.Store c.args.conn.now) (state g.S.Store c.read_earlier.new.conn) _ _
          (λ _ db none. absurd none) c.read_earlier.ensures.leaves.survives;
      unwritten = inr c.read_earlier.ensures.leaves.survives;
      durable = λ clean. tt;
      undated = λ clean. tt;
    })
