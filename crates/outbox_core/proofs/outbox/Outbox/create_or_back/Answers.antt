use Rattle.std.proofs.Common.{refl, sym, subst, not, ap, ◌∙◌, inl, inr, Err, rules}
use Rattle.sqlite.specs.Held.{state}
use Rattle.outbox_tables.specs.Entries.{empty}
use Rattle.outbox_tables.specs.Rows.{IsOutboxOf}
use Rattle.outbox_core.proofs.outbox.Outbox.create_or_back.Goals as goal

pub returns-in-Ok : goal.returns-in-Ok
returns-in-Ok g c = record {
  outcome = record {
    made = λ clean none.
        let made = c.in-Ok.ensures.made clean none in
        let ran = c.in-Ok.ensures.ran clean in
        let outbox =
        subst (λ filer. IsOutboxOf (empty filer) (state g.S.Store c.make_outbox.new.conn).now)
        (sym c.in-Ok.ensures.code) made in
        record {
          stands = record {
            autocommit = c.make_outbox.ensures.autocommit;
            now = λ _. outbox;
            committed =
                λ _. ran.committed_is ∙ sym ran.now_is;
          };
          count = refl;
        };
    filer = search rules;
    bad_filer = search rules;
    taken = search rules;
    no_other = search rules;
    ran = c.in-Ok.ensures.ran;
    crash = search rules;
    durable =
        λ clean none. (
          (c.in-Ok.ensures.ran clean).is_open,
          λ trees left. record {
            db = _;
            is = c.in-Ok.ensures.durable clean trees left;
            outbox =
                c.in-Ok.ensures.made clean none;
          },
        );
  };
  back = search rules;
}

pub returns-in-Err : goal.returns-in-Err
returns-in-Err g c =
    let crash = c.make_outbox.ensures.crash in
    let kept = c.in-Err.ensures.undone in
    let settled =
    c.is_autocommit.ensures.settled (c.is_autocommit.ensures.value ∙ ap not c.make_outbox.ensures.autocommit) in
    record {
      outcome = record {
        made = search rules;
        filer = search rules;
        bad_filer = search rules;
        taken = search rules;
        no_other = search rules;
        ran = tt;
        crash = search rules;
        durable = search rules;
      };
      back = record {
        autocommit = c.make_outbox.ensures.autocommit;
        unlimited = crash.limit ∙ c.requires.unlimited;
        untouched =
            λ which. c.in-Err.ensures.untouched (elim which
            [ inl bad ↦ inl (ap Err bad) | inr taken ↦ inr (ap Err taken) ]);
        same = λ clean. (kept clean, λ alive. settled alive ∙ (kept clean).committed alive);
        why = c.in-Err.ensures.failed;
        crash = crash;
      };
    }
