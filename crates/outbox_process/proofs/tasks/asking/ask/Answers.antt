use Rattle.std.proofs.Common.{refl, subst, Ok, Err, inl}
use Rattle.std.proofs.lemmas.Result.{err_from_is_err_and}
use Rattle.outbox_process.specs.Asking.{IsReplied}
use Rattle.outbox_process.proofs.tasks.asking.ask.Goals as goal

pub returns-in_err-look_first : goal.returns-in_err-look_first
returns-in_err-look_first g c =
    let found = c.in_ok-question.ensures in
    let told =
    err_from_is_err_and c.from_residual-in_err-look_first.result c.from_residual-in_err-look_first.ensures.1 in (
      found.reads,
      inl (record {
        entry = c.in_ok-question.question.entry;
        request = c.in_ok-question.question.request.items;
        about = found.found;
        settled = found.settled;
        looked = Err c.in_err-look_first.field-0.0;
        between = g.N.Dial.traffic c.look_first.new.network;
        looks = rw (c.filer.ensures.value, found.reads.filer) at c.in_err-look_first.ensures;
        asks = (rw told.2 at told.1, refl, refl);
      }),
    )

pub returns-in_err-reply : goal.returns-in_err-reply
returns-in_err-reply g c =
    let found = c.in_ok-question.ensures in
    let told = err_from_is_err_and c.from_residual-in_err-reply.result c.from_residual-in_err-reply.ensures.1 in (
      found.reads,
      inl (record {
        entry = c.in_ok-question.question.entry;
        request = c.in_ok-question.question.request.items;
        about = found.found;
        settled = found.settled;
        looked = Ok tt;
        between = g.N.Dial.traffic c.look_first.new.network;
        looks = rw (c.filer.ensures.value, found.reads.filer) at c.in_ok-look_first.ensures;
        asks = (
          Err c.in_err-reply.field-0.0,
          subst (λ request. IsReplied c.args.id c.in_ok-question.question.entry.state request
              (g.N.Dial.traffic c.look_first.new.network) (g.N.Dial.traffic c.ask_once.new.network)
              (Err c.in_err-reply.field-0.0)) c.as_slice.ensures.value c.in_err-reply.ensures,
          (rw told.2 at told.1, refl),
        );
      }),
    )

pub returns : goal.returns
returns g c =
    let found = c.in_ok-question.ensures in (
      found.reads,
      inl (record {
        entry = c.in_ok-question.question.entry;
        request = c.in_ok-question.question.request.items;
        about = found.found;
        settled = found.settled;
        looked = Ok tt;
        between = g.N.Dial.traffic c.look_first.new.network;
        looks = rw (c.filer.ensures.value, found.reads.filer) at c.in_ok-look_first.ensures;
        asks = (
          Ok c.in_ok-reply.reply,
          rw c.as_slice.ensures.value at c.in_ok-reply.ensures,
          rw (c.filer-2.ensures.value, found.reads.filer) at c.tell_reply.ensures,
        );
      }),
    )
