use Rattle.std.proofs.Common.{Ok, Err, inl, subst, ◌∙◌}
use Rattle.std.proofs.lemmas.Result.{err_from_is_err_and}
use Rattle.filing_model.specs.declared.state.State.TheVariants.{Open}
use Rattle.outbox_process.specs.Asking.{IsReplied}
use Rattle.outbox_process.proofs.tasks.asking.look.Goals as goal

pub returns-in_err-reply : goal.returns-in_err-reply
returns-in_err-reply g c =
    let told = err_from_is_err_and c.from_residual-in_err-reply.result c.from_residual-in_err-reply.ensures.1 in
    inl (
      Err c.in_err-reply.field-0.0,
      subst (λ request. IsReplied c.args.id Open request (g.N.Dial.traffic c.args.network.now)
          (g.N.Dial.traffic c.ask_once.new.network) (Err c.in_err-reply.field-0.0))
          (c.as_slice.ensures.value ∙ c.in_ok-request.ensures) c.in_err-reply.ensures,
      rw told.2 at told.1,
    )

pub returns : goal.returns
returns g c =
    inl (
      Ok c.in_ok-reply.reply,
      rw (c.as_slice.ensures.value, c.in_ok-request.ensures) at c.in_ok-reply.ensures,
      c.find_listed.ensures,
    )
