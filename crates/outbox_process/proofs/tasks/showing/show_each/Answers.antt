use Rattle.std.proofs.Common.{sym, subst, inl}
use Rattle.std.proofs.KnownBytes.{Appends-nil}
use Rattle.std.proofs.lemmas.Result.{err_from_is_err_and}
use Rattle.outbox_process.specs.Showing.{AreTold}
use Rattle.outbox_process.proofs.Showings.{each}
use Rattle.outbox_process.proofs.tasks.showing.show_each.Goals as goal

pub returns-in_err-states : goal.returns-in_err-states
returns-in_err-states g c =
    let told = err_from_is_err_and c.from_residual.result c.from_residual.ensures.1 in
    rw (told.1, told.2) (record {
      shown = λ clean entries had any. tt;
      fault = λ clean entries had any. inl (
        c.in_err-states.ensures.refused,
        (0, Appends-nil (g.O.Write.contents c.args.output.now)),
      );
      kept = c.states_of.ensures.kept;
      filer = c.states_of.ensures.filer;
      clean = c.states_of.ensures.clean;
    })

pub returns : goal.returns
returns g c =
    each g.S.Store c.as_slice.result.now c.args.outbox.now c.states_of.new.outbox c.show_those.new.outbox
    (g.O.Write.contents c.args.output.now) (g.O.Write.contents c.show_those.new.output) c.show_those.result
    (λ clean entries had. subst (λ t. AreTold t entries) (sym c.as_slice.ensures.value)
    (c.in_ok-states.ensures.found clean entries had)) c.states_of.ensures.kept c.states_of.ensures.filer
    c.states_of.ensures.clean c.show_those.ensures
