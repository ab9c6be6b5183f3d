use Rattle.std.proofs.Common.{◌∙◌}
use Rattle.std.proofs.lemmas.Result.{IfOk-weaker}
use Rattle.filing_model.specs.Register.{kept}
use Rattle.register_store.proofs.ListLemmas.{knows}
use Rattle.register_pages.specs.Pages.{sent_by}
use Rattle.register_pages.proofs.OwnReads.{own_shown}
use Rattle.register_pages.proofs.own.own_of.Goals as goal

pub returns-clause-found : goal.returns-clause-found
returns-clause-found g c clean old_style requests was =
    let filer = c.args.filer.now in
    let read = c.in_ok-rows.ensures.read clean (knows requests _ was) in
    let shown = c.deref.ensures.value ∙ own_shown filer requests _ _ _ was read in
    IfOk-weaker c.read_rows.result _ _ (λ own h. h (sent_by filer (kept requests)) shown) c.read_rows.ensures
