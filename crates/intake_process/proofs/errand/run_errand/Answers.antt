use Rattle.std.proofs.Common.{ap, refl, subst, sym}
use Rattle.intake_process.specs.Errands.{FillsFolder, RunsErrand, meaning}
use Rattle.intake_process.proofs.Errands.{exports, fills_folder, no_pages, no_pages_asked, writes_site}
use Rattle.intake_process.proofs.errand.run_errand.Goals as goal

pub returns-in-Ask-clause-fills : goal.returns-in-Ask-clause-fills
returns-in-Ask-clause-fills g c =
    let pages = g.F.Folder.pages c.args.folder.now in
    subst (λ errand. FillsFolder g.S.Store errand pages pages c.args.conn c.ask.result.0 c.ask.result.1)
    (sym c.in-Ask.is) (no_pages_asked g.S.Store c.in-Ask.question pages c.args.conn c.ask.result.0 c.ask.result.1)

pub returns-in-Check-clause-fills : goal.returns-in-Check-clause-fills
returns-in-Check-clause-fills g c =
    no_pages g.S.Store c.args.errand _ _ _ _ (ap (λ e. (meaning e).fills) c.in-Check.is)

pub returns-in-Migrate-clause-fills : goal.returns-in-Migrate-clause-fills
returns-in-Migrate-clause-fills g c =
    no_pages g.S.Store c.args.errand _ _ _ _ (ap (λ e. (meaning e).fills) c.in-Migrate.is)

pub returns-in-Export : goal.returns-in-Export
returns-in-Export g c =
    let out = g.O.Write.contents c.args.output.now in
    let out' = g.O.Write.contents c.export-done.new.output in record {
      runs = subst (λ errand. RunsErrand g.S.Store errand out out' c.args.conn c.export-done.new.conn
          c.export-done.result) (sym c.in-Export.is)
          (exports c.in-Export.form c.in-Export.wanted g.S.Store out out' c.args.conn c.export-done.new.conn
          c.export-done.result c.export-done.ensures);
      fills = no_pages g.S.Store c.args.errand _ _ _ _ (ap (λ e. (meaning e).fills) c.in-Export.is);
    }

pub returns-in-Digest-clause-fills : goal.returns-in-Digest-clause-fills
returns-in-Digest-clause-fills g c =
    no_pages g.S.Store c.args.errand _ _ _ _ (ap (λ e. (meaning e).fills) c.in-Digest.is)

pub returns-in-Pages : goal.returns-in-Pages
returns-in-Pages g c =
    let out = g.O.Write.contents c.args.output.now in
    let pages = g.F.Folder.pages c.args.folder.now in
    let pages' = g.F.Folder.pages c.write_pages-done.new.folder in
    let new = c.write_pages-done.new.conn in record {
      runs = subst (λ errand. RunsErrand g.S.Store errand out out c.args.conn new c.write_pages-done.result)
          (sym c.in-Pages.is)
          (writes_site _ g.S.Store pages pages' c.args.conn new out c.write_pages-done.result
          c.write_pages-done.ensures);
      fills = subst (λ errand. FillsFolder g.S.Store errand pages pages' c.args.conn new c.write_pages-done.result)
          (sym c.in-Pages.is)
          (fills_folder _ g.S.Store pages pages' c.args.conn new c.write_pages-done.result
          c.write_pages-done.ensures);
    }
