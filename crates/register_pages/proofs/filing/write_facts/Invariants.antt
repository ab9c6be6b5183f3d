use Rattle.register_pages.specs.Pages.{Writes, numbered, filing_page}
use Rattle.register_pages.proofs.filing.write_facts.Given as goal

abbrev pub invariant-loop-at : goal.invariant-loop-at
invariant-loop-at g l =
    Writes l.fn.missed l.missed (g.F.Folder.pages l.fn.folder) (g.F.Folder.pages l.folder)
    (numbered (filing_page l.filing.number) l.at)
