use Rattle.sqlite.specs.Held.{state}
use Rattle.table_rows.specs.Leaving.{Leaves}
use Rattle.table_rows.specs.Leaving.Ending.{Passed}
use Rattle.register_pages.specs.Pages.{Writes, numbered, filer_page}
use Rattle.register_pages.proofs.filer.write_filings.Given as goal

abbrev pub invariant-loop-at : goal.invariant-loop-at
invariant-loop-at g l =
    record {
      leaves : Leaves Passed (state g.S.Store l.fn.conn) (state g.S.Store l.conn);
      written : Writes l.fn.missed l.missed (g.F.Folder.pages l.fn.folder) (g.F.Folder.pages l.folder)
          (numbered (filer_page l.filer) l.at);
    }
