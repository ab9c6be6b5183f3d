use Rattle.std.proofs.Common.{rules, subst}
use Rattle.register_pages.specs.Site.{WritesPages}
use Rattle.register_pages.proofs.Done.{broken_off, done}
use Rattle.register_pages.proofs.site.write_pages.Goals as goal

pub returns : goal.returns
returns g c =
    done g.S.Store _ _ c.args.conn.now c.read_register.new.conn c.write_all.new.conn c.in_ok-counts.counts
    c.in_ok-counts.ensures c.in_ok-write_all.ensures.leaves c.in_ok-write_all.ensures.written tt

pub returns-in_err-write_all : goal.returns-in_err-write_all
returns-in_err-write_all g c =
    let pages = g.F.Folder.pages c.args.folder.now in
    let pages' = g.F.Folder.pages c.write_all.new.folder in
    subst (λ result. WritesPages g.S.Store pages pages' c.args.conn.now c.write_all.new.conn result) (search rules)
    (broken_off g.S.Store pages pages' c.args.conn.now c.read_register.new.conn c.write_all.new.conn
    c.in_ok-counts.counts c.in_ok-counts.ensures c.in_err-write_all.ensures.leaves c.in_err-write_all.field-0.0
    c.in_err-write_all.ensures.fails)
