use Rattle.std.proofs.Common.{rules, subst}
use Rattle.register_extracts.specs.Exports.{ExportsFacts}
use Rattle.register_extracts.proofs.Done.{broken_off, done}
use Rattle.register_extracts.proofs.writing.export.Goals as goal

pub returns : goal.returns
returns g c =
    done g.S.Store c.args.form c.args.wanted _ _ c.args.conn.now c.read_register.new.conn c.write_records.new.conn
    c.in_ok-counts.counts c.in_ok-counts.ensures c.in_ok-write_records.ensures.leaves
    c.in_ok-write_records.ensures.exported tt

pub returns-in_err-write_records : goal.returns-in_err-write_records
returns-in_err-write_records g c =
    let wanted = c.args.wanted in
    let out = g.O.Write.contents c.args.output.now in
    let out' = g.O.Write.contents c.write_records.new.output in
    subst (λ result. ExportsFacts g.S.Store c.args.form wanted out out' c.args.conn.now c.write_records.new.conn result)
    (search rules)
    (broken_off g.S.Store c.args.form wanted out out' c.args.conn.now c.read_register.new.conn c.write_records.new.conn
    c.in_ok-counts.counts c.in_ok-counts.ensures c.in_err-write_records.ensures.leaves
    c.in_err-write_records.field-0.0 c.in_err-write_records.ensures.fails c.in_err-write_records.ensures.begun)
