use Rattle.std.proofs.Common.{◌≡◌, ◌<◌, ◌+◌, ◌++◌, append-nil, append_assoc, length, take, ap, sym, subst, ◌∙◌, arith}
use Rattle.std.proofs.Common.{Err, rules, ⊎_elim}
use Rattle.std.proofs.KnownBytes.{Appends-trans}
use Rattle.std.proofs.lemmas.List.{take_all}
use Rattle.std.specs.Prelude.{IfErr}
use Rattle.std.specs.List.{flat_map}
use Rattle.std.specs.Io.KnownBytes.{Appends}
use Rattle.sqlite.specs.Held.{state}
use Rattle.sqlite.specs.State.{HasCleanDisk}
use Rattle.register_extracts.specs.Fields.{first_line}
use Rattle.filing_model.specs.Register.{kept, register}
use Rattle.filing_model.proofs.Keeping.{register_numbered}
use Rattle.register_tables.proofs.Calls.{refuses}
use Rattle.table_rows.proofs.LeavingLemmas.{clean_before, ended, none_yet, passed_then, stands}
use Rattle.table_rows.specs.Leaving.Ending.{Passed}
use Rattle.register_extracts.specs.declared.fault.Why.TheVariants as why
use Rattle.register_extracts.specs.Exports.{UnlessOutput}
use Rattle.register_extracts.specs.Records.{export_begun, filing_records}
use Rattle.register_extracts.proofs.Done.{Begun}
use Rattle.register_extracts.proofs.Faults.{unless_output}
use Rattle.register_extracts.proofs.Steps.{next_filing, next_written}
use Rattle.register_extracts.proofs.writing.write_records.Goals as goal

pub loop-at-init : goal.loop-at-init
loop-at-init g c = record {
  leaves = none_yet (state g.S.Store c.args.conn.now);
  written = λ clean old_style F was moments one_each dated is count.
      subst (Appends (g.O.Write.contents c.args.output.now) (g.O.Write.contents c.print.new.output))
      (c.as_bytes.ensures.value ∙ c.first_line.ensures
      ∙ sym (append-nil (first_line c.args.form))) c.in_ok-print.ensures.written;
}

pub loop-at-preserved : goal.loop-at-preserved
loop-at-preserved g c =
    let had = c.loop-at.invariant in
    let more = c.in_ok-write_numbered.ensures in record {
      leaves = passed_then had.leaves more.leaves;
      written = λ clean old_style F was moments one_each dated is count.
          let before : HasCleanDisk (state g.S.Store c.loop-at.conn) = clean_before more.leaves clean in
          let low : c.loop-at.at < length (register F) = omega (arith, c.loop-at-test.true, count) in
          let next = next_filing 1 c.loop-at.at (register F) (register_numbered F) low in
          let number : 1 + c.loop-at.at ≡ c.loop-at.at + 1 = omega arith in
          let text = filing_records c.args.form c.args.wanted (kept F) moments in
          let front = first_line c.args.form in
          let so_far = flat_map text (take c.loop-at.at (register F)) in
          subst (Appends (g.O.Write.contents c.args.output.now) (g.O.Write.contents c.write_numbered.new.output))
          (append_assoc front so_far (text next.0)
          ∙ ap (λ l. front ++ l) (sym (next_written text c.loop-at.at (register F) next.0 next.2)))
          (Appends-trans _ _ _ (front ++ so_far) (text next.0)
          (had.written before old_style F was moments one_each dated is count)
          (more.written clean old_style F (stands had.leaves before was) moments one_each
          (stands had.leaves before dated) next.0 is (rw number at next.1)));
    }

pub returns : goal.returns
returns g c =
    let had = c.loop-at.invariant in record {
      exported = λ clean old_style F was moments one_each dated is count.
          let text = filing_records c.args.form c.args.wanted (kept F) moments in
          subst (λ fs. Appends (g.O.Write.contents c.args.output.now) (g.O.Write.contents c.loop-at.output)
          (first_line c.args.form ++ flat_map text fs))
          (take_all c.loop-at.at (register F) (omega (arith, c.loop-at-test.false, count)))
          (had.written clean old_style F was moments one_each dated is count);
      begun = λ clean old_style F was moments one_each dated is count. tt;
      fails = tt;
      leaves = had.leaves;
    }

pub returns-in_err-print-clause-leaves : goal.returns-in_err-print-clause-leaves
returns-in_err-print-clause-leaves g c =
    refuses Passed c.from_residual.result c.from_residual.ensures.0 (ended (none_yet (state g.S.Store c.args.conn.now)))

pub returns-in_err-write_numbered-clause-leaves : goal.returns-in_err-write_numbered-clause-leaves
returns-in_err-write_numbered-clause-leaves g c =
    refuses Passed c.from_residual-in_err-write_numbered.result c.from_residual-in_err-write_numbered.ensures.0
    (passed_then c.loop-at.invariant.leaves c.in_err-write_numbered.ensures.leaves)

pub returns-in_err-print-clause-begun : goal.returns-in_err-print-clause-begun
returns-in_err-print-clause-begun g c = λ clean old_style F was moments one_each dated is count.
    let came : Err why.Output ≡ c.from_residual.result =
    search (rules, c.in_err-print.ensures.failed) in
    subst (λ r. IfErr r (UnlessOutput (Begun c.args.form c.args.wanted (g.O.Write.contents c.args.output.now)
    (g.O.Write.contents c.print.new.output) F moments))) came tt

pub returns-in_err-write_numbered-clause-begun : goal.returns-in_err-write_numbered-clause-begun
returns-in_err-write_numbered-clause-begun g c = λ clean old_style F was moments one_each dated is count.
    let told = c.in_err-write_numbered.ensures in
    let fault = c.in_err-write_numbered.field-0.0 in
    let out = g.O.Write.contents c.args.output.now in
    let came : Err fault ≡ c.from_residual-in_err-write_numbered.result = search rules in
    let Written : Type 0 =
    Begun c.args.form c.args.wanted out (g.O.Write.contents c.write_numbered.new.output) F moments in
    subst (λ r. IfErr r (UnlessOutput Written)) came
    (⊎_elim (λ output. subst (UnlessOutput Written) (sym output) tt)
    (λ same. unless_output fault Written (
      c.loop-at.at,
      subst (λ o. Appends out o (export_begun c.loop-at.at c.args.form c.args.wanted (kept F) moments)) (sym same)
          (c.loop-at.invariant.written (clean_before told.leaves clean) old_style F was moments one_each dated is
          count),
    )) told.quiet)
