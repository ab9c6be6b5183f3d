use Rattle.std.proofs.Common.{◌≡◌, ◌+◌, ◌<◌, ℕ, ap, get_or, length, subst, sym, take, ◌∙◌, arith}
use Rattle.std.specs.List.{flat_map}
use Rattle.std.proofs.lemmas.List.{get_or-map, length-map, take_all, take_more}
use Rattle.std.proofs.lemmas.List.Elements.{All-get_or}
use Rattle.sqlite.specs.Held.{state}
use Rattle.table_rows.specs.Leaving.Ending.{Passed}
use Rattle.table_rows.proofs.LeavingLemmas.{clean_before, none_yet, passed_then, stands}
use Rattle.filing_model.specs.Register.{Kept, kept}
use Rattle.register_tables.proofs.Calls.{refuses}
use Rattle.register_store.specs.Found.{IsPlaced}
use Rattle.register_pages.specs.Pages.{Writes, refused_report}
use Rattle.register_pages.proofs.Adding.{pages_added, writes_none}
use Rattle.register_pages.proofs.OwnReads.{no_request}
use Rattle.register_pages.proofs.reports.write_reports.Goals as goal

pub loop-place-init : goal.loop-place-init
loop-place-init g c =
    record {
      leaves = none_yet (state g.S.Store c.args.conn.now);
      written = λ clean old_style requests was refused placed are. writes_none _ _;
    }

pub loop-place-preserved : goal.loop-place-preserved
loop-place-preserved g c =
    let had = c.loop-place.invariant in
    let more = c.in_ok-write_report.ensures in
    let i = c.loop-place.place-index in record {
      leaves = passed_then had.leaves more.leaves;
      written = λ clean old_style requests was refused placed are.
          let before = clean_before more.leaves clean in
          let many : length c.args.places.now ≡ length refused =
          ap length are ∙ length-map refused (λ (p : ℕ × Kept). p.0) in
          let low : i < length refused = omega (arith, c.loop-place-test.true, many) in
          let its = get_or refused i no_request in
          let place : get_or c.args.places.now i 0 ≡ its.0 =
          ap (λ ps. get_or ps i 0) are ∙ get_or-map (λ (p : ℕ × Kept). p.0) refused i no_request 0 low in
          pages_added _ _ _ _ _ _ refused_report (take i refused) (take (i + 1) refused) its
          (take_more refused i no_request low) (had.written before old_style requests was refused placed are)
          (subst (λ n. Writes c.loop-place.missed c.write_report.new.missed (g.F.Folder.pages c.loop-place.folder)
          (g.F.Folder.pages c.write_report.new.folder) (refused_report (n, its.1))) place
          (more.written clean old_style requests (stands had.leaves before was) its.1
          (subst (λ n. IsPlaced 1 n (kept requests) its.1) (sym place)
          (All-get_or (λ (p : ℕ × Kept). IsPlaced 1 p.0 (kept requests) p.1) refused i no_request low placed))));
    }

pub returns-clause-written : goal.returns-clause-written
returns-clause-written g c clean old_style requests was refused placed are =
    let many : length c.args.places.now ≡ length refused =
    ap length are ∙ length-map refused (λ (p : ℕ × Kept). p.0) in
    subst (λ ps. Writes c.args.missed.now c.loop-place.missed (g.F.Folder.pages c.args.folder.now)
    (g.F.Folder.pages c.loop-place.folder) (flat_map refused_report ps))
    (take_all c.loop-place.place-index refused (omega (arith, c.loop-place-test.false, many)))
    (c.loop-place.invariant.written clean old_style requests was refused placed are)

pub returns-in_err-write_report-clause-leaves : goal.returns-in_err-write_report-clause-leaves
returns-in_err-write_report-clause-leaves g c =
    refuses Passed c.from_residual.result c.from_residual.ensures.0
    (passed_then c.loop-place.invariant.leaves c.in_err-write_report.ensures.leaves)
