use Rattle.std.proofs.Common.{Some, sym, ap, ◌∙◌, rules}
use Rattle.sqlite.specs.Held.{state}
use Rattle.sqlite.specs.State.{HasCleanDisk}
use Rattle.register_store.specs.Found.{IsFound}
use Rattle.register_store.proofs.FindLemmas.{styled, has_same_key}
use Rattle.table_rows.proofs.LeavingLemmas.{asked_then, clean_before, stands}
use Rattle.register_tables.proofs.Calls.{refuses}
use Rattle.table_rows.specs.Leaving.Ending.{Asked}
use Rattle.register_store.proofs.select.found.find_kept.Goals as goal

pub returns-in_ok-row-in-Some : goal.returns-in_ok-row-in-Some
returns-in_ok-row-in-Some g c = record {
  found = λ clean e F was target body.
      let was_clean : HasCleanDisk (state g.S.Store c.find_row.new.conn) =
      clean_before c.read_kept_row.ensures.leaves clean in
      let is : IsFound c.args.filer.now c.args.key.now F c.in-Some.found =
      rw c.in-Some.is at (c.in_ok-found.ensures.found was_clean e F was) in
      ap Some (c.in_ok-row-in-Some.ensures.found clean c.args.filer.now c.args.key.now e F
      (stands c.in_ok-found.ensures.leaves was_clean was) is) ∙ sym (is.is target body);
  style = λ clean F was target body.
      let before : HasCleanDisk (state g.S.Store c.find_row.new.conn) =
      clean_before c.read_kept_row.ensures.leaves clean in
      let old_style = c.args.old_style in
      let is : IsFound c.args.filer.now c.args.key.now F c.in-Some.found =
      rw c.in-Some.is at (c.in_ok-found.ensures.found before old_style F was) in
      let still = stands c.in_ok-found.ensures.leaves before was in
      let distinct = (still.now (c.in_ok-found.ensures.leaves.left before).0.is_open).rows.distinct in
      c.in_ok-row-in-Some.ensures.style is.seq is.seq_is
      ∙ styled c.args.filer.now c.args.key.now target body old_style F distinct is.seq is.k is.placed
      (has_same_key is.k.request c.args.filer.now c.args.key.now is.k.request.target target c.in-Some.found.body
      body is.request);
  leaves = asked_then c.in_ok-found.ensures.leaves c.in_ok-row-in-Some.ensures.leaves;
}

pub returns-in-None : goal.returns-in-None
returns-in-None g c = record {
  found = λ clean e F was target body. let none = rw c.in-None.is at (c.in_ok-found.ensures.found clean e F was) in
      sym (none target body);
  style = search rules;
  leaves = c.in_ok-found.ensures.leaves;
}

pub returns-in_err-row-in-Some : goal.returns-in_err-row-in-Some
returns-in_err-row-in-Some g c = record {
  found = search rules;
  style = search rules;
  leaves = refuses Asked c.from_residual-in_err-row-in-Some.result c.from_residual-in_err-row-in-Some.ensures.0
      (asked_then c.in_ok-found.ensures.leaves c.in_err-row-in-Some.ensures.leaves);
}
