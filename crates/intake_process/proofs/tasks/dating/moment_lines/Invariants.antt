use Rattle.std.proofs.Common.{◌≡◌, map, string_bytes, take}
use Rattle.filing_model.specs.Register.{kept}
use Rattle.filing_model.specs.Views.{view_row}
use Rattle.register_store.specs.Calls.{KeepsStore}
use Rattle.register_store.specs.Moments.{ForMoments}
use Rattle.intake_process.specs.Listing.{moment_lines}
use Rattle.intake_process.proofs.tasks.dating.moment_lines.Given as goal

abbrev pub invariant-loop-row : goal.invariant-loop-row
invariant-loop-row g l = record {
  begun : KeepsStore g.S.Store l.fn.store l.initial.store;
  keeps : KeepsStore g.S.Store l.initial.store l.store;
  lines : ForMoments g.S.Store l.fn.store l.store (λ requests moments.
      string_bytes l.text ≡ moment_lines (kept requests) moments (map view_row (take l.row-index l.row-items)));
}
