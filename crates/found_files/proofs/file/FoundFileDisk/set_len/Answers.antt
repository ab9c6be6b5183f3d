use Rattle.std.proofs.Common.{◌≡◌, ℕ, Bool, true, false, cond, List, length, OnOk, Result, Ok, Err, is_ok, refl}
use Rattle.std.proofs.Common.{inl, inr, rules}
use Rattle.sqlite_disk.specs.Disk.{Cut}
use Rattle.sqlite_disk.specs.Events.{padded}
use Rattle.found_files.specs.Found.{model}
use Rattle.sqlite_disk.proofs.EventLemmas.{length-padded, Cut-padded}
use Rattle.found_files.proofs.file.FoundFileDisk.set_len.Goals as goal

cut_either : (ok : Bool) (file : List ℕ) (len : ℕ) → Cut len file (cond ok (padded file len) file)
cut_either true file len = Cut-padded file len
cut_either false file len = search rules

len_at_ok : {E : Type 0} (r : Result (Unit {0}) E) (file : List ℕ) (len : ℕ)
    → OnOk r (length (cond (is_ok r) (padded file len) file) ≡ len)
len_at_ok (Ok x) file len = length-padded file len
len_at_ok (Err e) file len = tt

pub returns-clause-len : goal.returns-clause-len
returns-clause-len g c =
    rw (c.count.ensures.same, c.resize-outcome.ensures) (len_at_ok c.resize-outcome.result _ c.args.len)

pub returns-clause-others : goal.returns-clause-others
returns-clause-others g c =
    rw c.resize-outcome.ensures (cut_either _ _ c.args.len)

pub returns-clause-crash : goal.returns-clause-crash
returns-clause-crash g c =
    let old = model (g.C.Calls.history c.args.self.now.calls) c.args.self.now in
    rw c.resize-outcome.ensures λ left may. elim may [
      | inl seen ↦ (old.seen, inl refl, rw seen (cut_either _ old.seen c.args.len))
      | inr reached ↦ (reached.0, inr reached.1, reached.2)
    ]
