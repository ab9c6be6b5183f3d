-- What holds of a task, by how its file was opened.
use Rattle.std.proofs.Common.{◌≡◌, Bool, true, false, true≢false, sym, ◌∙◌, inl, inr}
use Rattle.database_places.specs.Accesses.{OpensBy}
use Rattle.database_places.specs.declared.access.Access.{Access}
use Rattle.database_places.specs.declared.access.Access.TheVariants.{Reads, CopiesLog, Writes}

pub opened_for_writing : (access : Access) (reading : Bool) (P Q : Type 0)
    → OpensBy access (reading ≡ false) (reading ≡ true) → reading ≡ false → P → OpensBy access P Q
opened_for_writing Reads reading P Q opens not p = absurd (true≢false (sym opens ∙ not))
opened_for_writing CopiesLog reading P Q opens not p = inl p
opened_for_writing Writes reading P Q opens not p = p

pub opened_for_reading : (access : Access) (reading : Bool) (P Q : Type 0)
    → OpensBy access (reading ≡ false) (reading ≡ true) → reading ≡ true → Q → OpensBy access P Q
opened_for_reading Reads reading P Q opens is q = q
opened_for_reading CopiesLog reading P Q opens is q = inr q
opened_for_reading Writes reading P Q opens is q = absurd (true≢false (sym is ∙ opens))
