-- A refusal has the status that it is told with.
use Rattle.std.proofs.Common.{◌≡◌, Bool, true, false, true≢false, inl, inr, refl, sym, ◌∙◌, ap}
use Rattle.command_line.specs.declared.fault.DatabaseFault.{DatabaseFault}
use Rattle.command_line.specs.declared.fault.DatabaseFault.TheVariants.{Missing, Empty, NotADatabase, Foreign}
use Rattle.command_line.specs.declared.fault.DatabaseFault.TheVariants.{AutoVacuum, Damaged, Unsummed, Busy, Memory}
use Rattle.command_line.specs.declared.fault.DatabaseFault.TheVariants.{Denied, ReadOnly, Folder, NotAFile, Linked}
use Rattle.command_line.specs.declared.fault.DatabaseFault.TheVariants.{Journal, NoFolder, Loop, LongName}
use Rattle.command_line.specs.declared.fault.DatabaseFault.TheVariants.{Descriptors, Full, Disk}
use Rattle.command_line.specs.Status.{database_status}
use Rattle.database_places.specs.Verdicts.{goes_by_pages, IsRefusalOf}
use Rattle.outbox_process.specs.declared.fault.Why.{Why}
use Rattle.outbox_commands.specs.Status.{why_status}
use Rattle.outbox_commands.specs.Visits.{IsToldAs}

paged_status : (fault : DatabaseFault) → goes_by_pages fault ≡ true → database_status fault ≡ 1
paged_status NotADatabase is = refl
paged_status Foreign is = refl
paged_status (AutoVacuum restore) is = refl
paged_status Damaged is = refl
paged_status (Unsummed restore) is = refl
paged_status Missing is = refl
paged_status Empty is = refl
paged_status Busy is = absurd (true≢false (sym is))
paged_status Memory is = absurd (true≢false (sym is))
paged_status Denied is = absurd (true≢false (sym is))
paged_status ReadOnly is = absurd (true≢false (sym is))
paged_status Folder is = absurd (true≢false (sym is))
paged_status NotAFile is = absurd (true≢false (sym is))
paged_status Linked is = absurd (true≢false (sym is))
paged_status Journal is = absurd (true≢false (sym is))
paged_status NoFolder is = absurd (true≢false (sym is))
paged_status Loop is = absurd (true≢false (sym is))
paged_status LongName is = absurd (true≢false (sym is))
paged_status Descriptors is = absurd (true≢false (sym is))
paged_status Full is = absurd (true≢false (sym is))
paged_status Disk is = absurd (true≢false (sym is))

database_told : (fault told : DatabaseFault) → IsRefusalOf fault told → database_status told ≡ database_status fault
database_told fault told is = go (goes_by_pages fault) refl
  where
    go : (b : Bool) → goes_by_pages fault ≡ b → database_status told ≡ database_status fault
    go true paged = paged_status told (is.pages ∙ paged) ∙ sym (paged_status fault paged)
    go false other = ap database_status (is.others other)

pub told_status : (why told : Why) → IsToldAs why told → why_status told ≡ why_status why
told_status why told (inl files) =
    ap why_status files.3 ∙ database_told files.0 files.1 files.4 ∙ sym (ap why_status files.2)
told_status why told (inr other) = ap why_status other.1
