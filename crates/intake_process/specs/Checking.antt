-- The check of a register, alone or against a digest that was published.
use Rattle.std.specs.Prelude.{◌≡◌, ◌<◌, ◌&&◌, ℕ, Bool, true, nat_le, if◌then◌else◌, List, ◌++◌, length, codes}
use Rattle.std.specs.Prelude.{Option, Some, None, IsSome}
use Rattle.std.specs.Fmt.{decimal}
use Rattle.std.specs.Option.{IsSomeAnd}
use Rattle.std.specs.Str.{bytes_eq}
use Rattle.filing_model.specs.Request.{Request}
use Rattle.filing_model.specs.Register.{register}
use Rattle.database_places.specs.declared.access.Access.TheVariants.{CopiesLog}
use Rattle.register_extracts.specs.declared.fault.Why.{Why}
use Rattle.register_extracts.specs.declared.fault.Why.TheVariants as why
use Rattle.register_extracts.specs.Digest.{digest_until}
use Rattle.intake_process.specs.declared.tasks.errand.Published.{Published}
use Rattle.intake_process.specs.Meaning.{IsUnprinted, Meaning, printing}

-- the line that says that a register is sound, how many requests it keeps and how many of them are filings
abbrev pub sound_line : ℕ → ℕ → List ℕ
sound_line kept filings = codes "sound: " ++ decimal kept ++ codes " kept, " ++ decimal filings ++ codes " filings\n"

-- whether the first of these requests, with these moments, are those of the digest that was published: there are so
-- many, and they have it
abbrev pub is_published : Published → List Request → List (Option ℕ) → Bool
is_published p requests moments =
    nat_le p.count (length requests) && bytes_eq (digest_until p.count requests moments) p.bytes

-- the same, if a digest is given
abbrev pub is_held : Option Published → List Request → List (Option ℕ) → Bool
is_held None requests moments = true
is_held (Some p) requests moments = is_published p requests moments

-- A request was not read for the digest that was given, there are fewer than it is of, or the first of them have
-- another one.
abbrev pub IsUnchecked : Option Published → Why → Type 0
IsUnchecked against (why.Store fault) = IsSome against
IsUnchecked against (why.TooFew kept) = IsSomeAnd against (λ p. kept < p.count)
IsUnchecked against (why.Another count) = IsSomeAnd against (λ p. count ≡ p.count)
IsUnchecked against other = IsUnprinted other

-- the errand to check a register; its text is missing if it has not the requests of the digest
abbrev pub checking : Option Published → Meaning
checking against =
    record (printing (λ requests moments.
    if is_held against requests moments then Some (sound_line (length requests) (length (register requests)))
    else None) (IsUnchecked against)) {
      judges = true;
      access = CopiesLog;
    }
