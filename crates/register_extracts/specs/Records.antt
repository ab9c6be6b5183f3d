-- The records of a register.
use Rattle.std.specs.Prelude.{ℕ, List, [], ◌++◌, take, Bool, true, not, ◌&&◌, bytes_eq, nat_lt, Option, Some, None}
use Rattle.std.specs.Prelude.{if◌then◌else◌, is_some}
use Rattle.std.specs.Borrow.{Bor}
use Rattle.std.specs.List.{flat_map}
use Rattle.register_extracts.specs.declared.facts.record.FactForm.{FactForm}
use Rattle.register_extracts.specs.declared.records.Wanted.{Wanted}
use Rattle.register_extracts.specs.Fields.{Head, first_line, record_text}
use Rattle.filing_model.specs.Register.{Filing, Kept, filings}
use Rattle.register_extracts.specs.Filings.{FilingParts, whole}

-- what the records of a filing's facts say of it
abbrev pub head_of : FilingParts → Head
head_of f = record {
  number = f.number;
  filer = f.filer;
  key = f.key;
  replaced_by = f.replaced_by;
  received = f.received;
}

-- a record for each of its facts
abbrev pub records : FactForm → FilingParts → List ℕ
records form f = flat_map (record_text form (head_of f)) f.facts

-- every filer's filings are wanted, or those of one
abbrev pub is_of : Option (Bor (List ℕ)) → List ℕ → Bool
is_of None own = true
is_of (Some filer) own = bytes_eq own filer.now

-- Whether a filing is wanted: by its filer, if only the current ones are also by that none replaces it, and by a number
-- behind the one that is given.
abbrev pub is_wanted : Wanted → FilingParts → Bool
is_wanted wanted f =
    (is_of wanted.filer f.filer && not (wanted.current && is_some f.replaced_by)) && nat_lt wanted.after f.number

-- the records of a filing if it is wanted, and otherwise none
abbrev pub wanted_records : FactForm → Wanted → FilingParts → List ℕ
wanted_records form wanted f = if is_wanted wanted f then records form f else []

-- the records of a filing as it stands among these kept requests, each with its moment
abbrev pub filing_records : FactForm → Wanted → List Kept → List (Option ℕ) → Filing → List ℕ
filing_records form wanted ks moments f = wanted_records form wanted (whole ks moments f)

-- what is written before the first record, and then the records of the first filings, so many
abbrev pub export_begun : ℕ → FactForm → Wanted → List Kept → List (Option ℕ) → List ℕ
export_begun many form wanted ks moments =
    first_line form ++ flat_map (filing_records form wanted ks moments) (take many (filings ks))

-- what is written before the first record, and then the records of each filing, in order
abbrev pub export_text : FactForm → Wanted → List Kept → List (Option ℕ) → List ℕ
export_text form wanted ks moments =
    first_line form ++ flat_map (filing_records form wanted ks moments) (filings ks)
