-- The filings of a register: the place of each one's request, and what a list shows of it.
use Rattle.std.specs.Prelude.{◌≡◌, ◌≤◌, ◌+◌, ℕ, zero, suc, List, [], ◌∷◌, ◌++◌, length, map, Option, Some, None}
use Rattle.std.specs.Prelude.{slice_get, vec_len}
use Rattle.std.specs.Vec.{vec_capacity}
use Rattle.xbrl_report.specs.ReportParts.{fact_count}
use Rattle.filing_model.specs.Listing.{replacing}
use Rattle.filing_model.specs.Register.{Filing, Outcome, Kept, filings, judged, kept}
use Rattle.filing_model.specs.Register.Outcome.{Registered, Refused}
use Rattle.filing_model.specs.Request.{Request}
use Rattle.register_rows.specs.declared.catalogue.Catalogue.{Catalogue}
use Rattle.register_rows.specs.declared.catalogue.Line.{Line}

-- ---- what is said of the filings of a register

-- the place of a filing's kept request, how many facts it has, which filing it replaces, and which one replaces it
pub record Entry : Type 0 where
  pub seq : ℕ
  pub facts : ℕ
  pub replaces : Option ℕ
  pub replaced_by : Option ℕ

-- a filing, and the place of its kept request
pub record Placed : Type 0 where
  pub seq : ℕ
  pub filing : Filing

-- the filing that a kept request at this place is, if it is one
abbrev pub placed_by : ℕ → Request → Outcome → List Placed
placed_by seq r (Registered number) = record { seq = seq; filing = record { number = number; request = r } } ∷ []
placed_by seq r (Refused findings) = []

-- the filings among kept requests, of which the first has this place
abbrev pub placed_from : ℕ → List Kept → List Placed
placed_from seq [] = []
placed_from seq (k ∷ ks) = placed_by seq k.request k.outcome ++ placed_from (seq + 1) ks

-- a filing as it stands among these
abbrev pub entry_of : List Filing → Placed → Entry
entry_of filings p =
    record {
      seq = p.seq;
      facts = fact_count p.filing.request.body;
      replaces = p.filing.request.target;
      replaced_by =
          replacing filings p.filing.number;
    }

-- the filings among kept requests, by number
abbrev pub entries_among : List Kept → List Entry
entries_among ks = map (entry_of (filings ks)) (placed_from 1 ks)

-- the filings of a register
abbrev pub catalogue_of : List Request → List Entry
catalogue_of requests = entries_among (kept requests)

-- the filing with this number
abbrev pub entry_numbered : List Entry → ℕ → Option Entry
entry_numbered entries zero = None
entry_numbered entries (suc at) = slice_get entries at

-- the request is registered after these, and has this place, so many facts and this target
pub record IsRegisteredNext (before : List Kept) (r : Request) (seq facts : ℕ) (target : Option ℕ) : Type 0 where
  pub seq_is : seq ≡ suc (length before)
  pub facts_are : facts ≡ fact_count r.body
  pub target_is : r.target ≡ target
  pub number : ℕ
  pub registered : (judged before r).outcome ≡ Registered number

-- ---- as code has it

-- 0 is no filing's number
abbrev pub number_or_none : ℕ → Option ℕ
number_or_none zero = None
number_or_none (suc n) = Some (suc n)

abbrev pub view_line : Line → Entry
view_line line =
    record {
      seq = line.seq;
      facts = line.facts;
      replaces = number_or_none line.replaces;
      replaced_by =
          number_or_none line.replaced_by;
    }

abbrev pub view_lines : Catalogue → List Entry
view_lines catalogue = map view_line catalogue.lines.items

-- there is room for so many filings more
abbrev pub HasRoom : ℕ → Catalogue → Type 0
HasRoom count catalogue = vec_len catalogue.lines + count ≤ vec_capacity catalogue.lines
