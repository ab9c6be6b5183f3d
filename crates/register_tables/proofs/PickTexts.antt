-- What the texts of a walk mean under the declared tables.
use Rattle.std.proofs.Common.{ℕ, pos, List, [], ◌∷◌, codes, refl, le_refl}
use Rattle.sqlite.specs.declared.types.Value.TheVariants.{Int, Text}
use Rattle.sqlite.specs.Query.{Query}
use Rattle.sqlite.specs.Collation.TheVariants.{Binary}
use Rattle.sqlite.specs.Term.{Term, col, lit, op2}
use Rattle.sqlite_sql.specs.declared.ops.BinaryOp.TheVariants.{Compare}
use Rattle.sqlite_sql.specs.declared.ops.CompareOp.TheVariants.{Eq, Lt}
use Rattle.sqlite_tied.specs.Compute.{everything}
use Rattle.sqlite.specs.Listing.{understood}
use Rattle.table_rows.proofs.SelectLemmas.{one_table}
use Rattle.table_rows.proofs.ReadingLemmas.{by_each}
use Rattle.register_rows.specs.Schema.{common_tables}
use Rattle.register_tables.specs.declared.select.picks.TheConstants.{COUNT_EARLY, COUNT_FACTS, COUNT_FILINGS}
use Rattle.register_tables.specs.declared.select.picks.TheConstants.{COUNT_FINDINGS}
use Rattle.register_tables.specs.declared.select.picks.TheConstants.{COUNT_KEPT, FACTS_NUMBERED, FILINGS_OF}
use Rattle.register_tables.specs.declared.select.picks.TheConstants.{FINDINGS_AT, KEPT_AT, PLACES_WITH_KEY}
use Rattle.table_rows.proofs.FailLemmas.{calm_count, calm_table}
use Rattle.table_rows.proofs.QuestionLemmas.{question, IsQuestion}
use Rattle.register_tables.proofs.ReadTexts.{columns, equals}
use Rattle.sqlite_tied.specs.Listing.{counting}

-- the filer and the key equal the parameters
abbrev pub same_filer_and_key : List Term
same_filer_and_key = op2 (Compare Eq Binary) (col 1 2) (col 0 0) ∷ op2 (Compare Eq Binary) (col 1 3) (col 0 1) ∷ []

-- the place is below the first
abbrev pub below_first : List Term
below_first = op2 (Compare Lt Binary) (col 1 0) (lit (Int (pos 1))) ∷ []

-- ---- each with what it asks

abbrev pub kept_at_query : Query
kept_at_query = one_table 1 (equals 0) (columns (0 ∷ 2 ∷ 3 ∷ 4 ∷ 5 ∷ [])) (by_each (col 1 0 ∷ []))

pub asks_kept_at : (n : ℕ) → IsQuestion common_tables KEPT_AT.now kept_at_query (Int (pos n) ∷ [])
unfolding understood everything
asks_kept_at n =
    question refl (λ tables indexes views. record {
      names = codes "seq" ∷ codes "filer" ∷ codes "idem" ∷ codes "body" ∷ codes "number" ∷ [];
      is = refl;
      plain = (refl, refl);
      listing = refl;
      tail = le_refl _;
      named = refl;
      typed = refl;
    }) (λ db. calm_table 1 (equals 0) (columns (0 ∷ 2 ∷ 3 ∷ 4 ∷ 5 ∷ [])) (by_each (col 1 0 ∷ [])) db (Int (pos n) ∷ []))

abbrev pub findings_at_query : Query
findings_at_query = one_table 3 (equals 1) (columns (1 ∷ 2 ∷ 3 ∷ 4 ∷ [])) (by_each (col 1 2 ∷ []))

pub asks_findings_at : (n : ℕ) → IsQuestion common_tables FINDINGS_AT.now findings_at_query (Int (pos n) ∷ [])
unfolding understood everything
asks_findings_at n =
    question refl (λ tables indexes views. record {
      names = codes "seq" ∷ codes "pos" ∷ codes "code" ∷ codes "place" ∷ [];
      is = refl;
      plain = (refl, refl);
      listing = refl;
      tail = le_refl _;
      named = refl;
      typed = refl;
    }) (λ db. calm_table 3 (equals 1) (columns (1 ∷ 2 ∷ 3 ∷ 4 ∷ [])) (by_each (col 1 2 ∷ [])) db (Int (pos n) ∷ []))

abbrev pub filings_of_query : Query
filings_of_query = one_table 5 (equals 2) (columns (0 ∷ 2 ∷ [])) (by_each (col 1 0 ∷ []))

pub asks_filings_of : (n : ℕ) → IsQuestion common_tables FILINGS_OF.now filings_of_query (Int (pos n) ∷ [])
unfolding understood everything
asks_filings_of n =
    question refl (λ tables indexes views. record {
      names = codes "number" ∷ codes "seq" ∷ [];
      is = refl;
      plain = (refl, refl);
      listing = refl;
      tail = le_refl _;
      named = refl;
      typed = refl;
    }) (λ db. calm_table 5 (equals 2) (columns (0 ∷ 2 ∷ [])) (by_each (col 1 0 ∷ [])) db (Int (pos n) ∷ []))

abbrev pub facts_numbered_query : Query
facts_numbered_query = one_table 7 (equals 1) (columns (1 ∷ 2 ∷ 3 ∷ 4 ∷ 5 ∷ 6 ∷ 7 ∷ [])) (by_each (col 1 2 ∷ []))

pub asks_facts_numbered : (n : ℕ) → IsQuestion common_tables FACTS_NUMBERED.now facts_numbered_query (Int (pos n) ∷ [])
unfolding understood everything
asks_facts_numbered n =
    question refl (λ tables indexes views. record {
      names = codes "number" ∷ codes "pos" ∷ codes "id" ∷ codes "concept" ∷ codes "dimensions" ∷ codes "value"
          ∷ codes "decimals" ∷ [];
      is = refl;
      plain = (refl, refl);
      listing = refl;
      tail = le_refl _;
      named = refl;
      typed = refl;
    }) (λ db. calm_table 7 (equals 1) (columns (1 ∷ 2 ∷ 3 ∷ 4 ∷ 5 ∷ 6 ∷ 7 ∷ [])) (by_each (col 1 2 ∷ [])) db
    (Int (pos n) ∷ []))

abbrev pub with_key_query : Query
with_key_query = one_table 1 same_filer_and_key (columns (0 ∷ [])) (by_each (col 1 0 ∷ []))

pub asks_with_key : (filer key : List ℕ) → IsQuestion common_tables PLACES_WITH_KEY.now with_key_query
    (Text filer ∷ Text key ∷ [])
unfolding understood everything
asks_with_key filer key =
    question refl (λ tables indexes views. record {
      names = codes "seq" ∷ [];
      is = refl;
      plain = (refl, refl);
      listing = refl;
      tail = le_refl _;
      named = refl;
      typed = refl;
    }) (λ db. calm_table 1 same_filer_and_key (columns (0 ∷ [])) (by_each (col 1 0 ∷ [])) db
    (Text filer ∷ Text key ∷ []))

pub asks_count_kept : IsQuestion common_tables COUNT_KEPT.now (counting (one_table 1 [] [] [])) []
unfolding understood everything
asks_count_kept =
    question refl (λ tables indexes views. record {
      names = codes "count(*)" ∷ [];
      is = refl;
      plain = (refl, refl);
      listing = refl;
      tail = le_refl _;
      named = refl;
      typed = refl;
    }) (λ db. calm_count 1 [] db [])

pub asks_count_findings : IsQuestion common_tables COUNT_FINDINGS.now (counting (one_table 3 [] [] [])) []
unfolding understood everything
asks_count_findings =
    question refl (λ tables indexes views. record {
      names = codes "count(*)" ∷ [];
      is = refl;
      plain = (refl, refl);
      listing = refl;
      tail = le_refl _;
      named = refl;
      typed = refl;
    }) (λ db. calm_count 3 [] db [])

pub asks_count_filings : IsQuestion common_tables COUNT_FILINGS.now (counting (one_table 5 [] [] [])) []
unfolding understood everything
asks_count_filings =
    question refl (λ tables indexes views. record {
      names = codes "count(*)" ∷ [];
      is = refl;
      plain = (refl, refl);
      listing = refl;
      tail = le_refl _;
      named = refl;
      typed = refl;
    }) (λ db. calm_count 5 [] db [])

pub asks_count_facts : IsQuestion common_tables COUNT_FACTS.now (counting (one_table 7 [] [] [])) []
unfolding understood everything
asks_count_facts =
    question refl (λ tables indexes views. record {
      names = codes "count(*)" ∷ [];
      is = refl;
      plain = (refl, refl);
      listing = refl;
      tail = le_refl _;
      named = refl;
      typed = refl;
    }) (λ db. calm_count 7 [] db [])

pub asks_count_early : IsQuestion common_tables COUNT_EARLY.now (counting (one_table 1 below_first [] [])) []
unfolding understood everything
asks_count_early =
    question refl (λ tables indexes views. record {
      names = codes "count(*)" ∷ [];
      is = refl;
      plain = (refl, refl);
      listing = refl;
      tail = le_refl _;
      named = refl;
      typed = refl;
    }) (λ db. calm_count 1 below_first db [])
