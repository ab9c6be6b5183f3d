-- What the texts of the SELECTs mean under the declared tables.
use Rattle.std.proofs.Common.{ℕ, List, [], ◌∷◌, codes, refl}
use Rattle.sqlite.specs.Schema.{Schema}
use Rattle.sqlite.specs.Term.{col}
use Rattle.sqlite_tied.specs.Compute.{everything}
use Rattle.sqlite.specs.Listing.{understood}
use Rattle.table_rows.proofs.SelectLemmas.{one_table}
use Rattle.table_rows.proofs.ReadingLemmas.{by_each}
use Rattle.table_rows.proofs.QueryLemmas.{Asks}
use Rattle.table_rows.proofs.QuestionLemmas.{on_begun}
use Rattle.table_rows.proofs.TextLemmas.{IsQueryText}
use Rattle.register_rows.specs.Schema.{register_tables, HasCommon, IsDeclared}
use Rattle.register_tables.proofs.ReadTexts.{columns, equals, on_ours}
use Rattle.register_store.specs.declared.rows.TheConstants.{TARGET_AT}
use Rattle.register_store.specs.declared.select.reads.TheConstants.{FACTS_OF_FILING, FILER_AT, MOMENT_AT, PLACES_OF}

abbrev pub places_of : List ℕ
places_of = PLACES_OF.now

abbrev pub filer_at : List ℕ
filer_at = FILER_AT.now

abbrev pub target_at : List ℕ
target_at = TARGET_AT.now

abbrev pub moment_at : List ℕ
moment_at = MOMENT_AT.now

abbrev pub facts_said : List ℕ
facts_said = FACTS_OF_FILING.now

pub query_places_of : IsQueryText places_of
unfolding everything
query_places_of = refl

pub query_filer : IsQueryText filer_at
unfolding everything
query_filer = refl

pub query_target : IsQueryText target_at
unfolding everything
query_target = refl

pub query_moment : IsQueryText moment_at
unfolding everything
query_moment = refl

pub query_said : IsQueryText facts_said
unfolding everything
query_said = refl

-- what they ask under any schema that begins with our tables

pub asks_places_of : (s : Schema) → HasCommon s
    → Asks s places_of (one_table 1 (equals 2) (columns (0 ∷ [])) (by_each (col 1 0 ∷ [])))
unfolding understood everything
asks_places_of = on_ours _ _ (λ tables indexes views. record {
  names = codes "seq" ∷ [];
  is = refl;
  plain = (refl, refl);
  listing = refl;
})

pub asks_filer : (s : Schema) → HasCommon s
    → Asks s filer_at (one_table 1 (equals 0) (columns (2 ∷ [])) (by_each (col 1 0 ∷ [])))
unfolding understood everything
asks_filer = on_ours _ _ (λ tables indexes views. record {
  names = codes "filer" ∷ [];
  is = refl;
  plain = (refl, refl);
  listing = refl;
})

pub asks_said : (s : Schema) → HasCommon s
    → Asks s facts_said (one_table 7 (equals 1) (columns (3 ∷ 4 ∷ 5 ∷ 6 ∷ 7 ∷ [])) (by_each (col 1 2 ∷ [])))
unfolding understood everything
asks_said = on_ours _ _ (λ tables indexes views. record {
  names = codes "id" ∷ codes "concept" ∷ codes "dimensions" ∷ codes "value" ∷ codes "decimals" ∷ [];
  is = refl;
  plain = (refl, refl);
  listing = refl;
})

pub asks_target : (s : Schema) → IsDeclared s
    → Asks s target_at (one_table 10 (equals 0) (columns (2 ∷ [])) (by_each []))
unfolding understood everything
asks_target = on_begun register_tables (λ s. Asks s target_at _) (λ tables indexes views. record {
  names = codes "target" ∷ [];
  is = refl;
  plain = (refl, refl);
  listing = refl;
})

pub asks_moment : (s : Schema) → IsDeclared s
    → Asks s moment_at (one_table 11 (equals 0) (columns (2 ∷ [])) (by_each (col 1 0 ∷ [])))
unfolding understood everything
asks_moment = on_begun register_tables (λ s. Asks s moment_at _) (λ tables indexes views. record {
  names = codes "moment" ∷ [];
  is = refl;
  plain = (refl, refl);
  listing = refl;
})
