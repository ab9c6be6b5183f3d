-- What the texts of the look-ups mean under the declared tables.
use Rattle.std.proofs.Common.{ℕ, List, [], ◌∷◌, codes, refl}
use Rattle.sqlite.specs.Schema.{Schema}
use Rattle.sqlite.specs.Term.{col}
use Rattle.sqlite_tied.specs.Compute.{everything}
use Rattle.sqlite.specs.Listing.{understood}
use Rattle.table_rows.proofs.SelectLemmas.{one_table}
use Rattle.table_rows.proofs.ReadingLemmas.{by_each}
use Rattle.table_rows.proofs.QueryLemmas.{Asks}
use Rattle.table_rows.proofs.TextLemmas.{IsQueryText}
use Rattle.register_rows.specs.Schema.{HasCommon}
use Rattle.register_tables.proofs.ReadTexts.{columns, equals, on_ours}
use Rattle.register_tables.proofs.PickTexts.{same_filer_and_key}
use Rattle.register_store.specs.declared.rows.TheConstants.{FINDINGS_AT, KEPT_WITH_KEY}

abbrev pub find_text : List ℕ
find_text = KEPT_WITH_KEY.now

abbrev pub found_text : List ℕ
found_text = FINDINGS_AT.now

pub query_key : IsQueryText find_text
unfolding everything
query_key = refl

pub query_seq : IsQueryText found_text
unfolding everything
query_seq = refl

-- what they ask under any schema that begins with our tables

pub asks_key : (s : Schema) → HasCommon s
    → Asks s find_text (one_table 1 same_filer_and_key (columns (0 ∷ 4 ∷ 5 ∷ [])) (by_each []))
unfolding understood everything
asks_key = on_ours _ _ (λ tables indexes views. record {
  names = codes "seq" ∷ codes "body" ∷ codes "number" ∷ [];
  is = refl;
  plain = (refl, refl);
  listing = refl;
})

pub asks_seq : (s : Schema) → HasCommon s
    → Asks s found_text (one_table 3 (equals 1) (columns (3 ∷ 4 ∷ [])) (by_each (col 1 2 ∷ [])))
unfolding understood everything
asks_seq = on_ours _ _ (λ tables indexes views. record {
  names = codes "code" ∷ codes "place" ∷ [];
  is = refl;
  plain = (refl, refl);
  listing = refl;
})
