-- What the texts of the SELECTs mean under the declared tables.
use Rattle.std.proofs.Common.{ℕ, List, [], ◌∷◌, codes, refl, le_refl}
use Rattle.sqlite_schema.specs.declared.schema.Index.{Index}
use Rattle.sqlite_schema.specs.declared.schema.View.{View}
use Rattle.sqlite.specs.Table.{Table}
use Rattle.sqlite.specs.Schema.{Schema}
use Rattle.sqlite.specs.Collation.TheVariants.{Binary}
use Rattle.sqlite.specs.Term.{Term, col, op2}
use Rattle.sqlite_sql.specs.declared.ops.BinaryOp.TheVariants.{Compare}
use Rattle.sqlite_sql.specs.declared.ops.CompareOp.TheVariants.{Eq}
use Rattle.sqlite_tied.specs.Compute.{everything}
use Rattle.sqlite.specs.Listing.{understood}
use Rattle.sqlite.specs.Query.{Query}
use Rattle.table_rows.specs.Tables.{schema_with}
use Rattle.table_rows.proofs.FailLemmas.{calm_table}
use Rattle.table_rows.proofs.SelectLemmas.{one_table}
use Rattle.table_rows.proofs.ReadingLemmas.{by_each}
use Rattle.table_rows.proofs.QueryLemmas.{Asks}
use Rattle.table_rows.proofs.QuestionLemmas.{on_begun, question, IsQuestion}
use Rattle.register_tables.specs.Earlier.{tables_of}
use Rattle.register_tables.specs.Opening.{all_meta, all_kept, all_migrated, all_amends, all_received}
use Rattle.register_tables.specs.declared.opening.form.Earlier.TheVariants.{Third, Fourth}
use Rattle.register_rows.specs.Schema.{common_tables, register_tables, HasCommon}

-- the columns of the row from this place on
abbrev pub columns : List ℕ → List Term
columns [] = []
columns (at ∷ ats) = col 1 at ∷ columns ats

-- the column at this place equals the parameter
abbrev pub equals : ℕ → List Term
equals at = op2 (Compare Eq Binary) (col 1 at) (col 0 0) ∷ []

-- all rows of a table by its key, with these columns
abbrev pub by_key : ℕ → List ℕ → Query
by_key tree places = one_table tree [] (columns places) (by_each (col 1 0 ∷ []))

pub asks_meta : IsQuestion common_tables all_meta (by_key 0 (0 ∷ 2 ∷ 3 ∷ [])) []
unfolding understood everything
asks_meta =
    question refl (λ tables indexes views. record {
      names = codes "id" ∷ codes "kind" ∷ codes "form" ∷ [];
      is = refl;
      plain = (refl, refl);
      listing = refl;
      tail = le_refl _;
      named = refl;
      typed = refl;
    }) (λ db. calm_table 0 [] (columns (0 ∷ 2 ∷ 3 ∷ [])) (by_each (col 1 0 ∷ [])) db [])

pub asks_kept : IsQuestion common_tables all_kept (by_key 1 (0 ∷ 2 ∷ 3 ∷ 4 ∷ 5 ∷ [])) []
unfolding understood everything
asks_kept =
    question refl (λ tables indexes views. record {
      names = codes "seq" ∷ codes "filer" ∷ codes "idem" ∷ codes "body" ∷ codes "number" ∷ [];
      is = refl;
      plain = (refl, refl);
      listing = refl;
      tail = le_refl _;
      named = refl;
      typed = refl;
    }) (λ db. calm_table 1 [] (columns (0 ∷ 2 ∷ 3 ∷ 4 ∷ 5 ∷ [])) (by_each (col 1 0 ∷ [])) db [])

pub asks_migrated : IsQuestion (tables_of Third) all_migrated (by_key 9 (0 ∷ 2 ∷ [])) []
unfolding understood everything
asks_migrated =
    question refl (λ tables indexes views. record {
      names = codes "id" ∷ codes "last" ∷ [];
      is = refl;
      plain = (refl, refl);
      listing = refl;
      tail = le_refl _;
      named = refl;
      typed = refl;
    }) (λ db. calm_table 9 [] (columns (0 ∷ 2 ∷ [])) (by_each (col 1 0 ∷ [])) db [])

pub asks_amends : IsQuestion (tables_of Fourth) all_amends (by_key 10 (0 ∷ 2 ∷ [])) []
unfolding understood everything
asks_amends =
    question refl (λ tables indexes views. record {
      names = codes "seq" ∷ codes "target" ∷ [];
      is = refl;
      plain = (refl, refl);
      listing = refl;
      tail = le_refl _;
      named = refl;
      typed = refl;
    }) (λ db. calm_table 10 [] (columns (0 ∷ 2 ∷ [])) (by_each (col 1 0 ∷ [])) db [])

pub asks_received : IsQuestion register_tables all_received (by_key 11 (0 ∷ 2 ∷ [])) []
unfolding understood everything
asks_received =
    question refl (λ tables indexes views. record {
      names = codes "seq" ∷ codes "moment" ∷ [];
      is = refl;
      plain = (refl, refl);
      listing = refl;
      tail = le_refl _;
      named = refl;
      typed = refl;
    }) (λ db. calm_table 11 [] (columns (0 ∷ 2 ∷ [])) (by_each (col 1 0 ∷ [])) db [])

-- what the tables of every form make of a text holds of any schema that begins with them
pub on_ours : (text : List ℕ) (q : Query) → ((tables : List Table) (indexes : List Index) (views : List View)
    → Asks (schema_with common_tables tables indexes views) text q) → (s : Schema) → HasCommon s → Asks s text q
on_ours text q = on_begun common_tables (λ s. Asks s text q)
