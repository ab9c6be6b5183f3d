-- What the texts that read tables mean under the declared tables.
use Rattle.std.proofs.Common.{ℕ, List, [], ◌∷◌, codes, false, refl, le_refl}
use Rattle.sqlite_tied.specs.Compute.{everything}
use Rattle.sqlite.specs.Listing.{understood}
use Rattle.sqlite.specs.Term.{Term, col, op2}
use Rattle.sqlite.specs.Query.{Query}
use Rattle.sqlite_value.specs.declared.keys.Key.{Key}
use Rattle.sqlite_sql.specs.declared.ops.BinaryOp.TheVariants.{Compare}
use Rattle.sqlite_sql.specs.declared.ops.CompareOp.TheVariants.{Eq}
use Rattle.sqlite_value.specs.declared.keys.Collation.TheVariants.{Binary}
use Rattle.table_rows.proofs.SelectLemmas.{one_table}
use Rattle.table_rows.proofs.FailLemmas.{calm_table}
use Rattle.table_rows.proofs.QuestionLemmas.{question, IsQuestion}
use Rattle.table_rows.proofs.TextLemmas.{IsQueryText}
use Rattle.outbox_tables.specs.Schema.{common_tables, outbox_tables}
use Rattle.outbox_tables.specs.Audit.{meta_text, targets_text, entries_text}

-- the column equals the parameter
abbrev pub equals : ℕ → List Term
equals at = op2 (Compare Eq Binary) (col 1 at) (col 0 0) ∷ []

-- the five columns of an entry
abbrev pub entry_columns : List Term
entry_columns = col 1 0 ∷ col 1 2 ∷ col 1 3 ∷ col 1 4 ∷ col 1 5 ∷ []

-- in the order of the ids
abbrev pub by_id : List (Term × Key)
by_id = (col 1 0, record { collation = Binary; descending = false }) ∷ []

abbrev pub entry_query : List Term → Query
entry_query test = one_table 1 test entry_columns by_id

abbrev pub meta_terms : List Term
meta_terms = col 1 0 ∷ col 1 2 ∷ col 1 3 ∷ col 1 4 ∷ []

abbrev pub meta_query : Query
meta_query = one_table 0 [] meta_terms []

-- both columns of a target
abbrev pub target_terms : List Term
target_terms = col 1 0 ∷ col 1 2 ∷ []

abbrev pub targets_query : Query
targets_query = one_table 3 [] target_terms []

abbrev pub names : List (List ℕ)
names = codes "id" ∷ codes "idem" ∷ codes "body" ∷ codes "state" ∷ codes "number" ∷ []

-- ---- each with what it asks

pub asks_meta : IsQuestion common_tables meta_text meta_query []
unfolding understood everything
asks_meta =
    question refl (λ tables indexes views. record {
      names = codes "id" ∷ codes "kind" ∷ codes "form" ∷ codes "filer" ∷ [];
      is = refl;
      plain = (refl, refl);
      listing = refl;
      tail = le_refl _;
      named = refl;
      typed = refl;
    }) (λ db. calm_table 0 [] meta_terms [] db [])

pub asks_entries : IsQuestion common_tables entries_text (entry_query []) []
unfolding understood everything
asks_entries =
    question refl (λ tables indexes views. record {
      names = names;
      is = refl;
      plain = (refl, refl);
      listing = refl;
      tail = le_refl _;
      named = refl;
      typed = refl;
    }) (λ db. calm_table 1 [] entry_columns by_id db [])

pub asks_targets : IsQuestion outbox_tables targets_text targets_query []
unfolding understood everything
asks_targets =
    question refl (λ tables indexes views. record {
      names = codes "id" ∷ codes "number" ∷ [];
      is = refl;
      plain = (refl, refl);
      listing = refl;
      tail = le_refl _;
      named = refl;
      typed = refl;
    }) (λ db. calm_table 3 [] target_terms [] db [])

-- under no schema do they write

pub meta_reads : IsQueryText meta_text
meta_reads = asks_meta.reads

pub entries_reads : IsQueryText entries_text
entries_reads = asks_entries.reads
