-- What each INSERT of ours adds.
use Rattle.std.proofs.Common.{◌≡◌, ℕ, ℤ, List, [], ◌∷◌, Option, Some, None, Result, Ok, Err, OnOk, refl}
use Rattle.std.specs.Prelude.{option_map}
use Rattle.sqlite.specs.declared.types.Value.{Value}
use Rattle.sqlite.specs.declared.types.Value.TheVariants.{Int, Text, Blob}
use Rattle.sqlite.specs.Values.{or_null}
use Rattle.sqlite.specs.State.{State, ExecutesInside}
use Rattle.sqlite.specs.declared.error.Error.{Error}
use Rattle.table_rows.specs.Tables.{schema_with}
use Rattle.table_rows.proofs.GainLemmas.{inside, gained, cast_int, cast_null, cast_maybe}
use Rattle.table_rows.proofs.InsertLemmas.{inserts}
use Rattle.register_rows.specs.Schema.{register_tables, kept_table, finding_table, filing_table, fact_table}
use Rattle.register_rows.specs.Schema.{amends_table, received_table}
use Rattle.register_tables.specs.Gains.{GainsRows}
use Rattle.register_store.proofs.Texts.{insert_kept, insert_finding, insert_filing, insert_fact, insert_amends}
use Rattle.register_store.proofs.Texts.{insert_received, inserts_received}
use Rattle.register_store.proofs.Texts.{inserts_amends, inserts_kept, inserts_finding, inserts_filing, inserts_fact}
use Rattle.register_store.proofs.Texts.{plain_inserts}

module _ (old new : State) where
  pub filing_gains : (number seq : ℤ) (count : ℕ)
      → ExecutesInside 0 insert_filing (Int number ∷ Int seq ∷ []) old new (Ok count)
      → GainsRows filing_table ((Int number ∷ Int seq ∷ []) ∷ []) old new
  filing_gains number seq count = inside register_tables filing_table _ insert_filing _ old new count (λ ran d.
      let i = inserts (schema_with register_tables d.tables d.indexes d.views) 3 _ _ _ _ _ _ _ refl _ 3 (λ _. refl)
      insert_filing _ old new count d.is
      (inserts_filing d.tables d.indexes d.views) (plain_inserts d.tables d.indexes d.views).2 ran in
      gained register_tables filing_table _ (Int number ∷ Int seq ∷ []) old.now new.now d i
      (λ row is. rw (is, cast_int number, cast_int seq) refl))

  pub kept_gains : (seq : ℤ) (filer key body : List ℕ) (number : Option ℤ) (count : ℕ)
      → ExecutesInside 0 insert_kept (Int seq ∷ Text filer ∷ Text key ∷ Blob body ∷ or_null Int number ∷ []) old new
      (Ok count)
      → GainsRows kept_table ((Int seq ∷ Text filer ∷ Text key ∷ Blob body ∷ or_null Int number ∷ []) ∷ []) old new
  kept_gains seq filer key body number count = inside register_tables kept_table _ insert_kept _ old new count (λ ran d.
      let i = inserts (schema_with register_tables d.tables d.indexes d.views) 1 _ _ _ _ _ _ _ refl _ 6 (λ _. refl)
      insert_kept _ old new count d.is
      (inserts_kept d.tables d.indexes d.views) (plain_inserts d.tables d.indexes d.views).0 ran in
      gained register_tables kept_table _ (Int seq ∷ Text filer ∷ Text key ∷ Blob body ∷ or_null Int number ∷ [])
      old.now new.now d i (λ row is. rw (is, cast_int seq, cast_maybe number) refl))

  pub finding_gains : (seq at code : ℤ) (place : List ℕ) (count : ℕ)
      → ExecutesInside 0 insert_finding (Int seq ∷ Int at ∷ Int code ∷ Blob place ∷ []) old new (Ok count)
      → GainsRows finding_table ((Int seq ∷ Int at ∷ Int code ∷ Blob place ∷ []) ∷ []) old new
  finding_gains seq at code place count =
      inside register_tables finding_table _ insert_finding _ old new count (λ ran d.
      let i = inserts (schema_with register_tables d.tables d.indexes d.views) 2 _ _ _ _ _ _ _ refl _ 5 (λ _. refl)
      insert_finding _ old new count d.is
      (inserts_finding d.tables d.indexes d.views) (plain_inserts d.tables d.indexes d.views).1 ran in
      gained register_tables finding_table _ (Int seq ∷ Int at ∷ Int code ∷ Blob place ∷ []) old.now new.now d i
      (λ row is. rw (is, cast_null, cast_int seq, cast_int at, cast_int code) refl))

  pub fact_gains : (number at : ℤ) (id concept dimensions : List ℕ) (value : Option (List ℕ)) (decimals : Option ℤ)
      (count : ℕ)
      → ExecutesInside 0 insert_fact (Int number ∷ Int at ∷ Blob id ∷ Blob concept ∷ Blob dimensions
      ∷ or_null Blob value ∷ or_null Int decimals ∷ []) old new (Ok count)
      → GainsRows fact_table ((Int number ∷ Int at ∷ Blob id ∷ Blob concept ∷ Blob dimensions ∷ or_null Blob value
      ∷ or_null Int decimals ∷ []) ∷ []) old new
  fact_gains number at id concept dimensions value decimals count =
      inside register_tables fact_table _ insert_fact _ old new count (λ ran d.
      let i = inserts (schema_with register_tables d.tables d.indexes d.views) 4 _ _ _ _ _ _ _ refl _ 8 (λ _. refl)
      insert_fact _ old new count d.is
      (inserts_fact d.tables d.indexes d.views) (plain_inserts d.tables d.indexes d.views).3 ran in
      gained register_tables fact_table _ (Int number ∷ Int at ∷ Blob id ∷ Blob concept ∷ Blob dimensions
      ∷ or_null Blob value ∷ or_null Int decimals ∷ []) old.now new.now d i
      (λ row is. rw (is, cast_null, cast_int number, cast_int at, cast_maybe decimals) refl))

  pub amends_gains : (seq target : ℤ) (count : ℕ)
      → ExecutesInside 0 insert_amends (Int seq ∷ Int target ∷ []) old new (Ok count)
      → GainsRows amends_table ((Int seq ∷ Int target ∷ []) ∷ []) old new
  amends_gains seq target count = inside register_tables amends_table _ insert_amends _ old new count (λ ran d.
      let means = inserts_amends d.tables d.indexes d.views in
      let i = inserts (schema_with register_tables d.tables d.indexes d.views) 6 _ _ _ _ _ _ _ refl _ 3 (λ _. refl)
      insert_amends _ old new count d.is means.0 means.1 ran in
      gained register_tables amends_table _ (Int seq ∷ Int target ∷ []) old.now new.now d i
      (λ row is. rw (is, cast_int seq, cast_int target) refl))

  pub received_gains : (seq moment : ℤ) (count : ℕ)
      → ExecutesInside 0 insert_received (Int seq ∷ Int moment ∷ []) old new (Ok count)
      → GainsRows received_table ((Int seq ∷ Int moment ∷ []) ∷ []) old new
  received_gains seq moment count = inside register_tables received_table _ insert_received _ old new count (λ ran d.
      let means = inserts_received d.tables d.indexes d.views in
      let i = inserts (schema_with register_tables d.tables d.indexes d.views) 7 _ _ _ _ _ _ _ refl _ 3 (λ _. refl)
      insert_received _ old new count d.is means.0 means.1 ran in
      gained register_tables received_table _ (Int seq ∷ Int moment ∷ []) old.now new.now d i
      (λ row is. rw (is, cast_int seq, cast_int moment) refl))

-- a value that may be absent, as a row has it
pub held_as : {A B : Type 0} (value : B → Value) (f : A → B) (o : Option A)
    → or_null (λ x. value (f x)) o ≡ or_null value (option_map f o)
held_as value f None = refl
held_as value f (Some x) = refl

-- what an answer of a statement says, said in other words
pub on_ran : {P Q : Type 0} (result : Result (Unit {0}) Error) → OnOk result P → (P → Q) → OnOk result Q
on_ran (Ok done) told more = more told
on_ran (Err error) told more = tt
