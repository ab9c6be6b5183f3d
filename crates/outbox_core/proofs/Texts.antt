-- What the texts on some rows mean under the declared tables.
use Rattle.std.proofs.Common.{◌≡◌, ℕ, pos, List, [], ◌∷◌, codes, refl}
use Rattle.sqlite_tied.specs.Compute.{everything}
use Rattle.sqlite.specs.declared.types.Value.TheVariants.{Null, Int}
use Rattle.sqlite.specs.Table.{Table}
use Rattle.sqlite.specs.Schema.{Schema}
use Rattle.sqlite_schema.specs.declared.schema.Index.{Index}
use Rattle.sqlite_schema.specs.declared.schema.View.{View}
use Rattle.sqlite.specs.Listing.{understood}
use Rattle.sqlite.specs.Command.{Command}
use Rattle.sqlite.specs.Command.TheVariants.{Insert, Update}
use Rattle.sqlite.specs.Source.TheVariants.{Values}
use Rattle.sqlite.specs.Term.{Term, lit, col}
use Rattle.sqlite.specs.Query.{Query}
use Rattle.sqlite.proofs.Callers.{IsPlain, command_of}
use Rattle.table_rows.specs.Tables.{schema_with}
use Rattle.table_rows.proofs.SelectLemmas.{one_table}
use Rattle.table_rows.proofs.QueryLemmas.{Asks}
use Rattle.table_rows.proofs.QuestionLemmas.{on_begun}
use Rattle.table_rows.proofs.TextLemmas.{IsQueryText}
use Rattle.outbox_tables.specs.Schema.{outbox_tables, IsDeclared}
use Rattle.outbox_tables.proofs.Texts.{equals, by_id, entry_query, names}
use Rattle.outbox_core.specs.declared.rows.TheConstants.{ALL_STATES, ENTRIES_IN_STATE, ENTRY_WITH_ID, ID_OF_KEY}
use Rattle.outbox_core.specs.declared.rows.TheConstants.{INSERT_ENTRY, INSERT_TARGET, SET_STATE, STATE_WITH_ID}
use Rattle.outbox_core.specs.declared.rows.TheConstants.{TARGET_WITH_ID}

abbrev pub by_key_text : List ℕ
by_key_text = ID_OF_KEY.now

abbrev pub by_id_text : List ℕ
by_id_text = ENTRY_WITH_ID.now

abbrev pub state_text : List ℕ
state_text = STATE_WITH_ID.now

abbrev pub by_state_text : List ℕ
by_state_text = ENTRIES_IN_STATE.now

abbrev pub insert_text : List ℕ
insert_text = INSERT_ENTRY.now

abbrev pub target_text : List ℕ
target_text = TARGET_WITH_ID.now

abbrev pub insert_target_text : List ℕ
insert_target_text = INSERT_TARGET.now

abbrev pub update_text : List ℕ
update_text = SET_STATE.now

abbrev pub id_terms : List Term
id_terms = col 1 0 ∷ []

abbrev pub key_query : Query
key_query = one_table 1 (equals 2) id_terms by_id

-- a state and its number
abbrev pub bare_state_terms : List Term
bare_state_terms = col 1 4 ∷ col 1 5 ∷ []

abbrev pub state_query : Query
state_query = one_table 1 (equals 0) bare_state_terms by_id

abbrev pub states_text : List ℕ
states_text = ALL_STATES.now

abbrev pub state_terms : List Term
state_terms = col 1 0 ∷ col 1 4 ∷ col 1 5 ∷ []

abbrev pub states_query : Query
states_query = one_table 1 [] state_terms by_id

abbrev pub target_query : Query
target_query = one_table 3 (equals 0) (col 1 2 ∷ []) []

abbrev pub insert_target_command : Command
insert_target_command = Insert 2 (Values (col 0 0 ∷ lit Null ∷ col 0 1 ∷ []) 3)

abbrev pub insert_terms : List Term
insert_terms = col 0 0 ∷ lit Null ∷ col 0 1 ∷ col 0 2 ∷ lit (Int (pos 0)) ∷ lit Null ∷ []

abbrev pub insert_command : Command
insert_command = Insert 1 (Values insert_terms 6)

-- the rowid of the row, and then the row as it becomes
abbrev pub changed_columns : List Term
changed_columns = col 1 0 ∷ col 1 0 ∷ lit Null ∷ col 1 2 ∷ col 1 3 ∷ col 0 1 ∷ col 0 2 ∷ []

abbrev pub update_query : Query
update_query = one_table 1 (equals 0) changed_columns []

abbrev pub update_command : Command
update_command = Update 1 (record { lets = []; body = update_query })

-- ---- under no schema do the queries write

pub by_key_reads : IsQueryText by_key_text
unfolding understood everything
by_key_reads = refl

pub by_id_reads : IsQueryText by_id_text
unfolding understood everything
by_id_reads = refl

pub state_reads : IsQueryText state_text
unfolding understood everything
state_reads = refl

pub by_state_reads : IsQueryText by_state_text
unfolding understood everything
by_state_reads = refl

pub states_reads : IsQueryText states_text
unfolding understood everything
states_reads = refl

pub target_reads : IsQueryText target_text
unfolding understood everything
target_reads = refl

module _ (tables : List Table) (indexes : List Index) (views : List View) where
  abbrev schema : Schema
  schema = schema_with outbox_tables tables indexes views

  pub does_insert : command_of (understood schema insert_text) ≡ insert_command
  unfolding understood everything
  does_insert = refl

  pub plain_insert : IsPlain (understood schema insert_text)
  unfolding understood everything
  plain_insert = (refl, refl)

  pub does_insert_target : command_of (understood schema insert_target_text) ≡ insert_target_command
  unfolding understood everything
  does_insert_target = refl

  pub plain_insert_target : IsPlain (understood schema insert_target_text)
  unfolding understood everything
  plain_insert_target = (refl, refl)

-- ---- what they are under any schema that begins with our tables

begun : (Holds : Schema → Type 0) → ((tables : List Table) (indexes : List Index) (views : List View)
    → Holds (schema_with outbox_tables tables indexes views)) → (s : Schema) → IsDeclared s → Holds s
begun Holds holds s d = on_begun outbox_tables Holds holds s d.begins

pub by_key_asks : (s : Schema) → IsDeclared s → Asks s by_key_text key_query
unfolding understood everything
by_key_asks =
    begun (λ s. Asks s by_key_text key_query)
    (λ tables indexes views. record { names = codes "id" ∷ []; is = refl; plain = (refl, refl); listing = refl })

pub by_id_asks : (s : Schema) → IsDeclared s → Asks s by_id_text (entry_query (equals 0))
unfolding understood everything
by_id_asks =
    begun (λ s. Asks s by_id_text (entry_query (equals 0)))
    (λ tables indexes views. record { names = names; is = refl; plain = (refl, refl); listing = refl })

pub state_asks : (s : Schema) → IsDeclared s → Asks s state_text state_query
unfolding understood everything
state_asks =
    begun (λ s. Asks s state_text state_query)
    (λ tables indexes views. record {
      names = codes "state" ∷ codes "number" ∷ [];
      is = refl;
      plain = (refl, refl);
      listing = refl;
    })

pub by_state_asks : (s : Schema) → IsDeclared s → Asks s by_state_text (entry_query (equals 4))
unfolding understood everything
by_state_asks =
    begun (λ s. Asks s by_state_text (entry_query (equals 4)))
    (λ tables indexes views. record { names = names; is = refl; plain = (refl, refl); listing = refl })

pub states_asks : (s : Schema) → IsDeclared s → Asks s states_text states_query
unfolding understood everything
states_asks =
    begun (λ s. Asks s states_text states_query)
    (λ tables indexes views. record {
      names = codes "id" ∷ codes "state" ∷ codes "number" ∷ [];
      is = refl;
      plain = (refl, refl);
      listing = refl;
    })

pub target_asks : (s : Schema) → IsDeclared s → Asks s target_text target_query
unfolding understood everything
target_asks =
    begun (λ s. Asks s target_text target_query)
    (λ tables indexes views. record { names = codes "number" ∷ []; is = refl; plain = (refl, refl); listing = refl })

pub update_is : (s : Schema) → IsDeclared s → command_of (understood s update_text) ≡ update_command
unfolding understood everything
update_is =
    begun (λ s. command_of (understood s update_text) ≡ update_command) (λ tables indexes views. refl)

pub update_plain : (s : Schema) → IsDeclared s → IsPlain (understood s update_text)
unfolding understood everything
update_plain = begun (λ s. IsPlain (understood s update_text)) (λ tables indexes views. (refl, refl))
