-- The statements that make the tables of an outbox, in turn.
use Rattle.std.proofs.Common.{◌≡◌, true, ℕ, pos, List, [], ◌∷◌, codes, Ok, refl, ◌∙◌, sym, subst, arith}
use Rattle.std.specs.List.{AllByRecursion}
use Rattle.key_string.specs.Filer.{is_filer}
use Rattle.sqlite_tied.specs.Compute.{everything}
use Rattle.sqlite.specs.declared.types.Value.TheVariants.{Null, Int, Text}
use Rattle.sqlite.specs.Table.{Table}
use Rattle.sqlite.specs.Tree.{Trees}
use Rattle.sqlite.specs.Schema.{Schema}
use Rattle.sqlite.specs.Change.{created}
use Rattle.sqlite.specs.Listing.{understood}
use Rattle.sqlite.specs.Term.{lit, col}
use Rattle.sqlite.specs.Source.TheVariants.{Values}
use Rattle.sqlite.specs.Command.TheVariants.{Insert}
use Rattle.sqlite.specs.Effect.{IsDatabase}
use Rattle.sqlite.specs.Store.{Ghosts}
use Rattle.sqlite.specs.Held.{Held, state}
use Rattle.sqlite.specs.State.{State, KeepsCommit, ExecutesInside}
use Rattle.sqlite.proofs.Callers.{IsPlain, command_of}
use Rattle.sqlite_catalog.specs.Listing.{automatic}
use Rattle.sqlite_schema.specs.declared.schema.Index.{Index}
use Rattle.table_rows.specs.Standing.{AddsNothing}
use Rattle.table_rows.specs.Statements.{begun, AreDone, AreTreesOf}
use Rattle.table_rows.specs.Tables.{no_schema, schema_with, BeginsWith}
use Rattle.table_rows.specs.Rows.{Gains}
use Rattle.table_rows.proofs.CreateLemmas.{IsCreation, IsFreshly, creates, none_held}
use Rattle.table_rows.proofs.GainLemmas.{gained, cast_int}
use Rattle.table_rows.proofs.InsertLemmas.{inserts}
use Rattle.outbox_tables.specs.Schema.{outbox_tables, meta_table, entry_table, target_table, IsDeclared}
use Rattle.outbox_tables.specs.Entries.{IsOutbox, empty}
use Rattle.outbox_tables.specs.Making.{create_meta, create_entry, create_target, insert_meta, making, LeavesMade}
use Rattle.outbox_tables.specs.Rows.{HasRows, IsOutboxOf, meta_row}

abbrev first_schema : Schema
first_schema = created no_schema meta_table

creates_meta : IsCreation no_schema create_meta meta_table
unfolding understood everything
creates_meta = record { command = refl; statement = refl; defined = refl; plain = (refl, refl) }

creates_entry : IsCreation first_schema create_entry (record entry_table { tree = 0 })
unfolding understood everything
creates_entry = record { command = refl; statement = refl; defined = refl; plain = (refl, refl) }

abbrev pub second_schema : Schema
second_schema = created first_schema (record entry_table { tree = 0 })

pub creates_target : IsCreation second_schema create_target (record target_table { tree = 0 })
unfolding understood everything
creates_target = record { command = refl; statement = refl; defined = refl; plain = (refl, refl) }

-- the index that SQLite makes for the keys
abbrev pub own_indexes : List Index
own_indexes = automatic entry_table 0 (2 ∷ []) 2 ∷ []

abbrev pub outbox_schema : Schema
outbox_schema = schema_with outbox_tables [] own_indexes []

inserts_meta : command_of (understood outbox_schema insert_meta)
    ≡ Insert 0 (Values (lit (Int (pos 1)) ∷ lit Null ∷ lit (Text (codes "outbox")) ∷ lit (Int (pos 2)) ∷ col 0 0 ∷ [])
    5)
unfolding understood everything
inserts_meta = refl

plain_meta : IsPlain (understood outbox_schema insert_meta)
unfolding understood everything
plain_meta = (refl, refl)

abbrev begins : (schema : Schema) → schema ≡ outbox_schema → BeginsWith outbox_tables schema
begins schema is = record { tables = []; indexes = own_indexes; views = []; is = is }

pub declared : (schema : Schema) → schema ≡ outbox_schema → IsDeclared schema
declared schema is =
    record {
      begins = begins schema is;
      free =
          subst (λ (s : Schema). AllByRecursion (λ (t : Table). t.references ≡ []) s.tables) (sym is) (
            refl,
            (refl, (refl, tt)),
          );
    }

module _ (a b c m d : State) (n : ℕ × ℕ × ℕ × ℕ) (filer : List ℕ) where
  makes_all : ExecutesInside 0 create_meta [] a b (Ok n.0) → ExecutesInside 0 create_entry [] b c (Ok n.1)
      → ExecutesInside 0 create_target [] c m (Ok n.2) → ExecutesInside 0 insert_meta (Text filer ∷ []) m d (Ok n.3)
      → a.now.schema ≡ no_schema → HasRows (empty filer) d.now × IsDatabase d.now
  makes_all p q t r none =
      let one =
      creates no_schema create_meta meta_table a b n.0 creates_meta refl (record { schema_is = none; empty = tt })
      p.0 in
      let half : IsFreshly second_schema c.now =
      creates first_schema create_entry (record entry_table { tree = 0 }) b c n.1 creates_entry refl one q.0 in
      let two : IsFreshly outbox_schema m.now =
      creates second_schema create_target (record target_table { tree = 0 }) c m n.2 creates_target refl half t.0 in
      let i = inserts outbox_schema 0 _ _ _ _ _ _ _ refl _ 5 (λ _. refl) insert_meta _ m d n.3 two.schema_is
      inserts_meta plain_meta r.0 in
      let g : Gains outbox_tables meta_table (meta_row filer ∷ []) m.now d.now =
      gained outbox_tables meta_table _ (meta_row filer) m.now d.now (begins m.now.schema two.schema_is) i
      (λ row is. rw (is, cast_int (pos 1), cast_int (pos 2)) refl) in (
        record {
          declared = declared d.now.schema (g.schema_is ∙ two.schema_is);
          meta_is = rw two.empty.0 at g.gained;
          entries_are =
              none_held entry_table m.now d.now two.empty.1.0 (g.others.1.0 (λ same. absurd (omega (arith, same))));
          targets_are =
              none_held target_table m.now d.now two.empty.1.1.0
              (g.others.1.1.0 (λ same. absurd (omega (arith, same))));
        },
        i.sound,
      )

pub no_entries : (filer : List ℕ) → is_filer filer ≡ true → IsOutbox (empty filer)
no_entries filer is = record { filer = is; sendable = tt; numbers = tt; distinct = tt }

module _ {S : Type 0} (g : Ghosts S) (filer : List ℕ) (old : Held S) (is : is_filer filer ≡ true) where
  -- in a database with no table they are an outbox with no entry
  pub all_made : (last : Held S) → AreDone g (making filer) (begun old) last → (state g old).now.schema ≡ no_schema
      → IsOutboxOf (empty filer) (state g last).now
  all_made last (b, p, (c, q, (d, t, (e, r, end)))) none =
      let all =
      makes_all (state g (begun old)) (state g b) (state g c) (state g d) (state g e) (p.0, q.0, t.0, r.0) filer p.1
      q.1 t.1 r.1 none in
      let made : IsOutboxOf (empty filer) (state g e).now =
      record { sound = all.1; rows = all.0; list = no_entries filer is } in
      subst (λ h. IsOutboxOf (empty filer) (state g h).now) end made

  pub made_leaves : (trees : Trees) → AreTreesOf g (making filer) old trees → LeavesMade g filer old trees
  made_leaves trees made =
      (made, λ none. record { db = (state g made.last).now; is = made.is; outbox = all_made made.last made.done none })

-- what adds nothing keeps what was committed
pub nothing_keeps : {a b : State} → AddsNothing a b → KeepsCommit a b
nothing_keeps none = record { was_open = none.was_open; committed = none.committed }
