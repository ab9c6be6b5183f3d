-- What the statements of a put make of an outbox.
use Rattle.std.proofs.Common.{◌≡◌, ℕ, ℤ, ◌+◌, pos, List, [], ◌∷◌, ◌++◌, append-nil, length, map, Ok, Some, None, false}
use Rattle.std.proofs.Common.{IsTrue, refl, sym, ap, subst, ◌∙◌, arith}
use Rattle.sqlite.specs.declared.types.Value.TheVariants.{Null, Int, Text, Blob}
use Rattle.sqlite.specs.Order.{Row}
use Rattle.sqlite.specs.Tree.{Trees}
use Rattle.sqlite.specs.Effect.{Database}
use Rattle.sqlite.specs.State.{State, ExecutesInside}
use Rattle.filing_model.specs.Outbox.{Entry}
use Rattle.table_rows.specs.Tables.{schema_with}
use Rattle.table_rows.specs.Rows.{TableHas, Gains}
use Rattle.table_rows.specs.Standing.{HasCommitted, AddsNothing}
use Rattle.table_rows.proofs.InsertLemmas.{inserts}
use Rattle.table_rows.proofs.GainLemmas.{cast_int, cast_null, inside, gained, holds_more, same_rows}
use Rattle.outbox_tables.specs.Schema.{outbox_tables, meta_table, entry_table, target_table, IsDeclared}
use Rattle.outbox_tables.specs.Entries.{Contents, IsOutbox, numbered}
use Rattle.outbox_core.specs.Entries.{opened, with_entry}
use Rattle.outbox_tables.specs.Rows.{HasRows, IsOutboxOf, LeavesOutbox, entry_row, entry_rows, target_row, target_rows}
use Rattle.outbox_tables.specs.Rows.{meta_row}
use Rattle.outbox_core.specs.Changes.{GainsRows, AddsRows, AddsInside, Adds, AddsTo}
use Rattle.outbox_core.proofs.Texts.{insert_text, insert_terms, does_insert, plain_insert, insert_target_text}
use Rattle.outbox_core.proofs.Texts.{does_insert_target, plain_insert_target}
use Rattle.outbox_core.proofs.EntryLemmas.{numbered_push}
use Rattle.outbox_core.proofs.TargetLemmas.{targets_push}

-- ---- each statement

module _ (old new : State) where
  pub entry_gains : (id : ℤ) (key body : List ℕ) (count : ℕ)
      → ExecutesInside 0 insert_text (Int id ∷ Text key ∷ Blob body ∷ []) old new (Ok count)
      → GainsRows entry_table ((Int id ∷ Text key ∷ Blob body ∷ Int (pos 0) ∷ Null ∷ []) ∷ []) old new
  entry_gains id key body count = inside outbox_tables entry_table _ insert_text _ old new count (λ ran d.
      let i = inserts (schema_with outbox_tables d.tables d.indexes d.views) 1 _ _ _ _ _ _ _ refl insert_terms 6
      (λ _. refl) insert_text _ old new count d.is
      (does_insert d.tables d.indexes d.views) (plain_insert d.tables d.indexes d.views) ran in
      gained outbox_tables entry_table _ (Int id ∷ Text key ∷ Blob body ∷ Int (pos 0) ∷ Null ∷ []) old.now new.now d i
      (λ row is. rw (is, cast_int id, cast_int (pos 0), cast_null) refl))

  pub target_gains : (id number : ℤ) (count : ℕ)
      → ExecutesInside 0 insert_target_text (Int id ∷ Int number ∷ []) old new (Ok count)
      → GainsRows target_table ((Int id ∷ Int number ∷ []) ∷ []) old new
  target_gains id number count = inside outbox_tables target_table _ insert_target_text _ old new count (λ ran d.
      let i = inserts (schema_with outbox_tables d.tables d.indexes d.views) 2 _ _ _ _ _ _ _ refl _ 3 (λ _. refl)
      insert_target_text _ old new count d.is
      (does_insert_target d.tables d.indexes d.views) (plain_insert_target d.tables d.indexes d.views) ran in
      gained outbox_tables target_table _ (Int id ∷ Int number ∷ []) old.now new.now d i
      (λ row is. rw (is, cast_int id, cast_int number) refl))

-- ---- both

entries_push : (es : List Entry) (e : Entry) → entry_rows es ++ entry_row (1 + length es, e) ∷ []
    ≡ entry_rows (es ++ e ∷ [])
entries_push es e = sym (ap (map entry_row) (numbered_push 1 es e) ∙ map_push (numbered es))
  where
    map_push : (xs : List (ℕ × Entry)) → map entry_row (xs ++ (1 + length es, e) ∷ []) ≡ map entry_row xs
        ++ entry_row (1 + length es, e) ∷ []
    map_push [] = refl
    map_push (x ∷ xs) = ap (λ l. entry_row x ∷ l) (map_push xs)

abbrev pub HasBoth : Database → List ℕ → List Row → List Row → Type 0
HasBoth db filer es ts =
    IsDeclared db.schema × TableHas db meta_table (meta_row filer ∷ []) × TableHas db entry_table es
    × TableHas db target_table ts

module _ (old new : Database) (filer : List ℕ) (es ts rows : List Row) (has : HasBoth old filer es ts) where
  entry_grows : Gains outbox_tables entry_table rows old new → HasBoth new filer (es ++ rows) ts
  entry_grows g = (
    subst IsDeclared (sym g.schema_is) has.0,
    same_rows meta_table _ old new (g.others.0 (λ e. absurd (omega (arith, e)))) has.1,
    holds_more outbox_tables entry_table es rows old new has.2 g,
    same_rows target_table ts old new (g.others.1.1.0 (λ e. absurd (omega (arith, e)))) has.3,
  )

  target_grows : Gains outbox_tables target_table rows old new → HasBoth new filer es (ts ++ rows)
  target_grows g = (
    subst IsDeclared (sym g.schema_is) has.0,
    same_rows meta_table _ old new (g.others.0 (λ e. absurd (omega (arith, e)))) has.1,
    same_rows entry_table es old new (g.others.1.0 (λ e. absurd (omega (arith, e)))) has.2,
    holds_more outbox_tables target_table ts rows old new has.3 g,
  )

abbrev both_of : (it : Contents) (db : Database) → HasRows it db
    → HasBoth db it.filer (entry_rows it.entries) (target_rows it.entries)
both_of it db has = (has.declared, has.meta_is, has.entries_are, has.targets_are)

-- the rows of the entry and of its target, if it has one
more_rows : (it : Contents) (e : Entry) (db : Database)
    → HasBoth db it.filer (entry_rows it.entries ++ entry_row (1 + length it.entries, e) ∷ [])
    (target_rows it.entries ++ target_row (1 + length it.entries) e.target)
    → HasRows (with_entry it e) db
more_rows it e db has = record {
  declared = has.0;
  meta_is = has.1;
  entries_are = subst (TableHas db entry_table) (entries_push it.entries e) has.2;
  targets_are = subst (TableHas db target_table) (sym (targets_push 1 it.entries e)) has.3;
}

module _ (id : ℕ) (key body : List ℕ) where
  abbrev row : Row
  row = Int (pos id) ∷ Text key ∷ Blob body ∷ Int (pos 0) ∷ Null ∷ []

  -- with no target
  pub adds_alone : (old new : State) → GainsRows entry_table (row ∷ []) old new
      → AddsInside id (opened key None body) old new
  adds_alone old new one = record {
    adds = record {
      rows = λ it next has.
          let grown =
          entry_grows old.now new.now it.filer _ _ _ (both_of it old.now has) (one.gains has.declared.begins) in
          more_rows it (opened key None body) new.now (rw (← next, append-nil (target_rows it.entries)) grown);
      sound = λ d sound. (one.gains d.begins).sound sound;
    };
    inside = one.inside;
    committed = one.committed;
  }

  -- with one
  pub adds_both : (number : ℕ) (old mid new : State) → GainsRows entry_table (row ∷ []) old mid
      → GainsRows target_table ((Int (pos id) ∷ Int (pos number) ∷ []) ∷ []) mid new
      → AddsInside id (opened key (Some number) body) old new
  adds_both number old mid new one two = record {
    adds = record {
      rows = λ it next has.
          let grown =
          entry_grows old.now mid.now it.filer _ _ _ (both_of it old.now has) (one.gains has.declared.begins) in
          let full = target_grows mid.now new.now it.filer _ _ _ grown (two.gains grown.0.begins) in
          more_rows it (opened key (Some number) body) new.now (rw (← next) full);
      sound = λ d sound.
          let g = one.gains d.begins in
          (two.gains (subst IsDeclared (sym g.schema_is) d).begins).sound (g.sound sound);
    };
    inside = two.inside;
    committed = two.committed ∙ one.committed;
  }

-- ---- an outbox with it

module _ (it : Contents) (e : Entry) (fits : IsOutbox (with_entry it e)) where
  more : (old new : Database) → IsOutboxOf it old → AddsRows (1 + length it.entries) e old new
      → IsOutboxOf (with_entry it e) new
  more old new was adds =
      record { sound = adds.sound was.rows.declared was.sound; rows = adds.rows it refl was.rows; list = fits }

  pub added_stands : (old new : State) → HasCommitted (IsOutboxOf it) old → new.in_transaction ≡ false
      → Adds (1 + length it.entries) e old new → HasCommitted (IsOutboxOf (with_entry it e)) new × IsTrue new.is_open
  added_stands old new was autocommit adds = (
    record {
      autocommit = autocommit;
      now = λ _. more old.now new.now (was.now adds.was_open) adds.adds;
      committed =
          λ _. adds.committed;
    },
    adds.is_open,
  )

  pub added_leaves : (old : State) (trees : Trees) → HasCommitted (IsOutboxOf it) old → IsTrue old.is_open
      → AddsTo (1 + length it.entries) e old.now trees → LeavesOutbox (with_entry it e) trees
  added_leaves old trees was alive left =
      record { db = left.db; is = left.is; outbox = more old.now left.db (was.now alive) left.adds }

-- where nothing is written it stands
pub still_stands : (it : Contents) (old new : State) → HasCommitted (IsOutboxOf it) old → new.in_transaction ≡ false
    → AddsNothing old new → HasCommitted (IsOutboxOf it) new
still_stands it old new was autocommit none = record {
  autocommit = autocommit;
  now = λ alive. let before = none.was_open alive in
      subst (IsOutboxOf it) (sym (none.now alive ∙ was.committed before)) (was.now before);
  committed = λ alive. none.committed alive ∙ sym (none.now alive);
}
