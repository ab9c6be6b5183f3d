-- What an INSERT adds to a table, and one gain after another.
use Rattle.std.proofs.Common.{◌≡◌, ℕ, ℤ, Bool, true, false, cond, List, [], ◌∷◌, ◌++◌, map, Option, Some, None, Ok}
use Rattle.std.proofs.Common.{append_assoc, refl, sym, subst, ◌∙◌, IsPermutation}
use Rattle.std.specs.List.{AllByRecursion}
use Rattle.std.proofs.lemmas.List.Sorted.{IsPermutation-map, IsPermutation-refl, IsPermutation-trans}
use Rattle.std.proofs.lemmas.List.Sorted.{IsPermutation-append_left, IsPermutation-append_right}
use Rattle.std.proofs.lemmas.List.Sorted.{IsPermutation-append_comm}
use Rattle.sqlite.specs.declared.types.Value.TheVariants.{Null, Int, Blob}
use Rattle.sqlite.specs.Values.{or_null, bound_value}
use Rattle.sqlite.specs.Order.{Row}
use Rattle.sqlite.specs.Cast.{cast, cast_row}
use Rattle.sqlite.specs.Kind.TheVariants.{Integer}
use Rattle.sqlite.specs.Ops.{unary}
use Rattle.sqlite_rules.specs.Edit.{with_rowid}
use Rattle.sqlite.specs.Rowids.TheVariants.{Chosen}
use Rattle.sqlite.specs.Table.{Table}
use Rattle.sqlite.specs.Effect.{Database}
use Rattle.sqlite.specs.State.{State, ExecutesInside, Executes}
use Rattle.table_rows.specs.Tables.{BeginsWith, schema_with}
use Rattle.table_rows.specs.Rows.{shown, TableHas, KeepsOthers, Gains, GainsInside}
use Rattle.table_rows.proofs.InsertLemmas.{Inserted, put_fresh}

-- ---- a value as its column takes it

either : {X : Type 0} (b : Bool) (x : X) → cond b x x ≡ x
either true x = refl
either false x = refl

pub cast_null : cast Integer Null ≡ Null
unfolding unary
cast_null = either _ Null

pub cast_int : (n : ℤ) → cast Integer (Int n) ≡ Int n
unfolding unary
cast_int n = either _ (Int n)

pub cast_maybe : (n : Option ℤ) → cast Integer (or_null Int n) ≡ or_null Int n
cast_maybe None = cast_null
cast_maybe (Some n) = cast_int n

-- an absent value is bound as NULL

pub bound_maybe : (n : Option ℤ) → bound_value (or_null Int n) ≡ or_null Int n
bound_maybe None = refl
bound_maybe (Some n) = refl

pub bound_maybe_blob : (b : Option (List ℕ)) → bound_value (or_null Blob b) ≡ or_null Blob b
bound_maybe_blob None = refl
bound_maybe_blob (Some b) = refl

-- ---- one INSERT

-- the first of a list are so where all are
first_ones : {X : Type 0} (P : X → Type 0) (xs ys : List X) → AllByRecursion P (xs ++ ys) → AllByRecursion P xs
first_ones P [] ys all = tt
first_ones P (x ∷ xs) ys all = (all.0, first_ones P xs ys all.1)

module _ (ours : List Table) (table : Table) where
  -- a statement of one INSERT inside a transaction
  pub inside : (rows : List Row) (sql : List ℕ) (params : Row) (old new : State) (count : ℕ)
      → (Executes sql params old new (Ok count) → BeginsWith ours old.now.schema
      → Gains ours table rows old.now new.now)
      → ExecutesInside 0 sql params old new (Ok count) → GainsInside ours table rows old new
  inside rows sql params old new count gains h =
      record { gains = gains h.0; inside = h.1.mode; committed = h.1.committed_is }

  -- the row that was inserted, as it is shown
  pub gained : (source values : Row) (old new : Database) (declared : BeginsWith ours old.schema)
      → Inserted (schema_with ours declared.tables declared.indexes declared.views) table source old new
      → ((row : Row) → row ≡ with_rowid Chosen (old.trees table.tree) (cast_row table source)
      → shown table row ≡ values) → Gains ours table (values ∷ []) old new
  gained source values old new declared i shows = record {
    schema_is = i.schema_is ∙ sym declared.is;
    sound = λ _. i.sound;
    gained = subst (λ v. IsPermutation (v ∷ map (shown table) (old.trees table.tree))
        (map (shown table) (new.trees table.tree))) (shows i.row i.row_is)
        (subst (λ rows. IsPermutation (shown table i.row ∷ map (shown table) (old.trees table.tree))
        (map (shown table) rows)) (sym i.rows)
        (IsPermutation-map (shown table) _ _ (put_fresh i.row (old.trees table.tree) i.fresh)));
    others = first_ones _ ours declared.tables i.others;
  }

-- ---- one gain after another

same_others : (table : Table) (ours : List Table) (db : Database) → KeepsOthers ours table db db
same_others table [] db = tt
same_others table (t ∷ ours) db = ((λ _. refl), same_others table ours db)

others_then : (table : Table) (ours : List Table) (a b c : Database) → KeepsOthers ours table a b
    → KeepsOthers ours table b c → KeepsOthers ours table a c
others_then table [] a b c p q = tt
others_then table (t ∷ ours) a b c p q = ((λ n. q.0 n ∙ p.0 n), others_then table ours a b c p.1 q.1)

module _ (ours : List Table) (table : Table) where
  pub gains_none : (db : Database) → Gains ours table [] db db
  gains_none db =
      record {
        schema_is = refl;
        sound = λ sound. sound;
        gained = IsPermutation-refl _;
        others =
            same_others table ours db;
      }

  pub gains_then : (rs ss : List Row) (a b c : Database) → Gains ours table rs a b → Gains ours table ss b c
      → Gains ours table (rs ++ ss) a c
  gains_then rs ss a b c p q =
      let had = map (shown table) (a.trees table.tree) in
      let swapped : IsPermutation ((rs ++ ss) ++ had) (ss ++ (rs ++ had)) =
      subst (IsPermutation ((rs ++ ss) ++ had)) (append_assoc ss rs had)
      (IsPermutation-append_left had _ _ (IsPermutation-append_comm rs ss)) in
      record {
        schema_is = q.schema_is ∙ p.schema_is;
        sound = λ sound. q.sound (p.sound sound);
        gained = IsPermutation-trans _ _ _ swapped (IsPermutation-trans _ _ _
            (IsPermutation-append_right ss _ _ p.gained) q.gained);
        others = others_then table ours a b c p.others q.others;
      }

  pub holds_more : (had rows : List Row) (old new : Database) → TableHas old table had → Gains ours table rows old new
      → TableHas new table (had ++ rows)
  holds_more had rows old new h g =
      IsPermutation-trans _ _ _ (IsPermutation-append_comm had rows)
      (IsPermutation-trans _ _ _ (IsPermutation-append_right rows _ _ h) g.gained)

pub same_rows : (table : Table) (rows : List Row) (old new : Database) → new.trees table.tree ≡ old.trees table.tree
    → TableHas old table rows → TableHas new table rows
same_rows table rows old new same h = subst (λ all. IsPermutation rows (map (shown table) all)) (sym same) h

pub still_declared : (ours : List Table) (old new : Database) → new.schema ≡ old.schema → BeginsWith ours old.schema
    → BeginsWith ours new.schema
still_declared ours old new same d = subst (BeginsWith ours) (sym same) d
