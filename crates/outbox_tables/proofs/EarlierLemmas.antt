-- The outbox that a migration makes of one in the form before.
use Rattle.std.proofs.Common.{◌≡◌, ℕ, suc, List, [], ◌∷◌, Option, Some, None, false, refl, sym, subst}
use Rattle.std.proofs.Common.{arith, IsPermutation}
use Rattle.std.specs.List.{AllByRecursion}
use Rattle.std.proofs.lemmas.List.Sorted.{length_permutation}
use Rattle.sqlite.specs.Order.{Row}
use Rattle.sqlite.specs.Store.{Ghosts}
use Rattle.sqlite.specs.Held.{Held, state}
use Rattle.sqlite.specs.State.{HasCleanDisk, Survives}
use Rattle.sqlite.proofs.StateLemmas.{survives_then}
use Rattle.table_rows.specs.Standing.{CommitsNothing}
use Rattle.filing_model.specs.Outbox.{Entry}
use Rattle.table_rows.specs.Statements.{begun, AreDone, AreTreesOf}
use Rattle.sqlite.specs.Schema.{Schema}
use Rattle.sqlite.specs.Tree.{Trees}
use Rattle.sqlite.specs.Effect.{Database}
use Rattle.table_rows.proofs.CreateLemmas.{none_held, creates_beside}
use Rattle.table_rows.proofs.GainLemmas.{same_rows}
use Rattle.outbox_tables.specs.Schema.{HasCommon, meta_table, entry_table, target_table}
use Rattle.outbox_tables.specs.Entries.{Contents}
use Rattle.outbox_tables.specs.Rows.{IsOutboxOf, target_rows_from, target_rows}
use Rattle.outbox_tables.specs.Making.{create_target}
use Rattle.outbox_tables.specs.Earlier.{IsAlone, IsEarlierOf, IsFound, raising, is_blocked}
use Rattle.outbox_tables.specs.Earlier.{LeavesMigrated}
use Rattle.outbox_tables.proofs.MakeLemmas.{second_schema, own_indexes, creates_target, declared}
use Rattle.outbox_tables.proofs.MigrateTexts.{raises}

abbrev AreUntargeted : List Entry → Type 0
AreUntargeted es = AllByRecursion (λ (e : Entry). e.target ≡ None) es

no_rows : (n : ℕ) (es : List Entry) → AreUntargeted es → target_rows_from n es ≡ []
no_rows n [] all = refl
no_rows n (e ∷ es) all = rw all.0 (no_rows (suc n) es all.1)

from_none : (n : ℕ) (es : List Entry) → target_rows_from n es ≡ [] → AreUntargeted es
from_none n [] none = tt
from_none n (e ∷ es) none = go e.target refl none (from_none (suc n) es)
  where
    go : (o : Option ℕ) → e.target ≡ o → target_rows_from n (e ∷ es) ≡ []
        → (target_rows_from (suc n) es ≡ [] → AreUntargeted es) → AreUntargeted (e ∷ es)
    go None is none more = (is, more (rw is at none))
    go (Some k) is none more = absurd (let some = rw is at none in cc)

no_more : (rows : List Row) → IsPermutation rows [] → rows ≡ []
no_more [] h = refl
no_more (r ∷ rows) h = absurd (omega (arith, length_permutation _ _ h))

pub untargeted : (es : List Entry) → IsPermutation (target_rows es) [] → AreUntargeted es
untargeted es h = from_none 1 es (no_more _ h)

pub no_targets : (es : List Entry) → AreUntargeted es → target_rows es ≡ []
no_targets es all = no_rows 1 es all

module _ {S : Type 0} (g : Ghosts S) (a z : Held S) (it : Contents) where
  -- inside one transaction
  pub makes_current : AreDone g raising a z → IsAlone (state g a).now.schema → IsEarlierOf it (state g a).now
      → IsOutboxOf it (state g z).now
  makes_current (m, t, (last, f, end)) alone is =
      let b = (state g m).now in
      let one =
      creates_beside second_schema create_target (record target_table { tree = 0 }) (state g a) (state g m) t.0
      creates_target refl alone t.1.0 in
      let o = one.others in
      let two =
      raises it.filer (state g m) (state g last) f.0 one.schema_is
      (same_rows meta_table _ (state g a).now b o.0 is.meta_is) f.1.0 in
      let p = two.others in
      let current : IsOutboxOf it (state g last).now = record {
        sound = two.sound;
        rows = record {
          declared = declared (state g last).now.schema two.schema_is;
          meta_is = two.meta_is;
          entries_are =
              same_rows entry_table _ b (state g last).now (p.1.0 (λ e. absurd (omega (arith, e))))
              (same_rows entry_table _ (state g a).now b o.1.0 is.entries_are);
          targets_are =
              rw (no_targets it.entries is.untargeted) (none_held target_table b (state g last).now one.empty
              (p.1.1.0 (λ e. absurd (omega (arith, e)))));
        };
        list = is.list;
      } in
      subst (λ h. IsOutboxOf it (state g h).now) end current

-- this filer and so many entries were found, and the name is not in the way
module _ {S : Type 0} (g : Ghosts S) (filer : List ℕ) (count : ℕ) (old mid new : Held S)
    (free : is_blocked (state g mid).now.schema ≡ false) where
  leaves_migrated : IsFound g filer count old mid → (state g mid).now ≡ (state g old).now
      → (trees : Trees) → AreTreesOf g raising mid trees → LeavesMigrated g old trees
  leaves_migrated found same trees made = (
    record { filer = filer; count = count; mid = mid; found = found; free = free; written = made },
    λ it alone is. record {
      db = (state g made.last).now;
      is = made.is;
      outbox = makes_current g (begun mid) made.last it made.done
          (subst (λ (d : Database). IsAlone d.schema) (sym same) alone) (subst (IsEarlierOf it) (sym same) is);
    },
  )

  -- a crash in the migration leaves what it could leave before, or what the statements make
  pub survives_migrating : (HasCleanDisk (state g mid)
      → IsFound g filer count old mid × ((state g mid).now ≡ (state g old).now))
      → CommitsNothing (state g old) (state g mid) → Survives (state g mid) (state g new) (AreTreesOf g raising mid)
      → Survives (state g old) (state g new) (LeavesMigrated g old)
  survives_migrating found read wrote =
      survives_then (state g old) (state g mid) (state g new) (λ _. ⊥) (AreTreesOf g raising mid)
      (LeavesMigrated g old) (λ clean trees none. absurd none)
      (λ clean trees made.
      let was_clean : HasCleanDisk (state g mid) = omega (arith, wrote.clean) in
      leaves_migrated (found was_clean).0 (found was_clean).1 trees made) read wrote

-- the two tables alone are those of every form
pub alone_common : (schema : Schema) → IsAlone schema → HasCommon schema
alone_common schema alone = record { tables = []; indexes = own_indexes; views = []; is = alone }
