-- What a register leaves of which several requests were being decided with one commit.
use Rattle.std.proofs.Common.{◌≡◌, inl, inr, ℕ, List, [], ◌∷◌, ◌++◌, map, Ok, Err, IsTrue, refl, sym, ap, ◌∙◌}
use Rattle.std.proofs.Common.{subst, append_assoc}
use Rattle.sqlite_disk.specs.declared.Disk.{Ghosts}
use Rattle.sqlite_disk.specs.declared.Files.{Files}
use Rattle.sqlite_wal.proofs.LogLemmas.{SeenMayStay}
use Rattle.sqlite_store.specs.declared.store.FileStore.{FileStore}
use Rattle.sqlite_trees.specs.Tree.{Trees}
use Rattle.sqlite.specs.Held.{Held}
use Rattle.sqlite.specs.State.{Survives}
use Rattle.sqlite.specs.Files.{file_state}
use Rattle.filing_model.specs.Request.{Request, firsts}
use Rattle.filing_model.proofs.Alike.{firsts_alike}
use Rattle.filing_model.proofs.Firsts.{firsts-firsts}
use Rattle.filing_model.proofs.Lists.{append_nil}
use Rattle.table_rows.specs.Standing.{HasCommitted}
use Rattle.table_rows.proofs.CleanLemmas.{always_clean}
use Rattle.register_tables.specs.Registers.{IsRegisterOf, LeavesRegister}
use Rattle.intake_core.specs.Group.{Decided, LeavesSome, after}
use Rattle.database_places.specs.Places.{IsHonest}
use Rattle.program_runs.specs.Grouped.{AreSome, HoldSome}
use Rattle.database_places.specs.Left.{EndsIn}
use Rattle.database_places.proofs.Leaving.{ends_with_one}
use Rattle.program_runs.proofs.Registering.{hold, rests, sound_if}

-- ---- some of those that were to be decided

-- those that got an answer
abbrev answered : List Decided → List Request
answered [] = []
answered ((r, Ok a) ∷ ds) = r ∷ answered ds
answered ((r, Err e) ∷ ds) = answered ds

some_later : (some front all : List Request) → AreSome some all → AreSome some (front ++ all)
some_later [] front all are = tt
some_later (r ∷ some) front all are =
    (front ++ are.0, are.1, ap (λ l. front ++ l) are.2 ∙ sym (append_assoc front are.0 (r ∷ are.1)), are.3)

some_more : (some more all rest : List Request) → AreSome some all → AreSome more rest
    → AreSome (some ++ more) (all ++ rest)
some_more [] more all rest first second = some_later more all rest second
some_more (r ∷ some) more all rest first second = (
  first.0,
  first.1 ++ rest,
  ap (λ l. l ++ rest) first.2 ∙ append_assoc first.0 (r ∷ first.1) rest,
  some_more some more first.1 rest first.3 second,
)

some_all : (all rest : List Request) → AreSome all (all ++ rest)
some_all [] rest = tt
some_all (r ∷ all) rest = ([], all ++ rest, refl, some_all all rest)

some_answered : (ds : List Decided) → AreSome (answered ds) (map (λ d. d.0) ds)
some_answered [] = tt
some_answered ((r, Ok a) ∷ ds) = ([], map (λ d. d.0) ds, refl, some_answered ds)
some_answered ((r, Err e) ∷ ds) = some_later (answered ds) (r ∷ []) (map (λ d. d.0) ds) (some_answered ds)

map_join : (xs ys : List Decided) → map (λ d. d.0) (xs ++ ys) ≡ map (λ d. d.0) xs ++ map (λ d. d.0) ys
map_join [] ys = refl
map_join (x ∷ xs) ys = ap (λ l. x.0 ∷ l) (map_join xs ys)

-- what is held after them is what was held and those that got an answer
after_is : (F : List Request) (ds : List Decided) → firsts F ≡ F → after F ds ≡ firsts (F ++ answered ds)
after_is F [] are = sym are ∙ ap firsts (sym (append_nil F))
after_is F ((r, Ok a) ∷ ds) are =
    after_is (firsts (F ++ r ∷ [])) ds (firsts-firsts (F ++ r ∷ []))
    ∙ firsts_alike (firsts (F ++ r ∷ [])) (F ++ r ∷ []) (firsts-firsts (F ++ r ∷ [])) (answered ds)
    ∙ ap firsts (append_assoc F (r ∷ []) (answered ds))
after_is F ((r, Err e) ∷ ds) are = after_is F ds are

-- a crash left these requests and some of those
pub record LeavesFew (old_style : ℕ) (F : List Request) (ds : List Decided) (trees : Trees) : Type 0 where
  pub some : List Request
  pub are : AreSome some (map (λ d. d.0) ds)
  pub leaves : LeavesRegister old_style (firsts (F ++ some)) trees

few_none : (old_style : ℕ) (F : List Request) (ds : List Decided) (trees : Trees) → firsts F ≡ F
    → LeavesRegister old_style F trees → LeavesFew old_style F ds trees
few_none old_style F ds trees are leaves = record {
  some = [];
  are = tt;
  leaves = subst (λ G. LeavesRegister old_style G trees) (sym (ap firsts (append_nil F) ∙ are)) leaves;
}

few_some : (old_style : ℕ) (F : List Request) (ds : List Decided) (trees : Trees) → firsts F ≡ F
    → LeavesSome old_style F ds trees → LeavesFew old_style F ds trees
few_some old_style F ds trees are it =
    let more = it.next.0 ∷ map (λ d. d.0) it.more in
    let split : map (λ d. d.0) ds
    ≡ map (λ d. d.0) it.before ++ (more ++ map (λ d. d.0) it.rest) =
    ap (map (λ d. d.0)) (it.are ∙ append_assoc it.before (it.next ∷ it.more) it.rest)
    ∙ map_join it.before (it.next ∷ it.more ++ it.rest)
    ∙ ap (λ l. map (λ d. d.0) it.before ++ (it.next.0 ∷ l)) (map_join it.more it.rest) in
    let same : firsts (after F it.before ++ more) ≡ firsts (F ++ (answered it.before ++ more)) =
    ap (λ G. firsts (G ++ more)) (after_is F it.before are)
    ∙ firsts_alike (firsts (F ++ answered it.before)) (F ++ answered it.before)
    (firsts-firsts (F ++ answered it.before)) more
    ∙ ap firsts (append_assoc F (answered it.before) more) in
    record {
      some = answered it.before ++ more;
      are = subst (AreSome (answered it.before ++ more)) (sym split)
          (some_more (answered it.before) more (map (λ d. d.0) it.before) (more ++ map (λ d. d.0) it.rest)
          (some_answered it.before) (some_all more (map (λ d. d.0) it.rest)));
      leaves = subst (λ G. LeavesRegister old_style G trees) same it.leaves;
    }

module _ {D : Type 0} (g : Ghosts D) (honest : IsHonest g) (stays : SeenMayStay g) where
  pub outlives_group : (old new : Held (FileStore D g)) (old_style : ℕ) (F : List Request) (ds : List Decided)
      {Commits : Trees → Type 0} → firsts F ≡ F → HasCommitted (IsRegisterOf old_style F) (file_state old)
      → IsTrue (file_state old).is_open → Survives (file_state old) (file_state new) Commits
      → ((db : Trees) → Commits db → LeavesSome old_style F ds db) → (files : Files D) → EndsIn new files
      → HoldSome g files old_style F ds
  outlives_group old new old_style F ds are stands is_open survives commits files ends =
      let one =
      ends_with_one honest stays new files ends {X = λ db. LeavesFew old_style F ds db}
      (λ db allowed. elim (survives.crash (always_clean honest new) db allowed) [
        | inl was ↦ few_none old_style F ds db are (rests g honest stays old old_style F stands is_open db was)
        | inr done ↦ few_some old_style F ds db are (commits db done)
      ])
      (λ db few. sound_if old_style (firsts (F ++ few.some)) db few.leaves) in
      record {
        some = one.1.some;
        are = one.1.are;
        held = hold g files old_style (firsts (F ++ one.1.some)) one.0 one.1.leaves one.2;
      }
