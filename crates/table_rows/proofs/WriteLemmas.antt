-- What a write outside a transaction makes of a database that stands.
use Rattle.std.proofs.Common.{◌≡◌, inl, inr, ℕ, false, List, append-nil, None, Ok, Err, Result, IsTrue, refl, sym, ap}
use Rattle.std.proofs.Common.{subst, subst₂, ◌∙◌, OnErr}
use Rattle.std.proofs.lemmas.Bool.{cases_Bool}
use Rattle.sqlite.specs.Order.{Row}
use Rattle.sqlite.specs.Tree.{Trees}
use Rattle.sqlite.specs.Command.{Command}
use Rattle.sqlite.specs.Command.TheVariants.{Commit, Release}
use Rattle.sqlite.specs.Does.{Tally, Does}
use Rattle.sqlite.specs.Effect.{Database, IsDatabase}
use Rattle.sqlite.specs.Listing.{understood}
use Rattle.sqlite.specs.State.{State, mode_of, Runs, Writes, CommitsBy, Executes, ExecutesIn, IsNotRun, shows_rows}
use Rattle.sqlite.specs.declared.error.Error.{Error}
use Rattle.sqlite_resolve.specs.declared.compiled.Compiled.{Compiled}
use Rattle.sqlite_resolve.specs.declared.error.CompileError.{CompileError}
use Rattle.sqlite.proofs.Callers.{IsPlain, command_of, statement_of, runs_as}
use Rattle.table_rows.specs.Standing.{HasCommitted, Keeps}
use Rattle.table_rows.proofs.StandLemmas.{run_keeps, stands_on}

-- what the command makes of this database is one like that
abbrev pub LeadsTo : State → List ℕ → Row → Command → (Database → Type 0) → Type 0
LeadsTo s text params command After =
    (tally : Tally) (after : Database)
    → Does s.step_limit (mode_of s) params s.now text None command (Ok (tally, after)) → IsDatabase after
    → After after

-- the command ends no transaction
abbrev pub EndsNone : Command → Type 0
EndsNone command = (k : Command) → k ≡ command → (k ≡ Commit → ⊥) × ((name : List ℕ) → k ≡ Release name → ⊥)

module _ (Is After : Database → Type 0) (sql : List ℕ) (params : Row) (command : Command) (old new : State)
    (was : HasCommitted Is old) (is : command_of (understood old.now.schema sql) ≡ command)
    (plain : IsPlain (understood old.now.schema sql))
    (leads : LeadsTo old (statement_of sql (understood old.now.schema sql)) params command After) where
  pub written_stands : (count : ℕ) → ((text : List ℕ) → Runs old new None command text params count
      → Writes old new None command text params count) → Executes sql params old new (Ok count)
      → HasCommitted After new × IsTrue new.is_open
  written_stands count writes h =
      let w = writes _ (runs_as sql params old new old.now.schema refl command is plain count h) in
      let stored = leads w.tally new.now w.changed w.sound in (
        record {
          autocommit = w.shown.mode ∙ was.autocommit;
          now = λ _. stored;
          committed =
              λ _. w.shown.committed_is ∙ rw was.autocommit;
        },
        w.shown.is_open,
      )

  -- a crash in the course of it leaves what it makes
  pub crash_leaves : EndsNone command → (trees : Trees) → CommitsBy sql params old trees
      → (after : Database) × After after × (trees ≡ after.trees)
  unfolding CommitsBy
  crash_leaves other trees h =
      let same : ◌≡◌ {A = Result Compiled CompileError} (Ok h.0) (understood old.now.schema sql) = sym h.1.is in
      let bare = subst IsPlain (sym same) plain in
      let kind : h.0.command ≡ command = ap command_of same ∙ is in
      let may = rw (bare.0, bare.1, append-nil params) at h.2 in
      elim may [
        | inl ends ↦ absurd (elim ends.0 [
          | inl commits ↦ (other h.0.command kind).0 commits
          | inr release ↦
              (other h.0.command kind).1 release.0 release.2
        ])
        | inr writes ↦ (
            let text = ap (statement_of sql) same in
            let does =
            subst₂ (λ t k. Does old.step_limit (mode_of old) params old.now t None k (Ok (writes.1, writes.2))) text
            kind writes.3 in
            (writes.2, leads writes.1 writes.2 does writes.4, writes.5))
      ]

module _ (sql : List ℕ) (params : Row) (old new : State) where
  pub refused_keeps : (e : Error) → Executes sql params old new (Err e) → Keeps old new
  unfolding ExecutesIn IsNotRun
  refused_keeps e (inl (inl none)) = inl none.1
  refused_keeps e (inl (inr failed)) = inr failed.3
  refused_keeps e (inr h) =
      elim (cases_Bool (shows_rows false h.0)) [
        | inl shows ↦ inl (rw shows at h.2).1
        | inr runs ↦ run_keeps sql old new
            h.0 _ e (rw runs at h.2)
      ]

  pub refused_stands : (Is : Database → Type 0) → HasCommitted Is old → (r : Result ℕ Error)
      → Executes sql params old new r → OnErr r (HasCommitted Is new)
  refused_stands Is was (Ok count) h = tt
  refused_stands Is was (Err e) h = stands_on Is old new (refused_keeps e h) was
