-- How many rows a table has, or how many of them pass a test, by COUNT(*).
use Rattle.std.proofs.Common.{◌≡◌, ◌<◌, ◌^◌, ◌-◌, ℕ, min, pos, Bool, true, false, List, [], ◌∷◌, map, filter}
use Rattle.std.proofs.Common.{length, Option, None, Some, IfSome, refl, sym, ap, subst, ◌∙◌, arith, IsPermutation}
use Rattle.std.specs.Prelude.{flat_map, if◌then◌else◌}
use Rattle.std.specs.List.{AllZip, list_all}
use Rattle.std.proofs.lemmas.List.Sorted.{length_permutation}
use Rattle.sqlite.specs.declared.types.Value.{Value}
use Rattle.sqlite.specs.declared.types.Value.TheVariants.{Null, Int}
use Rattle.sqlite.specs.Order.{Row}
use Rattle.sqlite.specs.Table.{Table}
use Rattle.sqlite.specs.Schema.{Schema}
use Rattle.sqlite.specs.Collation.TheVariants.{Binary}
use Rattle.sqlite.specs.Term.{Term, Env, lit, eval, holds}
use Rattle.sqlite.specs.Tree.{Trees}
use Rattle.sqlite.specs.Program.{overlay}
use Rattle.sqlite.specs.Query.{Query, IsAnswerAs, Output, output}
use Rattle.sqlite.specs.State.{State, Shown}
use Rattle.sqlite.proofs.Callers.{reads_as, one_permutation}
use Rattle.sqlite_sql.specs.Query.{IsSureAnswer}
use Rattle.sqlite_sql.specs.Group.{Grouping, Summarizes, IsSummary, value_over}
use Rattle.sqlite_sql.specs.declared.aggregate.AggregateOp.TheVariants.{CountRows}
use Rattle.sqlite_tied.specs.Listing.{counting}
use Rattle.table_rows.specs.Picking.{rows_in, CountsTo}
use Rattle.table_rows.specs.Rows.{shown}
use Rattle.table_rows.specs.Tables.{BeginsWith}
use Rattle.table_rows.proofs.QueryLemmas.{Asks}
use Rattle.table_rows.proofs.SelectLemmas.{filter-map, flat_if, one_table, plain_overlay}
use Rattle.table_rows.proofs.StopLemmas.{length_mapped}

-- as COUNT(*) shows so many
abbrev pub as_counted : ℕ → Value
as_counted n = Int (pos (min n 9223372036854775807))

abbrev all_rows : Grouping
all_rows =
    record {
      keys = [];
      collations = [];
      aggregates =
          record { op = CountRows; distinct = false; collation = Binary; argument = lit Null } ∷ [];
      having = [];
    }

summary_row : (order : List Env) (r : Row) → IsSummary all_rows order r → r ≡ as_counted (length order) ∷ []
summary_row order r h = go h.0 h.1 h.2
  where
    go : (values : Row) → AllZip (λ a v. value_over order a ≡ Some v) all_rows.aggregates values → r ≡ values
        → r ≡ as_counted (length order) ∷ []
    go [] z e = absurd z
    go (v ∷ []) z e =
        let told : Some (as_counted (length (map (eval (lit Null)) order))) ≡ Some v = z.0 in
        let same : as_counted (length (map (eval (lit Null)) order)) ≡ v = cc in
        e ∙ ap (λ x. x ∷ []) (sym same ∙ ap as_counted (length_mapped (eval (lit Null)) order))
    go (v ∷ w ∷ vs) z e = absurd z.1

one_summary : (order : List Env) (rs : List Row) → AllZip (IsSummary all_rows) (order ∷ []) rs
    → rs ≡ (as_counted (length order) ∷ []) ∷ []
one_summary order [] h = absurd h
one_summary order (r ∷ []) h = ap (λ x. x ∷ []) (summary_row order r h.0)
one_summary order (r ∷ s ∷ rs) h = absurd h.1

module _ (tree : ℕ) (test : List Term) (db : Trees) (rows : List Row)
    (answer : IsSureAnswer (counting (one_table tree test [] [])) (overlay db []) [] rows) where
  abbrev q : Query
  q = counting (one_table tree test [] [])

  abbrev a : IsAnswerAs (Int (pos 0)) q (overlay db []) [] rows
  a = answer (Int (pos 0))

  abbrev env : Row → Env
  env r = [] ∷ r ∷ []

  abbrev keeps : Row → Bool
  keeps r = list_all (holds (env r)) test

  abbrev many : ℕ
  many = length (filter keeps (db tree))

  abbrev matched : List Env
  matched = flat_map (λ r. if keeps r then env r ∷ [] else []) (overlay db [] tree)

  abbrev parts : Summarizes all_rows [] matched a.staged
  parts = a.grouped

  size : length matched ≡ many
  size =
      ap length (flat_if keeps env (overlay db [] tree)) ∙ length_mapped env (filter keeps (overlay db [] tree))
      ∙ ap (λ rs. length (filter keeps rs)) (plain_overlay db tree)

  rows_are : parts.rows ≡ (as_counted many ∷ []) ∷ []
  rows_are =
      let order = parts.grouping.0 in
      one_summary order parts.rows (subst (λ g. AllZip (IsSummary all_rows) g parts.rows) parts.grouping.2
      parts.summaries)
      ∙ ap (λ n. (as_counted n ∷ []) ∷ []) (length_permutation matched order parts.grouping.1 ∙ size)

  staged_is : a.staged ≡ env (as_counted many ∷ []) ∷ []
  staged_is = parts.having ∙ ap (λ rs. filter (λ e. true) (map env rs)) rows_are

  kept_is : a.kept ≡ ([], as_counted many ∷ []) ∷ []
  kept_is = a.distinct ∙ ap (map (output q)) staged_is

  counted : rows ≡ (as_counted many ∷ []) ∷ []
  counted =
      a.shown ∙ ap (map (λ (o : Output). o.1)) (one_permutation (
        [],
        as_counted many ∷ [],
      ) a.ordered (subst (λ k. IsPermutation k a.ordered) kept_is a.same))

module _ (ours : List Table) (table : Table) (sql : List ℕ) (test : List Term) (asks : (s : Schema) → BeginsWith ours s
    → Asks s sql (counting (one_table table.tree test [] []))) (old new : State) (d : BeginsWith ours old.now.schema)
    (keep : Row → Bool) (keep_is : (r : Row) → list_all (holds ([] ∷ r ∷ [])) test ≡ keep (shown table r))
    (rows : List Row) (h : Shown sql [] old new rows) where
  -- the count is that of the rows that pass
  pub counts_passing : rows ≡ (as_counted (length (filter keep (rows_in old.now table))) ∷ []) ∷ []
  counts_passing =
      let it = asks old.now.schema d in
      let answer = (reads_as sql [] old new old.now.schema refl _ it.is it.plain it.listing rows h).answer in
      let all = old.now.trees table.tree in
      let passing : Row → Bool = λ r. list_all (holds ([] ∷ r ∷ [])) test in
      counted table.tree test old.now.trees rows answer
      ∙ ap (λ n. (as_counted n ∷ []) ∷ [])
      (sym (length_mapped (shown table) (filter passing all))
      ∙ ap length (filter-map (shown table) passing keep keep_is all))

all_kept : (rows : List Row) → filter (λ _. true) rows ≡ rows
all_kept [] = refl
all_kept (row ∷ rows) = ap (λ rs. row ∷ rs) (all_kept rows)

as_many : (n m : ℕ) → min n 9223372036854775807 ≡ m → m < 2 ^ 63 - 1 → m ≡ n
as_many n m is low = omega (arith, is, low)

-- a count without a test is that of all rows
module _ (ours : List Table) (table : Table) (sql : List ℕ) (asks : (s : Schema) → BeginsWith ours s
    → Asks s sql (counting (one_table table.tree [] [] []))) (old new : State) (d : BeginsWith ours old.now.schema)
    (rows : List Row) (h : Shown sql [] old new rows) where
  pub told_count : (found : Option ℕ) → IfSome found (λ n. (n < 2 ^ 63 - 1) × (rows ≡ (Int (pos n) ∷ []) ∷ []))
      → IfSome found (λ n. CountsTo table n old.now)
  told_count None says = tt
  told_count (Some n) says =
      let all = rows_in old.now table in
      let told : (Int (pos n) ∷ []) ∷ [] ≡ (as_counted (length (filter (λ _. true) all)) ∷ []) ∷ [] =
      sym says.1
      ∙ counts_passing ours table sql [] asks old new d (λ _. true) (λ _. refl) rows h in
      let same : n ≡ min (length (filter (λ _. true) all)) 9223372036854775807 = cc in
      as_many (length (filter (λ _. true) all)) n (sym same) says.0 ∙ ap length (all_kept all)
