-- The rows of the targets where an entry is looked up, put or moved.
use Rattle.std.proofs.Common.{◌≡◌, ℕ, zero, suc, ◌+◌, pos, true, not, List, [], ◌∷◌, ◌++◌, length, filter, Option, Some}
use Rattle.std.proofs.Common.{None, refl, ap, ◌∙◌, arith}
use Rattle.sqlite.specs.Order.{Row, column}
use Rattle.sqlite_keyed.proofs.ListLemmas.{all_weaker, filter_all}
use Rattle.filing_model.specs.Outbox.{Entry, State}
use Rattle.filing_model.specs.Numbered.{changed_at}
use Rattle.outbox_core.specs.Entries.{in_state}
use Rattle.outbox_tables.specs.Rows.{target_row, target_rows_from}
use Rattle.outbox_tables.specs.Audit.{is_int}
use Rattle.outbox_tables.proofs.TargetLemmas.{own_id, NoneOf}

none_left : (n : ℕ) (rest : List Row) → NoneOf n rest → filter (λ w. not (is_int n (column w 0))) rest ≡ rest
none_left n rest none =
    filter_all (λ w. not (is_int n (column w 0))) rest
    (all_weaker _ (λ w. not (is_int n (column w 0)) ≡ true) (λ w apart. ap not apart) rest none)

pub rows_left : (n : ℕ) (o : Option ℕ) (rest : List Row) → NoneOf n rest
    → filter (λ w. not (is_int n (column w 0))) (target_row n o ++ rest) ≡ rest
rows_left n None rest none = none_left n rest none
rows_left n (Some k) rest none = rw (own_id n) (none_left n rest none)

pub one_target : (n : ℕ) (a b : Option ℕ) → target_row n a ≡ target_row n b → a ≡ b
one_target n None None same = refl
one_target n None (Some k) same = cc
one_target n (Some j) None same = cc
one_target n (Some j) (Some k) same = let inside : pos j ≡ pos k = cc in let is : j ≡ k = cc in ap Some is

-- ---- an entry more, and one in another state

pub targets_push : (n : ℕ) (es : List Entry) (e : Entry)
    → target_rows_from n (es ++ e ∷ []) ≡ target_rows_from n es ++ target_row (n + length es) e.target
targets_push n [] e = add_none (target_row n e.target) ∙ ap (λ k. target_row k e.target) (omega arith)
  where
    add_none : (rows : List Row) → rows ++ [] ≡ rows
    add_none [] = refl
    add_none (r ∷ rows) = ap (λ l. r ∷ l) (add_none rows)
targets_push n (x ∷ es) e =
    ap (λ l. target_row n x.target ++ l) (targets_push (suc n) es e
    ∙ ap (λ k. target_rows_from (suc n) es ++ target_row k e.target) (omega arith))
    ∙ together (target_row n x.target) (target_rows_from (suc n) es) (target_row (n + suc (length es)) e.target)
  where
    together : (a b c : List Row) → a ++ (b ++ c) ≡ (a ++ b) ++ c
    together [] b c = refl
    together (r ∷ a) b c = ap (λ l. r ∷ l) (together a b c)

pub targets_put : (n k : ℕ) (es : List Entry) (state : State)
    → target_rows_from n (changed_at (in_state state) es k) ≡ target_rows_from n es
targets_put n k [] state = refl
targets_put n zero (e ∷ es) state = refl
targets_put n (suc k) (e ∷ es) state = ap (λ l. target_row n e.target ++ l) (targets_put (suc n) k es state)
