-- A tree, level by level, and what is found in it.
use Rattle.std.proofs.Common.{◌≡◌, ℕ, ◌+◌, ◌<◌, List, ◌∷◌, length, drop, get_or, Option, Some, Vec, Global, Ordering}
use Rattle.std.proofs.Common.{Less, Equal, Greater, nat_cmp, is_eq, cond, bytes_eq, Bor, refl, sym, ap, ◌∙◌, rules}
use Rattle.std.proofs.lemmas.List.{drop_more}
use Rattle.std.proofs.lemmas.Map.Text.{is_eq-slice_cmp}
use Rattle.std.specs.Cmp.Lexicographic.{slice_cmp}
use Rattle.std.specs.Ordering.{match_ordering}
use Rattle.serde_json.specs.Data.{Data, array, object, Members, member}
use Rattle.serde_json.specs.Find.{get_member}
use Rattle.json_tree.specs.View.{view, items_view, members_view}
use Rattle.json_tree.specs.declared.tree.Tree.{Tree, Array, Object, the_lemmas}

abbrev pub Member : Type 0
Member = Bor (List ℕ) × Tree

pub view-Array : (v : Vec Tree Global) → view (Array v) ≡ array (items_view v.items)
view-Array v = search (rules, the_lemmas)

pub view-Object : (v : Vec Member Global) → view (Object v) ≡ object (members_view v.items)
view-Object v = search (rules, the_lemmas)

by_test : (o : Ordering) (d : Data) (rest : Option Data)
    → match_ordering o rest (Some d) rest ≡ cond (is_eq o) (Some d) rest
by_test Less d rest = refl
by_test Equal d rest = refl
by_test Greater d rest = refl

pub get_member-first : (name k : List ℕ) (d : Data) (ms : Members)
    → get_member name (member k d ms) ≡ cond (bytes_eq name k) (Some d) (get_member name ms)
get_member-first name k d ms =
    by_test (slice_cmp nat_cmp name k) d (get_member name ms)
    ∙ ap (λ b. cond b (Some d) (get_member name ms)) (is_eq-slice_cmp name k)

pub get_member-at : (name : List ℕ) (ms : List Member) (i : ℕ) (m : Member) → i < length ms → m ≡ get_or ms i m
    → get_member name (members_view (drop i ms)) ≡ cond (bytes_eq name m.0.now) (Some (view m.1))
    (get_member name (members_view (drop (i + 1) ms)))
get_member-at name ms i m within is =
    ap (λ xs. get_member name (members_view xs)) (drop_more ms i m within ∙ ap (λ x. x ∷ drop (i + 1) ms) (sym is))
    ∙ get_member-first name m.0.now (view m.1) (members_view (drop (i + 1) ms))
