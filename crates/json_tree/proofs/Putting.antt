-- Members put in one after another, in order or not.
use Rattle.std.proofs.Common.{◌≡◌, ℕ, zero, suc, ◌+◌, ◌<◌, List, [], ◌∷◌, ◌++◌, length, map, get_or, Ordering, Less}
use Rattle.std.proofs.Common.{Equal, Greater, nat_cmp, Bool, true, IsTrue, is_lt, true≢false, Bor, refl, sym, ap, ◌∙◌}
use Rattle.std.proofs.Common.{subst, append_assoc, append-nil, false, arith}
use Rattle.std.proofs.lemmas.Cmp.{nat_list_cmp_total}
use Rattle.std.proofs.lemmas.Map.Keys.{sorted_from_all_adjacent}
use Rattle.std.specs.Cmp.Lexicographic.{slice_cmp}
use Rattle.std.specs.List.{AllByRecursion, IsAllAdjacentAnswer}
use Rattle.std.specs.List.Sorted.{IsStrictlySortedBy}
use Rattle.std.specs.Ordering.{match_ordering, ordering_reverse}
use Rattle.std.specs.BTreeMap.{insert_entry}
use Rattle.serde_json.specs.Data.{Members, no_members, member, put}
use Rattle.json_tree.specs.View.{view, members_view}
use Rattle.json_tree.specs.Putting.{put_all, IsAscending}
use Rattle.json_tree.specs.declared.tree.Tree.{Tree}
use Rattle.json_tree.proofs.Views.{Member}

pub put_all-append : (found : Members) (ms : List Member) (m : Member)
    → put_all found (ms ++ m ∷ []) ≡ put m.0.now (view m.1) (put_all found ms)
put_all-append found [] m = refl
put_all-append found (n ∷ ms) m = put_all-append (put n.0.now (view n.1) found) ms m

-- ---- in order

abbrev pub by_name : Bor (List ℕ) → Bor (List ℕ) → Ordering
by_name k l = slice_cmp nat_cmp k.now l.now

below_middle : (first : Member) (ms : List Member) (m : Member) (more : List Member)
    → AllByRecursion (λ y. slice_cmp nat_cmp first.0.now y ≡ Less) (map (λ e. e.0.now) (ms ++ m ∷ more))
    → slice_cmp nat_cmp first.0.now m.0.now ≡ Less
below_middle first [] m more h = h.0
below_middle first (x ∷ ms) m more h = below_middle first ms m more h.1

-- a name that is above those before it goes last
put_last : (done : List Member) (m : Member) (more : List Member) → IsAscending (done ++ m ∷ more)
    → put m.0.now (view m.1) (members_view done) ≡ members_view (done ++ m ∷ [])
unfolding IsStrictlySortedBy
put_last [] m more h = refl
put_last (first ∷ done) m more h =
    let above : slice_cmp nat_cmp m.0.now first.0.now ≡ Greater =
    nat_list_cmp_total.antisymm m.0.now first.0.now ∙ ap ordering_reverse (below_middle first done m more h.0) in
    rw above (ap (member first.0.now (view first.1)) (put_last done m more h.1))

put_after : (done ms : List Member) → IsAscending (done ++ ms)
    → put_all (members_view done) ms ≡ members_view (done ++ ms)
put_after done [] h = ap members_view (sym (append-nil done))
put_after done (m ∷ ms) h =
    let same = append_assoc done (m ∷ []) ms in
    ap (λ found. put_all found ms) (put_last done m ms h)
    ∙ put_after (done ++ m ∷ []) ms (subst IsAscending (sym same) h) ∙ ap members_view same

pub put_all-ascending : (ms : List Member) → IsAscending ms → members_view ms ≡ put_all no_members ms
put_all-ascending ms h = sym (put_after [] ms h)

-- ---- an answer about each two that follow one another

less : (o : Ordering) → true ≡ is_lt o → o ≡ Less
less Less e = refl
less Equal e = absurd (true≢false e)
less Greater e = absurd (true≢false e)

name_at : (ms : List Member) (k : ℕ) (m : Member) → k < length ms
    → get_or (map (λ e. e.0.now) ms) k [] ≡ (get_or ms k m).0.now
name_at [] k m h = absurd (omega arith)
name_at (x ∷ ms) zero m h = refl
name_at (x ∷ ms) (suc k) m h = name_at ms k m (omega arith)

names_counted : (ms : List Member) → length (map (λ e. e.0.now) ms) ≡ length ms
names_counted [] = refl
names_counted (m ∷ ms) = ap suc (names_counted ms)

all_less : (ms : List Member) (m : Member) → IsAllAdjacentAnswer (λ x y b. b ≡ is_lt (by_name x.0 y.0)) ms true
    → IsAscending ms
all_less ms m h = sorted_from_all_adjacent nat_list_cmp_total (map (λ e. e.0.now) ms) []
    (λ k within.
    let inside : k + 1 < length ms = omega (arith, names_counted ms) in
    rw (name_at ms k m (omega arith), name_at ms (k + 1) m inside) (less _ (h k m inside)))

pub ascending_from_answer : (ms : List Member) (r : Bool)
    → IsAllAdjacentAnswer (λ x y b. b ≡ is_lt (by_name x.0 y.0)) ms r → IsTrue r → IsAscending ms
unfolding IsStrictlySortedBy
ascending_from_answer [] r h e = tt
ascending_from_answer (m ∷ ms) true h e = all_less (m ∷ ms) m h
ascending_from_answer (m ∷ ms) false h e = absurd (true≢false (sym e))

-- ---- a map, whose entries are in order

members_view-match_ordering : (o : Ordering) (a b c : List Member)
    → members_view (match_ordering o a b c) ≡ match_ordering o (members_view a) (members_view b) (members_view c)
members_view-match_ordering Less a b c = refl
members_view-match_ordering Equal a b c = refl
members_view-match_ordering Greater a b c = refl

pub members_view-insert_entry : (ms : List Member) (k : Bor (List ℕ)) (v : Tree)
    → members_view (insert_entry by_name ms k v) ≡ put k.now (view v) (members_view ms)
members_view-insert_entry [] k v = refl
members_view-insert_entry (m ∷ ms) k v =
    members_view-match_ordering (by_name k m.0) _ _ _ ∙ rw (members_view-insert_entry ms k v)
