-- Escaping goes byte by byte, and leaves every character but `~` and `/` as it is.
use Rattle.std.proofs.Math.ListN.{drop_of_length-le}
use Rattle.std.proofs.Common.{◌≡◌, ◌≢◌, ◌+◌, ◌/◌, ◌%◌, ◌<◌, ◌≤◌, ℕ, List, [], ◌∷◌, ◌++◌, length, map, get_or, drop, suc}
use Rattle.std.proofs.Common.{add-one, drop-cons, refl, arith, ap, ◌∙◌, sym, Bor, append_assoc, length-append, cond}
use Rattle.std.proofs.Common.{ltb, Bool, true, false}
use Rattle.std.specs.List.{AllByRecursion, list_all}
use Rattle.std.specs.Char.{encode_utf8}
use Rattle.std.proofs.lemmas.Grind.{common_steps}
use Rattle.std.proofs.lemmas.Bool.Decides.{nat_tests}
use Rattle.std.proofs.lemmas.List.Concat.{flat_map-append}
use Rattle.xbrl_values.specs.Pointer.{escaped, escaped_byte, is_plain_byte, pointer}
use Rattle.xbrl_values.proofs.Bools.{left_of, right_of}

pub escaped-append : (xs ys : List ℕ) → escaped (xs ++ ys) ≡ escaped xs ++ escaped ys
unfolding escaped
escaped-append xs ys = flat_map-append escaped_byte xs ys

pub pointer-append : (xs ys : List (List ℕ)) → pointer (xs ++ ys) ≡ pointer xs ++ pointer ys
unfolding pointer
pointer-append xs ys = flat_map-append (λ name. 47 ∷ escaped name) xs ys

pub escaped-cons : (b : ℕ) (bs : List ℕ) → escaped (b ∷ bs) ≡ escaped_byte b ++ escaped bs
unfolding escaped
escaped-cons b bs = refl

pub escaped-nil : escaped [] ≡ []
unfolding escaped
escaped-nil = refl

pub length-escaped-cons : (b : ℕ) (bs : List ℕ)
    → length (escaped (b ∷ bs)) ≡ length (escaped_byte b) + length (escaped bs)
length-escaped-cons b bs = rw escaped-cons (length-append (escaped_byte b) (escaped bs))

pub pointer-push : (names : List (List ℕ)) (name : List ℕ)
    → pointer (names ++ name ∷ []) ≡ pointer names ++ (47 ∷ escaped name)
unfolding pointer
pointer-push names name = pointer-append names (name ∷ []) ∙ grind (arith, common_steps)

plain_byte : (b : ℕ) → b ≢ 126 → b ≢ 47 → escaped_byte b ≡ b ∷ []
plain_byte b tilde slash = grind (arith, nat_tests)

both_ways : (P : List ℕ → Type 0) (b : Bool) (xs ys : List ℕ) → P xs → P ys → P (cond b xs ys)
both_ways P true xs ys p q = p
both_ways P false xs ys p q = q

high : (b : ℕ) → 128 ≤ b → escaped_byte b ≡ b ∷ []
high b h = plain_byte b (λ e. absurd (omega arith)) (λ e. absurd (omega arith))

escaped_plain : (bs : List ℕ) → AllByRecursion (λ b. escaped_byte b ≡ b ∷ []) bs → escaped bs ≡ bs
unfolding escaped
escaped_plain [] h = refl
escaped_plain (b ∷ bs) h = rw h.0 (ap (λ rest. b ∷ rest) (escaped_plain bs h.1))

plain_test : (b : ℕ) → is_plain_byte b ≡ true → escaped_byte b ≡ b ∷ []
plain_test b h = grind (arith, nat_tests)

-- a name that is written as it is
pub escaped-of_plain : (bs : List ℕ) → list_all is_plain_byte bs ≡ true → escaped bs ≡ bs
unfolding escaped
escaped-of_plain [] h = refl
escaped-of_plain (b ∷ bs) h =
    rw (plain_test b (left_of _ _ h)) (ap (λ rest. b ∷ rest) (escaped-of_plain bs (right_of (is_plain_byte b) _ h)))

plain_bytes : (c : ℕ) → escaped_byte c ≡ c ∷ [] → AllByRecursion (λ b. escaped_byte b ≡ b ∷ []) (encode_utf8 c)
unfolding encode_utf8
plain_bytes c plain =
    let P : List ℕ → Type 0 = AllByRecursion (λ b. escaped_byte b ≡ b ∷ []) in
    let low = 128 + c % 64 in
    let middle = 128 + (c / 64) % 64 in
    let upper = 128 + (c / 4096) % 64 in
    let two = (192 + c / 64) ∷ low ∷ [] in
    let three = (224 + c / 4096) ∷ middle ∷ low ∷ [] in
    let four = (240 + c / 262144) ∷ upper ∷ middle ∷ low ∷ [] in
    let long = cond (ltb c 65536) three four in
    let in_two : P two = (high _ (omega arith), (high _ (omega arith), tt)) in
    let in_three : P three = (high _ (omega arith), (high _ (omega arith), (high _ (omega arith), tt))) in
    let in_four : P four =
    (high _ (omega arith), (high _ (omega arith), (high _ (omega arith), (high _ (omega arith), tt)))) in
    both_ways P (ltb c 128) (c ∷ []) (cond (ltb c 2048) two long) (
      plain,
      tt,
    ) (both_ways P (ltb c 2048) two long in_two (both_ways P (ltb c 65536) three four in_three in_four))

pub escaped-encode_utf8 : (c : ℕ) → c ≢ 126 → c ≢ 47 → encode_utf8 c ≡ escaped (encode_utf8 c)
escaped-encode_utf8 c tilde slash = sym (escaped_plain (encode_utf8 c) (plain_bytes c (plain_byte c tilde slash)))

pub escaped_tilde : (c : ℕ) → c ≡ 126 → 126 ∷ 48 ∷ [] ≡ escaped (encode_utf8 c)
unfolding escaped encode_utf8
escaped_tilde c e = rw e refl

pub escaped_slash : (c : ℕ) → c ≡ 47 → 126 ∷ 49 ∷ [] ≡ escaped (encode_utf8 c)
unfolding escaped encode_utf8
escaped_slash c e = rw e refl

-- one more character is escaped
pub escape_more : (place start name rest next part : List ℕ) (c : ℕ) → place ++ escaped rest ≡ start ++ escaped name
    → rest ≡ encode_utf8 c ++ next → part ≡ escaped (encode_utf8 c)
    → (place ++ part) ++ escaped next ≡ start ++ escaped name
escape_more place start name rest next part c so_far step is =
    let cut : escaped rest ≡ part ++ escaped next =
    ap escaped step ∙ escaped-append (encode_utf8 c) next ∙ ap (λ x. x ++ escaped next) (sym is) in
    append_assoc place part (escaped next) ∙ (ap (λ x. place ++ x) (sym cut) ∙ so_far)

-- what is left of a path of names begins with its next name
pub length-pointer-drop : (path : List (Bor (List ℕ))) (i : ℕ) (d : Bor (List ℕ)) → i < length path
    → length (pointer (map (λ n. n.now) (drop i path)))
    ≡ length (escaped (get_or path i d).now) + 1 + length (pointer (map (λ n. n.now) (drop (i + 1) path)))
unfolding pointer
length-pointer-drop path i d h =
    rw (add-one, drop-cons path i d) (grind (
      arith,
      length-append (escaped (get_or path i d).now) (pointer (map (λ n. n.now) (drop (suc i) path))),
    ))

pub pointer_past : (path : List (Bor (List ℕ))) (i : ℕ) → length path ≤ i
    → pointer (map (λ n. n.now) (drop i path)) ≡ []
unfolding pointer
pointer_past path i h = rw (drop_of_length-le path h) refl
