-- The bytes of the first characters of a text, a byte at a time.
use Rattle.std.proofs.Common.{◌≡◌, ℕ, zero, suc, ◌+◌, ◌<◌, ◌≤◌, List, [], ◌∷◌, length, drop, get_or, cond, true, false}
use Rattle.std.proofs.Common.{refl, ap, ◌∙◌, arith}
use Rattle.std.proofs.lemmas.List.{drop_more, drop_all}
use Rattle.register_pages.specs.Short.{begins_character, first_bytes}

counted : (n b : ℕ) (bytes : List ℕ) → begins_character b ≡ true
    → first_bytes (suc n) (b ∷ bytes) ≡ suc (first_bytes n bytes)
unfolding first_bytes
counted n b bytes e = ap (λ t. suc (first_bytes (cond t n (suc n)) bytes)) e

passed : (n b : ℕ) (bytes : List ℕ) → begins_character b ≡ false
    → first_bytes n (b ∷ bytes) ≡ suc (first_bytes n bytes)
unfolding first_bytes
passed zero b bytes e = ap (λ t. cond t 0 (suc (first_bytes zero bytes))) e
passed (suc n) b bytes e = ap (λ t. suc (first_bytes (cond t n (suc n)) bytes)) e

enough : (b : ℕ) (bytes : List ℕ) → begins_character b ≡ true → first_bytes 0 (b ∷ bytes) ≡ 0
unfolding first_bytes
enough b bytes e = ap (λ t. cond t 0 (suc (first_bytes zero bytes))) e

none_left : (n : ℕ) → first_bytes n [] ≡ 0
unfolding first_bytes
none_left zero = refl
none_left (suc n) = refl

module _ (bytes : List ℕ) (total i n : ℕ) (so_far : total ≡ i + first_bytes n (drop i bytes)) where
  next_byte : i < length bytes → total ≡ i + first_bytes n (get_or bytes i 0 ∷ drop (i + 1) bytes)
  next_byte h = so_far ∙ ap (λ l. i + first_bytes n l) (drop_more bytes i 0 h)

  pub one_character : (m : ℕ) → i < length bytes → begins_character (get_or bytes i 0) ≡ true → n ≡ suc m
      → total ≡ i + 1 + first_bytes m (drop (i + 1) bytes)
  one_character m h e is =
      let next : total ≡ i + suc (first_bytes m (drop (i + 1) bytes)) =
      next_byte h ∙ ap (λ k. i + first_bytes k (get_or bytes i 0 ∷ drop (i + 1) bytes)) is
      ∙ ap (λ k. i + k) (counted m (get_or bytes i 0) (drop (i + 1) bytes) e) in
      omega arith

  pub same_character : i < length bytes → begins_character (get_or bytes i 0) ≡ false
      → total ≡ i + 1 + first_bytes n (drop (i + 1) bytes)
  same_character h e =
      let next : total ≡ i + suc (first_bytes n (drop (i + 1) bytes)) =
      next_byte h ∙ ap (λ k. i + k) (passed n (get_or bytes i 0) (drop (i + 1) bytes) e) in
      omega arith

  pub no_more : i < length bytes → begins_character (get_or bytes i 0) ≡ true → n ≡ 0 → i ≡ total
  no_more h e is =
      let next : total ≡ i + 0 =
      next_byte h ∙ ap (λ k. i + first_bytes k (get_or bytes i 0 ∷ drop (i + 1) bytes)) is
      ∙ ap (λ k. i + k) (enough (get_or bytes i 0) (drop (i + 1) bytes) e) in
      omega arith

  pub all_of_them : length bytes ≤ i → i ≤ length bytes → length bytes ≡ total
  all_of_them h low =
      let next : total ≡ i + 0 =
      so_far ∙ ap (λ l. i + first_bytes n l) (drop_all i bytes h) ∙ ap (λ k. i + k) (none_left n) in
      omega arith
