-- Strings and characters, a byte at a time.
use Rattle.std.proofs.Common.{◌≡◌, ℕ, zero, suc, ◌+◌, ◌<◌, ◌≤◌, List, [], ◌∷◌, ◌++◌, length, take, drop, get_or, cond}
use Rattle.std.proofs.Common.{Bool, true, false, ◌==◌, ◌⊎◌, inl, inr, refl, sym, ap, ◌∙◌, arith, append_assoc}
use Rattle.std.proofs.Common.{append-nil}
use Rattle.std.proofs.lemmas.Bool.{cases_eq, ne_eqb}
use Rattle.std.proofs.lemmas.List.{drop_more, drop_all, take_more, take_all}
use Rattle.json.specs.Word.{is_operator, is_space}
use Rattle.json.specs.Lex.{quote, backslash, operator, space, other, Mode, in_string, in_escape}
use Rattle.json.specs.Align.{span_byte, span}
use Rattle.report_places.specs.Position.{begins_character}
use Rattle.report_places.specs.Shown.{first_characters}

passes : (o s : Bool) (k : Mode → ℕ) → span_byte in_string (cond o operator (cond s space other)) k ≡ 1 + k in_string
passes true s k = refl
passes false true k = refl
passes false false k = refl

abbrev Next : ℕ → List ℕ → Type 0
Next x xs = span in_string (x ∷ xs) ≡ 1 + span (cond (x == 92) in_escape in_string) xs

string_byte : (x : ℕ) (xs : List ℕ) → (x ≡ 34 → ⊥) → Next x xs
unfolding span
string_byte x xs no_quote = go (cases_eq x 92)
  where
    go : (x ≡ 92) ⊎ (x ≡ 92 → ⊥) → Next x xs
    go (inl e) = rw e refl
    go (inr no_escape) =
        (λ i. span_byte in_string (cond (ne_eqb x 34 no_quote i) quote
        (cond (ne_eqb x 92 no_escape i) backslash (cond (is_operator x) operator (cond (is_space x) space other))))
        (λ n. span n xs))
        ∙ passes (is_operator x) (is_space x) (λ n. span n xs)
        ∙ ap (λ b. 1 + span (cond b in_escape in_string) xs) (sym (ne_eqb x 92 no_escape))

escaped_byte : (x : ℕ) (xs : List ℕ) → span in_escape (x ∷ xs) ≡ 1 + span in_string xs
unfolding span
escaped_byte x xs = refl

quote_byte : (x : ℕ) (xs : List ℕ) → x ≡ 34 → span in_string (x ∷ xs) ≡ 1
unfolding span
quote_byte x xs e = rw e refl

span-nil : (m : Mode) → span m [] ≡ 0
unfolding span
span-nil m = refl

module _ (bytes : List ℕ) (i : ℕ) where
  pub past_escaped : i < length bytes → span in_string bytes ≡ i + span in_escape (drop i bytes)
      → span in_string bytes ≡ i + 1 + span in_string (drop (i + 1) bytes)
  past_escaped h so_far =
      omega (
        arith,
        so_far,
        ap (span in_escape) (drop_more bytes i 0 h),
        escaped_byte (get_or bytes i 0) (drop (i + 1) bytes),
      )

  pub past_byte : i < length bytes → (get_or bytes i 0 ≡ 34 → ⊥)
      → span in_string bytes ≡ i + span in_string (drop i bytes)
      → span in_string bytes ≡ i + 1 + span (cond (get_or bytes i 0 == 92) in_escape in_string) (drop (i + 1) bytes)
  past_byte h no_quote so_far =
      omega (
        arith,
        so_far,
        ap (span in_string) (drop_more bytes i 0 h),
        string_byte (get_or bytes i 0) (drop (i + 1) bytes) no_quote,
      )

  pub at_quote : i < length bytes → get_or bytes i 0 ≡ 34 → span in_string bytes ≡ i + span in_string (drop i bytes)
      → i + 1 ≡ span in_string bytes
  at_quote h e so_far =
      omega (
        arith,
        so_far,
        ap (span in_string) (drop_more bytes i 0 h),
        quote_byte (get_or bytes i 0) (drop (i + 1) bytes) e,
      )

  pub at_end : (m : Mode) → length bytes ≤ i → i ≤ length bytes → span in_string bytes ≡ i + span m (drop i bytes)
      → length bytes ≡ span in_string bytes
  at_end m h l so_far = omega (arith, so_far, ap (span m) (drop_all i bytes h), span-nil m)

-- ---- characters

kept : (n x : ℕ) (xs : List ℕ) → begins_character x ≡ false → first_characters n (x ∷ xs) ≡ x ∷ first_characters n xs
unfolding first_characters
kept zero x xs e = ap (λ b. cond b [] (x ∷ first_characters zero xs)) e
kept (suc n) x xs e = ap (λ b. x ∷ first_characters (cond b n (suc n)) xs) e

counted : (n m x : ℕ) (xs : List ℕ) → begins_character x ≡ true → n ≡ suc m
    → first_characters n (x ∷ xs) ≡ x ∷ first_characters m xs
unfolding first_characters
counted n m x xs e is =
    ap (λ k. first_characters k (x ∷ xs)) is ∙ ap (λ b. x ∷ first_characters (cond b m (suc m)) xs) e

enough : (n x : ℕ) (xs : List ℕ) → begins_character x ≡ true → n ≡ 0 → first_characters n (x ∷ xs) ≡ []
unfolding first_characters
enough n x xs e is = ap (λ k. first_characters k (x ∷ xs)) is ∙ ap (λ b. cond b [] (x ∷ first_characters zero xs)) e

first_characters-nil : (n : ℕ) → first_characters n [] ≡ []
unfolding first_characters
first_characters-nil n = refl

module _ (bytes shown : List ℕ) (i n : ℕ) (so_far : shown ≡ take i bytes ++ first_characters n (drop i bytes)) where
  another : (m : ℕ) → i < length bytes → first_characters n (get_or bytes i 0 ∷ drop (i + 1) bytes)
      ≡ get_or bytes i 0 ∷ first_characters m (drop (i + 1) bytes)
      → shown ≡ take (i + 1) bytes ++ first_characters m (drop (i + 1) bytes)
  another m h e =
      so_far ∙ ap (λ l. take i bytes ++ first_characters n l) (drop_more bytes i 0 h) ∙ ap (λ l. take i bytes ++ l) e
      ∙ sym (append_assoc (take i bytes) (get_or bytes i 0 ∷ []) (first_characters m (drop (i + 1) bytes)))
      ∙ ap (λ l. l ++ first_characters m (drop (i + 1) bytes)) (sym (take_more bytes i 0 h))

  pub one_character : (m : ℕ) → i < length bytes → begins_character (get_or bytes i 0) ≡ true → n ≡ suc m
      → shown ≡ take (i + 1) bytes ++ first_characters m (drop (i + 1) bytes)
  one_character m h e is = another m h (counted n m (get_or bytes i 0) (drop (i + 1) bytes) e is)

  pub same_character : i < length bytes → begins_character (get_or bytes i 0) ≡ false
      → shown ≡ take (i + 1) bytes ++ first_characters n (drop (i + 1) bytes)
  same_character h e = another n h (kept n (get_or bytes i 0) (drop (i + 1) bytes) e)

  pub no_more : i < length bytes → begins_character (get_or bytes i 0) ≡ true → n ≡ 0 → take i bytes ≡ shown
  no_more h e is =
      sym
      (so_far ∙ ap (λ l. take i bytes ++ first_characters n l) (drop_more bytes i 0 h)
      ∙ ap (λ l. take i bytes ++ l) (enough n (get_or bytes i 0) (drop (i + 1) bytes) e is)
      ∙ append-nil (take i bytes))

  pub all_of_them : length bytes ≤ i → take (length bytes) bytes ≡ shown
  all_of_them h =
      take_all (length bytes) bytes (omega arith)
      ∙ sym
      (so_far ∙ ap (λ l. take i bytes ++ first_characters n l) (drop_all i bytes h)
      ∙ ap (λ l. take i bytes ++ l) (first_characters-nil n) ∙ append-nil (take i bytes)
      ∙ take_all i bytes h)
