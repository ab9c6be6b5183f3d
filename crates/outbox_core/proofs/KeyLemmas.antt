-- The hyphenated form of a UUID is a key.
use Rattle.std.proofs.Common.{◌≡◌, ◌<◌, ◌+◌, ◌-◌, ◌/◌, ◌%◌, ℕ, zero, suc, Bool, true, false, not, cond, List, [], ◌∷◌}
use Rattle.std.proofs.Common.{length, length-append, nat_lt, nat_le, arith, refl, sym, ap, ◌∙◌, true≢false, None}
use Rattle.std.specs.List.{list_all, position, prefix_len}
use Rattle.std.specs.Prelude.{◌==◌, ◌&&◌, slice_index}
use Rattle.std.proofs.lemmas.Bool.Decides.{nat_tests}
use Rattle.sqlite_keyed.proofs.ListLemmas.{list_all_push}
use Rattle.uuid.specs.Text.{by_index, hyphenated_text, hex_digit, nibble, digit_place, is_hyphen_place, hyphen, lower}
use Rattle.key_string.specs.Key.{IsKey, IsTextFault, is_printable}
use Rattle.key_string.specs.declared.fault.KeyFault.{KeyFault}
use Rattle.key_string.specs.declared.fault.KeyFault.TheVariants.{NotString, Empty, TooLong, NotPrintable, Memory}
use Rattle.key_string.proofs.Fields.{is_key-IsKey, IsKey-is_key}

length_by_index : {X : Type 0} (n : ℕ) (f : ℕ → X) → length (by_index n f) ≡ n
unfolding by_index
length_by_index zero f = refl
length_by_index (suc n) f = rw (length-append (by_index n f) (f n ∷ []), length_by_index n f) (omega arith)

all_by_index : (n : ℕ) (f : ℕ → ℕ) → ((k : ℕ) → is_printable (f k) ≡ true) → list_all is_printable (by_index n f) ≡ true
unfolding by_index
all_by_index zero f each = refl
all_by_index (suc n) f each = list_all_push is_printable (by_index n f) (f n) (all_by_index n f each) (each n)

digit_printable : (d : ℕ) → d < 16 → is_printable (hex_digit lower d) ≡ true
digit_printable d low = go (nat_lt d 10) refl
  where
    go : (b : Bool) → nat_lt d 10 ≡ b → is_printable (cond b (48 + d) (97 + d - 10)) ≡ true
    go true is = grind (arith, nat_tests)
    go false is = grind (arith, nat_tests)

below : (n : ℕ) → n % 16 < 16
below n = omega arith

nibble_low : (xs : List ℕ) (k : ℕ) → nibble xs k < 16
nibble_low xs k = go (k % 2 == 0)
  where
    go : (b : Bool) → cond b (slice_index xs (k / 2) / 16 % 16) (slice_index xs (k / 2) % 16) < 16
    go true = below _
    go false = below _

place_printable : (xs : List ℕ) (k : ℕ)
    → is_printable (cond (is_hyphen_place k) hyphen (hex_digit lower (nibble xs (digit_place k)))) ≡ true
place_printable xs k = go (is_hyphen_place k)
  where
    go : (b : Bool) → is_printable (cond b hyphen (hex_digit lower (nibble xs (digit_place k)))) ≡ true
    go true = refl
    go false = digit_printable _ (nibble_low xs (digit_place k))

last_part : (a b c : Bool) → ((a && b) && c) ≡ true → c ≡ true
last_part true true c h = h
last_part true false c h = absurd (true≢false (sym h))
last_part false b c h = absurd (true≢false (sym h))

pub is_made_key : (xs : List ℕ) → IsKey (hyphenated_text lower xs)
is_made_key xs =
    let text = hyphenated_text lower xs in
    let long : length text ≡ 36 = length_by_index 36 _ in
    let printable : list_all is_printable text ≡ true = all_by_index 36 _ (place_printable xs) in
    is_key-IsKey text (rw (long, printable) refl)

all_long : {X : Type 0} (p : X → Bool) (xs : List X) → list_all p xs ≡ true
    → prefix_len (λ x. not (not (p x))) xs ≡ length xs
all_long p [] all = refl
all_long p (x ∷ xs) all = go (p x) all (all_long p xs)
  where
    go : (b : Bool) → (b && list_all p xs) ≡ true
        → (list_all p xs ≡ true → prefix_len (λ x. not (not (p x))) xs ≡ length xs)
        → cond (not (not b)) (1 + prefix_len (λ x. not (not (p x))) xs) 0 ≡ suc (length xs)
    go true all more = let one : 1 + length xs ≡ suc (length xs) = omega arith in ap (λ n. 1 + n) (more all) ∙ one
    go false all more = absurd (true≢false (sym all))

not_below : (n : ℕ) → nat_lt n n ≡ false
not_below n = grind (arith, nat_tests)

none_fails : {X : Type 0} (p : X → Bool) (xs : List X) → list_all p xs ≡ true → position (λ x. not (p x)) xs ≡ None
none_fails p xs all = rw (all_long p xs all, not_below (length xs)) refl

-- a key is refused where memory runs out, and for nothing else
pub only_memory : (text : List ℕ) (fault : KeyFault) → IsKey text → IsTextFault text fault → fault ≡ Memory
only_memory text NotString key why = absurd why
only_memory text Empty key why = absurd (let none : length text ≡ 0 = ap length why in omega (arith, key.nonempty))
only_memory text TooLong key why = absurd (omega (arith, key.short))
only_memory text (NotPrintable at) key why =
    absurd (let parts = IsKey-is_key text key in let none =
    none_fails is_printable text (last_part (nat_lt 0 (length text)) (nat_le (length text) 1024)
    (list_all is_printable text) parts) in cc)
only_memory text Memory key why = refl
