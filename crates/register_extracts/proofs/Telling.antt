-- What the text of a row tells of it.
use Rattle.std.proofs.Common.{◌≡◌, ◌≢◌, ℕ, zero, suc, ◌<◌, ◌^◌, ◌⊎◌, inl, inr, ⊎_elim, Bool, true, false, List, []}
use Rattle.std.proofs.Common.{◌∷◌, ◌++◌, refl, sym, ap, ◌∙◌, arith, get_or, true≢false, codes, Option, Some}
use Rattle.std.proofs.Common.{None, nat_le, IsTrue, subst}
use Rattle.std.specs.Char.{digit_value}
use Rattle.std.specs.Fmt.{decimal}
use Rattle.std.specs.List.{AllByRecursion}
use Rattle.std.specs.Str.{bytes_eq}
use Rattle.std.specs.Str.Parse.{AllDigits}
use Rattle.std.specs.Int.{to_be_bytes, w32}
use Rattle.std.proofs.lemmas.Bool.{and_parts}
use Rattle.std.proofs.lemmas.Fmt.{decimal_injective, decimal_is_IsNumeral}
use Rattle.std.proofs.lemmas.List.Elements.{All-head, All-tail}
use Rattle.std.proofs.lemmas.Slice.Eq.{bytes_eq-Decides}
use Rattle.key_string.specs.Filer.{is_filer, is_filer_byte}
use Rattle.key_string.specs.Key.{IsPrintable, is_printable}
use Rattle.hex.specs.Hex.{encode_lower, IsBytes, decode_of}
use Rattle.hex.proofs.HexLemmas.{decode_of-encode_lower, decode_of-same}
use Rattle.sha2.specs.Sha256.{sha256, digest_bytes}
use Rattle.register_extracts.specs.Digest.{Row, number_text, body_text, fields, row_text}
use Rattle.register_extracts.specs.Laws.{Collide, FitsIfAny, IsSound}
use Rattle.register_extracts.proofs.Lines.{HasNoFeed, no_feed_by, no_feed-hex, lines_same}

-- ---- no field has a line feed

no_feed-digits : (text : List ℕ) → AllDigits 10 text → HasNoFeed text
no_feed-digits [] h k is = absurd (omega (arith, is))
no_feed-digits (c ∷ text) h zero is = absurd (omega (arith, subst (λ c. digit_value c < 10) is h.0))
no_feed-digits (c ∷ text) h (suc k) is = no_feed-digits text h.1 k is

no_feed-decimal : (n : ℕ) → n < 2 ^ 64 → HasNoFeed (decimal n)
no_feed-decimal n small = no_feed-digits (decimal n) (decimal_is_IsNumeral n small).0.1

no_feed-number : (n : Option ℕ) → FitsIfAny n → HasNoFeed (number_text n)
no_feed-number None fits = no_feed_by (λ c. nat_le 45 c) refl (codes "-") refl
no_feed-number (Some n) fits = no_feed-decimal n fits

no_feed-printable : (text : List ℕ) → IsPrintable text → HasNoFeed text
no_feed-printable [] h k is = absurd (omega (arith, is))
no_feed-printable (c ∷ text) h zero is =
    true≢false (sym (subst (λ c. is_printable c ≡ true) is (All-head (λ x. IsTrue (is_printable x)) c text h)))
no_feed-printable (c ∷ text) h (suc k) is =
    no_feed-printable text (All-tail (λ x. IsTrue (is_printable x)) c text h) k is

no_feed-filer : (text : List ℕ) → is_filer text ≡ true → HasNoFeed text
unfolding is_filer
no_feed-filer text h = no_feed_by is_filer_byte refl text (and_parts _ _ h).1

no_feed-body : (body : List ℕ) → HasNoFeed (body_text body)
unfolding body_text
no_feed-body body = no_feed-hex (sha256 body)

no_feeds : (seq : ℕ) (r : Row) → seq < 2 ^ 64 → IsSound r → AllByRecursion HasNoFeed (fields seq r)
no_feeds seq r small h = (
  no_feed-decimal seq small,
  (
    no_feed-filer r.request.filer h.filer,
    (
      no_feed-printable r.request.key h.key.printable,
      (
        no_feed-number r.request.target h.target,
        (no_feed-number r.number h.number, (no_feed-number r.moment h.moment, (no_feed-body r.request.body, tt))),
      ),
    ),
  ),
)

-- ---- each field tells what it is of

no_dash : (n : ℕ) → n < 2 ^ 64 → decimal n ≢ codes "-"
no_dash n small is =
    let digits = subst (AllDigits 10) is (decimal_is_IsNumeral n small).0.1 in absurd (omega (arith, digits.0))

pub number_same : (m n : Option ℕ) → FitsIfAny m → FitsIfAny n → number_text m ≡ number_text n → m ≡ n
number_same None None p q e = refl
number_same None (Some n) p q e = absurd (no_dash n q (sym e))
number_same (Some m) None p q e = absurd (no_dash m p e)
number_same (Some m) (Some n) p q e = ap Some (decimal_injective m n p q e)

-- ---- a digest of bytes tells them, or SHA-256 is broken

bytes_appended : (xs ys : List ℕ) → IsBytes xs → IsBytes ys → IsBytes (xs ++ ys)
bytes_appended [] ys p q i = q i
bytes_appended (x ∷ xs) ys p q zero = p 0
bytes_appended (x ∷ xs) ys p q (suc i) = bytes_appended xs ys (λ k. p (suc k)) q i

bytes_of_word : (n : ℕ) → IsBytes (to_be_bytes w32 n)
bytes_of_word n zero = omega arith
bytes_of_word n (suc zero) = omega arith
bytes_of_word n (suc (suc zero)) = omega arith
bytes_of_word n (suc (suc (suc zero))) = omega arith
bytes_of_word n (suc (suc (suc (suc i)))) = omega arith

digest_is_bytes : (h : List ℕ) (n : ℕ) → IsBytes (digest_bytes h n)
unfolding digest_bytes
digest_is_bytes h zero = λ i. omega arith
digest_is_bytes h (suc n) = bytes_appended (digest_bytes h n) _ (digest_is_bytes h n) (bytes_of_word _)

sha256_is_bytes : (m : List ℕ) → IsBytes (sha256 m)
unfolding sha256
sha256_is_bytes m = digest_is_bytes _ 8

cases_of : (b : Bool) → (b ≡ true) ⊎ (b ≡ false)
cases_of true = inl refl
cases_of false = inr refl

-- texts with one digest are the same, or they collide
pub same_or_collide : (x y : List ℕ) → sha256 x ≡ sha256 y → (x ≡ y) ⊎ Collide (x ∷ []) (y ∷ [])
same_or_collide x y e =
    elim (cases_of (bytes_eq x y)) [
      | inl same ↦ inl ((bytes_eq-Decides x y).0 same)
      | inr differ ↦ inr (x, y, inl refl, inl refl, (λ is. true≢false (sym ((bytes_eq-Decides x y).1 is) ∙ differ)), e)
    ]

-- one text of two bodies is one digest of both
pub body_same : (b c : List ℕ) → body_text b ≡ body_text c → (b ≡ c) ⊎ Collide (b ∷ []) (c ∷ [])
unfolding body_text
body_same b c e =
    same_or_collide b c
    (decode_of-same (encode_lower (sha256 b)) (sha256 b) (sha256 c)
    (decode_of-encode_lower (sha256 b) (sha256_is_bytes b))
    (ap decode_of e ∙ decode_of-encode_lower (sha256 c) (sha256_is_bytes c)))

-- ---- a row

rows_equal : (r x : Row) → r.request.filer ≡ x.request.filer → r.request.key ≡ x.request.key
    → r.request.target ≡ x.request.target → r.number ≡ x.number → r.moment ≡ x.moment
    → r.request.body ≡ x.request.body → r ≡ x
rows_equal r x filer key target number moment body = rw (filer, key, target, number, moment, body) refl

-- texts that begin with rows, as a register has them, begin with the same row at the same place, or SHA-256 is broken
pub row_same : (seq at : ℕ) (r x : Row) (s t : List ℕ) → seq < 2 ^ 64 → at < 2 ^ 64 → IsSound r → IsSound x
    → row_text seq r ++ s ≡ row_text at x ++ t
    → (seq ≡ at) × ((r ≡ x) ⊎ Collide (r.request.body ∷ []) (x.request.body ∷ [])) × (s ≡ t)
row_same seq at r x s t p q h k e =
    let both = lines_same (fields seq r) (fields at x) s t refl (no_feeds seq r p h) (no_feeds at x q k) e in
    let field : (i : ℕ) → get_or (fields seq r) i [] ≡ get_or (fields at x) i [] =
    λ i. ap (λ l. get_or l i []) both.0 in (
      decimal_injective seq at p q (field 0),
      ⊎_elim
          (λ body. inl
          (rows_equal r x (field 1) (field 2)
          (number_same r.request.target x.request.target h.target k.target (field 3))
          (number_same r.number x.number h.number k.number (field 4))
          (number_same r.moment x.moment h.moment k.moment (field 5)) body))
          (λ broken. inr broken) (body_same r.request.body x.request.body (field 6)),
      both.1,
    )
