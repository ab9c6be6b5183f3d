-- What texts and a digest tell of all the rows.
use Rattle.std.proofs.Common.{◌≡◌, ◌≢◌, ℕ, zero, suc, ◌+◌, ◌<◌, ◌^◌, ◌⊎◌, inl, inr, ⊎_elim, List, [], ◌∷◌, ◌++◌, length}
use Rattle.std.proofs.Common.{refl, sym, ap, ap₂, ◌∙◌, arith, drop, get_or, subst, subst₂}
use Rattle.std.specs.Fmt.{decimal}
use Rattle.std.specs.List.{AllByRecursion}
use Rattle.std.proofs.lemmas.List.{length-append, nil_from_length}
use Rattle.sha2.proofs.Facts256.{length-sha256}
use Rattle.register_extracts.specs.Digest.{Row, line, lines, fields, row_text, first_digest, next_digest, digest_after}
use Rattle.register_extracts.specs.Digest.{digest_of}
use Rattle.register_extracts.specs.Laws.{Collide, IsOneOf, IsSound, bodies, hashed, hashed_after, joined_from}
use Rattle.register_extracts.specs.Laws.{texts_from}
use Rattle.register_extracts.proofs.Adding.{digest_more}
use Rattle.register_extracts.proofs.Telling.{row_same, same_or_collide}

-- ---- texts

wider : (xs xs' ys ys' : List (List ℕ)) → ((t : List ℕ) → IsOneOf t xs → IsOneOf t xs')
    → ((t : List ℕ) → IsOneOf t ys → IsOneOf t ys') → Collide xs ys → Collide xs' ys'
wider xs xs' ys ys' p q c = (c.0, c.1, p c.0 c.2, q c.1 c.3, c.4, c.5)

in_front : (t : List ℕ) (xs ys : List (List ℕ)) → IsOneOf t xs → IsOneOf t (xs ++ ys)
in_front t [] ys is = absurd is
in_front t (x ∷ xs) ys (inl here) = inl here
in_front t (x ∷ xs) ys (inr later) = inr (in_front t xs ys later)

in_back : (t : List ℕ) (xs ys : List (List ℕ)) → IsOneOf t ys → IsOneOf t (xs ++ ys)
in_back t [] ys is = is
in_back t (x ∷ xs) ys is = inr (in_back t xs ys is)

alone : (x : List ℕ) (xs : List (List ℕ)) (t : List ℕ) → IsOneOf t (x ∷ []) → IsOneOf t (x ∷ xs)
alone x xs t (inl here) = inl here
alone x xs t (inr none) = absurd none

both_same : (r x : Row) (rows others : List Row) → (r ≡ x) ⊎ Collide (r.request.body ∷ []) (x.request.body ∷ [])
    → (rows ≡ others) ⊎ Collide (bodies rows) (bodies others)
    → (r ∷ rows ≡ x ∷ others) ⊎ Collide (bodies (r ∷ rows)) (bodies (x ∷ others))
both_same r x rows others (inl one) (inl rest) = inl (ap₂ (λ y ys. y ∷ ys) one rest)
both_same r x rows others (inl one) (inr broken) =
    inr (wider (bodies rows) (bodies (r ∷ rows)) (bodies others) (bodies (x ∷ others)) (λ t is. inr is) (λ t is. inr is)
    broken)
both_same r x rows others (inr broken) rest =
    inr (wider (r.request.body ∷ []) (bodies (r ∷ rows)) (x.request.body ∷ []) (bodies (x ∷ others))
    (alone r.request.body (bodies rows)) (alone x.request.body (bodies others)) broken)

row_is_some : (seq : ℕ) (r : Row) (s : List ℕ) → row_text seq r ++ s ≢ []
unfolding line lines
row_is_some seq r s is =
    let whole = length-append (row_text seq r) s in
    let parts = length-append (line (decimal seq)) (lines (drop 1 (fields seq r))) in
    let first = length-append (decimal seq) (10 ∷ []) in
    let none = ap length is in
    omega (arith, whole, parts, first, none)

pub texts_same : (seq : ℕ) (rows others : List Row) → AllByRecursion IsSound rows → AllByRecursion IsSound others
    → seq + length rows < 2 ^ 64 → seq + length others < 2 ^ 64 → texts_from seq rows ≡ texts_from seq others
    → (rows ≡ others) ⊎ Collide (bodies rows) (bodies others)
texts_same seq [] [] p q h k e = inl refl
texts_same seq [] (x ∷ others) p q h k e = absurd (omega (arith, ap length e))
texts_same seq (r ∷ rows) [] p q h k e = absurd (omega (arith, ap length e))
texts_same seq (r ∷ rows) (x ∷ others) p q h k e =
    let one : row_text seq r ≡ row_text seq x = ap (λ l. get_or l 0 []) e in
    let is = row_same seq seq r x [] [] (omega arith) (omega arith) p.0 q.0 (ap (λ t. t ++ []) one) in
    both_same r x rows others is.1
    (texts_same (suc seq) rows others p.1 q.1 (omega arith) (omega arith) (ap (drop 1) e))

pub joined_same : (seq : ℕ) (rows others : List Row) → AllByRecursion IsSound rows → AllByRecursion IsSound others
    → seq + length rows < 2 ^ 64 → seq + length others < 2 ^ 64 → joined_from seq rows ≡ joined_from seq others
    → (rows ≡ others) ⊎ Collide (bodies rows) (bodies others)
joined_same seq [] [] p q h k e = inl refl
joined_same seq [] (x ∷ others) p q h k e = absurd (row_is_some seq x _ (sym e))
joined_same seq (r ∷ rows) [] p q h k e = absurd (row_is_some seq r _ e)
joined_same seq (r ∷ rows) (x ∷ others) p q h k e =
    let is = row_same seq seq r x _ _ (omega arith) (omega arith) p.0 q.0 e in
    both_same r x rows others is.1 (joined_same (suc seq) rows others p.1 q.1 (omega arith) (omega arith) is.2)

-- ---- a digest

length-digest_after : (before : List ℕ) (seq : ℕ) (rows : List Row) → length before ≡ 32
    → length (digest_after before seq rows) ≡ 32
unfolding digest_after next_digest
length-digest_after before seq [] h = h
length-digest_after before seq (r ∷ rows) h =
    length-digest_after (next_digest before seq r) (suc seq) rows (length-sha256 _)

pub length-digest : (rows : List Row) → length (digest_of rows) ≡ 32
unfolding first_digest
length-digest rows = length-digest_after first_digest 1 rows (length-sha256 [])

fronts_same : (xs ys s t : List ℕ) → length xs ≡ length ys → xs ++ s ≡ ys ++ t → (xs ≡ ys) × (s ≡ t)
fronts_same [] [] s t len e = (refl, e)
fronts_same [] (y ∷ ys) s t len e = absurd (omega (arith, len))
fronts_same (x ∷ xs) [] s t len e = absurd (omega (arith, len))
fronts_same (x ∷ xs) (y ∷ ys) s t len e =
    let rest = fronts_same xs ys s t (omega (arith, len)) (ap (drop 1) e) in
    (ap₂ (λ c cs. c ∷ cs) (ap (λ l. get_or l 0 0) e) rest.0, rest.1)

-- the last row, and those before it
HasLast : List Row → Type 0
HasLast rows = (front : List Row) × (last : Row) × (rows ≡ front ++ last ∷ [])

last_of : (r : Row) (rows : List Row) → HasLast (r ∷ rows)
unfolding HasLast
last_of r [] = ([], r, refl)
last_of r (x ∷ rows) =
    let later = last_of x rows in (r ∷ later.0, later.1, ap (λ l. r ∷ l) later.2)

sound_parts : (front : List Row) (last : Row) → AllByRecursion IsSound (front ++ last ∷ [])
    → AllByRecursion IsSound front × IsSound last
sound_parts [] last h = (tt, h.0)
sound_parts (r ∷ front) last h = let rest = sound_parts front last h.1 in ((h.0, rest.0), rest.1)

-- what is hashed with one row more
hashed_with : List Row → Row → List (List ℕ)
hashed_with rows r =
    hashed rows ++ (digest_of rows ++ row_text (suc (length rows)) r) ∷ r.request.body ∷ []

-- the text that is hashed last
abbrev last_text : List Row → Row → List ℕ
last_text rows r = digest_of rows ++ row_text (suc (length rows)) r

hashed_after_more : (before : List ℕ) (seq last : ℕ) (rows : List Row) (r : Row) → last ≡ seq + length rows
    → hashed_after before seq (rows ++ r ∷ [])
    ≡ hashed_after before seq rows ++ (digest_after before seq rows ++ row_text last r) ∷ r.request.body ∷ []
unfolding hashed_after digest_after
hashed_after_more before seq last [] r is =
    let same : seq ≡ last = omega arith in ap (λ at. (before ++ row_text at r) ∷ r.request.body ∷ []) same
hashed_after_more before seq last (x ∷ rows) r is =
    ap (λ l. (before ++ row_text seq x) ∷ x.request.body ∷ l)
    (hashed_after_more (next_digest before seq x) (suc seq) last rows r (omega arith))

hashed_more : (rows : List Row) (r : Row) → hashed (rows ++ r ∷ []) ≡ hashed_with rows r
unfolding hashed_with
hashed_more rows r = ap (λ l. [] ∷ l) (hashed_after_more first_digest 1 (suc (length rows)) rows r (omega arith))

text_in : (rows : List Row) (r : Row) → IsOneOf (digest_of rows ++ row_text (suc (length rows)) r) (hashed_with rows r)
unfolding hashed_with
text_in rows r = in_back _ (hashed rows) _ (inl refl)

body_in : (rows : List Row) (r : Row) → IsOneOf r.request.body (hashed_with rows r)
unfolding hashed_with
body_in rows r = in_back _ (hashed rows) _ (inr (inl refl))

before_in : (rows : List Row) (r : Row) (t : List ℕ) → IsOneOf t (hashed rows) → IsOneOf t (hashed_with rows r)
unfolding hashed_with
before_in rows r t is = in_front t (hashed rows) _ is

-- one text is one of those that it is one of
only : (x : List ℕ) (xs : List (List ℕ)) → IsOneOf x xs → (t : List ℕ) → IsOneOf t (x ∷ []) → IsOneOf t xs
only x xs is t (inl same) = subst (λ y. IsOneOf y xs) (sym same) is
only x xs is t (inr none) = absurd none

-- the digest of no row is that of no other
none_or_collide : (front : List Row) (last : Row) → digest_of [] ≡ digest_of (front ++ last ∷ [])
    → Collide ([] ∷ []) (hashed_with front last)
unfolding first_digest digest_after next_digest
none_or_collide front last e =
    let len = length-append (digest_of front) (row_text (suc (length front)) last) in (
      [],
      digest_of front ++ row_text (suc (length front)) last,
      inl refl,
      text_in front last,
      (λ is. absurd (omega (arith, len, length-digest front, ap length is))),
      e ∙ digest_more front last,
    )

turned : (xs ys : List (List ℕ)) → Collide xs ys → Collide ys xs
turned xs ys c = (c.1, c.0, c.3, c.2, (λ same. c.4 (sym same)), sym c.5)

-- one step from two digests
step_or_collide : (before other : List ℕ) (seq at : ℕ) (r x : Row) → length before ≡ 32 → length other ≡ 32
    → next_digest before seq r ≡ next_digest other at x
    → ((before ≡ other) × (row_text seq r ≡ row_text at x))
    ⊎ Collide ((before ++ row_text seq r) ∷ []) ((other ++ row_text at x) ∷ [])
unfolding next_digest
step_or_collide before other seq at r x h k e =
    ⊎_elim (λ same. inl (fronts_same before other _ _ (h ∙ sym k) same)) (λ broken. inr broken)
    (same_or_collide (before ++ row_text seq r) (other ++ row_text at x) e)

snoc_same : (r x : Row) (rows others : List Row) → (r ≡ x) ⊎ Collide (r.request.body ∷ []) (x.request.body ∷ [])
    → (rows ≡ others) ⊎ Collide (hashed rows) (hashed others)
    → (rows ++ r ∷ [] ≡ others ++ x ∷ []) ⊎ Collide (hashed_with rows r) (hashed_with others x)
snoc_same r x rows others (inl one) (inl rest) = inl (ap₂ (λ y ys. ys ++ y ∷ []) one rest)
snoc_same r x rows others (inl one) (inr broken) =
    inr (wider (hashed rows) (hashed_with rows r) (hashed others) (hashed_with others x) (before_in rows r)
    (before_in others x) broken)
snoc_same r x rows others (inr broken) rest =
    inr (wider (r.request.body ∷ []) (hashed_with rows r) (x.request.body ∷ []) (hashed_with others x)
    (only r.request.body (hashed_with rows r) (body_in rows r)) (only x.request.body (hashed_with others x)
    (body_in others x)) broken)

-- digests of so many rows and of others tell both
AreTold : ℕ → Type 0
AreTold n = (rows others : List Row) → length rows ≡ n → AllByRecursion IsSound rows → AllByRecursion IsSound others
    → n < 2 ^ 63 → length others < 2 ^ 63 → digest_of rows ≡ digest_of others
    → (rows ≡ others) ⊎ Collide (hashed rows) (hashed others)

-- one more of both
told_more : (n : ℕ) → AreTold n → (rows : List Row) (r : Row) (others : List Row) (x : Row) → length rows ≡ n
    → AllByRecursion IsSound (rows ++ r ∷ []) → AllByRecursion IsSound (others ++ x ∷ []) → suc n < 2 ^ 63
    → length others < 2 ^ 63 → digest_of (rows ++ r ∷ []) ≡ digest_of (others ++ x ∷ [])
    → (rows ++ r ∷ [] ≡ others ++ x ∷ []) ⊎ Collide (hashed_with rows r) (hashed_with others x)
unfolding AreTold
told_more n told rows r others x len p q h k e =
    let mine = sound_parts rows r p in
    let theirs = sound_parts others x q in
    ⊎_elim
    (λ same.
    snoc_same r x rows others
    (row_same (suc (length rows)) (suc (length others)) r x [] [] (omega (arith, len)) (omega arith) mine.1 theirs.1
    (ap (λ t. t ++ []) same.1)).1
    (told rows others len mine.0 theirs.0 (omega arith) k same.0))
    (λ broken.
    inr (wider (last_text rows r ∷ []) (hashed_with rows r) (last_text others x ∷ []) (hashed_with others x)
    (only (last_text rows r) (hashed_with rows r) (text_in rows r))
    (only (last_text others x) (hashed_with others x) (text_in others x)) broken))
    (step_or_collide (digest_of rows) (digest_of others) (suc (length rows)) (suc (length others)) r x
    (length-digest rows) (length-digest others) (sym (digest_more rows r) ∙ e ∙ digest_more others x))

told_by : (n : ℕ) → AreTold n
unfolding AreTold HasLast hashed_after
told_by zero rows [] len p q h k e = inl (nil_from_length rows len)
told_by zero rows (x ∷ others) len p q h k e =
    let view = last_of x others in
    let none = nil_from_length rows len in
    let is : hashed (x ∷ others) ≡ hashed_with view.0 view.1 = ap hashed view.2 ∙ hashed_more view.0 view.1 in
    inr (subst₂ Collide (ap hashed (sym none)) (sym is)
    (none_or_collide view.0 view.1 (ap digest_of (sym none) ∙ e ∙ ap digest_of view.2)))
told_by (suc n) [] others len p q h k e = absurd (omega (arith, len))
told_by (suc n) (r ∷ rows) [] len p q h k e =
    let view = last_of r rows in
    let is : hashed (r ∷ rows) ≡ hashed_with view.0 view.1 = ap hashed view.2 ∙ hashed_more view.0 view.1 in
    inr (turned ([] ∷ []) (hashed (r ∷ rows)) (subst (Collide ([] ∷ [])) (sym is)
    (none_or_collide view.0 view.1 (sym e ∙ ap digest_of view.2))))
told_by (suc n) (r ∷ rows) (x ∷ others) len p q h k e =
    let mine = last_of r rows in
    let theirs = last_of x others in
    let long = length-append mine.0 (mine.1 ∷ []) in
    let longer = length-append theirs.0 (theirs.1 ∷ []) in
    let same : length (r ∷ rows) ≡ length (mine.0 ++ mine.1 ∷ []) = ap length mine.2 in
    let as_long : length (x ∷ others) ≡ length (theirs.0 ++ theirs.1 ∷ []) = ap length theirs.2 in
    let here : hashed (r ∷ rows) ≡ hashed_with mine.0 mine.1 = ap hashed mine.2 ∙ hashed_more mine.0 mine.1 in
    let there : hashed (x ∷ others) ≡ hashed_with theirs.0 theirs.1 =
    ap hashed theirs.2 ∙ hashed_more theirs.0 theirs.1 in
    ⊎_elim (λ is. inl (mine.2 ∙ is ∙ sym theirs.2))
    (λ broken. inr (subst₂ Collide (sym here) (sym there) broken))
    (told_more n (told_by n) mine.0 mine.1 theirs.0 theirs.1 (omega (arith, long, same, len))
    (subst (AllByRecursion IsSound) mine.2 p) (subst (AllByRecursion IsSound) theirs.2 q) h
    (omega (arith, longer, as_long, k)) (ap digest_of (sym mine.2) ∙ e ∙ ap digest_of theirs.2))

pub told : (rows others : List Row) → AllByRecursion IsSound rows → AllByRecursion IsSound others
    → length rows < 2 ^ 63 → length others < 2 ^ 63 → digest_of rows ≡ digest_of others
    → (rows ≡ others) ⊎ Collide (hashed rows) (hashed others)
unfolding AreTold
told rows others p q h k e = told_by (length rows) rows others refl p q h k e
