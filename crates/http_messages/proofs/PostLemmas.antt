-- The head of a filer's request, and what it says.
use Rattle.std.proofs.Common.{◌≡◌, ℕ, ◌+◌, ◌*◌, ◌-◌, ◌<◌, ◌≤◌, Bool, true, false, ◌==◌, List, [], ◌∷◌, ◌++◌, length}
use Rattle.std.proofs.Common.{reverse, take, drop, get_or, refl, sym, ap, ◌∙◌, subst, inl, inr, arith, length-append}
use Rattle.std.proofs.Common.{None, rules}
use Rattle.std.specs.Prelude.{codes, IsTrue, not, IsUtf8, nat_lt, nat_eq, Option, Some, ◌^◌}
use Rattle.std.specs.Char.{is_ascii_digit}
use Rattle.std.specs.Fmt.{decimal}
use Rattle.std.proofs.lemmas.Fmt.{length-decimal-le, IsAscii-decimal}
use Rattle.std.proofs.lemmas.List.{append-nil}
use Rattle.std.specs.List.{list_all, flat_map, ends_with}
use Rattle.std.proofs.lemmas.Bool.{and_parts, cases_lt}
use Rattle.std.proofs.lemmas.Bool.Decides.{nat_tests}
use Rattle.std.proofs.lemmas.Grind.{common_steps}
use Rattle.std.proofs.lemmas.List.{reverse-append, get_or_past}
use Rattle.std.proofs.lemmas.List.Elements.{All-append, All-cons, All-head, All-tail, All-nil, All-weaker}
use Rattle.std.proofs.lemmas.List.Sums.{AllPass-from_list_all, prefix_len_is}
use Rattle.std.proofs.lemmas.Slice.Eq.{bytes_eq-Decides}
use Rattle.std.proofs.lemmas.Str.{IsUtf8-append, IsUtf8-from_ascii}
use Rattle.httparse.specs.Ascii.{space}
use Rattle.httparse.specs.Grammar.{AllPass, is_value_byte, is_uri_byte, skip_ows, trim_ows}
use Rattle.httparse.proofs.TrimLemmas.{trim_ows_space}
use Rattle.http_uri.specs.ByteClasses.{is_path_byte, question_mark, hash_sign, split_once_front, index_of}
use Rattle.http_uri.specs.Grammar.{without_fragment, IsPathAndQuery}
use Rattle.http_uri.specs.Uri.{Spells, uri_path}
use Rattle.http_uri.specs.declared.uri.Uri.{Uri}
use Rattle.key_string.specs.Filer.{is_filer, is_filer_byte}
use Rattle.key_string.specs.Key.{spelling, character, is_escaped, is_printable, IsPrintable}
use Rattle.key_string.proofs.FilerLemmas.{is_filer-IsUtf8}
use Rattle.http_messages.specs.Head.{written_path, before_query}
use Rattle.http_messages.specs.Posting.{IsTarget, resource_of}
use Rattle.http_messages.proofs.ValueLemmas.{decimal-digits}

-- ---- the filer's code

filer-path : (c : ℕ) → IsTrue (is_filer_byte c) → IsTrue (is_path_byte c)
filer-path c h = grind (arith, nat_tests, h)

path-plain : (c : ℕ) → IsTrue (is_path_byte c) → IsTrue (is_value_byte c)
path-plain c h = grind (arith, nat_tests, h)

path-uri : (c : ℕ) → IsTrue (is_path_byte c) → IsTrue (is_uri_byte c)
path-uri c h = grind (arith, nat_tests, h)

path-no_mark : (c : ℕ) → IsTrue (is_path_byte c) → IsTrue (not (c == question_mark))
path-no_mark c h = grind (arith, nat_tests, h)

path-no_hash : (c : ℕ) → IsTrue (is_path_byte c) → IsTrue (not (c == hash_sign))
path-no_hash c h = grind (arith, nat_tests, h)

-- a text without the byte is not cut at it
uncut : (byte : ℕ) (text : List ℕ) → AllPass (λ c. not (c == byte)) text → index_of byte text ≡ length text
uncut byte text all =
    prefix_len_is (λ c. not (c == byte)) text (length text) 0 (omega arith) (λ k low. all k 0 low)
    (λ less. absurd (omega arith))

front-uncut : (byte : ℕ) (text : List ℕ) → AllPass (λ c. not (c == byte)) text → split_once_front byte text ≡ text
front-uncut byte text all = ap (λ n. take n text) (uncut byte text all) ∙ grind (arith, common_steps)

-- a text of ASCII bytes, by its test
ascii-of : (text : List ℕ) → list_all (λ c. nat_lt c 128) text ≡ true → (i : ℕ) → get_or text i 0 < 128
ascii-of text e i = elim (cases_lt i (length text)) [
  | inl low ↦ let here : nat_lt (get_or text i 0) 128 ≡ true =
      AllPass-from_list_all (λ c. nat_lt c 128) text e i 0 low in grind (arith, nat_tests, here)
  | inr past ↦ omega (arith, get_or_past text i 0 past)
]

-- a target that is its own path
written-self : (target path : List ℕ) → before_query target ≡ target → path ≡ target → target ≡ written_path target path
written-self target path whole same =
    let place : length target - length target ≡ 0 = omega arith in
    let self : ends_with nat_eq target target ≡ true =
    (bytes_eq-Decides target (drop (length target - length target) target)).1
    (ap (λ n. drop n target) (sym place)) in
    rw (whole, same, self) refl

abbrev pub target_of : List ℕ → List ℕ
target_of resource = codes "/filings/" ++ resource

-- what may stand behind `/filings/`
pub record IsResource (resource : List ℕ) : Type 0 where
  some : 0 < length resource
  short : length resource ≤ 85
  path : AllPass is_path_byte resource
  utf8 : IsUtf8 resource

digit-path : (c : ℕ) → IsTrue (is_ascii_digit c) → IsTrue (is_path_byte c)
digit-path c h = grind (arith, nat_tests, h)

filer-resource : (filer : List ℕ) → is_filer filer ≡ true
    → (0 < length filer) × (length filer ≤ 64) × AllPass is_path_byte filer × IsUtf8 filer
unfolding is_filer
filer-resource filer is = (
  grind (arith, nat_tests, is),
  grind (arith, nat_tests, is),
  All-weaker (λ c. IsTrue (is_filer_byte c)) (λ c. IsTrue (is_path_byte c)) filer-path filer
      (AllPass-from_list_all is_filer_byte filer (and_parts _ _ is).1),
  is_filer-IsUtf8 filer is,
)

-- a filer's code is such a resource, and so it is with a number behind it
pub IsResource-of : (filer : List ℕ) (target : Option ℕ) → is_filer filer ≡ true → IsTarget target
    → IsResource (resource_of filer target)
IsResource-of filer None is target_is =
    let facts = filer-resource filer is in
    subst IsResource (sym (append-nil filer)) (record {
      some = facts.0;
      short = omega (arith, facts.1);
      path =
          facts.2;
      utf8 = facts.3;
    })
IsResource-of filer (Some n) is target_is =
    let small : n < 2 ^ 64 = omega (arith, target_is.1) in
    let facts = filer-resource filer is in
    let slash : List ℕ = codes "/" in
    let digits : AllPass is_path_byte (decimal n) =
    All-weaker (λ c. IsTrue (is_ascii_digit c)) (λ c. IsTrue (is_path_byte c)) digit-path (decimal n)
    (decimal-digits n small) in
    let size = length-decimal-le 20 n (omega arith) (omega (arith, small)) small in
    record {
      some = omega (arith, facts.0, length-append filer (slash ++ decimal n));
      short = omega (arith, facts.1, length-append filer (slash ++ decimal n), length-append slash (decimal n), size);
      path = All-append (λ c. IsTrue (is_path_byte c)) filer (slash ++ decimal n) facts.2
          (All-append (λ c. IsTrue (is_path_byte c)) slash (decimal n) (AllPass-from_list_all is_path_byte slash refl)
          digits);
      utf8 = IsUtf8-append filer (slash ++ decimal n) facts.3
          (IsUtf8-append slash (decimal n) (IsUtf8-from_ascii slash (ascii-of slash refl))
          (IsUtf8-from_ascii (decimal n) (IsAscii-decimal n small)));
    }

module _ (resource : List ℕ) (is : IsResource resource) where
  pub resource-length : (0 < length resource) × (length resource ≤ 85)
  resource-length = (is.some, is.short)

  target-path : AllPass is_path_byte (target_of resource)
  target-path =
      All-append (λ c. IsTrue (is_path_byte c)) (codes "/filings/") resource
      (AllPass-from_list_all is_path_byte (codes "/filings/") refl) is.path

  pub target-uri : AllPass is_uri_byte (target_of resource)
  target-uri =
      All-weaker (λ c. IsTrue (is_path_byte c)) (λ c. IsTrue (is_uri_byte c)) path-uri (target_of resource) target-path

  target-length : length (target_of resource) ≡ 9 + length resource
  target-length = length-append (codes "/filings/") resource

  pub target-utf8 : IsUtf8 (target_of resource)
  target-utf8 =
      IsUtf8-append (codes "/filings/") resource (IsUtf8-from_ascii (codes "/filings/")
      (ascii-of (codes "/filings/") refl)) is.utf8

  pub resource-value : AllPass is_value_byte resource
  resource-value = All-weaker (λ c. IsTrue (is_path_byte c)) (λ c. IsTrue (is_value_byte c)) path-plain resource is.path

  no_hash : AllPass (λ c. not (c == hash_sign)) (target_of resource)
  no_hash =
      All-weaker (λ c. IsTrue (is_path_byte c)) (λ c. IsTrue (not (c == hash_sign))) path-no_hash (target_of resource)
      target-path

  no_mark : AllPass (λ c. not (c == question_mark)) (target_of resource)
  no_mark =
      All-weaker (λ c. IsTrue (is_path_byte c)) (λ c. IsTrue (not (c == question_mark))) path-no_mark
      (target_of resource) target-path

  target-unfragmented : without_fragment (target_of resource) ≡ target_of resource
  target-unfragmented = front-uncut hash_sign (target_of resource) no_hash

  target-unqueried : split_once_front question_mark (target_of resource) ≡ target_of resource
  target-unqueried = front-uncut question_mark (target_of resource) no_mark

  target-input : IsPathAndQuery (target_of resource)
  target-input =
      let whole : (nat_lt (index_of question_mark (target_of resource)) (length (target_of resource))) ≡ false = let e =
      uncut question_mark (target_of resource) no_mark in grind (arith, nat_tests, e) in
      record {
        start = inr (inr (inl refl));
        path = subst (AllPass is_path_byte) (sym target-unqueried) target-path;
        query = rw whole tt;
        utf8 = target-utf8;
        short = omega (arith, target-length, resource-length);
      }

  -- the target, as a URI
  pub target_uri : Uri
  target_uri =
      record {
        scheme = None;
        authority = None;
        path_and_query = target_of resource;
        absolute =
            search rules;
        authority_alone = search rules;
      }

  pub target-spells : Spells (target_of resource) target_uri
  unfolding target_uri
  target-spells =
      let short : length (target_of resource) ≤ 65534 = omega (arith, target-length, resource-length) in (
        short,
        (
          (
            inr refl,
            record {
              start = inr refl;
              short = short;
              kept =
                  subst IsPathAndQuery (sym target-unfragmented) target-input;
            },
          ),
          sym target-unfragmented,
        ),
      )

  -- and its path
  pub target-written : target_of resource ≡ written_path (target_of resource) (uri_path target_uri)
  unfolding target_uri
  target-written =
      let whole : before_query (target_of resource) ≡ target_of resource =
      ap (split_once_front question_mark) target-unfragmented ∙ target-unqueried in
      let path : uri_path target_uri ≡ target_of resource = let some : (length (target_of resource) == 0) ≡ false =
      let size = target-length in grind (arith, nat_tests, size) in simp (some, target-unqueried) in
      written-self (target_of resource) (uri_path target_uri) whole path

-- ---- the key

printable-value : (c : ℕ) → IsTrue (is_printable c) → IsTrue (is_value_byte c)
printable-value c h = grind (arith, nat_tests, h)

character-by : (c : ℕ) (escaped : Bool) → is_escaped c ≡ escaped → IsTrue (is_printable c)
    → AllPass is_value_byte (character c) × (length (character c) ≤ 2)
character-by c true e h =
    rw e (
      All-cons (λ b. IsTrue (is_value_byte b)) 92 (c ∷ []) refl
          (All-cons (λ b. IsTrue (is_value_byte b)) c [] (printable-value c h)
          (All-nil (λ b. IsTrue (is_value_byte b)))),
      omega arith,
    )
character-by c false e h =
    rw e (
      All-cons (λ b. IsTrue (is_value_byte b)) c [] (printable-value c h) (All-nil (λ b. IsTrue (is_value_byte b))),
      omega arith,
    )

-- they are at most twice as many bytes as characters
characters-value : (text : List ℕ) → IsPrintable text
    → AllPass is_value_byte (flat_map character text) × (length (flat_map character text) ≤ 2 * length text)
characters-value [] all = (All-nil (λ b. IsTrue (is_value_byte b)), omega arith)
characters-value (c ∷ text) all =
    let first = character-by c (is_escaped c) refl (All-head (λ b. IsTrue (is_printable b)) c text all) in
    let rest = characters-value text (All-tail (λ b. IsTrue (is_printable b)) c text all) in (
      All-append (λ b. IsTrue (is_value_byte b)) (character c) (flat_map character text) first.0 rest.0,
      omega (arith, length-append (character c) (flat_map character text), first.1, rest.1),
    )

-- a quote at both ends
quoted : List ℕ → List ℕ
quoted inside = 34 ∷ inside ++ 34 ∷ []

quoted-value : (inside : List ℕ) → AllPass is_value_byte inside → AllPass is_value_byte (quoted inside)
unfolding quoted
quoted-value inside all =
    let test = λ (b : ℕ). IsTrue (is_value_byte b) in
    All-cons test 34 (inside ++ 34 ∷ []) refl (All-append test inside (34 ∷ []) all
    (All-cons test 34 [] refl (All-nil test)))

quoted-field : (inside : List ℕ) → trim_ows (space ∷ quoted inside) ≡ quoted inside
unfolding quoted
quoted-field inside =
    let back : reverse (quoted inside) ≡ 34 ∷ reverse (34 ∷ inside) = reverse-append (34 ∷ inside) (34 ∷ []) in
    trim_ows_space (quoted inside) refl (ap skip_ows back ∙ sym back)

quoted-length : (inside : List ℕ) → length (quoted inside) ≡ length inside + 2
unfolding quoted
quoted-length inside = grind (arith, common_steps)

module _ (key : List ℕ) (printable : IsPrintable key) where
  pub spelling-value : AllPass is_value_byte (spelling key)
  unfolding quoted
  spelling-value = quoted-value (flat_map character key) (characters-value key printable).0

  pub spelling-length : length (spelling key) ≤ 2 * length key + 2
  unfolding quoted
  spelling-length = let size : length (spelling key) ≡ length (flat_map character key) + 2 =
      quoted-length (flat_map character key) in omega (arith, size, (characters-value key printable).1)

-- the String comes back from behind a space
pub spelling-field : (key : List ℕ) → trim_ows (space ∷ spelling key) ≡ spelling key
unfolding quoted
spelling-field key = quoted-field (flat_map character key)
