-- A POST to a filer's path with a key files a request, which replaces the filing whose number is behind the filer's
-- code.
use Rattle.std.proofs.Common.{◌≡◌, ℕ, suc, ◌+◌, ◌^◌, ◌<◌, ◌≤◌, true, false, List, [], ◌∷◌, ◌++◌, length, take, drop}
use Rattle.std.proofs.Common.{Option, Some, None, refl, ap, ◌∙◌, arith, length-append, append-nil, ◌==◌}
use Rattle.std.specs.Prelude.{codes, bytes_eq, nat_eq, nat_le, nat_lt, ◌&&◌}
use Rattle.std.specs.Fmt.{decimal}
use Rattle.std.specs.List.{list_all}
use Rattle.std.specs.Str.Parse.{digits_value}
use Rattle.std.proofs.lemmas.Bool.{and_parts}
use Rattle.std.proofs.lemmas.Bool.Decides.{nat_tests}
use Rattle.std.proofs.lemmas.Grind.{common_steps}
use Rattle.std.proofs.lemmas.Slice.Eq.{bytes_eq-Decides}
use Rattle.http_uri.specs.ByteClasses.{split_once_front, index_of}
use Rattle.key_string.specs.Filer.{is_filer, is_filer_byte}
use Rattle.key_string.specs.Key.{IsKey, spelling}
use Rattle.key_string.proofs.Fields.{key_of_field-spelled}
use Rattle.http_messages.specs.Coding.{has_content_coding}
use Rattle.http_messages.specs.Head.{RequestParts, values_named}
use Rattle.http_messages.specs.Posting.{IsTarget, resource_of}
use Rattle.http_messages.specs.Request.{Request as Message}
use Rattle.http_messages.proofs.ValueLemmas.{decimal-read}
use Rattle.filing_model.specs.Text.{Route, FileReport, target_in, resource_in, resource_of_path, route_by_key}
use Rattle.filing_model.specs.Text.{route_by_keys, route_by_method, route_by_resource, bare, route}

-- ---- the resource in a path

filer-bytes : (filer : List ℕ) → is_filer filer ≡ true → list_all is_filer_byte filer ≡ true
unfolding is_filer
filer-bytes filer is = (and_parts _ _ is).1

index-filer : (filer rest : List ℕ) → list_all is_filer_byte filer ≡ true
    → index_of 47 (filer ++ 47 ∷ rest) ≡ length filer
index-filer [] rest all = refl
index-filer (c ∷ filer) rest all =
    let here : is_filer_byte c ≡ true = (and_parts _ _ all).0 in
    let other : (c == 47) ≡ false = grind (arith, nat_tests, here) in
    rw other (ap (λ n. 1 + n) (index-filer filer rest (and_parts _ _ all).1) ∙ omega arith)

index-alone : (filer : List ℕ) → list_all is_filer_byte filer ≡ true → index_of 47 filer ≡ length filer
index-alone [] all = refl
index-alone (c ∷ filer) all =
    let here : is_filer_byte c ≡ true = (and_parts _ _ all).0 in
    let other : (c == 47) ≡ false = grind (arith, nat_tests, here) in
    rw other (ap (λ n. 1 + n) (index-alone filer (and_parts _ _ all).1) ∙ omega arith)

front-filer : (filer rest : List ℕ) → list_all is_filer_byte filer ≡ true
    → split_once_front 47 (filer ++ 47 ∷ rest) ≡ filer
front-filer filer rest all =
    ap (λ n. take n (filer ++ 47 ∷ rest)) (index-filer filer rest all) ∙ grind (arith, common_steps)

front-alone : (filer : List ℕ) → list_all is_filer_byte filer ≡ true → split_once_front 47 filer ≡ filer
front-alone filer all = ap (λ n. take n filer) (index-alone filer all) ∙ grind (arith, common_steps)

drop-past : (xs ys : List ℕ) (c : ℕ) → drop (length xs + 1) (xs ++ c ∷ ys) ≡ ys
drop-past [] ys c = refl
drop-past (x ∷ xs) ys c = ap (λ k. drop k (x ∷ xs ++ c ∷ ys)) (moved (length xs)) ∙ drop-past xs ys c
  where
    moved : (k : ℕ) → suc k + 1 ≡ suc (k + 1)
    moved k = omega arith

unequal : (a b : ℕ) → a < b → nat_eq a b ≡ false
unequal a b h = grind (arith, nat_tests, h)

-- a number is read as it was written
target_in-decimal : (n : ℕ) → 1 ≤ n → n < 2 ^ 63 → target_in (decimal n) ≡ Some n
target_in-decimal n low high =
    let value : digits_value 10 (decimal n) ≡ n = decimal-read n (omega (arith, high)) in
    let same : bytes_eq (decimal n) (decimal n) ≡ true = (bytes_eq-Decides (decimal n) (decimal n)).1 refl in
    let fits : (nat_le 1 n && nat_lt n (2 ^ 63)) ≡ true = grind (arith, nat_tests, low, high) in
    rw (value, same, fits) refl

resource_in-resource : (filer : List ℕ) (target : Option ℕ) → is_filer filer ≡ true → IsTarget target
    → resource_in (resource_of filer target) ≡ Some (filer, target)
resource_in-resource filer None is number =
    let all = filer-bytes filer is in
    let whole : nat_eq (length filer) (length filer) ≡ true = grind (arith, nat_tests) in
    ap resource_in (append-nil filer) ∙ rw (front-alone filer all, is, whole) refl
resource_in-resource filer (Some n) is number =
    let all = filer-bytes filer is in
    let size : length (filer ++ 47 ∷ decimal n) ≡ length filer + length (47 ∷ decimal n) =
    length-append filer (47 ∷ decimal n) in
    let longer : nat_eq (length filer) (length (filer ++ 47 ∷ decimal n)) ≡ false =
    unequal (length filer) (length (filer ++ 47 ∷ decimal n)) (omega (arith, size)) in
    let rest : drop (length filer + 1) (filer ++ 47 ∷ decimal n) ≡ decimal n = drop-past filer (decimal n) 47 in
    rw (front-filer filer (decimal n) all, is, longer, rest, target_in-decimal n number.0 number.1) refl

-- ---- the route

-- what makes a head that of a POST to this resource under this key
pub record IsPost (head : RequestParts) (filer : List ℕ) (target : Option ℕ) (key : List ℕ) : Type 0 where
  pub method : head.method ≡ codes "POST"
  pub path : head.path ≡ codes "/filings/" ++ resource_of filer target
  pub keys : values_named (codes "idempotency-key") head.fields ≡ spelling key ∷ []
  pub uncoded : has_content_coding head ≡ false

module _ (m : Message) (filer : List ℕ) (target : Option ℕ) (key : List ℕ) (filer_is : is_filer filer ≡ true)
    (target_is : IsTarget target) (key_is : IsKey key) (post : IsPost m.head filer target key) where
  abbrev filed : Route
  filed = FileReport (record { filer = filer; key = key; target = target; body = m.body })

  by_key : route_by_keys filer target (values_named (codes "idempotency-key") m.head.fields) m.body ≡ filed
  by_key =
      ap (λ values. route_by_keys filer target values m.body) post.keys
      ∙ ap (λ key. route_by_key filer target key m.body)
      (key_of_field-spelled (spelling key) key (record { printable = key_is.printable; spelled = refl }) key_is)

  by_method : route_by_method filer target m ≡ filed
  by_method = rw (post.method, post.uncoded) by_key

  pub route-post : route m ≡ filed
  unfolding route
  route-post =
      ap (λ method. bare (bytes_eq method (codes "HEAD")) (route_by_resource (resource_of_path m.head.path) m))
      post.method
      ∙ ap (λ path. route_by_resource (resource_of_path path) m) post.path
      ∙ ap (λ resource. route_by_resource resource m) (resource_in-resource filer target filer_is target_is)
      ∙ by_method
