-- The head of a filer's request is read, and without fault.
use Rattle.std.proofs.Common.{◌≡◌, ℕ, ◌+◌, ◌*◌, ◌^◌, ◌<◌, ◌≤◌, true, false, List, [], ◌∷◌, ◌++◌, length, map, refl, sym}
use Rattle.std.proofs.Common.{ap, ◌∙◌, append_assoc, arith, length-append, None, ◌==◌}
use Rattle.std.specs.Prelude.{codes, IsTrue, nat_lt}
use Rattle.std.specs.Fmt.{decimal}
use Rattle.std.specs.Str.Parse.{digits_value}
use Rattle.std.proofs.lemmas.Bool.Decides.{nat_tests}
use Rattle.std.proofs.lemmas.List.{append-nil}
use Rattle.std.proofs.lemmas.List.Elements.{All-from_recursion, All-cons, All-append}
use Rattle.std.proofs.lemmas.List.Sums.{AllPass-from_list_all}
use Rattle.std.proofs.lemmas.Fmt.{length-decimal-le}
use Rattle.httparse.specs.Ascii.{space, crlf_bytes}
use Rattle.httparse.specs.Grammar.{AllPass, is_value_byte, is_token_byte, trim_ows, Field, IsField, crlf, RequestHead}
use Rattle.httparse.specs.Grammar.{IsRequestHead, ReadsRequest, print_request}
use Rattle.httparse.specs.Spans.{name_and_value}
use Rattle.httparse.proofs.GrammarLemmas.{cons-append}
use Rattle.key_string.specs.Key.{spelling, IsKey}
use Rattle.http_messages.specs.Block.{BeginsBlock}
use Rattle.http_messages.specs.Head.{ReadsHead, IsHead, lengths, agree, agreed_number, is_number, body_length}
use Rattle.http_messages.specs.Head.{framing_fault, max_body_len}
use Rattle.http_messages.specs.Posting.{post_line, key_line, render_post_head, post_parts}
use Rattle.http_messages.specs.Reply.{line, length_line}
use Rattle.http_messages.proofs.LineLemmas.{IsLines, IsLines-line, IsLines-join, HasPlainLines-of_lines}
use Rattle.http_messages.proofs.LineLemmas.{BeginsBlock-of_lines}
use Rattle.http_messages.proofs.PostLemmas.{IsResource, target_uri, target-uri, target-utf8, resource-value}
use Rattle.http_messages.proofs.PostLemmas.{resource-length, target-spells, target-written, spelling-value}
use Rattle.http_messages.proofs.PostLemmas.{spelling-length, spelling-field}
use Rattle.http_messages.proofs.ValueLemmas.{decimal-solid, decimal-value, decimal-number, decimal-read, trim_ows-field}
use Rattle.http_messages.proofs.ValueLemmas.{comma_parts-solid}

-- a field as the request writes it: a space, and the value
abbrev pub spaced : List ℕ → List ℕ → Field
spaced name value = record { name = name; raw = space ∷ value; end = crlf }

-- the head in the grammar
pub post_head : List ℕ → List ℕ → ℕ → RequestHead
post_head resource key len = record {
  blank = [];
  method = codes "POST";
  target = codes "/filings/" ++ resource;
  minor = 1;
  line_end = crlf;
  fields =
      spaced (codes "Host") (codes "localhost")
      ∷ spaced (codes "Idempotency-Key") (spelling key)
      ∷ spaced (codes "Content-Type") (codes "application/json")
      ∷ spaced (codes "Content-Length") (decimal len)
      ∷ spaced (codes "Connection") (codes "close")
      ∷ [];
  last = crlf;
}

-- the bytes of a head of five fields, and of the lines that are written, without brackets
module _ (method target n₁ v₁ n₂ v₂ n₃ v₃ n₄ v₄ n₅ v₅ : List ℕ) where
  abbrev five_fields : RequestHead
  five_fields =
      record {
        blank = [];
        method = method;
        target = target;
        minor = 1;
        line_end = crlf;
        fields =
            spaced n₁ v₁ ∷ spaced n₂ v₂ ∷ spaced n₃ v₃ ∷ spaced n₄ v₄ ∷ spaced n₅ v₅ ∷ [];
        last = crlf;
      }

  abbrev flat : List ℕ
  flat =
      method ++ (space ∷ (target ++ (space ∷ (codes "HTTP/1.1" ++ (crlf_bytes
      ++ (n₁ ++ (58 ∷ space ∷ (v₁ ++ (crlf_bytes
      ++ (n₂ ++ (58 ∷ space ∷ (v₂ ++ (crlf_bytes
      ++ (n₃ ++ (58 ∷ space ∷ (v₃ ++ (crlf_bytes
      ++ (n₄ ++ (58 ∷ space ∷ (v₄ ++ (crlf_bytes
      ++ (n₅ ++ (58 ∷ space ∷ (v₅ ++ (crlf_bytes ++ crlf_bytes)))))))))))))))))))))))))

  five-print : print_request five_fields ≡ flat
  unfolding print_request
  five-print = simp (append_assoc, cons-append)

lines-flat : (c₁ f c₂ h c₃ s t c₄ d k e : List ℕ)
    → c₁ ++ f ++ c₂ ++ e ++ (h ++ e) ++ (c₃ ++ s ++ e) ++ (t ++ e) ++ (c₄ ++ d ++ e) ++ (k ++ e) ++ e
    ≡ c₁ ++ (f
    ++ (c₂ ++ (e ++ (h ++ (e ++ (c₃ ++ (s ++ (e ++ (t ++ (e ++ (c₄ ++ (d ++ (e ++ (k ++ (e ++ e)))))))))))))))
lines-flat c₁ f c₂ h c₃ s t c₄ d k e = simp append_assoc

-- it writes these bytes
post_head-print : (resource key : List ℕ) (len : ℕ)
    → render_post_head resource key len ≡ print_request (post_head resource key len)
unfolding post_head render_post_head post_line key_line length_line
post_head-print resource key len =
    lines-flat (codes "POST /filings/") resource (codes " HTTP/1.1") (codes "Host: localhost")
    (codes "Idempotency-Key: ") (spelling key) (codes "Content-Type: application/json") (codes "Content-Length: ")
    (decimal len) (codes "Connection: close") (codes "\r\n")
    ∙ sym (five-print (codes "POST") (codes "/filings/" ++ resource) (codes "Host") (codes "localhost")
    (codes "Idempotency-Key") (spelling key) (codes "Content-Type") (codes "application/json")
    (codes "Content-Length") (decimal len) (codes "Connection") (codes "close"))

pub IsField-spaced : (name value : List ℕ) → 0 < length name → AllPass is_token_byte name → AllPass is_value_byte value
    → IsField (spaced name value)
IsField-spaced name value some token all = record {
  name = (some, token);
  raw = All-cons (λ b. IsTrue (is_value_byte b)) space value refl all;
}

module _ (resource key : List ℕ) (len : ℕ) (resource_is : IsResource resource) (key_is : IsKey key)
    (small : len < 2 ^ 64) where
  post_head-grammar : IsRequestHead (post_head resource key len)
  unfolding post_head is_token_byte
  post_head-grammar = record {
    method = (omega arith, AllPass-from_list_all is_token_byte (codes "POST") refl);
    target = (omega (arith, length-append (codes "/filings/") resource), target-uri resource resource_is);
    target_text = target-utf8 resource resource_is;
    minor = omega arith;
    fields = All-from_recursion IsField (post_head resource key len).fields (
      IsField-spaced (codes "Host") (codes "localhost") (omega arith)
          (AllPass-from_list_all is_token_byte (codes "Host") refl)
          (AllPass-from_list_all is_value_byte (codes "localhost") refl),
      (
        IsField-spaced (codes "Idempotency-Key") (spelling key) (omega arith)
            (AllPass-from_list_all is_token_byte (codes "Idempotency-Key") refl) (spelling-value key key_is.printable),
        (
          IsField-spaced (codes "Content-Type") (codes "application/json") (omega arith)
              (AllPass-from_list_all is_token_byte (codes "Content-Type") refl)
              (AllPass-from_list_all is_value_byte (codes "application/json") refl),
          (
            IsField-spaced (codes "Content-Length") (decimal len) (omega arith)
                (AllPass-from_list_all is_token_byte (codes "Content-Length") refl) (decimal-value len small),
            (
              IsField-spaced (codes "Connection") (codes "close") (omega arith)
                  (AllPass-from_list_all is_token_byte (codes "Connection") refl)
                  (AllPass-from_list_all is_value_byte (codes "close") refl),
              tt,
            ),
          ),
        ),
      ),
    );
  }

  post_head-reads : ReadsRequest (render_post_head resource key len) (post_head resource key len) []
  post_head-reads = (
    post_head-grammar,
    post_head-print resource key len
        ∙ sym (append-nil (print_request (post_head resource key len))),
  )

five : {a b c d e v w x y z : List ℕ × List ℕ} → a ≡ v → b ≡ w → c ≡ x → d ≡ y → e ≡ z
    → a ∷ b ∷ c ∷ d ∷ e ∷ [] ≡ v ∷ w ∷ x ∷ y ∷ z ∷ []
five p q r s t = cc

pub agree-one : (part : List ℕ) → is_number part ≡ true → agree (part ∷ []) ≡ true
agree-one part is =
    let same : (digits_value 10 part == digits_value 10 part) ≡ true = grind (arith, nat_tests) in
    rw (is, same) refl

-- ---- its lines

lines-length : (c₁ f c₂ h c₃ s t c₄ d k e : List ℕ)
    → length (c₁ ++ f ++ c₂ ++ e ++ (h ++ e) ++ (c₃ ++ s ++ e) ++ (t ++ e) ++ (c₄ ++ d ++ e) ++ (k ++ e) ++ e)
    ≡ length c₁ + length f + length c₂ + length h + length c₃ + length s + length t + length c₄ + length d + length k
    + 7 * length e
lines-length c₁ f c₂ h c₃ s t c₄ d k e = simp length-append (omega arith)

-- the lines before the empty one
post_lines : List ℕ → List ℕ → ℕ → List ℕ
post_lines resource key len =
    line (codes "POST /filings/" ++ resource ++ codes " HTTP/1.1")
    ++ line (codes "Host: localhost")
    ++ line (codes "Idempotency-Key: " ++ spelling key)
    ++ line (codes "Content-Type: application/json")
    ++ line (codes "Content-Length: " ++ decimal len)
    ++ line (codes "Connection: close")

abbrev IsValueByte : ℕ → Type 0
IsValueByte b = IsTrue (is_value_byte b)

module _ (resource key : List ℕ) (len : ℕ) (resource_is : IsResource resource) (key_is : IsKey key)
    (fits : len ≤ max_body_len) where
  small : len < 2 ^ 64
  small = omega (arith, fits)

  post_lines-are : IsLines (post_lines resource key len)
  unfolding post_lines
  post_lines-are =
      let all = λ (text : List ℕ). AllPass-from_list_all is_value_byte text in
      IsLines-join _ _
      (IsLines-join _ _
      (IsLines-join _ _
      (IsLines-join _ _
      (IsLines-join _ _
      (IsLines-line (codes "POST /filings/" ++ resource ++ codes " HTTP/1.1")
      (All-append IsValueByte (codes "POST /filings/" ++ resource) (codes " HTTP/1.1")
      (All-append IsValueByte (codes "POST /filings/") resource (all (codes "POST /filings/") refl)
      (resource-value resource resource_is)) (all (codes " HTTP/1.1") refl)) (omega arith))
      (IsLines-line (codes "Host: localhost") (all (codes "Host: localhost") refl) (omega arith)))
      (IsLines-line (codes "Idempotency-Key: " ++ spelling key)
      (All-append IsValueByte (codes "Idempotency-Key: ") (spelling key) (all (codes "Idempotency-Key: ") refl)
      (spelling-value key key_is.printable)) (omega arith)))
      (IsLines-line (codes "Content-Type: application/json") (all (codes "Content-Type: application/json") refl)
      (omega arith)))
      (IsLines-line (codes "Content-Length: " ++ decimal len)
      (All-append IsValueByte (codes "Content-Length: ") (decimal len) (all (codes "Content-Length: ") refl)
      (decimal-value len small)) (omega arith)))
      (IsLines-line (codes "Connection: close") (all (codes "Connection: close") refl) (omega arith))

  post_lines-head : render_post_head resource key len ≡ post_lines resource key len ++ crlf_bytes
  unfolding post_lines render_post_head post_line key_line length_line
  post_lines-head = refl

  post_lines-short : length (post_lines resource key len) + 2 ≤ 16384
  unfolding post_lines
  post_lines-short =
      let size =
      lines-length (codes "POST /filings/") resource (codes " HTTP/1.1") (codes "Host: localhost")
      (codes "Idempotency-Key: ") (spelling key) (codes "Content-Type: application/json") (codes "Content-Length: ")
      (decimal len) (codes "Connection: close") (codes "\r\n") in
      let number = length-decimal-le 7 len (omega arith) (omega (arith, fits)) small in
      let join = length-append (post_lines resource key len) crlf_bytes in
      omega (
        arith,
        size,
        number,
        join,
        resource-length resource resource_is,
        spelling-length key key_is.printable,
        key_is.short,
      )

  -- the head is one block
  pub post_head-block : BeginsBlock (render_post_head resource key len) (length (render_post_head resource key len))
  post_head-block =
      let size : length (post_lines resource key len ++ crlf_bytes) ≡ length (post_lines resource key len) + 2 =
      length-append (post_lines resource key len) crlf_bytes in
      rw (post_lines-head, size) (BeginsBlock-of_lines (post_lines resource key len) post_lines-are post_lines-short)

  -- and it is read
  post_head-fields : (post_parts resource key len).fields ≡ map name_and_value (post_head resource key len).fields
  unfolding post_head trim_ows
  post_head-fields =
      five refl (ap (λ v. (codes "Idempotency-Key", v)) (sym (spelling-field key))) refl
      (ap (λ v. (codes "Content-Length", v)) (sym (trim_ows-field (decimal len) (decimal-solid len small)))) refl

  post_head-is_read : ReadsHead (render_post_head resource key len) (post_parts resource key len)
  unfolding post_head
  post_head-is_read = record {
    lines = rw post_lines-head (HasPlainLines-of_lines (post_lines resource key len) post_lines-are);
    head = post_head resource key len;
    reads = post_head-reads resource key len resource_is key_is small;
    few = omega arith;
    target = target_uri resource resource_is;
    spells = target-spells resource resource_is;
    method = refl;
    path = target-written resource resource_is;
    minor = refl;
    fields = post_head-fields;
  }

  post_parts-lengths : lengths (post_parts resource key len) ≡ decimal len ∷ []
  post_parts-lengths = ap (λ l. l ++ []) (comma_parts-solid (decimal len) (decimal-solid len small))

  pub post_parts-body_length : body_length (post_parts resource key len) ≡ len
  post_parts-body_length = ap agreed_number post_parts-lengths ∙ decimal-read len small

  post_parts-sound : framing_fault (post_parts resource key len) ≡ None
  post_parts-sound =
      let agreed : agree (lengths (post_parts resource key len)) ≡ true =
      ap agree post_parts-lengths ∙ agree-one (decimal len) (decimal-number len small) in
      let length_is : body_length (post_parts resource key len) ≡ len = post_parts-body_length in
      let short : nat_lt max_body_len len ≡ false = grind (arith, nat_tests, fits) in
      rw (agreed, length_is, short) refl

  pub post_head-is : IsHead (render_post_head resource key len) (post_parts resource key len)
  post_head-is = record { reads = post_head-is_read; sound = post_parts-sound }
