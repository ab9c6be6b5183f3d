-- What is written of a reply is read as this reply.
use Rattle.std.proofs.Common.{◌≡◌, ◌≢◌, ℕ, ◌+◌, ◌*◌, ◌^◌, ◌<◌, ◌≤◌, Bool, true, false, List, [], ◌∷◌, ◌++◌, length}
use Rattle.std.proofs.Common.{take, map, refl, sym, ap, ◌∙◌, subst, append_assoc, arith, length-append, Some, ◌==◌}
use Rattle.std.specs.Prelude.{codes, All, IsTrue, nat_lt, slice_range, unwrap_or, if◌then◌else◌}
use Rattle.std.specs.Fmt.{decimal}
use Rattle.std.specs.List.{flat_map}
use Rattle.std.proofs.lemmas.Bool.Decides.{nat_tests}
use Rattle.std.proofs.lemmas.Grind.{common_steps, flat_map-append}
use Rattle.std.proofs.lemmas.List.{append-nil}
use Rattle.std.proofs.lemmas.List.Elements.{All-cons, All-append, All-nil}
use Rattle.std.proofs.lemmas.List.Sums.{AllPass-from_list_all}
use Rattle.std.proofs.lemmas.Fmt.{length-decimal-le}
use Rattle.httparse.specs.Ascii.{space, crlf_bytes}
use Rattle.httparse.specs.Grammar.{AllPass, is_value_byte, is_token_byte, trim_ows, Field, IsField, crlf, print_field}
use Rattle.httparse.specs.Grammar.{ResponseHead, IsResponseHead, print_response}
use Rattle.httparse.specs.Spans.{name_and_value}
use Rattle.httparse.proofs.GrammarLemmas.{cons-append}
use Rattle.http_messages.specs.Block.{BeginsBlock}
use Rattle.http_messages.specs.Head.{values_named, parts_named, comma_parts, agree, agreed_number}
use Rattle.http_messages.specs.declared.reply.Kind.{Kind}
use Rattle.http_messages.specs.declared.reply.Kind.TheVariants.{Json, Problem}
use Rattle.http_messages.specs.Reply.{ReplyParts, media_type, phrase, line, only_if, status_line, length_line}
use Rattle.http_messages.specs.Reply.{render_head, render}
use Rattle.http_messages.specs.Response.{kind_of, ResponseParts, ReadsResponseHead, BeginsInterims, DeclaresContent}
use Rattle.http_messages.specs.Response.{SpellsReply, IsReadable, max_content_len}
use Rattle.http_messages.proofs.AloneLemmas.{IsBlockEnd-of_block, block-of_block}
use Rattle.http_messages.proofs.LineLemmas.{IsLines, IsLines-line, IsLines-join, HasPlainLines-of_lines}
use Rattle.http_messages.proofs.LineLemmas.{BeginsBlock-of_lines}
use Rattle.http_messages.proofs.PostHead.{spaced, IsField-spaced, agree-one}
use Rattle.http_messages.proofs.ReplyHead.{IsFit, IsFit-of_phrase}
use Rattle.http_messages.proofs.UniqueReply.{SpellsReply-front}
use Rattle.http_messages.proofs.ValueLemmas.{decimal-digits, decimal-solid, decimal-value, decimal-number, decimal-read}
use Rattle.http_messages.proofs.ValueLemmas.{trim_ows-field, comma_parts-solid}

-- a field, where the test holds
abbrev field_if : Bool → Field → List Field
field_if test f = if test then f ∷ [] else []

flat-if : (test : Bool) (f : Field) → flat_map print_field (field_if test f) ≡ only_if test (print_field f)
flat-if true f = append-nil (print_field f)
flat-if false f = refl

flat-fields : (f g : Field) (a b : Bool) (x y : Field)
    → flat_map print_field (f ∷ g ∷ (field_if a x ++ field_if b y)) ≡ print_field f
    ++ (print_field g ++ (only_if a (print_field x) ++ only_if b (print_field y)))
flat-fields f g a b x y =
    let rest = flat_map-append print_field (field_if a x) (field_if b y) in
    let left = flat-if a x in
    let right = flat-if b y in
    let both : flat_map print_field (field_if a x ++ field_if b y) ≡ only_if a (print_field x)
    ++ only_if b (print_field y) = cc in
    ap (λ l. print_field f ++ (print_field g ++ l)) both

-- the fields of a reply
abbrev type_field : Kind → Field
type_field kind = spaced (codes "Content-Type") (media_type kind)

abbrev length_field : ℕ → Field
length_field len = spaced (codes "Content-Length") (decimal len)

abbrev allow_field : Field
allow_field = spaced (codes "Allow") (codes "GET, POST")

abbrev close_field : Field
close_field = spaced (codes "Connection") (codes "close")

pub reply_fields : Kind → ℕ → Bool → Bool → List Field
reply_fields kind len allow close =
    type_field kind ∷ length_field len ∷ (field_if allow allow_field ++ field_if close close_field)

-- the head in the grammar
pub reply_head : ℕ → List ℕ → Kind → ℕ → Bool → Bool → ResponseHead
reply_head status text kind len allow close = record {
  blank = [];
  minor = 1;
  digits = decimal status;
  reason = Some text;
  line_end = crlf;
  fields = reply_fields kind len allow close;
  last = crlf;
}

-- the lines before the empty one
pub reply_lines : ℕ → List ℕ → Kind → ℕ → Bool → Bool → List ℕ
reply_lines status text kind len allow close =
    line (codes "HTTP/1.1 " ++ decimal status ++ codes " " ++ text)
    ++ line (codes "Content-Type: " ++ media_type kind)
    ++ line (codes "Content-Length: " ++ decimal len)
    ++ only_if allow (line (codes "Allow: GET, POST"))
    ++ only_if close (line (codes "Connection: close"))

start-flat : (version digits text e : List ℕ)
    → version ++ (space ∷ []) ++ digits ++ (space ∷ []) ++ text ++ e ≡ [] ++ version ++ (space ∷ digits)
    ++ (space ∷ text) ++ e
start-flat version digits text e = simp (append_assoc, cons-append)

lines-flat : (s a b c d e : List ℕ) → s ++ a ++ b ++ c ++ d ++ e ≡ s ++ (a ++ (b ++ (c ++ d)) ++ e)
lines-flat s a b c d e = simp append_assoc

pub reply_head-print : (status : ℕ) (text : List ℕ) (kind : Kind) (len : ℕ) (allow close : Bool)
    → reply_lines status text kind len allow close ++ crlf_bytes
    ≡ print_response (reply_head status text kind len allow close)
unfolding reply_lines reply_head reply_fields print_response
reply_head-print status text kind len allow close =
    let first = start-flat (codes "HTTP/1.1") (decimal status) text crlf_bytes in
    let fields = flat-fields (type_field kind) (length_field len) allow close allow_field close_field in
    lines-flat (line (codes "HTTP/1.1 " ++ decimal status ++ codes " " ++ text))
    (line (codes "Content-Type: " ++ media_type kind)) (line (codes "Content-Length: " ++ decimal len))
    (only_if allow (line (codes "Allow: GET, POST"))) (only_if close (line (codes "Connection: close"))) crlf_bytes
    ∙ ap (λ l. l ++ (line (codes "Content-Type: " ++ media_type kind)
    ++ (line (codes "Content-Length: " ++ decimal len)
    ++ (only_if allow (line (codes "Allow: GET, POST")) ++ only_if close (line (codes "Connection: close"))))
    ++ crlf_bytes)) first
    ∙ ap (λ l. [] ++ codes "HTTP/1.1" ++ (space ∷ decimal status) ++ (space ∷ text) ++ crlf_bytes ++ (l ++ crlf_bytes))
    (sym fields)

head-written : (reply : ReplyParts) (close : Bool) → 0 < length reply.content
    → render_head reply close ≡ reply_lines reply.status (unwrap_or (phrase reply.status) []) reply.kind
    (length reply.content) (reply.status == 405) close ++ crlf_bytes
unfolding render_head status_line length_line reply_lines
head-written reply close some =
    let test : nat_lt 0 (length reply.content) ≡ true = grind (arith, nat_tests, some) in
    rw test refl

IsLines-if : (xs text : List ℕ) (test : Bool) → IsLines xs → IsLines (line text)
    → IsLines (xs ++ only_if test (line text))
IsLines-if xs text true a b = IsLines-join xs (line text) a b
IsLines-if xs text false a b = subst IsLines (sym (append-nil xs)) a

length-if : (test : Bool) (text : List ℕ) → length (only_if test text) ≤ length text
length-if true text = omega arith
length-if false text = omega arith

fields-few : (kind : Kind) (len : ℕ) (allow close : Bool) → length (reply_fields kind len allow close) ≤ 64
unfolding reply_fields
fields-few kind len true true = omega arith
fields-few kind len true false = omega arith
fields-few kind len false true = omega arith
fields-few kind len false false = omega arith

-- what the fields say of the content
fields-uncoded : (kind : Kind) (len : ℕ) (allow close : Bool)
    → values_named (codes "transfer-encoding") (map name_and_value (reply_fields kind len allow close)) ≡ []
unfolding reply_fields
fields-uncoded kind len true true = refl
fields-uncoded kind len true false = refl
fields-uncoded kind len false true = refl
fields-uncoded kind len false false = refl

fields-length : (kind : Kind) (len : ℕ) (allow close : Bool)
    → values_named (codes "content-length") (map name_and_value (reply_fields kind len allow close))
    ≡ trim_ows (space ∷ decimal len) ∷ []
unfolding reply_fields
fields-length kind len true true = refl
fields-length kind len true false = refl
fields-length kind len false true = refl
fields-length kind len false false = refl

-- and of what it is
fields-kind : (kind : Kind) (len : ℕ) (allow close : Bool)
    → kind_of (map name_and_value (reply_fields kind len allow close)) ≡ kind
unfolding reply_fields trim_ows
fields-kind Json len true true = refl
fields-kind Json len true false = refl
fields-kind Json len false true = refl
fields-kind Json len false false = refl
fields-kind Problem len true true = refl
fields-kind Problem len true false = refl
fields-kind Problem len false true = refl
fields-kind Problem len false false = refl

media-value : (kind : Kind) → AllPass is_value_byte (media_type kind)
media-value Json = AllPass-from_list_all is_value_byte (codes "application/json") refl
media-value Problem = AllPass-from_list_all is_value_byte (codes "application/problem+json") refl

media-length : (kind : Kind) → length (media_type kind) ≤ 24
media-length Json = omega arith
media-length Problem = omega arith

All-if : (test : Bool) (f : Field) → IsField f → All IsField (field_if test f)
All-if true f is = All-cons IsField f [] is (All-nil IsField)
All-if false f is = All-nil IsField

lines-length : (c₁ d c₂ t k c₃ n x y e : List ℕ)
    → length (c₁ ++ d ++ c₂ ++ t ++ e ++ (k ++ e) ++ (c₃ ++ n ++ e) ++ x ++ y)
    ≡ length c₁ + length d + length c₂ + length t + length k + length c₃ + length n + length x + length y + 3
    * length e
lines-length c₁ d c₂ t k c₃ n x y e = simp length-append (omega arith)

module _ (status : ℕ) (text : List ℕ) (kind : Kind) (len : ℕ) (allow close : Bool) (fit : IsFit status text)
    (fits : len ≤ max_content_len) where
  small : len < 2 ^ 64
  small = omega (arith, fits)

  small_status : status < 2 ^ 64
  small_status = omega (arith, fit.high)

  text-value : AllPass is_value_byte text
  text-value = AllPass-from_list_all is_value_byte text fit.plain

  fields-grammar : All IsField (reply_fields kind len allow close)
  unfolding reply_fields is_token_byte
  fields-grammar =
      let all = λ (words : List ℕ). AllPass-from_list_all is_value_byte words in
      All-cons IsField (type_field kind) (length_field len ∷ (field_if allow allow_field ++ field_if close close_field))
      (IsField-spaced (codes "Content-Type") (media_type kind) (omega arith)
      (AllPass-from_list_all is_token_byte (codes "Content-Type") refl) (media-value kind))
      (All-cons IsField (length_field len) (field_if allow allow_field ++ field_if close close_field)
      (IsField-spaced (codes "Content-Length") (decimal len) (omega arith)
      (AllPass-from_list_all is_token_byte (codes "Content-Length") refl) (decimal-value len small))
      (All-append IsField (field_if allow allow_field) (field_if close close_field)
      (All-if allow allow_field (IsField-spaced (codes "Allow") (codes "GET, POST") (omega arith)
      (AllPass-from_list_all is_token_byte (codes "Allow") refl) (all (codes "GET, POST") refl)))
      (All-if close close_field (IsField-spaced (codes "Connection") (codes "close") (omega arith)
      (AllPass-from_list_all is_token_byte (codes "Connection") refl) (all (codes "close") refl)))))

  reply_head-grammar : IsResponseHead (reply_head status text kind len allow close)
  unfolding reply_head
  reply_head-grammar = record {
    minor = omega arith;
    digits = (fit.digits, decimal-digits status small_status);
    reason = text-value;
    fields = fields-grammar;
  }

  reply_lines-are : IsLines (reply_lines status text kind len allow close)
  unfolding reply_lines
  reply_lines-are =
      let all = λ (words : List ℕ). AllPass-from_list_all is_value_byte words in
      let P = λ (b : ℕ). IsTrue (is_value_byte b) in
      IsLines-if _ (codes "Connection: close") close
      (IsLines-if _ (codes "Allow: GET, POST") allow
      (IsLines-join _ _
      (IsLines-join _ _
      (IsLines-line (codes "HTTP/1.1 " ++ decimal status ++ codes " " ++ text)
      (All-append P (codes "HTTP/1.1 " ++ decimal status ++ codes " ") text
      (All-append P (codes "HTTP/1.1 " ++ decimal status) (codes " ")
      (All-append P (codes "HTTP/1.1 ") (decimal status) (all (codes "HTTP/1.1 ") refl)
      (decimal-value status small_status)) (all (codes " ") refl)) text-value)
      (omega arith))
      (IsLines-line (codes "Content-Type: " ++ media_type kind)
      (All-append P (codes "Content-Type: ") (media_type kind) (all (codes "Content-Type: ") refl)
      (media-value kind)) (omega arith)))
      (IsLines-line (codes "Content-Length: " ++ decimal len)
      (All-append P (codes "Content-Length: ") (decimal len) (all (codes "Content-Length: ") refl)
      (decimal-value len small)) (omega arith)))
      (IsLines-line (codes "Allow: GET, POST") (all (codes "Allow: GET, POST") refl) (omega arith)))
      (IsLines-line (codes "Connection: close") (all (codes "Connection: close") refl) (omega arith))

  reply_lines-short : length (reply_lines status text kind len allow close) + 2 ≤ 16384
  unfolding reply_lines
  reply_lines-short =
      let size =
      lines-length (codes "HTTP/1.1 ") (decimal status) (codes " ") text (codes "Content-Type: " ++ media_type kind)
      (codes "Content-Length: ") (decimal len) (only_if allow (line (codes "Allow: GET, POST")))
      (only_if close (line (codes "Connection: close"))) crlf_bytes in
      let number = length-decimal-le 7 len (omega arith) (omega (arith, fits)) small in
      omega (
        arith,
        size,
        number,
        fit.digits,
        fit.short,
        media-length kind,
        length-append (codes "Content-Type: ") (media_type kind),
        length-if allow (line (codes "Allow: GET, POST")),
        length-if close (line (codes "Connection: close")),
      )

  -- the head, and its length
  abbrev block : List ℕ
  block = reply_lines status text kind len allow close ++ crlf_bytes

  pub reply_head-block : BeginsBlock block (length block)
  reply_head-block =
      let size = length-append (reply_lines status text kind len allow close) crlf_bytes in
      rw size (BeginsBlock-of_lines (reply_lines status text kind len allow close) reply_lines-are reply_lines-short)

  abbrev pub reply_head_parts : ResponseParts
  reply_head_parts = record { status = status; fields = map name_and_value (reply_fields kind len allow close) }

  pub reply_head-is_read : ReadsResponseHead block reply_head_parts
  unfolding reply_head
  reply_head-is_read = record {
    lines = HasPlainLines-of_lines (reply_lines status text kind len allow close) reply_lines-are;
    head = reply_head status text kind len allow close;
    reads = (
      reply_head-grammar,
      reply_head-print status text kind len allow close
          ∙ sym (append-nil (print_response (reply_head status text kind len allow close))),
    );
    few = fields-few kind len allow close;
    status = sym (decimal-read status small_status);
    fields = refl;
  }

  reply_head-lengths : parts_named (codes "content-length") reply_head_parts.fields ≡ decimal len ∷ []
  reply_head-lengths =
      let one =
      fields-length kind len allow close
      ∙ ap (λ v. v ∷ []) (trim_ows-field (decimal len) (decimal-solid len small)) in
      ap (flat_map comma_parts) one ∙ ap (λ l. l ++ []) (comma_parts-solid (decimal len) (decimal-solid len small))

  pub reply_head-declares : status ≢ 100 → DeclaresContent reply_head_parts len
  reply_head-declares other = record {
    final = fit.final other;
    uncoded = fields-uncoded kind len allow close;
    declared = λ none. let e = sym (fields-length kind len allow close) ∙ none in cc;
    agreed = ap agree reply_head-lengths ∙ agree-one (decimal len) (decimal-number len small);
    length_is = sym (ap agreed_number reply_head-lengths ∙ decimal-read len small);
    short = fits;
  }

content-after : (block content : List ℕ) → content
    ≡ slice_range (block ++ content) (0 + length block) (length (block ++ content))
content-after block content = grind (arith, common_steps)

-- such a reply is read as it was
pub reply-spells : (reply : ReplyParts) (close : Bool) → IsReadable reply → SpellsReply (render reply close) reply
unfolding render
reply-spells reply close is =
    let fit = IsFit-of_phrase reply.status is.named in
    let text = unwrap_or (phrase reply.status) [] in
    let len = length reply.content in
    let allow = reply.status == 405 in
    let block = reply_lines reply.status text reply.kind len allow close ++ crlf_bytes in
    let written = head-written reply close is.some in
    let begins = reply_head-block reply.status text reply.kind len allow close fit is.short in
    let reads = reply_head-is_read reply.status text reply.kind len allow close fit is.short in
    subst (λ head. SpellsReply (head ++ reply.content) reply) (sym written) (record {
      skipped = 0;
      interims = BeginsInterims.none;
      parts = reply_head_parts reply.status text reply.kind len allow close fit is.short;
      head_len = length block;
      head = record {
        block = IsBlockEnd-of_block block reply.content reads.lines.start begins;
        head = subst (λ b. ReadsResponseHead b (reply_head_parts reply.status text reply.kind len allow close fit
            is.short)) (sym (block-of_block block reply.content reads.lines.start begins)) reads;
      };
      declares = reply_head-declares reply.status text reply.kind len allow close fit is.short is.final;
      status = refl;
      kind = sym (fields-kind reply.kind len allow close);
      length_is = length-append block reply.content ∙ omega arith;
      whole = omega arith;
      content = content-after block reply.content;
    })

-- and no front of it is another reply
pub reply-alone : (reply other : ReplyParts) (close : Bool) (n : ℕ) → IsReadable reply
    → SpellsReply (take n (render reply close)) other → other ≡ reply
reply-alone reply other close n is part =
    SpellsReply-front (render reply close) reply other n (reply-spells reply close is) part
