-- The contents of replies: what they are read as, and how long they are.
use Rattle.std.proofs.Common.{◌≡◌, ℕ, zero, suc, ◌^◌, ◌<◌, ◌≤◌, Bool, true, false, List, [], ◌∷◌, ◌++◌, Some, Option}
use Rattle.std.proofs.Common.{refl, sym, ap, ◌∙◌, subst, arith, append-nil}
use Rattle.std.specs.Prelude.{codes, nat_lt, decimal, option_and_then}
use Rattle.std.specs.Fmt.{digits}
use Rattle.std.specs.List.{list_all}
use Rattle.std.specs.Str.{IsAscii, is_utf8}
use Rattle.std.proofs.lemmas.Bool.{and_parts, ltb-true}
use Rattle.std.proofs.lemmas.Str.{IsAscii-append, IsUtf8-from_ascii, is_utf8-from_IsUtf8}
use Rattle.std.proofs.lemmas.Str.Ascii.{IsAscii-nil}
use Rattle.std.proofs.lemmas.Fmt.{IsAscii-decimal}
use Rattle.json.specs.Json as json
use Rattle.json.specs.Print.{escape_byte}
use Rattle.json.specs.Token.{Token}
use Rattle.json.specs.Tree as tree
use Rattle.json.proofs.Printed.Decimals.{IsNumber-decimal}
use Rattle.json.proofs.Printed.Tokens.{tokens-print}
use Rattle.json.proofs.Printed.Trees.{ArePrintable-json_tokens, value-json_tokens}
use Rattle.serde_json.specs.Data.{Data}
use Rattle.serde_json.specs.Read.{read, max_depth, of_json}
use Rattle.serde_json.specs.Written.{compact_text, outline}
use Rattle.serde_json.proofs.Numbers.{number_of-decimal}
use Rattle.serde_json.proofs.OnLiterals.{serde_json_on_literals}
use Rattle.serde_json.proofs.Texts.{print-outline}
use Rattle.http_messages.specs.Reply.{phrase}
use Rattle.filing_model.specs.declared.served.Style.{Style}
use Rattle.filing_model.specs.declared.served.Style.TheVariants.{Old, Problem}
use Rattle.filing_model.specs.Answer.{Answer}
use Rattle.filing_model.specs.Outbox.{Open, Clashed, moved, confirmed_by}
use Rattle.filing_model.specs.Reply.{answer_data, reply_as}

-- ---- reading back

-- the value that a text is, where its tokens were read to the end
abbrev whole : Option (json.Json × List Token) → Option Data
whole o = option_and_then of_json (option_and_then (λ p. json.if_last p.0 p.1) o)

-- what is written of a value is read as it, where its numbers are
pub read-compact_text : (d : Data) → tree.HasNumbers (outline d) → tree.depth (outline d) ≤ max_depth
    → of_json (outline d) ≡ Some d → read (compact_text d) ≡ Some d
read-compact_text d numbers shallow of =
    ap read (sym (print-outline d))
    ∙ ap whole (ap (json.value max_depth) (tokens-print (tree.json_tokens (outline d))
    (ArePrintable-json_tokens (outline d) numbers) ∙ sym (append-nil _))
    ∙ value-json_tokens (outline d) max_depth [] shallow)
    ∙ of

-- the content that tells a number, the same in either style
abbrev registered : ℕ → Data
registered n = answer_data Problem (Answer.Registered n false)

registered_text : (n : ℕ) → compact_text (registered n) ≡ codes "{\"number\":"
    ++ (decimal n ++ codes ",\"status\":\"registered\"}")
unfolding escape_byte
registered_text n = refl

read-registered : (n : ℕ) → n < 2 ^ 64 → read (compact_text (registered n)) ≡ Some (registered n)
read-registered n h =
    read-compact_text (registered n) (IsNumber-decimal n h, (tt, tt)) (omega arith) (rw (number_of-decimal n h) refl)

pub ascii : (bs : List ℕ) → list_all (λ b. nat_lt b 128) bs ≡ true → IsAscii bs
ascii [] h i = IsAscii-nil i
ascii (b ∷ bs) h zero = ltb-true _ _ (and_parts _ _ h).0
ascii (b ∷ bs) h (suc i) = ascii bs (and_parts _ _ h).1 i

utf8-registered : (n : ℕ) → n < 2 ^ 64 → is_utf8 (compact_text (registered n)) ≡ true
utf8-registered n h =
    let text =
    IsAscii-append (codes "{\"number\":") (decimal n ++ codes ",\"status\":\"registered\"}")
    (ascii (codes "{\"number\":") refl)
    (IsAscii-append (decimal n) (codes ",\"status\":\"registered\"}") (IsAscii-decimal n h)
    (ascii (codes ",\"status\":\"registered\"}") refl)) in
    is_utf8-from_IsUtf8 (compact_text (registered n))
    (IsUtf8-from_ascii (compact_text (registered n)) (subst IsAscii (sym (registered_text n)) text))

-- the number that is told is the one that is heard
pub moved-registered : (style : Style) (n : ℕ) (repeat : Bool) → n < 2 ^ 64
    → moved Open (reply_as style (Answer.Registered n repeat)) ≡ confirmed_by (Some n)
unfolding moved reply_as
moved-registered style n repeat h = rw (utf8-registered n h, read-registered n h) refl

-- a key that was used for another body clashes
abbrev reused : Style → Data
reused style = answer_data style Answer.KeyReused

utf8-reused : (style : Style) → is_utf8 (compact_text (reused style)) ≡ true
unfolding phrase serde_json_on_literals digits
utf8-reused Old =
    is_utf8-from_IsUtf8 (compact_text (reused Old))
    (IsUtf8-from_ascii (compact_text (reused Old)) (ascii (compact_text (reused Old)) refl))
utf8-reused Problem =
    is_utf8-from_IsUtf8 (compact_text (reused Problem))
    (IsUtf8-from_ascii (compact_text (reused Problem)) (ascii (compact_text (reused Problem)) refl))

read-reused : (style : Style) → read (compact_text (reused style)) ≡ Some (reused style)
read-reused Old = read-compact_text (reused Old) (tt, tt) (omega arith) refl
read-reused Problem =
    read-compact_text (reused Problem) (tt, (IsNumber-decimal 422 (omega arith), (tt, (tt, tt)))) (omega arith)
    (rw (number_of-decimal 422 (omega arith)) refl)

pub moved-reused : (style : Style) → moved Open (reply_as style Answer.KeyReused) ≡ Clashed
unfolding moved reply_as
moved-reused Old = rw (utf8-reused Old, read-reused Old) refl
moved-reused Problem = rw (utf8-reused Problem, read-reused Problem) refl
