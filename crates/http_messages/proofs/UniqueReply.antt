-- Bytes are read as one reply, and more bytes leave it as it was.
use Rattle.std.proofs.Common.{◌≡◌, ℕ, ◌+◌, ◌-◌, ◌≤◌, true, false, List, [], ◌++◌, length, take, drop, map, refl, sym}
use Rattle.std.proofs.Common.{ap, ap₂, ◌∙◌, subst, inl, inr, ◌⊎◌, arith, length-append}
use Rattle.std.specs.Prelude.{slice_range, codes}
use Rattle.std.proofs.lemmas.Grind.{common_steps}
use Rattle.std.proofs.lemmas.List.{take-append-drop, drop-append-le}
use Rattle.httparse.specs.Grammar.{ResponseHead, status_code}
use Rattle.httparse.specs.Spans.{name_and_value}
use Rattle.httparse.proofs.GrammarLemmas.{response_unique}
use Rattle.http_messages.specs.Block.{EndsAt, IsBlockEnd, from_block, skipped_len}
use Rattle.http_messages.specs.Head.{parts_named, agreed_number}
use Rattle.http_messages.specs.declared.reply.Kind.{Kind}
use Rattle.http_messages.specs.Reply.{ReplyParts}
use Rattle.http_messages.specs.Response.{kind_of, ResponseParts, ReadsResponseHead, BeginsResponseHead, BeginsInterims}
use Rattle.http_messages.specs.Response.{none, more, is_interim, BeginsReply, SpellsReply}
use Rattle.http_messages.proofs.MoreBytes.{EndsAt-more, EndsAt-front, skipped_len-more, from_block-more}
use Rattle.http_messages.proofs.MoreBytes.{IsBlockEnd-more, IsBlockEnd-within, block-more, slice_range-more}
use Rattle.http_messages.proofs.BlockLemmas.{EndsAt-within}
use Rattle.http_messages.proofs.Unique.{IsBlockEnd-unique}

abbrev response_by : ℕ → List (List ℕ × List ℕ) → ResponseParts
response_by status fields = record { status = status; fields = fields }

-- a block has one response head
pub ReadsResponseHead-unique : (block : List ℕ) (p q : ResponseParts) → ReadsResponseHead block p
    → ReadsResponseHead block q → p ≡ q
ReadsResponseHead-unique block p q a b =
    let head : a.head ≡ b.head = (response_unique block a.head b.head [] [] a.reads b.reads).0 in
    ap₂ response_by
    (a.status ∙ ap status_code head ∙ sym b.status)
    (a.fields ∙ ap (λ (h : ResponseHead). map name_and_value h.fields) head ∙ sym b.fields)

-- bytes begin with one response head
pub BeginsResponseHead-unique : (bytes : List ℕ) (p q : ResponseParts) (n m : ℕ) → BeginsResponseHead bytes p n
    → BeginsResponseHead bytes q m → (p ≡ q) × (n ≡ m)
BeginsResponseHead-unique bytes p q n m a b =
    let end = IsBlockEnd-unique bytes n m a.block b.block in
    let reads = subst (λ k. ReadsResponseHead (slice_range bytes (skipped_len bytes) k) p) end a.head in
    (ReadsResponseHead-unique (slice_range bytes (skipped_len bytes) m) p q reads b.head, end)

-- interim responses begin with one, if there is one
abbrev HasInterim : List ℕ → ℕ → Type 0
HasInterim bytes n =
    (parts : ResponseParts) × (first : ℕ) × (rest : ℕ) × BeginsResponseHead bytes parts first
    × (is_interim parts.status ≡ true) × BeginsInterims (drop first bytes) rest × (n ≡ first + rest)

interims-cases : (bytes : List ℕ) (n : ℕ) → BeginsInterims bytes n → (n ≡ 0) ⊎ HasInterim bytes n
interims-cases bytes n none = inl refl
interims-cases bytes n (more {bytes = b} {parts = p} {n = k} {m = m} h is rest) = inr (p, k, m, h, is, rest, refl)

-- no interim response begins the bytes
abbrev pub Stops : List ℕ → Type 0
Stops bytes = (parts : ResponseParts) (n : ℕ) → BeginsResponseHead bytes parts n → is_interim parts.status ≡ false

-- a final head stops them
pub Stops-final : (bytes : List ℕ) (p : ResponseParts) (n : ℕ) → BeginsResponseHead bytes p n
    → is_interim p.status ≡ false → Stops bytes
Stops-final bytes p n h final =
    λ q m g. ap (λ (parts : ResponseParts). is_interim parts.status) (BeginsResponseHead-unique bytes q p m n g h).0
    ∙ final

drop-sum : (k m : ℕ) (xs : List ℕ) → drop (k + m) xs ≡ drop m (drop k xs)
drop-sum k m xs = grind (arith, common_steps)

-- interim responses that something else follows end in one place
pub interims-same : (bytes : List ℕ) (n m : ℕ) → BeginsInterims bytes n → Stops (drop n bytes) → BeginsInterims bytes m
    → Stops (drop m bytes) → n ≡ m
interims-same bytes n m none f b g = elim (interims-cases bytes m b) [
  | inl zero ↦ sym zero
  | inr h ↦ let stopped = f h.0 h.1 h.3 in let is = h.4 in cc
]
interims-same bytes n m (more {bytes = own} {parts = p} {n = first} {m = rest} a is others) f b g =
    elim (interims-cases bytes m b) [
      | inl zero ↦ let stopped = subst (λ k. Stops (drop k bytes)) zero g p first a in cc
      | inr h ↦
          let same : h.1 ≡ first = (BeginsResponseHead-unique bytes h.0 p h.1 first h.3 a).1 in
          let left = subst Stops (drop-sum first rest bytes) f in
          let place : m ≡ first + h.2 = h.6 ∙ ap (λ k. k + h.2) same in
          let right = subst Stops (ap (λ k. drop k bytes) place ∙ drop-sum first h.2 bytes) g in
          let next : rest ≡ h.2 =
          interims-same (drop first bytes) rest h.2 others left
          (subst (λ k. BeginsInterims (drop k bytes) h.2) same h.5) right in
          ap (λ k. first + k) next ∙ sym place
    ]

-- one more interim response
pub interims-push : (bytes : List ℕ) (n m : ℕ) (parts : ResponseParts) → BeginsInterims bytes n
    → BeginsResponseHead (drop n bytes) parts m → is_interim parts.status ≡ true → BeginsInterims bytes (n + m)
interims-push bytes n m parts none h is = subst (BeginsInterims bytes) (omega arith) (more h is none)
interims-push bytes n m parts (more {bytes = own} {parts = p} {n = first} {m = rest} a before others) h is =
    let later =
    interims-push (drop first bytes) rest m parts others
    (subst (λ l. BeginsResponseHead l parts m) (drop-sum first rest bytes) h) is in
    subst (BeginsInterims bytes) (omega arith) (more a before later)

abbrev reply_by : Kind → ℕ → List ℕ → ReplyParts
reply_by kind status content = record { status = status; content = content; kind = kind }

-- bytes begin with one reply
pub BeginsReply-unique : (bytes : List ℕ) (r s : ReplyParts) (n m : ℕ) → BeginsReply bytes r n → BeginsReply bytes s m
    → (r ≡ s) × (n ≡ m)
BeginsReply-unique bytes r s n m a b =
    let skipped =
    interims-same bytes a.skipped b.skipped a.interims (Stops-final _ a.parts a.head_len a.head a.declares.final)
    b.interims (Stops-final _ b.parts b.head_len b.head b.declares.final) in
    let head =
    BeginsResponseHead-unique (drop b.skipped bytes) a.parts b.parts a.head_len b.head_len
    (subst (λ k. BeginsResponseHead (drop k bytes) a.parts a.head_len) skipped a.head) b.head in
    let len : length r.content ≡ length s.content =
    a.declares.length_is ∙ ap (λ (p : ResponseParts). agreed_number (parts_named (codes "content-length") p.fields))
    head.0 ∙ sym b.declares.length_is in
    let end : n ≡ m = omega (arith, a.length_is, b.length_is, skipped, head.1, len) in
    let start : a.skipped + a.head_len ≡ b.skipped + b.head_len = omega (arith, skipped, head.1) in
    let status : r.status ≡ s.status = a.status ∙ ap (λ (p : ResponseParts). p.status) head.0 ∙ sym b.status in
    let kind : r.kind ≡ s.kind = a.kind ∙ ap (λ (p : ResponseParts). kind_of p.fields) head.0 ∙ sym b.kind in (
      ap₂ (reply_by r.kind) status (a.content ∙ ap₂ (slice_range bytes) start end ∙ sym b.content)
          ∙ ap (λ k. reply_by k s.status s.content) kind,
      end,
    )

-- ---- more bytes

pub BeginsResponseHead-more : (bytes rest : List ℕ) (parts : ResponseParts) (n : ℕ) → BeginsResponseHead bytes parts n
    → BeginsResponseHead (bytes ++ rest) parts n
BeginsResponseHead-more bytes rest parts n h = record {
  block = IsBlockEnd-more bytes rest n h.block;
  head = subst (λ block. ReadsResponseHead block parts) (sym (block-more bytes rest n h.block)) h.head;
}

pub BeginsInterims-more : (bytes rest : List ℕ) (n : ℕ) → BeginsInterims bytes n → BeginsInterims (bytes ++ rest) n
BeginsInterims-more bytes rest n none = none
BeginsInterims-more bytes rest n (more {bytes = own} {parts = p} {n = first} {m = later} a is others) =
    let within = (IsBlockEnd-within bytes first a.block).2 in
    more (BeginsResponseHead-more bytes rest p first a) is
    (subst (λ l. BeginsInterims l later) (sym (drop-append-le first bytes rest within))
    (BeginsInterims-more (drop first bytes) rest later others))

-- a reply stays
pub BeginsReply-more : (bytes rest : List ℕ) (reply : ReplyParts) (n : ℕ) → BeginsReply bytes reply n
    → BeginsReply (bytes ++ rest) reply n
BeginsReply-more bytes rest reply n b = record {
  skipped = b.skipped;
  interims = BeginsInterims-more bytes rest b.skipped b.interims;
  parts = b.parts;
  head_len = b.head_len;
  head = subst (λ l. BeginsResponseHead l b.parts b.head_len)
      (sym (drop-append-le b.skipped bytes rest (omega (arith, b.whole, b.length_is))))
      (BeginsResponseHead-more (drop b.skipped bytes) rest b.parts b.head_len b.head);
  declares = b.declares;
  status = b.status;
  kind = b.kind;
  length_is = b.length_is;
  whole = omega (arith, b.whole, length-append bytes rest);
  content = b.content ∙ sym (slice_range-more bytes rest (b.skipped + b.head_len) n b.whole);
}

-- ---- fewer bytes

IsBlockEnd-front : (bytes rest : List ℕ) (n : ℕ) → n ≤ length bytes → IsBlockEnd (bytes ++ rest) n → IsBlockEnd bytes n
IsBlockEnd-front bytes rest n within b =
    let ends = EndsAt-within (from_block (bytes ++ rest)) b.0 b.1.ends in
    let four : 4 ≤ length bytes = omega (arith, ends.0, b.2, within) in
    let skipped = skipped_len-more bytes rest four in
    let text = from_block-more bytes rest four in
    let size : length (from_block bytes) ≡ length bytes - skipped_len bytes = grind (arith, common_steps) in
    let low : b.0 ≤ length (from_block bytes) = omega (arith, size, b.2, within, skipped) in (
      b.0,
      record {
        ends = EndsAt-front (from_block bytes) rest b.0 low (subst (λ t. EndsAt t b.0) text b.1.ends);
        first = λ k less e. b.1.first k less (subst (λ t. EndsAt t k) (sym text)
            (EndsAt-more (from_block bytes) rest k e));
        short = b.1.short;
      },
      b.2 ∙ ap (λ k. k + b.0) skipped,
    )

BeginsResponseHead-front : (bytes rest : List ℕ) (parts : ResponseParts) (n : ℕ) → n ≤ length bytes
    → BeginsResponseHead (bytes ++ rest) parts n → BeginsResponseHead bytes parts n
BeginsResponseHead-front bytes rest parts n within h =
    let block = IsBlockEnd-front bytes rest n within h.block in
    record { block = block; head = subst (λ b. ReadsResponseHead b parts) (block-more bytes rest n block) h.head }

BeginsInterims-front : (all bytes rest : List ℕ) (n : ℕ) → all ≡ bytes ++ rest → n ≤ length bytes → BeginsInterims all n
    → BeginsInterims bytes n
BeginsInterims-front all bytes rest n same within none = none
BeginsInterims-front all bytes rest n same within (more {bytes = own} {parts = p} {n = first} {m = later} a is others) =
    let low : first ≤ length bytes = omega (arith, within) in
    let head = BeginsResponseHead-front bytes rest p first low (subst (λ l. BeginsResponseHead l p first) same a) in
    let left : drop first all ≡ drop first bytes ++ rest = ap (drop first) same ∙ drop-append-le first bytes rest low in
    let size : length (drop first bytes) ≡ length bytes - first = grind (arith, common_steps) in
    more head is (BeginsInterims-front (drop first all) (drop first bytes) rest later left (omega (arith, size, within))
    others)

-- a reply needs no bytes after it
pub BeginsReply-front : (bytes rest : List ℕ) (reply : ReplyParts) (n : ℕ) → n ≤ length bytes
    → BeginsReply (bytes ++ rest) reply n → BeginsReply bytes reply n
BeginsReply-front bytes rest reply n within b =
    let low : b.skipped ≤ length bytes = omega (arith, within, b.length_is) in
    let size : length (drop b.skipped bytes) ≡ length bytes - b.skipped = grind (arith, common_steps) in
    record {
      skipped = b.skipped;
      interims = BeginsInterims-front (bytes ++ rest) bytes rest b.skipped refl low b.interims;
      parts = b.parts;
      head_len = b.head_len;
      head = BeginsResponseHead-front (drop b.skipped bytes) rest b.parts b.head_len
          (omega (arith, size, within, b.length_is)) (subst (λ l. BeginsResponseHead l b.parts b.head_len)
          (drop-append-le b.skipped bytes rest low) b.head);
      declares = b.declares;
      status = b.status;
      kind = b.kind;
      length_is = b.length_is;
      whole = within;
      content = b.content ∙ slice_range-more bytes rest (b.skipped + b.head_len) n within;
    }

-- no bytes are a reply
pub SpellsReply-nothing : (reply : ReplyParts) → ¬ (SpellsReply [] reply)
SpellsReply-nothing reply b =
    let none : length {A = ℕ} (drop b.skipped []) ≡ 0 = grind (arith, common_steps) in
    omega (arith, none, (IsBlockEnd-within (drop b.skipped []) b.head_len b.head.block).0)

-- a front of the bytes of a reply is no other reply
pub SpellsReply-front : (bytes : List ℕ) (reply other : ReplyParts) (n : ℕ) → SpellsReply bytes reply
    → SpellsReply (take n bytes) other → other ≡ reply
SpellsReply-front bytes reply other n whole part =
    let longer =
    subst (λ l. BeginsReply l other (length (take n bytes))) (take-append-drop n bytes)
    (BeginsReply-more (take n bytes) (drop n bytes) other (length (take n bytes)) part) in
    (BeginsReply-unique bytes other reply (length (take n bytes)) (length bytes) longer whole).0
