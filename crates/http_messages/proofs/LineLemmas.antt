-- Texts of whole lines, and the block that they and an empty line make.
use Rattle.std.proofs.Common.{◌≡◌, ◌≢◌, ℕ, ◌+◌, ◌-◌, ◌<◌, ◌≤◌, List, ◌++◌, length, take, drop, get_or, sym, ap, ◌∙◌}
use Rattle.std.proofs.Common.{inl, inr, length-append, arith, IsTrue}
use Rattle.std.proofs.Math.Seq.{drop-append-add}
use Rattle.std.proofs.lemmas.Bool.{cases_lt}
use Rattle.std.proofs.lemmas.Bool.Decides.{nat_tests}
use Rattle.std.proofs.lemmas.Grind.{common_steps}
use Rattle.std.proofs.lemmas.List.Elements.{All-get_or}
use Rattle.httparse.specs.Ascii.{crlf_bytes}
use Rattle.httparse.specs.Grammar.{AllPass, is_value_byte}
use Rattle.http_messages.specs.Block.{BeginsBlock, max_block_len}
use Rattle.http_messages.specs.Head.{HasPlainLines}
use Rattle.http_messages.specs.Reply.{line}
use Rattle.http_messages.proofs.BlockLemmas.{EndsAt-within, EndsAt-byte}

-- Lines that end in CRLF, none of them empty: an LF directly follows a CR, and no CR follows an LF.
pub record IsLines (text : List ℕ) : Type 0 where
  pub start : get_or text 0 0 ≢ 13
  pub feeds : (i : ℕ) → get_or text i 0 ≡ 10 → (0 < i) × (get_or text (i - 1) 0 ≡ 13)
  pub filled : (i : ℕ) → get_or text i 0 ≡ 10 → get_or text (i + 1) 0 ≢ 13
  pub ended : drop (length text - 2) text ≡ crlf_bytes

IsLines-two : (text : List ℕ) → IsLines text → 2 ≤ length text
IsLines-two text h =
    let size : length (drop (length text - 2) text) ≡ 2 = ap length h.ended in
    grind (arith, common_steps, size)

-- no byte of such a text is a CR or an LF
value_byte-plain : (b : ℕ) → IsTrue (is_value_byte b) → (b ≢ 10) × (b ≢ 13)
value_byte-plain b is = ((λ e. grind (arith, nat_tests, is, e)), λ e. grind (arith, nat_tests, is, e))

plain-at : (text : List ℕ) → AllPass is_value_byte text → (i : ℕ) → i < length text
    → (get_or text i 0 ≢ 10) × (get_or text i 0 ≢ 13)
plain-at text all i low =
    value_byte-plain (get_or text i 0) (All-get_or (λ b. IsTrue (is_value_byte b)) text i 0 low all)

module _ (text : List ℕ) (all : AllPass is_value_byte text) where
  line-left : (i : ℕ) → i < length text → get_or (line text) i 0 ≡ get_or text i 0
  line-left i low = grind (arith, common_steps)

  line-right : (i : ℕ) → length text ≤ i → get_or (line text) i 0 ≡ get_or crlf_bytes (i - length text) 0
  line-right i high = grind (arith, common_steps)

  line-feed : (i : ℕ) → get_or (line text) i 0 ≡ 10 → i ≡ length text + 1
  line-feed i e = elim (cases_lt i (length text)) [
    | inl low ↦ absurd ((plain-at text all i low).0 (sym (line-left i low) ∙ e))
    | inr high ↦ elim (cases_lt i (length text + 1)) [
      | inl low ↦ let same : i - length text ≡ 0 = omega arith in
          absurd (let got : get_or crlf_bytes 0 0 ≡ 10 =
          ap (λ k. get_or crlf_bytes k 0) (sym same) ∙ sym (line-right i high) ∙ e in omega (arith, got))
      | inr past ↦ elim (cases_lt (length text + 1) i) [
        | inl more ↦ absurd (let far : get_or (line text) i 0 ≡ 0 = grind (arith, common_steps) in
            omega (arith, far, e))
        | inr same ↦ omega arith
      ]
    ]
  ]

  -- a line that isn't empty is lines
  pub IsLines-line : 0 < length text → IsLines (line text)
  IsLines-line some = record {
    start = λ e. (plain-at text all 0 some).1 (sym (line-left 0 some) ∙ e);
    feeds = λ i e.
        let at = line-feed i e in
        let place : (i - 1) - length text ≡ 0 = omega (arith, at) in
        (omega (arith, at), line-right (i - 1) (omega (arith, at)) ∙ ap (λ k. get_or crlf_bytes k 0) place);
    filled = λ i e next.
        let at = line-feed i e in
        let far : get_or (line text) (i + 1) 0 ≡ 0 = grind (arith, common_steps, at) in
        omega (arith, far, next);
    ended = grind (arith, common_steps);
  }

module _ (xs ys : List ℕ) where
  join-left : (i : ℕ) → i < length xs → get_or (xs ++ ys) i 0 ≡ get_or xs i 0
  join-left i low = grind (arith, common_steps)

  join-right : (i k : ℕ) → i ≡ length xs + k → get_or (xs ++ ys) i 0 ≡ get_or ys k 0
  join-right i k at = grind (arith, common_steps, at)

  -- lines after lines
  pub IsLines-join : IsLines xs → IsLines ys → IsLines (xs ++ ys)
  IsLines-join a b =
      let two = IsLines-two xs a in
      let more = IsLines-two ys b in
      record {
        start = λ e. a.start (sym (join-left 0 (omega arith)) ∙ e);
        feeds = λ i e. elim (cases_lt i (length xs)) [
          | inl low ↦
              let own = a.feeds i (sym (join-left i low) ∙ e) in
              (own.0, join-left (i - 1) (omega arith) ∙ own.1)
          | inr high ↦
              let own = b.feeds (i - length xs) (sym (join-right i (i - length xs) (omega arith)) ∙ e) in
              (omega (arith, own.0), join-right (i - 1) (i - length xs - 1) (omega (arith, own.0)) ∙ own.1)
        ];
        filled = λ i e next. elim (cases_lt i (length xs)) [
          | inl low ↦ elim (cases_lt (i + 1) (length xs)) [
            | inl both ↦ a.filled i (sym (join-left i low) ∙ e) (sym (join-left (i + 1) both) ∙ next)
            | inr last ↦ b.start (sym (join-right (i + 1) 0 (omega arith)) ∙ next)
          ]
          | inr high ↦ b.filled (i - length xs) (sym (join-right i (i - length xs) (omega arith))
              ∙ e) (sym (join-right (i + 1) (i - length xs + 1) (omega arith)) ∙ next)
        ];
        ended =
            let place : length (xs ++ ys) - 2 ≡ length xs + (length ys - 2) = omega (arith, length-append xs ys) in
            ap (λ n. drop n (xs ++ ys)) place ∙ drop-append-add xs ys (length ys - 2) ∙ b.ended;
      }

module _ (text : List ℕ) (h : IsLines text) where
  -- lines and an empty line have plain lines
  pub HasPlainLines-of_lines : HasPlainLines (text ++ crlf_bytes)
  HasPlainLines-of_lines = record {
    start = λ e. h.start (sym (join-left text crlf_bytes 0 (omega (arith, IsLines-two text h))) ∙ e);
    feeds = λ i e. elim (cases_lt i (length text)) [
      | inl low ↦
          let own = h.feeds i (sym (join-left text crlf_bytes i low) ∙ e) in
          (own.0, join-left text crlf_bytes (i - 1) (omega arith) ∙ own.1)
      | inr high ↦
          let two = IsLines-two text h in
          let tail : get_or crlf_bytes (i - length text) 0 ≡ 10 =
          sym (join-right text crlf_bytes i (i - length text) (omega arith)) ∙ e in
          elim (cases_lt (length text) i) [
            | inl past ↦ elim (cases_lt (length text + 1) i) [
              | inl far ↦ absurd (let none : get_or crlf_bytes (i - length text) 0 ≡ 0 = grind (arith, common_steps) in
                  omega (arith, none, tail))
              | inr last ↦ (omega arith, join-right text crlf_bytes (i - 1) 0 (omega arith))
            ]
            | inr same ↦
                let place : i - length text ≡ 0 = omega arith in
                absurd (let first : get_or crlf_bytes 0 0 ≡ 10 = ap (λ k. get_or crlf_bytes k 0) (sym place) ∙ tail in
                omega (arith, first))
          ]
    ];
  }

  -- and are one block, if they are short enough
  pub BeginsBlock-of_lines : length text + 2 ≤ max_block_len → BeginsBlock (text ++ crlf_bytes) (length text + 2)
  BeginsBlock-of_lines short =
      let two = IsLines-two text h in
      let cut : drop (length text + 2 - 4) (text ++ crlf_bytes) ≡ drop (length text - 2) text ++ crlf_bytes =
      grind (arith, common_steps) in
      let whole : drop (length text + 2 - 4) (text ++ crlf_bytes) ≡ crlf_bytes ++ crlf_bytes =
      cut ∙ ap (λ l. l ++ crlf_bytes) h.ended in
      let size : length text + 2 - (length text + 2 - 4) ≡ 4 = omega arith in
      record {
        ends = ap (λ l. take (length text + 2 - (length text + 2 - 4)) l) whole
            ∙ ap (λ n. take n (crlf_bytes ++ crlf_bytes)) size;
        first = λ k less ends.
            let within = EndsAt-within (text ++ crlf_bytes) k ends in
            let second : k - 4 + 1 ≡ k - 3 = omega (arith, within.0) in
            let third : k - 4 + 2 ≡ k - 2 = omega (arith, within.0) in
            let next : k - 2 ≡ (k - 3) + 1 = omega (arith, within.0) in
            h.filled (k - 3)
            (sym (join-left text crlf_bytes (k - 3) (omega (arith, within.0)))
            ∙ EndsAt-byte (text ++ crlf_bytes) k 1 (k - 3) ends (omega arith) second)
            (sym (join-left text crlf_bytes (k - 3 + 1) (omega (arith, within.0)))
            ∙ ap (λ i. get_or (text ++ crlf_bytes) i 0) (sym next)
            ∙ EndsAt-byte (text ++ crlf_bytes) k 2 (k - 2) ends (omega arith) third);
        short = short;
      }
