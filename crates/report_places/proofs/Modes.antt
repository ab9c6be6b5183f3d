-- A byte begins a token where the lexer says so.
use Rattle.std.proofs.Common.{◌≡◌, ℕ, ◌+◌, List, [], ◌∷◌, ◌++◌, cond, Bool, true, false, count_by, refl, sym, ap, ◌∙◌}
use Rattle.std.proofs.Common.{subst, inl, inr, ◌⊎◌}
use Rattle.std.proofs.lemmas.Bool.{cases_eq, ne_eqb, or_left, false≢true}
use Rattle.std.proofs.lemmas.List.Sums.{sum_by-cons, sum_by-append}
use Rattle.json.specs.Token.{Token, bad, begin_object, end_object, begin_array, end_array}
use Rattle.json.specs.Text.{content, plain}
use Rattle.json.specs.Word.{word}
use Rattle.json.specs.Lex.{Lexeme, token, string_token, operator_lexeme, class, lex, Mode, between, in_word, in_string}
use Rattle.json.specs.Lex.{in_escape}
use Rattle.report_places.specs.Offset.{is_token}
use Rattle.report_places.specs.Scan.{next_mode, begins, is_bracket}

either_way : (P : ℕ → Type 0) (n : ℕ) → P n → (x : ℕ) → ((x ≡ n → ⊥) → P x) → P x
either_way P n p x k = go (cases_eq x n)
  where
    go : (x ≡ n) ⊎ (x ≡ n → ⊥) → P x
    go (inl e) = subst P (sym e) p
    go (inr other) = k other

record IsOther (x : ℕ) : Type 0 where
  quote : x ≡ 34 → ⊥
  backslash : x ≡ 92 → ⊥
  open_brace : x ≡ 123 → ⊥
  close_brace : x ≡ 125 → ⊥
  open_bracket : x ≡ 91 → ⊥
  close_bracket : x ≡ 93 → ⊥
  colon : x ≡ 58 → ⊥
  comma : x ≡ 44 → ⊥
  space : x ≡ 32 → ⊥
  tab : x ≡ 9 → ⊥
  line_feed : x ≡ 10 → ⊥
  carriage_return : x ≡ 13 → ⊥

every_byte : (P : ℕ → Type 0) → P 34 → P 92 → P 123 → P 125 → P 91 → P 93 → P 58 → P 44 → P 32 → P 9 → P 10 → P 13
    → ((x : ℕ) → IsOther x → P x) → (x : ℕ) → P x
every_byte P p1 p2 p3 p4 p5 p6 p7 p8 p9 p10 p11 p12 other x =
    either_way P 34 p1 x (λ a. either_way P 92 p2 x
    (λ b. either_way P 123 p3 x (λ c. either_way P 125 p4 x
    (λ d. either_way P 91 p5 x (λ e. either_way P 93 p6 x (λ f.
    either_way P 58 p7 x (λ g. either_way P 44 p8 x
    (λ h. either_way P 32 p9 x (λ i. either_way P 9 p10 x
    (λ j. either_way P 10 p11 x (λ k. either_way P 13 p12 x (λ l.
    other x (record {
      quote = a;
      backslash = b;
      open_brace = c;
      close_brace = d;
      open_bracket = e;
      close_bracket =
          f;
      colon = g;
      comma = h;
      space = i;
      tab = j;
      line_feed = k;
      carriage_return = l;
    })))))))))))))

abbrev pub one_if : Bool → ℕ
one_if b = cond b 1 0

pub one_more : (l : Lexeme) (ls : List Lexeme) → count_by is_token (l ∷ ls) ≡ one_if (is_token l) + count_by is_token ls
one_more l ls = sum_by-cons (λ k. one_if (is_token k)) l ls

-- the lexemes that begin with the byte x, at most one
pub record Cut (m : Mode) (ys : List ℕ) (x : ℕ) : Type 0 where
  pub front : List Lexeme
  pub is : lex m (x ∷ ys) ≡ front ++ lex (next_mode m (class x)) ys
  pub count : count_by is_token front ≡ one_if (begins m x)

-- the byte x begins a token in each mode that lets one begin
pub record Begun (m : Mode) (ys : List ℕ) (x : ℕ) : Type 0 where
  pub first : Token
  pub more : List Lexeme
  pub is : lex between (x ∷ ys) ≡ token first ∷ more
  pub same : lex m (x ∷ ys) ≡ lex between (x ∷ ys)

module _ (ys : List ℕ) where
  cut_between : (x : ℕ) → Cut between ys x
  unfolding lex
  cut_between x =
      every_byte (Cut between ys) (record {
        front = token (string_token (content plain ys)) ∷ [];
        is = refl;
        count =
            refl;
      }) (record { front = token bad ∷ []; is = refl; count = refl })
      (record { front = operator_lexeme 123 ∷ []; is = refl; count = refl })
      (record { front = operator_lexeme 125 ∷ []; is = refl; count = refl })
      (record { front = operator_lexeme 91 ∷ []; is = refl; count = refl })
      (record { front = operator_lexeme 93 ∷ []; is = refl; count = refl })
      (record { front = operator_lexeme 58 ∷ []; is = refl; count = refl })
      (record { front = operator_lexeme 44 ∷ []; is = refl; count = refl })
      (record { front = []; is = refl; count = refl }) (record { front = []; is = refl; count = refl })
      (record { front = []; is = refl; count = refl }) (record { front = []; is = refl; count = refl })
      (λ y o. record {
        front = token (word (y ∷ ys)) ∷ [];
        is =
            rw (
              ne_eqb y 34 o.quote,
              ne_eqb y 92 o.backslash,
              ne_eqb y 123 o.open_brace,
              ne_eqb y 125 o.close_brace,
              ne_eqb y 91 o.open_bracket,
              ne_eqb y 93 o.close_bracket,
              ne_eqb y 58 o.colon,
              ne_eqb y 44 o.comma,
              ne_eqb y 32 o.space,
              ne_eqb y 9 o.tab,
              ne_eqb y 10 o.line_feed,
              ne_eqb y 13 o.carriage_return,
            ) refl;
        count =
            rw (
              ne_eqb y 123 o.open_brace,
              ne_eqb y 125 o.close_brace,
              ne_eqb y 91 o.open_bracket,
              ne_eqb y 93 o.close_bracket,
              ne_eqb y 58 o.colon,
              ne_eqb y 44 o.comma,
              ne_eqb y 32 o.space,
              ne_eqb y 9 o.tab,
              ne_eqb y 10 o.line_feed,
              ne_eqb y 13 o.carriage_return,
            ) refl;
      }) x

  cut_in_word : (x : ℕ) → Cut in_word ys x
  unfolding lex
  cut_in_word x =
      every_byte (Cut in_word ys) (record { front = []; is = refl; count = refl })
      (record { front = []; is = refl; count = refl })
      (record { front = operator_lexeme 123 ∷ []; is = refl; count = refl })
      (record { front = operator_lexeme 125 ∷ []; is = refl; count = refl })
      (record { front = operator_lexeme 91 ∷ []; is = refl; count = refl })
      (record { front = operator_lexeme 93 ∷ []; is = refl; count = refl })
      (record { front = operator_lexeme 58 ∷ []; is = refl; count = refl })
      (record { front = operator_lexeme 44 ∷ []; is = refl; count = refl })
      (record { front = []; is = refl; count = refl }) (record { front = []; is = refl; count = refl })
      (record { front = []; is = refl; count = refl }) (record { front = []; is = refl; count = refl })
      (λ y o. record {
        front = [];
        is =
            rw (
              ne_eqb y 34 o.quote,
              ne_eqb y 92 o.backslash,
              ne_eqb y 123 o.open_brace,
              ne_eqb y 125 o.close_brace,
              ne_eqb y 91 o.open_bracket,
              ne_eqb y 93 o.close_bracket,
              ne_eqb y 58 o.colon,
              ne_eqb y 44 o.comma,
              ne_eqb y 32 o.space,
              ne_eqb y 9 o.tab,
              ne_eqb y 10 o.line_feed,
              ne_eqb y 13 o.carriage_return,
            ) refl;
        count =
            rw (
              ne_eqb y 123 o.open_brace,
              ne_eqb y 125 o.close_brace,
              ne_eqb y 91 o.open_bracket,
              ne_eqb y 93 o.close_bracket,
            ) refl;
      }) x

  cut_in_string : (x : ℕ) → Cut in_string ys x
  unfolding lex
  cut_in_string x =
      every_byte (Cut in_string ys) (record { front = []; is = refl; count = refl })
      (record { front = []; is = refl; count = refl })
      (record { front = []; is = refl; count = refl }) (record { front = []; is = refl; count = refl })
      (record { front = []; is = refl; count = refl }) (record { front = []; is = refl; count = refl })
      (record { front = []; is = refl; count = refl }) (record { front = []; is = refl; count = refl })
      (record { front = []; is = refl; count = refl }) (record { front = []; is = refl; count = refl })
      (record { front = []; is = refl; count = refl }) (record { front = []; is = refl; count = refl })
      (λ y o. record {
        front = [];
        is =
            rw (
              ne_eqb y 34 o.quote,
              ne_eqb y 92 o.backslash,
              ne_eqb y 123 o.open_brace,
              ne_eqb y 125 o.close_brace,
              ne_eqb y 91 o.open_bracket,
              ne_eqb y 93 o.close_bracket,
              ne_eqb y 58 o.colon,
              ne_eqb y 44 o.comma,
              ne_eqb y 32 o.space,
              ne_eqb y 9 o.tab,
              ne_eqb y 10 o.line_feed,
              ne_eqb y 13 o.carriage_return,
            ) refl;
        count =
            refl;
      }) x

  cut_in_escape : (x : ℕ) → Cut in_escape ys x
  unfolding lex
  cut_in_escape x = record { front = []; is = refl; count = refl }

  pub cut : (m : Mode) (x : ℕ) → Cut m ys x
  cut between x = cut_between x
  cut in_word x = cut_in_word x
  cut in_string x = cut_in_string x
  cut in_escape x = cut_in_escape x

  pub one_byte : (m : Mode) (x : ℕ) → count_by is_token (lex m (x ∷ ys))
      ≡ one_if (begins m x) + count_by is_token (lex (next_mode m (class x)) ys)
  one_byte m x =
      let k = cut m x in
      ap (count_by is_token) k.is ∙ sum_by-append (λ l. one_if (is_token l)) k.front (lex (next_mode m (class x)) ys)
      ∙ ap (λ n. n + count_by is_token (lex (next_mode m (class x)) ys)) k.count

  abbrev Between : ℕ → Type 0
  Between x = begins between x ≡ true → (t : Token) × (ls : List Lexeme) × (lex between (x ∷ ys) ≡ token t ∷ ls)

  begun_between : (x : ℕ) → Between x
  unfolding lex
  begun_between x =
      every_byte Between (λ b. (string_token (content plain ys), lex in_string ys, refl))
      (λ b. (bad, lex in_word ys, refl))
      (λ b. (begin_object, lex between ys, refl)) (λ b. (end_object, lex between ys, refl))
      (λ b. (begin_array, lex between ys, refl)) (λ b. (end_array, lex between ys, refl))
      (λ b. absurd (false≢true b)) (λ b. absurd (false≢true b)) (λ b. absurd (false≢true b))
      (λ b. absurd (false≢true b)) (λ b. absurd (false≢true b)) (λ b. absurd (false≢true b))
      (λ y o b. (
        word (y ∷ ys),
        lex in_word ys,
        rw (
          ne_eqb y 34 o.quote,
          ne_eqb y 92 o.backslash,
          ne_eqb y 123 o.open_brace,
          ne_eqb y 125 o.close_brace,
          ne_eqb y 91 o.open_bracket,
          ne_eqb y 93 o.close_bracket,
          ne_eqb y 58 o.colon,
          ne_eqb y 44 o.comma,
          ne_eqb y 32 o.space,
          ne_eqb y 9 o.tab,
          ne_eqb y 10 o.line_feed,
          ne_eqb y 13 o.carriage_return,
        ) refl,
      )) x

  abbrev InWord : ℕ → Type 0
  InWord x = is_bracket x ≡ true → lex in_word (x ∷ ys) ≡ lex between (x ∷ ys)

  begun_in_word : (x : ℕ) → InWord x
  unfolding lex
  begun_in_word x =
      every_byte InWord (λ b. absurd (false≢true b)) (λ b. absurd (false≢true b)) (λ b. refl) (λ b. refl) (λ b. refl)
      (λ b. refl)
      (λ b. refl) (λ b. refl) (λ b. absurd (false≢true b)) (λ b. absurd (false≢true b)) (λ b. absurd (false≢true b))
      (λ b. absurd (false≢true b))
      (λ y o b. (let none : is_bracket y ≡ false =
      rw (
        ne_eqb y 123 o.open_brace,
        ne_eqb y 125 o.close_brace,
        ne_eqb y 91 o.open_bracket,
        ne_eqb y 93 o.close_bracket,
      ) refl in absurd (false≢true (sym none ∙ b)))) x

  pub begun : (m : Mode) (x : ℕ) → begins m x ≡ true → Begun m ys x
  begun between x b = let f = begun_between x b in record { first = f.0; more = f.1; is = f.2; same = refl }
  begun in_word x b = let f = begun_between x (or_left (is_bracket x) _ b) in
      record { first = f.0; more = f.1; is = f.2; same = begun_in_word x b }
  begun in_string x b = absurd (false≢true b)
  begun in_escape x b = absurd (false≢true b)
