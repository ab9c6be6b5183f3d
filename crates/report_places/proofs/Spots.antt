-- The spots are where tokens begin.
use Rattle.std.proofs.Common.{◌≡◌, ℕ, zero, suc, ◌+◌, ◌<◌, ◌≤◌, List, [], ◌∷◌, ◌++◌, length, take, drop, append_assoc}
use Rattle.std.proofs.Common.{append-nil, get_or, fold, cond, Bool, true, false, count_by, refl, sym, ap, ◌∙◌, subst}
use Rattle.std.proofs.Common.{arith}
use Rattle.std.proofs.Math.Nat.{zero-add}
use Rattle.std.proofs.lemmas.List.{drop_more, drop_all}
use Rattle.std.proofs.lemmas.List.Sums.{sum_by-append}
use Rattle.json.specs.Find.{BeginsWith}
use Rattle.json.specs.Token.{Token}
use Rattle.json.specs.Tree.{json_tokens}
use Rattle.json.specs.Lex as lexer
use Rattle.json.specs.Lex.{Lexeme, class, lex, Mode, between, tokens}
use Rattle.json.specs.Json.{Json}
use Rattle.report_places.specs.Lead.{lead}
use Rattle.report_places.specs.Place.{IsPlaceOf}
use Rattle.report_places.specs.OnTape.{led, Begins}
use Rattle.report_places.proofs.Tokens.{goes_on}
use Rattle.report_places.specs.declared.lead.Lead.{Lead}
use Rattle.report_places.specs.Offset.{is_token, token_count}
use Rattle.report_places.specs.Position.{start, step, position_after, is_line_feed, begins_character}
use Rattle.report_places.specs.Scan.{next_mode, begins, spot_if, spots_from}
use Rattle.report_places.specs.declared.position.Position.{Position}
use Rattle.report_places.specs.declared.spot.Spot.{Spot}
use Rattle.report_places.proofs.Modes.{one_if, one_byte, cut, begun}
use Rattle.report_places.proofs.Positions.{position-fold}

abbrev counted : Mode → List ℕ → ℕ
counted m xs = count_by is_token (lex m xs)

-- s is spot number k of the bytes xs, which have that offset and position
record IsSpot (m : Mode) (p : Position) (offset : ℕ) (xs : List ℕ) (k : ℕ) (s : Spot) : Type 0 where
  n : ℕ
  place : s.offset ≡ offset + n
  before : counted m (take n xs) ≡ k
  with_it : counted m (take (n + 1) xs) ≡ k + 1
  position : s.position ≡ fold step p (take n xs)
  -- the lexemes before it, and the token that begins there
  front : List Lexeme
  split : lex m xs ≡ front ++ lex between (drop n xs)
  count : count_by is_token front ≡ k
  token : Token
  more : List Lexeme
  first : lex between (drop n xs) ≡ lexer.token token ∷ more

lex-nil : (m : Mode) → counted m [] ≡ 0
unfolding lex
lex-nil m = refl

abbrev after : Mode → Position → ℕ → ℕ → List ℕ → List Spot
after m p offset x xs = spots_from (next_mode m (class x)) (step p x) (offset + 1) xs

module _ (m : Mode) (p : Position) (offset x : ℕ) (xs : List ℕ) where
  passed : (begun j : ℕ) (s : Spot) → one_if (begins m x) ≡ begun
      → IsSpot (next_mode m (class x)) (step p x) (offset + 1) xs j s → IsSpot m p offset (x ∷ xs) (begun + j) s
  passed begun j s e is =
      let two : suc is.n + 1 ≡ suc (is.n + 1) = omega arith in
      record {
        n = suc is.n;
        place = omega (arith, is.place);
        before = omega (arith, one_byte (take is.n xs) m x, is.before);
        with_it =
            omega (arith, ap (λ i. counted m (take i (x ∷ xs))) two, one_byte (take (is.n + 1) xs) m x, is.with_it);
        position = is.position;
        front = (cut xs m x).front ++ is.front;
        split = (cut xs m x).is ∙ ap (λ l. (cut xs m x).front ++ l) is.split
            ∙ sym (append_assoc (cut xs m x).front is.front (lex between (drop is.n xs)));
        count = sum_by-append (λ l. one_if (is_token l)) (cut xs m x).front is.front
            ∙ omega (arith, (cut xs m x).count, is.count, e);
        token = is.token;
        more = is.more;
        first = is.first;
      }

  first : begins m x ≡ true → IsSpot m p offset (x ∷ xs) 0 (record { offset = offset; position = p })
  first e = record {
    n = 0;
    place = omega arith;
    before = lex-nil m;
    with_it = omega (arith, one_byte [] m x, lex-nil (next_mode m (class x)), ap one_if e);
    position = refl;
    front = [];
    split = (begun xs m x e).same;
    count = refl;
    token = (begun xs m x e).first;
    more = (begun xs m x e).more;
    first = (begun xs m x e).is;
  }

  either : (d : Spot) → ((j : ℕ) → j < length (after m p offset x xs)
      → IsSpot (next_mode m (class x)) (step p x) (offset + 1) xs j (get_or (after m p offset x xs) j d))
      → (b : Bool) → begins m x ≡ b → (j : ℕ) → j < length (spot_if b offset p (after m p offset x xs))
      → IsSpot m p offset (x ∷ xs) j (get_or (spot_if b offset p (after m p offset x xs)) j d)
  either d later true e zero l = first e
  either d later true e (suc j) l =
      let n : 1 + j ≡ suc j = omega arith in
      let P : ℕ → Type 0 = λ i. IsSpot m p offset (x ∷ xs) i (get_or (after m p offset x xs) j d) in
      subst P n (passed 1 j _ (ap one_if e) (later j (omega arith)))
  either d later false e j l =
      let P : ℕ → Type 0 = λ i. IsSpot m p offset (x ∷ xs) i (get_or (after m p offset x xs) j d) in
      subst P (zero-add j) (passed 0 j _ (ap one_if e) (later j l))

  how_many : length (after m p offset x xs) ≡ counted (next_mode m (class x)) xs → (b : Bool) → begins m x ≡ b
      → length (spot_if b offset p (after m p offset x xs)) ≡ counted m (x ∷ xs)
  how_many rest true e = omega (arith, rest, one_byte xs m x, ap one_if e)
  how_many rest false e = omega (arith, rest, one_byte xs m x, ap one_if e)

spot_is : (m : Mode) (p : Position) (offset : ℕ) (xs : List ℕ) (d : Spot) (k : ℕ)
    → k < length (spots_from m p offset xs) → IsSpot m p offset xs k (get_or (spots_from m p offset xs) k d)
unfolding spots_from
spot_is m p offset [] d k h = absurd (omega arith)
spot_is m p offset (x ∷ xs) d k h =
    either m p offset x xs d (spot_is (next_mode m (class x)) (step p x) (offset + 1) xs d) (begins m x) refl k h

length-spots_from : (m : Mode) (p : Position) (offset : ℕ) (xs : List ℕ)
    → length (spots_from m p offset xs) ≡ counted m xs
unfolding spots_from
length-spots_from m p offset [] = sym (lex-nil m)
length-spots_from m p offset (x ∷ xs) =
    how_many m p offset x xs (length-spots_from (next_mode m (class x)) (step p x) (offset + 1) xs) (begins m x) refl

pub length-spots : (text : List ℕ) → length (spots_from between start 0 text) ≡ token_count text
length-spots text = length-spots_from between start 0 text

-- where a pointer leads, there the spot of that token is its place
pub place_is : (text : List ℕ) (value : Json) (pointer : List ℕ) (found : Lead) (spot : Spot)
    → tokens text ≡ json_tokens value → found ≡ led (lead pointer value)
    → Begins (tokens text) found.token (lead pointer value).value
    → spot ≡ get_or (spots_from between start 0 text) found.token spot
    → found.token < length (spots_from between start 0 text)
    → IsPlaceOf text value pointer (record {
      offset = spot.offset;
      position = spot.position;
      is_there =
          found.is_there;
    })
place_is text value pointer found spot spelled same stands is within =
    let s = spot_is between start 0 text spot found.token within in
    let at : spot.offset ≡ s.n = ap (λ t. t.offset) is ∙ omega (arith, s.place) in
    let token : found.token ≡ (lead pointer value).token = ap (λ l. l.token) same in
    record {
      begins = record {
        before = ap (λ n. token_count (take n text)) at ∙ s.before ∙ token;
        with_it =
            ap (λ n. token_count (take (n + 1) text)) at ∙ s.with_it ∙ ap (λ k. k + 1) token;
      };
      goes_on = subst (λ n. BeginsWith (tokens (drop n text)) (lead pointer value).value) (sym at)
          (goes_on text value s.front (lex between (drop s.n text)) s.more s.token (lead pointer value).value stands.0
          spelled s.split s.first (ap (λ k. drop k (tokens text)) s.count ∙ stands.1));
      position =
          ap (λ t. t.position) is ∙ s.position ∙ position-fold (take s.n text)
          ∙ ap (λ n. position_after (take n text)) (sym at);
      is_there = ap (λ l. l.is_there) same;
    }

-- ---- a byte more

module _ (text : List ℕ) (i : ℕ) (m : Mode) (p : Position) (spots all : List Spot) (h : i < length text) where
  pub turn : (b : Bool) (more : List Spot) (m' : Mode) (p' : Position) → begins m (get_or text i 0) ≡ b
      → more ≡ cond b (spots ++ record { offset = i; position = p } ∷ []) spots
      → m' ≡ next_mode m (class (get_or text i 0)) → p' ≡ step p (get_or text i 0)
      → spots ++ spots_from m p i (drop i text) ≡ all
      → more ++ spots_from m' p' (i + 1) (drop (i + 1) text) ≡ all
  unfolding spots_from
  turn true more m' p' e is to_mode to_position so_far =
      let later =
      spots_from (next_mode m (class (get_or text i 0))) (step p (get_or text i 0)) (i + 1) (drop (i + 1) text) in
      (λ j. is j ++ spots_from (to_mode j) (to_position j) (i + 1) (drop (i + 1) text))
      ∙ append_assoc spots (record { offset = i; position = p } ∷ []) later
      ∙ ap (λ t. spots ++ spot_if t i p later) (sym e)
      ∙ ap (λ l. spots ++ spots_from m p i l) (sym (drop_more text i 0 h)) ∙ so_far
  turn false more m' p' e is to_mode to_position so_far =
      let later =
      spots_from (next_mode m (class (get_or text i 0))) (step p (get_or text i 0)) (i + 1) (drop (i + 1) text) in
      (λ j. is j ++ spots_from (to_mode j) (to_position j) (i + 1) (drop (i + 1) text))
      ∙ ap (λ t. spots ++ spot_if t i p later) (sym e)
      ∙ ap (λ l. spots ++ spots_from m p i l) (sym (drop_more text i 0 h)) ∙ so_far

pub last_spots : (text : List ℕ) (i : ℕ) (m : Mode) (p : Position) (spots all : List Spot) → length text ≤ i
    → spots ++ spots_from m p i (drop i text) ≡ all → spots ≡ all
unfolding spots_from
last_spots text i m p spots all h so_far =
    sym (append-nil spots) ∙ ap (λ l. spots ++ spots_from m p i l) (sym (drop_all i text h)) ∙ so_far

step_cases : (feed begins : Bool) (p : Position) (n : ℕ) → p.line ≤ n → p.column ≤ n → 1 ≤ n
    → ((cond feed (record { line = p.line + 1; column = 1 })
    (cond begins (record { line = p.line; column = p.column + 1 }) p)).line ≤ n + 1)
    × ((cond feed (record { line = p.line + 1; column = 1 })
    (cond begins (record { line = p.line; column = p.column + 1 }) p)).column ≤ n + 1)
step_cases true begins p n l c some = (omega arith, omega arith)
step_cases false true p n l c some = (omega arith, omega arith)
step_cases false false p n l c some = (omega arith, omega arith)

pub step_bound : (p : Position) (x n : ℕ) → p.line ≤ n → p.column ≤ n → 1 ≤ n
    → ((step p x).line ≤ n + 1) × ((step p x).column ≤ n + 1)
step_bound p x n l c some = step_cases (is_line_feed x) (begins_character x) p n l c some
