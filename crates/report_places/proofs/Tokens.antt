-- Each token of a JSON text is a lexeme of its own.
use Rattle.std.proofs.Common.{◌≡◌, ℕ, suc, ◌+◌, List, [], ◌∷◌, ◌++◌, length, drop, Bool, true, false, count_by, refl}
use Rattle.std.proofs.Common.{sym, ap, ◌∙◌, subst, arith}
use Rattle.std.proofs.lemmas.Bool.{false≢true}
use Rattle.std.specs.Prelude.{⊤}
use Rattle.json.specs.Token.{Token, begin_object, end_object, begin_array, end_array, key, string, number, boolean}
use Rattle.json.specs.Token.{null, bad}
use Rattle.json.specs.Lex.{Lexeme, token, comma, colon, lex, between, Place, fresh, after_value, after_comma, after_key}
use Rattle.json.specs.Lex.{begins_colon, may_begin, may_close, if_allowed, place_token, punctuate, tokens}
use Rattle.json.specs.Align.{is_good}
use Rattle.json.specs.Find.{BeginsWith}
use Rattle.json.specs.Json as json
use Rattle.json.specs.Json.{Json, Items, Members, no_items, item, no_members, member, value as value_of}
use Rattle.json.specs.Tree.{json_tokens, items_tokens, members_tokens, depth}
use Rattle.json.proofs.Printed.Trees.{value-json_tokens}
use Rattle.report_places.specs.Offset.{is_token, token_count}
use Rattle.report_places.proofs.Modes.{one_more}
use Rattle.std.proofs.Math.Nat.{zero-add}

abbrev AreGood : List Token → Type 0
AreGood [] = ⊤
AreGood (t ∷ ts) = (is_good t ≡ true) × AreGood ts

AreGood-append : (ts us : List Token) → AreGood ts → AreGood us → AreGood (ts ++ us)
AreGood-append [] us g h = h
AreGood-append (t ∷ ts) us g h = (g.0, AreGood-append ts us g.1 h)

mutual
  AreGood-json_tokens : (v : Json) → AreGood (json_tokens v)
  AreGood-json_tokens json.null = (refl, tt)
  AreGood-json_tokens (json.boolean b) = (refl, tt)
  AreGood-json_tokens (json.number s) = (refl, tt)
  AreGood-json_tokens (json.string s) = (refl, tt)
  AreGood-json_tokens (json.array vs) = (refl, AreGood-items_tokens vs)
  AreGood-json_tokens (json.object ms) = (refl, AreGood-members_tokens ms)

  AreGood-items_tokens : (vs : Items) → AreGood (items_tokens vs)
  AreGood-items_tokens no_items = (refl, tt)
  AreGood-items_tokens (item v vs) = AreGood-append _ _ (AreGood-json_tokens v) (AreGood-items_tokens vs)

  AreGood-members_tokens : (ms : Members) → AreGood (members_tokens ms)
  AreGood-members_tokens no_members = (refl, tt)
  AreGood-members_tokens (member k v ms) =
      (refl, AreGood-append _ _ (AreGood-json_tokens v) (AreGood-members_tokens ms))

one_token : (b : Bool) (t : Token) (more : Place → List Token) (next : Place) (n : ℕ)
    → (AreGood (more next) → length (more next) ≡ n) → AreGood (if_allowed b t more next)
    → length (if_allowed b t more next) ≡ 1 + n
one_token true t more next n counts good = omega (arith, counts good.1)
one_token false t more next n counts good = absurd (false≢true good.0)

one_string : (p : Place) (s : List ℕ) (b : Bool) (more : Place → List Token) (n : ℕ)
    → (AreGood (more after_key) → length (more after_key) ≡ n)
    → (AreGood (more after_value) → length (more after_value) ≡ n)
    → AreGood (place_token p (string s) b more) → length (place_token p (string s) b more) ≡ 1 + n
one_string p s true more n as_key as_value good = one_token (may_begin p) (key s) more after_key n as_key good
one_string p s false more n as_key as_value good = one_token (may_begin p) (string s) more after_value n as_value good

counts_token : (t : Token) (ls : List Lexeme) → 1 + count_by is_token ls ≡ count_by is_token (token t ∷ ls)
counts_token t ls = sym (one_more (token t) ls)

counts_comma : (ls : List Lexeme) → count_by is_token ls ≡ count_by is_token (comma ∷ ls)
counts_comma ls = sym (one_more comma ls ∙ zero-add (count_by is_token ls))

counts_colon : (ls : List Lexeme) → count_by is_token ls ≡ count_by is_token (colon ∷ ls)
counts_colon ls = sym (one_more colon ls ∙ zero-add (count_by is_token ls))

length-punctuate : (p : Place) (ls : List Lexeme) → AreGood (punctuate p ls)
    → length (punctuate p ls) ≡ count_by is_token ls
unfolding punctuate
length-punctuate fresh [] good = refl
length-punctuate after_value [] good = refl
length-punctuate after_comma [] good = absurd (false≢true good.0)
length-punctuate after_key [] good = absurd (false≢true good.0)
length-punctuate p (token begin_object ∷ ls) good =
    one_token (may_begin p) begin_object (λ n. punctuate n ls) fresh _ (length-punctuate fresh ls) good
    ∙ counts_token begin_object ls
length-punctuate p (token end_object ∷ ls) good =
    one_token (may_close p) end_object (λ n. punctuate n ls) after_value _ (length-punctuate after_value ls) good
    ∙ counts_token end_object ls
length-punctuate p (token begin_array ∷ ls) good =
    one_token (may_begin p) begin_array (λ n. punctuate n ls) fresh _ (length-punctuate fresh ls) good
    ∙ counts_token begin_array ls
length-punctuate p (token end_array ∷ ls) good =
    one_token (may_close p) end_array (λ n. punctuate n ls) after_value _ (length-punctuate after_value ls) good
    ∙ counts_token end_array ls
length-punctuate p (token (key s) ∷ ls) good = absurd (false≢true good.0)
length-punctuate p (token (string s) ∷ ls) good =
    one_string p s (begins_colon ls) (λ n. punctuate n ls) _ (length-punctuate after_key ls)
    (length-punctuate after_value ls) good ∙ counts_token (string s) ls
length-punctuate p (token (number s) ∷ ls) good =
    one_token (may_begin p) (number s) (λ n. punctuate n ls) after_value _ (length-punctuate after_value ls) good
    ∙ counts_token (number s) ls
length-punctuate p (token (boolean b) ∷ ls) good =
    one_token (may_begin p) (boolean b) (λ n. punctuate n ls) after_value _ (length-punctuate after_value ls) good
    ∙ counts_token (boolean b) ls
length-punctuate p (token null ∷ ls) good =
    one_token (may_begin p) null (λ n. punctuate n ls) after_value _ (length-punctuate after_value ls) good
    ∙ counts_token null ls
length-punctuate p (token bad ∷ ls) good = absurd (false≢true good.0)
length-punctuate fresh (comma ∷ ls) good = absurd (false≢true good.0)
length-punctuate after_value (comma ∷ ls) good = length-punctuate after_comma ls good ∙ counts_comma ls
length-punctuate after_comma (comma ∷ ls) good = absurd (false≢true good.0)
length-punctuate after_key (comma ∷ ls) good = absurd (false≢true good.0)
length-punctuate fresh (colon ∷ ls) good = absurd (false≢true good.0)
length-punctuate after_value (colon ∷ ls) good = absurd (false≢true good.0)
length-punctuate after_comma (colon ∷ ls) good = absurd (false≢true good.0)
length-punctuate after_key (colon ∷ ls) good = length-punctuate fresh ls good ∙ counts_colon ls

pub length-tokens : (text : List ℕ) (v : Json) → tokens text ≡ json_tokens v → length (tokens text) ≡ token_count text
length-tokens text v e =
    length-punctuate fresh (lex between text) (let P : List Token → Type 0 = AreGood in
    subst P (sym e) (AreGood-json_tokens v))

-- ---- from a token on

abbrev Resumes : ℕ → List Token → List Lexeme → Type 0
Resumes n ts back = (p : Place) × (drop n ts ≡ punctuate p back)

past_token : (b : Bool) (t : Token) (more : Place → List Token) (next : Place) (n m : ℕ) (back : List Lexeme)
    → (AreGood (more next) → Resumes n (more next) back) → AreGood (if_allowed b t more next)
    → m ≡ suc n → Resumes m (if_allowed b t more next) back
past_token true t more next n m back resumes good e = let r = resumes good.1 in
    (r.0, ap (λ k. drop k (t ∷ more next)) e ∙ r.1)
past_token false t more next n m back resumes good e = absurd (false≢true good.0)

past_string : (p : Place) (s : List ℕ) (b : Bool) (more : Place → List Token) (n m : ℕ) (back : List Lexeme)
    → (AreGood (more after_key) → Resumes n (more after_key) back)
    → (AreGood (more after_value) → Resumes n (more after_value) back) → AreGood (place_token p (string s) b more)
    → m ≡ suc n → Resumes m (place_token p (string s) b more) back
past_string p s true more n m back as_key as_value good e =
    past_token (may_begin p) (key s) more after_key n m back as_key good e
past_string p s false more n m back as_key as_value good e =
    past_token (may_begin p) (string s) more after_value n m back as_value good e

next_count : (t : Token) (ls : List Lexeme) → count_by is_token (token t ∷ ls) ≡ suc (count_by is_token ls)
next_count t ls = omega (arith, counts_token t ls)

skip_mark : (n m : ℕ) (ts : List Token) (back : List Lexeme) → n ≡ m → Resumes n ts back → Resumes m ts back
skip_mark n m ts back e r = (r.0, ap (λ k. drop k ts) (sym e) ∙ r.1)

resumes : (p : Place) (front back : List Lexeme) → AreGood (punctuate p (front ++ back))
    → Resumes (count_by is_token front) (punctuate p (front ++ back)) back
unfolding punctuate
resumes p [] back good = (p, refl)
resumes p (token begin_object ∷ ls) back good =
    past_token (may_begin p) begin_object (λ n. punctuate n (ls ++ back)) fresh _ _ back (resumes fresh ls back) good
    (next_count begin_object ls)
resumes p (token end_object ∷ ls) back good =
    past_token (may_close p) end_object (λ n. punctuate n (ls ++ back)) after_value _ _ back
    (resumes after_value ls back) good (next_count end_object ls)
resumes p (token begin_array ∷ ls) back good =
    past_token (may_begin p) begin_array (λ n. punctuate n (ls ++ back)) fresh _ _ back (resumes fresh ls back) good
    (next_count begin_array ls)
resumes p (token end_array ∷ ls) back good =
    past_token (may_close p) end_array (λ n. punctuate n (ls ++ back)) after_value _ _ back
    (resumes after_value ls back) good (next_count end_array ls)
resumes p (token (key s) ∷ ls) back good = absurd (false≢true good.0)
resumes p (token (string s) ∷ ls) back good =
    past_string p s (begins_colon (ls ++ back)) (λ n. punctuate n (ls ++ back)) _ _ back (resumes after_key ls back)
    (resumes after_value ls back) good (next_count (string s) ls)
resumes p (token (number s) ∷ ls) back good =
    past_token (may_begin p) (number s) (λ n. punctuate n (ls ++ back)) after_value _ _ back
    (resumes after_value ls back) good (next_count (number s) ls)
resumes p (token (boolean b) ∷ ls) back good =
    past_token (may_begin p) (boolean b) (λ n. punctuate n (ls ++ back)) after_value _ _ back
    (resumes after_value ls back) good (next_count (boolean b) ls)
resumes p (token null ∷ ls) back good =
    past_token (may_begin p) null (λ n. punctuate n (ls ++ back)) after_value _ _ back (resumes after_value ls back)
    good (next_count null ls)
resumes p (token bad ∷ ls) back good = absurd (false≢true good.0)
resumes fresh (comma ∷ ls) back good = absurd (false≢true good.0)
resumes after_value (comma ∷ ls) back good = skip_mark _ _ _ back (counts_comma ls) (resumes after_comma ls back good)
resumes after_comma (comma ∷ ls) back good = absurd (false≢true good.0)
resumes after_key (comma ∷ ls) back good = absurd (false≢true good.0)
resumes fresh (colon ∷ ls) back good = absurd (false≢true good.0)
resumes after_value (colon ∷ ls) back good = absurd (false≢true good.0)
resumes after_comma (colon ∷ ls) back good = absurd (false≢true good.0)
resumes after_key (colon ∷ ls) back good = skip_mark _ _ _ back (counts_colon ls) (resumes fresh ls back good)

abbrev begins_value : List Token → Bool
begins_value [] = false
begins_value (begin_object ∷ ts) = true
begins_value (end_object ∷ ts) = false
begins_value (begin_array ∷ ts) = true
begins_value (end_array ∷ ts) = false
begins_value (key s ∷ ts) = false
begins_value (string s ∷ ts) = true
begins_value (number s ∷ ts) = true
begins_value (boolean b ∷ ts) = true
begins_value (null ∷ ts) = true
begins_value (bad ∷ ts) = false

begins_value-json_tokens : (v : Json) (rest : List Token) → begins_value (json_tokens v ++ rest) ≡ true
begins_value-json_tokens json.null rest = refl
begins_value-json_tokens (json.boolean b) rest = refl
begins_value-json_tokens (json.number s) rest = refl
begins_value-json_tokens (json.string s) rest = refl
begins_value-json_tokens (json.array vs) rest = refl
begins_value-json_tokens (json.object ms) rest = refl

module _ (v : Json) (rest : List Token) where
  abbrev AreThose : List Token → Type 0
  AreThose ts = ts ≡ json_tokens v ++ rest

  never : {P : Type 0} (ts : List Token) → begins_value ts ≡ false → AreThose ts → P
  never ts none e = absurd (false≢true (sym none ∙ ap begins_value e ∙ begins_value-json_tokens v rest))

  allowed : (b : Bool) (t : Token) (more : Place → List Token) (next : Place) → AreThose (if_allowed b t more next)
      → AreThose (t ∷ more next)
  allowed true t more next e = e
  allowed false t more next e = never (bad ∷ []) refl e

  closing : (b : Bool) (t : Token) (more : Place → List Token) (next : Place) {P : Type 0}
      → begins_value (t ∷ more next) ≡ false → AreThose (if_allowed b t more next) → P
  closing true t more next none e = never (t ∷ more next) none e
  closing false t more next none e = never (bad ∷ []) refl e

  string_anywhere : (p : Place) (s : List ℕ) (b : Bool) (more : Place → List Token)
      → AreThose (place_token p (string s) b more) → AreThose (place_token fresh (string s) b more)
  string_anywhere p s true more e = closing (may_begin p) (key s) more after_key refl e
  string_anywhere p s false more e = allowed (may_begin p) (string s) more after_value e

  -- a value that begins anywhere begins a text as well
  anywhere : (p : Place) (t : Token) (ls : List Lexeme) → AreThose (punctuate p (token t ∷ ls))
      → AreThose (punctuate fresh (token t ∷ ls))
  unfolding punctuate
  anywhere p begin_object ls e = allowed (may_begin p) begin_object (λ n. punctuate n ls) fresh e
  anywhere p end_object ls e = closing (may_close p) end_object (λ n. punctuate n ls) after_value refl e
  anywhere p begin_array ls e = allowed (may_begin p) begin_array (λ n. punctuate n ls) fresh e
  anywhere p end_array ls e = closing (may_close p) end_array (λ n. punctuate n ls) after_value refl e
  anywhere p (key s) ls e = never (bad ∷ []) refl e
  anywhere p (string s) ls e = string_anywhere p s (begins_colon ls) (λ n. punctuate n ls) e
  anywhere p (number s) ls e = allowed (may_begin p) (number s) (λ n. punctuate n ls) after_value e
  anywhere p (boolean b) ls e = allowed (may_begin p) (boolean b) (λ n. punctuate n ls) after_value e
  anywhere p null ls e = allowed (may_begin p) null (λ n. punctuate n ls) after_value e
  anywhere p bad ls e = never (bad ∷ []) refl e

-- The lexemes of the text are those of `front` and then those of `back`, which begins with a token: there the text
-- begins with the value that the tokens from there on begin with.
pub goes_on : (text : List ℕ) (value : Json) (front back more : List Lexeme) (t : Token) (v : Json) (rest : List Token)
    → tokens text ≡ json_tokens value → lex between text ≡ front ++ back
    → back ≡ token t ∷ more → drop (count_by is_token front) (tokens text) ≡ json_tokens v ++ rest
    → BeginsWith (punctuate fresh back) v
goes_on text value front back more t v rest spelled split first stands =
    let whole : punctuate fresh (front ++ back) ≡ json_tokens value = ap (punctuate fresh) (sym split) ∙ spelled in
    let P : List Token → Type 0 = AreGood in
    let r = resumes fresh front back (subst P (sym whole) (AreGood-json_tokens value)) in
    let here : punctuate r.0 (token t ∷ more) ≡ json_tokens v ++ rest =
    ap (punctuate r.0) (sym first) ∙ sym r.1
    ∙ ap (λ ls. drop (count_by is_token front) (punctuate fresh ls)) (sym split) ∙ stands in (
      depth v,
      rest,
      ap (λ ls. value_of (depth v) (punctuate fresh ls)) first
          ∙ ap (value_of (depth v)) (anywhere v rest r.0 t more here)
          ∙ value-json_tokens v (depth v) rest (omega arith),
    )
