-- The values, members and elements that stand on a tape.
use Rattle.std.proofs.Common.{◌≡◌, ℕ, ◌+◌, ◌<◌, List, [], ◌∷◌, ◌++◌, length, map, drop, get_or, false, Some, None, refl}
use Rattle.std.proofs.Common.{sym, ap, ◌∙◌, subst, arith, append_assoc, length-append, length-drop}
use Rattle.std.proofs.lemmas.Bool.{false≢true}
use Rattle.std.proofs.lemmas.List.{drop_more, get_or-map, length-map}
use Rattle.std.specs.Borrow.{Bor}
use Rattle.json.specs.Token.{Token, key, end_array}
use Rattle.json.specs.Json as json
use Rattle.json.specs.Json.{Json, Items, no_items, item, Members, no_members, member, value, after_end_array}
use Rattle.json.specs.Reads.{opens}
use Rattle.json.specs.Tape.{node_token, Passes}
use Rattle.json.specs.Tree.{json_tokens, items_tokens, members_tokens, depth}
use Rattle.json.specs.declared.tape.Node.{Node}
use Rattle.json.specs.declared.tape.Node.TheVariants.{Object, EndObject, Array, EndArray, Key, String, Number, Bool}
use Rattle.json.specs.declared.tape.Node.TheVariants.{Null}
use Rattle.json.proofs.Grammar.{left_some}
use Rattle.json.proofs.Found.{one_reading, not_found, Some_inj, IsKey}
use Rattle.json.proofs.Printed.Trees.{value-json_tokens}

pub here : (ns : List Node) (i : ℕ) (d : Node) → i < length ns
    → drop i (map node_token ns) ≡ node_token (get_or ns i d) ∷ drop (i + 1) (map node_token ns)
here ns i d h =
    drop_more (map node_token ns) i (node_token d) (omega (arith, length-map ns node_token))
    ∙ ap (λ t. t ∷ drop (i + 1) (map node_token ns)) (get_or-map node_token ns i d (node_token d) h)

-- a link passes the value that begins at it
pub by_link : (all : List Token) (i end : ℕ) (v : Json) (rest : List Token) → Passes all i end
    → drop i all ≡ json_tokens v ++ rest → end ≡ i + length (json_tokens v)
by_link all i end v rest link e =
    let read = left_some (value link.0 (drop i all)) (drop end all) link.1 in
    let whole : value (depth v) (drop i all) ≡ Some (v, rest) =
    ap (value (depth v)) e ∙ value-json_tokens v (depth v) rest (omega arith) in
    let same : drop end all ≡ rest =
    ap (λ z. z.1) (Some_inj _ _ (one_reading link.0 (depth v) (drop i all) (read.0, drop end all) (
      v,
      rest,
    ) read.1 whole)) in
    omega (
      arith,
      ap length e,
      ap length same,
      length-drop i all,
      length-drop end all,
      length-append (json_tokens v) rest,
      link.2,
      link.3,
    )

closed : (n : Node) (ts : List Token) → ((a : ℕ) → n ≡ Object a → ⊥) → ((a : ℕ) → n ≡ Array a → ⊥)
    → opens (node_token n ∷ ts) ≡ false
closed (Object a) ts p q = absurd (p a refl)
closed EndObject ts p q = refl
closed (Array a) ts p q = absurd (q a refl)
closed EndArray ts p q = refl
closed (Key s) ts p q = refl
closed (String s) ts p q = refl
closed (Number s) ts p q = refl
closed (Bool b) ts p q = refl
closed Null ts p q = refl

-- a value that opens nothing is one token
pub one_token : (v : Json) (rest : List Token) → opens (json_tokens v ++ rest) ≡ false → length (json_tokens v) ≡ 1
one_token json.null rest e = refl
one_token (json.boolean b) rest e = refl
one_token (json.number s) rest e = refl
one_token (json.string s) rest e = refl
one_token (json.array vs) rest e = absurd (false≢true (sym e))
one_token (json.object ms) rest e = absurd (false≢true (sym e))

pub of_one_node : (n : Node) (ts : List Token) (v : Json) (rest : List Token) → ((a : ℕ) → n ≡ Object a → ⊥)
    → ((a : ℕ) → n ≡ Array a → ⊥) → node_token n ∷ ts ≡ json_tokens v ++ rest → length (json_tokens v) ≡ 1
of_one_node n ts v rest p q e = one_token v rest (ap opens (sym e) ∙ closed n ts p q)

-- ---- members

abbrev key_of : Token → List ℕ
key_of Token.begin_object = []
key_of Token.end_object = []
key_of Token.begin_array = []
key_of Token.end_array = []
key_of (Token.key s) = s
key_of (Token.string s) = []
key_of (Token.number s) = []
key_of (Token.boolean b) = []
key_of Token.null = []
key_of Token.bad = []

abbrev pub FirstMember : List ℕ → List Token → Members → List Token → Type 0
FirstMember k ts ms rest =
    (v : Json) × (more : Members) × (ms ≡ member k v more) × (ts ≡ json_tokens v ++ (members_tokens more ++ rest))

pub first_member : (k : List ℕ) (ts : List Token) (ms : Members) (rest : List Token)
    → key k ∷ ts ≡ members_tokens ms ++ rest → FirstMember k ts ms rest
first_member k ts no_members rest e = let P : List Token → Type 0 = λ l. IsKey (get_or l 0 end_array) in
    absurd (subst P e tt)
first_member k ts (member l v more) rest e = (
  v,
  more,
  ap (λ n. member n v more) (sym (ap (λ l. key_of (get_or l 0 end_array)) e)),
  ap (drop 1) e ∙ append_assoc (json_tokens v) (members_tokens more) rest,
)

pub no_member : (t : Token) (ts : List Token) (ms : Members) (rest : List Token) → (IsKey t → ⊥)
    → t ∷ ts ≡ members_tokens ms ++ rest → ms ≡ no_members
no_member t ts no_members rest other e = refl
no_member t ts (member l v more) rest other e = let P : List Token → Type 0 = λ l. IsKey (get_or l 0 end_array) in
    absurd (other (subst P (sym e) tt))

pub no_key : (n : Node) → ((s : Bor (List ℕ)) → n ≡ Key s → ⊥) → IsKey (node_token n) → ⊥
no_key (Object a) never h = h
no_key EndObject never h = h
no_key (Array a) never h = h
no_key EndArray never h = h
no_key (Key s) never h = never s refl
no_key (String s) never h = h
no_key (Number s) never h = h
no_key (Bool b) never h = h
no_key Null never h = h

pub members_need_tokens : (ms : Members) (rest : List Token) → [] ≡ members_tokens ms ++ rest → ⊥
members_need_tokens no_members rest e = let never : 0 ≡ 1 + length rest = ap length e ∙ (omega arith) in
    absurd (omega arith)
members_need_tokens (member k v ms) rest e = absurd (omega (arith, ap length e))

-- ---- elements

abbrev pub FirstItem : List Token → Items → List Token → Type 0
FirstItem ts vs rest =
    (v : Json) × (more : Items) × (vs ≡ item v more) × (ts ≡ json_tokens v ++ (items_tokens more ++ rest))

pub first_item : (ts : List Token) (vs : Items) (rest : List Token) → after_end_array ts ≡ None
    → ts ≡ items_tokens vs ++ rest → FirstItem ts vs rest
first_item ts no_items rest going e = not_found rest (sym going ∙ ap after_end_array e)
first_item ts (item v more) rest going e = (v, more, refl, e ∙ append_assoc (json_tokens v) (items_tokens more) rest)

no_end : (v : Json) (ts : List Token) → after_end_array (json_tokens v ++ ts) ≡ None
no_end json.null ts = refl
no_end (json.boolean b) ts = refl
no_end (json.number s) ts = refl
no_end (json.string s) ts = refl
no_end (json.array vs) ts = refl
no_end (json.object ms) ts = refl

some_token : (v : Json) → 0 < length (json_tokens v)
some_token json.null = omega arith
some_token (json.boolean b) = omega arith
some_token (json.number s) = omega arith
some_token (json.string s) = omega arith
some_token (json.array vs) = omega arith
some_token (json.object ms) = omega arith

pub no_item : (ts : List Token) (vs : Items) (rest : List Token) → ((0 < length ts) × (after_end_array ts ≡ None) → ⊥)
    → ts ≡ items_tokens vs ++ rest → vs ≡ no_items
no_item ts no_items rest never e = refl
no_item ts (item v more) rest never e =
    let first : ts ≡ json_tokens v ++ (items_tokens more ++ rest) =
    e ∙ append_assoc (json_tokens v) (items_tokens more) rest in
    absurd (never (
      omega (
        arith,
        ap length first,
        length-append (json_tokens v) (items_tokens more ++ rest),
        some_token v,
      ),
      ap after_end_array first ∙ no_end v (items_tokens more ++ rest),
    ))

-- a value stands before the end of the tape
pub within : (all : List Token) (k : ℕ) (v : Json) (rest : List Token) → drop k all ≡ json_tokens v ++ rest
    → k < length all
within all k v rest e = omega (arith, ap length e, length-drop k all, length-append (json_tokens v) rest, some_token v)

pub some_node : (nodes : List Node) (v : Json) → map node_token nodes ≡ json_tokens v → 0 < length nodes
some_node nodes v e = omega (arith, ap length e, length-map nodes node_token, some_token v)

pub within_nodes : (nodes : List Node) (k : ℕ) (v : Json) (rest : List Token)
    → drop k (map node_token nodes) ≡ json_tokens v ++ rest → k < length nodes
within_nodes nodes k v rest e = omega (arith, within (map node_token nodes) k v rest e, length-map nodes node_token)
