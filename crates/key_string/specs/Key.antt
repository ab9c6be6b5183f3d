-- An idempotency key, and its one spelling as a String of structured fields (RFC 8941, section 3.3.3).
use Rattle.std.specs.Prelude.{◌≡◌, ℕ, ◌-◌, ◌<◌, ◌≤◌, Bool, true, false, ◌&&◌, ◌||◌, not, List, [], ◌∷◌, ◌++◌, length}
use Rattle.std.specs.Prelude.{◌==◌, nat_lt, nat_le, bytes_eq, take, drop, if◌then◌else◌, IsTrue, All, Option, Some}
use Rattle.std.specs.Prelude.{None, position}
use Rattle.std.specs.List.{flat_map, list_all}
use Rattle.key_string.specs.declared.fault.KeyFault.{KeyFault}
use Rattle.key_string.specs.declared.fault.KeyFault.TheVariants.{NotString, Empty, TooLong, NotPrintable, Memory}

-- b'"'
abbrev pub double_quote : ℕ
double_quote = 34

-- b'\\'
abbrev pub backslash : ℕ
backslash = 92

-- %x20-7E
abbrev pub is_printable : ℕ → Bool
is_printable c = nat_le 32 c && nat_le c 126

-- the text has printable ASCII characters alone
abbrev pub IsPrintable : List ℕ → Type 0
IsPrintable text = All (λ c. IsTrue (is_printable c)) text

-- a double quote or a backslash stands behind a backslash
abbrev pub is_escaped : ℕ → Bool
is_escaped c = c == double_quote || c == backslash

-- one character of a String
abbrev pub character : ℕ → List ℕ
character c = if is_escaped c then backslash ∷ c ∷ [] else c ∷ []

-- a double quote, the characters, a double quote
abbrev pub spelling : List ℕ → List ℕ
spelling text = double_quote ∷ flat_map character text ++ double_quote ∷ []

-- the bytes are the String of this text
pub record SpellsKey (bytes text : List ℕ) : Type 0 where
  pub printable : IsPrintable text
  pub spelled : bytes ≡ spelling text

-- the bytes are no String
abbrev pub IsNoString : List ℕ → Type 0
IsNoString bytes = (text : List ℕ) → ¬ (SpellsKey bytes text)

-- the bytes are a String of so many characters
abbrev pub IsStringOf : List ℕ → ℕ → Type 0
IsStringOf bytes count = (text : List ℕ) × SpellsKey bytes text × (length text ≡ count)

-- the bytes begin with this character of a String, and the rest follows
abbrev pub IsCharacterAt : List ℕ → ℕ → List ℕ → Type 0
IsCharacterAt bytes c rest = IsTrue (is_printable c) × (bytes ≡ character c ++ rest)

-- the bytes begin with no character of a String
abbrev pub BeginsNoCharacter : List ℕ → Type 0
BeginsNoCharacter bytes = (c : ℕ) (rest : List ℕ) → ¬ (IsCharacterAt bytes c rest)

-- a key has 1 to 1,024 characters
pub record IsKey (text : List ℕ) : Type 0 where
  pub printable : IsPrintable text
  pub nonempty : 0 < length text
  pub short : length text ≤ 1024

-- why a text is no key: the first of these that holds, and memory last
abbrev pub IsTextFault : List ℕ → KeyFault → Type 0
IsTextFault text NotString = ⊥
IsTextFault text Empty = text ≡ []
IsTextFault text TooLong = 1024 < length text
IsTextFault text (NotPrintable at) =
    (0 < length text) × (length text ≤ 1024) × (position (λ c. not (is_printable c)) text ≡ Some at)
IsTextFault text Memory = IsKey text

-- why a field's value is no key: the first of these that holds, and memory last
abbrev pub IsFieldFault : List ℕ → KeyFault → Type 0
IsFieldFault field NotString = IsNoString field
IsFieldFault field Empty = SpellsKey field []
IsFieldFault field TooLong = (text : List ℕ) × SpellsKey field text × (1024 < length text)
IsFieldFault field (NotPrintable at) = ⊥
IsFieldFault field Memory = (text : List ℕ) × SpellsKey field text × IsKey text

-- ---- keys and their spelling as functions, for the definitions that compute with them

-- whether the text is a key
abbrev pub is_key : List ℕ → Bool
is_key text = nat_lt 0 (length text) && nat_le (length text) 1024 && list_all is_printable text

-- the characters without the backslashes that escape another; `escaped` says whether such a backslash stood before
abbrev pub without_escapes : Bool → List ℕ → List ℕ
without_escapes escaped [] = []
without_escapes escaped (c ∷ cs) =
    if c == backslash && not escaped then without_escapes true cs else c ∷ without_escapes false cs

-- what stands between the first byte and the last
abbrev pub inside : List ℕ → List ℕ
inside bytes = drop 1 (take (length bytes - 1) bytes)

-- the key that a field's value spells, if it spells one
unfoldable pub key_of_field : List ℕ → Option (List ℕ)
key_of_field field = let text = without_escapes false (inside field) in
    if is_key text && bytes_eq field (spelling text) then Some text else None
