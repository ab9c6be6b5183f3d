-- The places that pointers name in a text.
use Rattle.std.specs.Prelude.{◌≡◌, ℕ, List, [], ◌∷◌, take, drop, Option, Some, None, Vec, IsUtf8, ⊤}
use Rattle.std.specs.Global.{Global}
use Rattle.json.specs.Find.{BeginsWith}
use Rattle.json.specs.Json.{Json, document}
use Rattle.json.specs.Lex.{tokens}
use Rattle.report_places.specs.declared.place.ValuePlace.{ValuePlace}
use Rattle.report_places.specs.Lead.{lead}
use Rattle.report_places.specs.Offset.{BeginsAt}
use Rattle.report_places.specs.Position.{position_after}

-- In the text of that value, before the offset stand all tokens that come before the value that is reached, and from
-- there on the text begins with it.
pub record IsPlaceOf (text : List ℕ) (value : Json) (pointer : List ℕ) (place : ValuePlace) : Type 0 where
  pub begins : BeginsAt text (lead pointer value).token place.offset
  pub goes_on : BeginsWith (tokens (drop place.offset text)) (lead pointer value).value
  pub position : place.position ≡ position_after (take place.offset text)
  pub is_there : place.is_there ≡ (lead pointer value).is_there

-- one for each pointer, in order
abbrev pub ArePlacesOf : List ℕ → Json → List (List ℕ) → List ValuePlace → Type 0
ArePlacesOf text value [] [] = ⊤
ArePlacesOf text value [] (place ∷ places) = ⊥
ArePlacesOf text value (pointer ∷ pointers) [] = ⊥
ArePlacesOf text value (pointer ∷ pointers) (place ∷ places) =
    IsPlaceOf text value pointer place × ArePlacesOf text value pointers places

-- of a text that is UTF-8
abbrev pub AnswersText : List ℕ → List (List ℕ) → Option (Vec ValuePlace Global) → Type 0
AnswersText text pointers None = document text ≡ None
AnswersText text pointers (Some places) =
    (value : Json) × (document text ≡ Some value) × ArePlacesOf text value pointers places.items

-- of any bytes
abbrev pub Answers : List ℕ → List (List ℕ) → Option (Vec ValuePlace Global) → Type 0
Answers text pointers None = IsUtf8 text → document text ≡ None
Answers text pointers (Some places) = IsUtf8 text × AnswersText text pointers (Some places)
