-- The contents of replies, piece by piece.
use Rattle.std.proofs.Common.{◌≡◌, ℕ, false, ◌++◌, refl}
use Rattle.std.specs.Prelude.{codes, decimal}
use Rattle.serde_json.specs.Written.{compact_text}
use Rattle.json.specs.Print.{escape_byte}
use Rattle.filing_model.specs.declared.served.Style.TheVariants.{Problem}
use Rattle.filing_model.specs.Answer.{Answer}
use Rattle.filing_model.specs.Reply.{answer_data}

-- what says that a report is registered, around its number
pub registered_pieces : (number : ℕ) → codes "{\"number\":" ++ decimal number ++ codes ",\"status\":\"registered\"}"
    ≡ compact_text (answer_data Problem (Answer.Registered number false))
unfolding escape_byte
registered_pieces number = refl
