-- Moments of which the text is known from elsewhere (Python's datetime).
use Rattle.std.proofs.Common.{◌≡◌, [], ◌∷◌, map, codes, refl}
use Rattle.register_extracts.specs.Text.{date_text, moment_text, month_of, time_text, year_of}

known : map moment_text (0 ∷ 951_782_399_999 ∷ 951_782_400_000 ∷ 4_107_542_400_000 ∷ 253_402_300_799_999 ∷ [])
    ≡ codes "1970-01-01T00:00:00.000Z" ∷ codes "2000-02-28T23:59:59.999Z" ∷ codes "2000-02-29T00:00:00.000Z"
    ∷ codes "2100-03-01T00:00:00.000Z" ∷ codes "9999-12-31T23:59:59.999Z" ∷ []
unfolding moment_text date_text time_text year_of month_of
known = refl
