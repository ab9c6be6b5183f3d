-- Lines that say a limit or an outbox.
use Rattle.std.proofs.Common.{◌≡◌, ℕ, Bool, true, false, List, [], length, Option, Some, None, ◌&&◌, refl}
use Rattle.std.specs.Prelude.{bytes_eq, codes, if◌then◌else◌}
use Rattle.std.specs.List.{position_or_len}
use Rattle.key_string.specs.Filer.{is_filer}
use Rattle.event_script.specs.Words.{is_space, first_word, number_up_to}
use Rattle.event_script.specs.Lines.{line_limit, line_filer}
use Rattle.event_script.proofs.Parts.{after_first-alone}

none_of_both : {A : Type 0} (b : Bool) → ◌≡◌ {A = Option A} (if b then None else None) None
none_of_both {A} true = refl
none_of_both {A} false = refl

none_without : {A : Type 0} (b : Bool) (x : A) → (if b && false then Some x else None) ≡ None
none_without true x = refl
none_without false x = refl

-- a word alone says no limit
pub line_limit-alone : (line : List ℕ) → position_or_len is_space line ≡ length line → line_limit line ≡ None
unfolding line_limit number_up_to
line_limit-alone line none =
    rw (after_first-alone is_space line none) (none_of_both {A = ℕ} (bytes_eq (first_word line) (codes "limit")))

-- nor an outbox
pub line_filer-alone : (line : List ℕ) → position_or_len is_space line ≡ length line → line_filer line ≡ None
unfolding line_filer is_filer
line_filer-alone line none =
    rw (after_first-alone is_space line none) (none_without {A =
    List ℕ} (bytes_eq (first_word line) (codes "outbox")) [])
