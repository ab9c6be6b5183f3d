-- A line and what stands behind it.
use Rattle.std.proofs.Common.{◌≡◌, ℕ, suc, List, [], ◌∷◌, ◌++◌, drop, Some, None, Result, Ok, Err, refl, sym, ap}
use Rattle.std.proofs.lemmas.List.{append_assoc}
use Rattle.filing_world.specs.World.{Event}
use Rattle.event_script.specs.Text.{is_line_feed, lines_of}
use Rattle.event_script.specs.Lines.{line_event, line_limit, line_filer}
use Rattle.event_script.specs.Scripts.{before_events, events_from, before_filers, filers_of, limit_of, default_limit}
use Rattle.event_script.specs.Scripts.{script_from, script_of}
use Rattle.event_script.proofs.Parts.{slice_split-some}

pub limit_of-more : (line text : List ℕ) → limit_of (line ∷ lines_of text) ≡ line_limit line
limit_of-more line text = rw ((slice_split-some is_line_feed text).2) refl

pub filers_of-more : (line text : List ℕ) → filers_of (line ∷ lines_of text)
    ≡ before_filers (line_filer line) (filers_of (lines_of text))
filers_of-more line text = rw ((slice_split-some is_line_feed text).2) refl

pub events_from-more : (number : ℕ) (line text : List ℕ)
    → events_from number (line ∷ lines_of text) ≡ before_events number (line_event line)
    (events_from (suc number) (lines_of text))
events_from-more number line text = rw ((slice_split-some is_line_feed text).2) refl

-- what was read, and what the rest says
abbrev pub after_events : List Event → Result (List Event) ℕ → Result (List Event) ℕ
after_events events (Ok more) = Ok (events ++ more)
after_events events (Err wrong) = Err wrong

-- one event more was read
pub after_events-push : (number : ℕ) (events : List Event) (event : Event) (said : Result (List Event) ℕ)
    → after_events events (before_events number (Some event) said) ≡ after_events (events ++ event ∷ []) said
after_events-push number events event (Ok more) = ap Ok (sym (append_assoc events (event ∷ []) more))
after_events-push number events event (Err wrong) = refl

-- behind a limit
pub script_of-limit : (text behind : List ℕ) (limit : ℕ) → limit_of (lines_of text) ≡ Some limit
    → lines_of behind ≡ drop 1 (lines_of text) → script_of text ≡ script_from limit 2 (lines_of behind)
unfolding script_of
script_of-limit text behind limit says rest = rw (says, rest) refl

-- without one
pub script_of-plain : (text : List ℕ) → limit_of (lines_of text) ≡ None
    → script_of text ≡ script_from default_limit 1 (lines_of text)
unfolding script_of
script_of-plain text none = rw none refl
