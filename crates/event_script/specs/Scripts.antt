-- Scripts: lines that each end in a line feed, the last one too. There may be a limit in the first; then one outbox or
-- more; then events.
use Rattle.std.specs.Prelude.{◌≡◌, ℕ, suc, ◌+◌, ⊤, List, [], ◌∷◌, length, map, drop, string_bytes, ◌==◌, Option, Some}
use Rattle.std.specs.Prelude.{None, Result, Ok, Err, if◌then◌else◌}
use Rattle.filing_world.specs.World.{Event}
use Rattle.event_script.specs.declared.fault.ScriptFault.{ScriptFault}
use Rattle.event_script.specs.declared.fault.ScriptFault.TheVariants.{Unreadable, Memory}
use Rattle.event_script.specs.declared.script.Script.{Script as Kept}
use Rattle.event_script.specs.Events.{view_event}
use Rattle.event_script.specs.Lines.{line_event, line_limit, line_filer}
use Rattle.event_script.specs.Text.{lines_of}

-- how many filers' keys may be kept, the filers of the outboxes by their numbers, and the events in order
pub record Script : Type 0 where
  pub limit : ℕ
  pub filers : List (List ℕ)
  pub events : List Event

-- own rule: the limit if no line says one
abbrev pub default_limit : ℕ
default_limit = 1000000

-- the event that a line says, before the others; if the line says none, its number
abbrev pub before_events : ℕ → Option Event → Result (List Event) ℕ → Result (List Event) ℕ
before_events number None others = Err number
before_events number (Some event) (Ok events) = Ok (event ∷ events)
before_events number (Some event) (Err wrong) = Err wrong

-- the events of the lines from this number on, or the number of the first line that says no event
abbrev pub events_from : ℕ → List (List ℕ) → Result (List Event) ℕ
events_from number [] = Ok []
events_from number (rest ∷ []) = if length rest == 0 then Ok [] else Err number
events_from number (line ∷ next ∷ others) =
    before_events number (line_event line) (events_from (suc number) (next ∷ others))

-- a filer before the others, if the line names one
abbrev pub before_filers : Option (List ℕ) → List (List ℕ) → List (List ℕ)
before_filers None others = []
before_filers (Some filer) others = filer ∷ others

-- the filers of the outboxes that the first lines name
abbrev pub filers_of : List (List ℕ) → List (List ℕ)
filers_of [] = []
filers_of (rest ∷ []) = []
filers_of (line ∷ next ∷ others) = before_filers (line_filer line) (filers_of (next ∷ others))

-- the script of these events, if the lines say them
abbrev pub with_events : ℕ → List (List ℕ) → Result (List Event) ℕ → Result Script ℕ
with_events limit filers (Ok events) = Ok (record { limit = limit; filers = filers; events = events })
with_events limit filers (Err wrong) = Err wrong

-- one outbox at least, and the events behind them
abbrev pub script_from : ℕ → ℕ → List (List ℕ) → Result Script ℕ
script_from limit number others =
    let filers = filers_of others in
    if length filers == 0 then Err number
    else with_events limit filers (events_from (number + length filers) (drop (length filers) others))

-- the limit that the first line says
abbrev pub limit_of : List (List ℕ) → Option ℕ
limit_of [] = None
limit_of (rest ∷ []) = None
limit_of (line ∷ next ∷ others) = line_limit line

abbrev pub with_limit : Option ℕ → List (List ℕ) → Result Script ℕ
with_limit None others = script_from default_limit 1 others
with_limit (Some limit) others = script_from limit 2 (drop 1 others)

-- the script that a text spells, or the number of the first line that is wrong, counted from 1
unfoldable pub script_of : List ℕ → Result Script ℕ
script_of text = with_limit (limit_of (lines_of text)) (lines_of text)

-- ---- a script without the memory that holds it

abbrev pub view_script : Kept → Script
view_script script = record {
  limit = script.limit;
  filers = map string_bytes script.filers.items;
  events = map view_event script.events.items;
}

-- the fault names the wrong line, or says that memory ran out
abbrev pub IsFaultOf : {A : Type 0} → Result A ℕ → ScriptFault → Type 0
IsFaultOf said (Unreadable number) = said ≡ Err number
IsFaultOf said Memory = ⊤
