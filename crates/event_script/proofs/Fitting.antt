-- What a script says may stand at the start of a world: its filers are filer codes, and its limit is one that a
-- register can have.
use Rattle.std.proofs.Common.{◌≡◌, ℕ, ◌+◌, ◌^◌, ◌≤◌, ◌==◌, ◌&&◌, Bool, true, false, List, [], ◌∷◌, length, map, drop}
use Rattle.std.proofs.Common.{Option, Some, None, Result, Ok, Err, refl, sym, subst, ap, arith}
use Rattle.std.specs.Prelude.{IfOk, string_bytes, bytes_eq, codes, if◌then◌else◌}
use Rattle.key_string.specs.Filer.{is_filer}
use Rattle.filing_world.specs.World.{Event}
use Rattle.filing_world.specs.Headline.{AreFilers}
use Rattle.event_script.specs.declared.fault.ScriptFault.{ScriptFault}
use Rattle.event_script.specs.declared.script.Script.{Script as Kept}
use Rattle.event_script.specs.Words.{first_word, behind_first_word, number_up_to}
use Rattle.event_script.specs.Text.{lines_of}
use Rattle.event_script.specs.Lines.{line_limit, line_filer}
use Rattle.event_script.specs.Scripts.{Script, events_from, before_filers, filers_of, with_events, script_from}
use Rattle.event_script.specs.Scripts.{default_limit, limit_of, with_limit, script_of, view_script}
use Rattle.event_script.proofs.Digits.{number_up_to-small}

-- the filer of a line is a filer code
line_filer-is : (line filer : List ℕ) → line_filer line ≡ Some filer → is_filer filer ≡ true
unfolding line_filer
line_filer-is line filer says =
    chosen (bytes_eq (first_word line) (codes "outbox")) (is_filer (behind_first_word line)) refl says
  where
    chosen : (named is : Bool) → is_filer (behind_first_word line) ≡ is
        → (if named && is then Some (behind_first_word line) else None) ≡ Some filer → is_filer filer ≡ true
    chosen true true e says = let same : behind_first_word line ≡ filer = cc in subst (λ f. is_filer f ≡ true) same e
    chosen true false e says = absurd (cc)
    chosen false is e says = absurd (cc)

before_filers-are : (said : Option (List ℕ)) (others : List (List ℕ))
    → ((filer : List ℕ) → said ≡ Some filer → is_filer filer ≡ true) → AreFilers others
    → AreFilers (before_filers said others)
before_filers-are None others is are = refl
before_filers-are (Some filer) others is are = rw (is filer refl) are

filers_of-are : (lines : List (List ℕ)) → AreFilers (filers_of lines)
filers_of-are [] = refl
filers_of-are (rest ∷ []) = refl
filers_of-are (line ∷ next ∷ others) =
    before_filers-are (line_filer line) (filers_of (next ∷ others)) (line_filer-is line) (filers_of-are (next ∷ others))

-- the limit of a line is one that a register can have
line_limit-small : (line : List ℕ) (limit : ℕ) → line_limit line ≡ Some limit → limit ≤ 2 ^ 62
unfolding line_limit
line_limit-small line limit says = chosen (bytes_eq (first_word line) (codes "limit")) says
  where
    chosen : (named : Bool) → (if named then number_up_to (2 ^ 62) (behind_first_word line) else None) ≡ Some limit
        → limit ≤ 2 ^ 62
    chosen true says = number_up_to-small (2 ^ 62) (behind_first_word line) limit says
    chosen false says = absurd (cc)

limit_of-small : (lines : List (List ℕ)) (limit : ℕ) → limit_of lines ≡ Some limit → limit ≤ 2 ^ 62
limit_of-small [] limit says = absurd (cc)
limit_of-small (rest ∷ []) limit says = absurd (cc)
limit_of-small (line ∷ next ∷ others) limit says = line_limit-small line limit says

-- a script has the limit and the filers that it was given
record Has (limit : ℕ) (filers : List (List ℕ)) (script : Script) : Type 0 where
  limit_is : script.limit ≡ limit
  filers_is : script.filers ≡ filers

with_events-has : (limit : ℕ) (filers : List (List ℕ)) (said : Result (List Event) ℕ) (script : Script)
    → with_events limit filers said ≡ Ok script → Has limit filers script
with_events-has limit filers (Ok events) script says =
    let same : record { limit = limit; filers = filers; events = events } ≡ script = cc in
    record { limit_is = sym (ap (λ s. s.limit) same); filers_is = sym (ap (λ s. s.filers) same) }
with_events-has limit filers (Err wrong) script says = absurd (cc)

script_from-has : (limit number : ℕ) (lines : List (List ℕ)) (script : Script)
    → script_from limit number lines ≡ Ok script → Has limit (filers_of lines) script
script_from-has limit number lines script says = chosen (length (filers_of lines) == 0) says
  where
    chosen : (none : Bool) → (if none then Err number
        else with_events limit (filers_of lines) (events_from (number + length (filers_of lines))
        (drop (length (filers_of lines)) lines))) ≡ Ok script → Has limit (filers_of lines) script
    chosen true says = absurd (cc)
    chosen false says =
        with_events-has limit (filers_of lines) (events_from (number + length (filers_of lines))
        (drop (length (filers_of lines)) lines)) script says

record Fits (script : Script) : Type 0 where
  filers_fit : AreFilers script.filers
  limit_fits : script.limit ≤ 2 ^ 62

Has-fits : (limit : ℕ) (lines : List (List ℕ)) (script : Script) → limit ≤ 2 ^ 62 → Has limit (filers_of lines) script
    → Fits script
Has-fits limit lines script small has =
    record { filers_fit = rw has.filers_is (filers_of-are lines); limit_fits = rw has.limit_is small }

with_limit-fits : (said : Option ℕ) (lines : List (List ℕ)) (script : Script)
    → ((limit : ℕ) → said ≡ Some limit → limit ≤ 2 ^ 62) → with_limit said lines ≡ Ok script → Fits script
with_limit-fits None lines script small says =
    Has-fits default_limit lines script (omega arith) (script_from-has default_limit 1 lines script says)
with_limit-fits (Some limit) lines script small says =
    Has-fits limit (drop 1 lines) script (small limit refl) (script_from-has limit 2 (drop 1 lines) script says)

script_of-fits : (text : List ℕ) (script : Script) → script_of text ≡ Ok script → Fits script
unfolding script_of
script_of-fits text script says =
    with_limit-fits (limit_of (lines_of text)) (lines_of text) script (limit_of-small (lines_of text)) says

pub filers_are : (text : List ℕ) (read : Result Kept ScriptFault)
    → IfOk read (λ script. script_of text ≡ Ok (view_script script))
    → IfOk read (λ script. AreFilers (map string_bytes script.filers.items))
filers_are text (Ok script) says = (script_of-fits text (view_script script) says).filers_fit
filers_are text (Err fault) says = tt

pub limit_is_small : (text : List ℕ) (read : Result Kept ScriptFault)
    → IfOk read (λ script. script_of text ≡ Ok (view_script script)) → IfOk read (λ script. script.limit ≤ 2 ^ 62)
limit_is_small text (Ok script) says = (script_of-fits text (view_script script) says).limit_fits
limit_is_small text (Err fault) says = tt
