-- What a line of a script says, without the line feed that ends it.
use Rattle.std.specs.Prelude.{ℕ, ◌+◌, ◌^◌, suc, Bool, true, false, ◌&&◌, not, List, [], ◌∷◌, take, drop, codes}
use Rattle.std.specs.Prelude.{bytes_eq, ◌==◌, Option, Some, None, option_map, option_and_then, if◌then◌else◌}
use Rattle.key_string.specs.Key.{double_quote, backslash, key_of_field}
use Rattle.key_string.specs.Filer.{is_filer}
use Rattle.filing_model.specs.Stopping.{Crash}
use Rattle.filing_world.specs.World.{Event}
use Rattle.event_script.specs.Words.{is_space, words, has_space, first_word, behind_first_word, number_up_to, number}
use Rattle.event_script.specs.Words.{filing_number, arrival_number, amount}

-- ---- put O KEY BODY, amend O N KEY BODY

-- The place of the double quote that closes a String: the first that no backslash escapes. `escaped` says whether a
-- backslash that is not escaped itself stood before these bytes.
abbrev pub closing_quote : Bool → List ℕ → Option ℕ
closing_quote escaped [] = None
closing_quote escaped (c ∷ cs) =
    if c == double_quote && not escaped then Some 0
    else option_map suc (closing_quote (c == backslash && not escaped) cs)

-- how many bytes the String has with which these bytes begin
abbrev pub string_length : List ℕ → Option ℕ
string_length bytes = option_map (λ place. place + 2) (closing_quote false (drop 1 bytes))

-- a space and the body, behind a key
abbrev pub keyed_body : ℕ → Option ℕ → Option (List ℕ) → List ℕ → Option Event
keyed_body outbox target (Some key) (c ∷ body) = if is_space c then Some (Event.Put outbox key target body) else None
keyed_body outbox target key rest = None

-- the String that spells the key, a space, and the body, which is the rest of the line
abbrev pub key_and_body : ℕ → Option ℕ → List ℕ → Option Event
key_and_body outbox target bytes =
    option_and_then (λ count. keyed_body outbox target (key_of_field (take count bytes)) (drop count bytes))
    (string_length bytes)

abbrev pub put_of : List ℕ → Option Event
put_of rest = option_and_then (λ outbox. key_and_body outbox None (behind_first_word rest)) (number (first_word rest))

-- behind the outbox, the number of the filing that the report is to replace
abbrev pub amendment_of : ℕ → List ℕ → Option Event
amendment_of outbox rest =
    option_and_then (λ n. key_and_body outbox (Some n) (behind_first_word rest)) (filing_number (first_word rest))

abbrev pub amend_of : List ℕ → Option Event
amend_of rest = option_and_then (λ outbox. amendment_of outbox (behind_first_word rest)) (number (first_word rest))

-- ---- stranger TEXT

-- the byte that a backslash and this character stand for
abbrev pub escaped_byte : ℕ → Option ℕ
escaped_byte c =
    if c == 114 then Some 13 else (if c == 110 then Some 10 else (if c == backslash then Some backslash else None))

-- The bytes that a text stands for: `\r`, `\n` and `\\` for CR, LF and a backslash, and any other character but a
-- backslash for itself. `escaped` says whether a backslash stood before these characters that stands for nothing yet.
abbrev pub unescaped : Bool → List ℕ → Option (List ℕ)
unescaped false [] = Some []
unescaped true [] = None
unescaped false (c ∷ cs) =
    if c == backslash then unescaped true cs else option_map (λ bytes. c ∷ bytes) (unescaped false cs)
unescaped true (c ∷ cs) =
    option_and_then (λ byte. option_map (λ bytes. byte ∷ bytes) (unescaped false cs)) (escaped_byte c)

abbrev pub stranger_of : List ℕ → Option Event
stranger_of text = option_map Event.Stranger (unescaped false text)

-- ---- the events that have words alone

-- send O E
abbrev pub send_of : List (List ℕ) → Option Event
send_of (outbox ∷ entry ∷ []) = option_and_then (λ o. option_map (λ e. Event.Send o e) (number entry)) (number outbox)
send_of others = None

-- before, after
abbrev pub crash_at : List ℕ → ℕ → Option Crash
crash_at when arrival =
    if bytes_eq when (codes "before") then Some (Crash.Before arrival)
    else (if bytes_eq when (codes "after") then Some (Crash.After arrival) else None)

-- nothing, before J, after J
abbrev pub delivery_stop : List (List ℕ) → Option Crash
delivery_stop [] = Some Crash.No
delivery_stop (when ∷ arrival ∷ []) = option_and_then (crash_at when) (arrival_number arrival)
delivery_stop others = None

-- deliver S N, and where it stops
abbrev pub deliver_of : List (List ℕ) → Option Event
deliver_of (item ∷ bytes ∷ stop) =
    option_and_then (λ i. option_and_then (λ b. option_map (λ crash. Event.Deliver i b crash) (delivery_stop stop))
    (amount bytes)) (number item)
deliver_of others = None

-- nothing, before, after: while a reply is handed over there is one point to stop at
abbrev pub handing_stop : List (List ℕ) → Option Crash
handing_stop [] = Some Crash.No
handing_stop (when ∷ []) = crash_at when 1
handing_stop others = None

-- hand P N, and where it stops
abbrev pub hand_of : List (List ℕ) → Option Event
hand_of (output ∷ bytes ∷ stop) =
    option_and_then (λ o. option_and_then (λ b. option_map (λ crash. Event.Hand o b crash) (handing_stop stop))
    (amount bytes)) (number output)
hand_of others = None

-- restart server, restart outbox O
abbrev pub restart_of : List (List ℕ) → Option Event
restart_of (end ∷ []) = if bytes_eq end (codes "server") then Some Event.RestartServer else None
restart_of (end ∷ outbox ∷ []) =
    if bytes_eq end (codes "outbox") then option_map Event.RestartOutbox (number outbox) else None
restart_of others = None

-- ---- lines

-- the event of this name, said by what stands behind the name and a space
unfoldable pub event_named : List ℕ → List ℕ → Option Event
event_named name rest =
    if bytes_eq name (codes "put") then put_of rest
    else (if bytes_eq name (codes "amend") then amend_of rest
    else (if bytes_eq name (codes "send") then send_of (words rest)
    else (if bytes_eq name (codes "stranger") then stranger_of rest
    else (if bytes_eq name (codes "deliver") then deliver_of (words rest)
    else (if bytes_eq name (codes "hand") then hand_of (words rest)
    else (if bytes_eq name (codes "restart") then restart_of (words rest) else None))))))

-- the event that a line says
unfoldable pub line_event : List ℕ → Option Event
line_event line = if has_space line then event_named (first_word line) (behind_first_word line) else None

-- limit N, at most 2^62
unfoldable pub line_limit : List ℕ → Option ℕ
line_limit line =
    if bytes_eq (first_word line) (codes "limit") then number_up_to (2 ^ 62) (behind_first_word line) else None

-- outbox FILER
unfoldable pub line_filer : List ℕ → Option (List ℕ)
line_filer line =
    if bytes_eq (first_word line) (codes "outbox") && is_filer (behind_first_word line)
    then Some (behind_first_word line) else None
