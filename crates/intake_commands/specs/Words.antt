-- What the command line asks `intake` for, by the word that `clap` found and the values of its options. `clap` says
-- nothing of which words give which values, since an option may have a value that begins with a hyphen.
use Rattle.std.specs.Prelude.{◌≡◌, ◌&&◌, ◌||◌, ℕ, Bool, true, false, List, [], ◌∷◌, map, codes, Option, Some, None}
use Rattle.std.specs.Prelude.{Result, Ok, Err, is_some, option_map, option_and_then, unwrap_or, if◌then◌else◌, eqb}
use Rattle.std.specs.Prelude.{slice_get, length, nat_le, nat_lt, not}
use Rattle.std.specs.List.{after_first, before_first, list_any}
use Rattle.std.specs.Option.{option_map_or}
use Rattle.std.specs.Result.{result_ok}
use Rattle.std.specs.Str.{bytes_eq}
use Rattle.clap.specs.Words.{Row, Text}
use Rattle.hex.specs.Hex.{decode_sized}
use Rattle.key_string.specs.Key.{is_key}
use Rattle.command_line.specs.declared.fault.CommandFault.TheVariants as command
use Rattle.register_extracts.specs.declared.facts.record.FactForm.{FactForm}
use Rattle.register_extracts.specs.declared.facts.record.FactForm.TheVariants.{Csv, JsonLines}
use Rattle.register_extracts.specs.declared.records.Wanted.{Wanted}
use Rattle.finding_lines.specs.declared.form.Form.{Form}
use Rattle.finding_lines.specs.declared.form.Form.TheVariants.{Sentences, Objects}
use Rattle.intake_process.specs.declared.tasks.errand.Errand.{Errand}
use Rattle.intake_process.specs.declared.tasks.errand.Errand.TheVariants.{Ask, Check, Migrate, Export, Digest, Pages}
use Rattle.intake_process.specs.declared.tasks.errand.Question.TheVariants.{List as ListOf, Show}
use Rattle.intake_process.specs.declared.tasks.errand.Question.TheVariants.{FilingBody, RequestBody}
use Rattle.intake_process.specs.declared.tasks.errand.Published.{Published}
use Rattle.intake_commands.specs.declared.fault.NotDone.{NotDone}
use Rattle.intake_commands.specs.declared.fault.NotDone.TheVariants as fault
use Rattle.intake_commands.specs.declared.options.Asked.{Asked}
use Rattle.intake_commands.specs.declared.options.Serving.{Serving}
use Rattle.intake_commands.specs.declared.options.Task.{Task}
use Rattle.intake_commands.specs.declared.options.Task.TheVariants.{Run, Serve, Visit, Lint}
use Rattle.command_line.specs.Values.{value, values, is_set, number, read_decimal}
use Rattle.system_sockets.specs.declared.address.Address.{Address}
use Rattle.system_sockets.specs.declared.address.Address.TheVariants.{Port, Socket}

-- ---- what options say

-- `--limit`, or a million keys
abbrev pub limit_of : List Row → ℕ
limit_of options = unwrap_or (number 64 (codes "limit") options) 1000000

-- `--json` asks for objects
abbrev pub form_of : List Row → Form
form_of options = if is_set (codes "json") options then Objects else Sentences

abbrev pub format_named : Text → Option FactForm
format_named text =
    if bytes_eq text (codes "csv") then Some Csv
    else if bytes_eq text (codes "jsonl") then Some JsonLines
    else None

-- the format that `--format` names
abbrev pub format_of : List Row → Option FactForm
format_of options = option_and_then format_named (value (codes "format") options)

-- what stands before the first colon of a text, and behind it; nothing if it has none
unfoldable pub before_colon : Text → Text
before_colon text = before_first (λ byte. eqb byte 58) text

unfoldable pub after_colon : Text → Text
after_colon text = after_first (λ byte. eqb byte 58) text

-- the digest that a text `N:HEX` writes: N in decimal digits, and HEX as the 64 hexadecimal digits of 32 bytes
unfoldable pub published_in : Text → Option Published
published_in text =
    option_and_then
    (λ count. option_map (λ bytes. record { count = count; bytes = bytes })
    (result_ok (decode_sized (after_colon text) 32)))
    (read_decimal 64 (before_colon text))

-- the digest of `--against`
abbrev pub against_of : List Row → Option Published
against_of options = option_and_then published_in (value (codes "against") options)

-- whether its value, if there is one, writes a digest
abbrev pub is_against : List Row → Bool
is_against options = option_map_or (λ text. is_some (published_in text)) (value (codes "against") options) true

-- whether the value of `--key`, if there is one, is a key
abbrev pub is_keyed : List Row → Bool
is_keyed options = option_map_or is_key (value (codes "key") options) true

-- whether a request is named, by its filer and key
abbrev pub has_request : List Row → Bool
has_request options =
    is_some (value (codes "filer") options) && (is_some (value (codes "key") options) && is_keyed options)

-- whether it is said what to show: a filing, or with `--body` maybe a request
abbrev pub has_shown : List Row → Bool
has_shown options =
    is_some (number 64 (codes "number") options) || (is_set (codes "body") options && has_request options)

-- whether a unix socket may have this path: the system has room for 107 bytes and a zero
abbrev pub is_socket_path : Text → Bool
is_socket_path path = nat_lt 0 (length path) && nat_le (length path) 107

-- whether the value of `--socket`, if there is one, is such a path
abbrev pub is_socketed : List Row → Bool
is_socketed options = option_map_or is_socket_path (value (codes "socket") options) true

-- the address that is served: the port of `--port`, or the unix socket of `--socket`, and not both
abbrev pub IsAddressOf : List Row → Address → Type 0
IsAddressOf options (Port port) =
    (value (codes "socket") options ≡ None) × (number 16 (codes "port") options ≡ Some port)
IsAddressOf options (Socket path) =
    (value (codes "socket") options ≡ Some path.now) × (is_socket_path path.now ≡ true)
    × (number 16 (codes "port") options ≡ None)

-- whether one address is given
abbrev pub has_address : List Row → Bool
has_address options =
    if is_some (value (codes "socket") options)
    then not (is_some (number 16 (codes "port") options)) && is_socketed options
    else is_some (number 16 (codes "port") options)

-- ---- tasks

-- the register of `--db` is served as the options say: a new one with `--new`, and with lines of what came with `--log`
pub record IsServingOf (options : List Row) (serving : Serving) : Type 0 where
  pub database : value (codes "db") options ≡ Some serving.database.now
  pub address : IsAddressOf options serving.address
  pub connections : number 32 (codes "connections") options ≡ Some serving.connections
  pub at_once : serving.at_once ≡ unwrap_or (number 16 (codes "at-once") options) 256
  pub memory : serving.memory ≡ unwrap_or (number 32 (codes "memory") options) 256
  pub limit : serving.limit ≡ limit_of options
  pub patience : serving.patience ≡ number 32 (codes "patience") options
  pub new : serving.new ≡ is_set (codes "new") options
  pub log : serving.log ≡ is_set (codes "log") options

-- whether the values are there that serving needs
abbrev pub has_serving : List Row → Bool
has_serving options = is_some (value (codes "db") options) && (has_address options
    && is_some (number 32 (codes "connections") options))

-- the filings that an export writes out: `--filer`'s, or all filers'; with `--current` those that none replaces; those
-- behind the number of `--after`
pub record AreWanted (options : List Row) (wanted : Wanted) : Type 0 where
  pub filer : option_map (λ text. text.now) wanted.filer ≡ value (codes "filer") options
  pub current : wanted.current ≡ is_set (codes "current") options
  pub after : wanted.after ≡ unwrap_or (number 64 (codes "after") options) 0

-- the errand is what this word asks for
abbrev pub IsErrand : Text → List Row → Errand → Type 0
IsErrand word options (Ask (ListOf filer dated)) =
    (word ≡ codes "list") × (value (codes "filer") options ≡ Some filer.now)
    × (dated ≡ is_set (codes "moments") options)
IsErrand word options (Ask (Show filing dated)) =
    (word ≡ codes "show") × (is_set (codes "body") options ≡ false)
    × (number 64 (codes "number") options ≡ Some filing) × (dated ≡ is_set (codes "moments") options)
IsErrand word options (Ask (FilingBody filing)) =
    (word ≡ codes "show") × (is_set (codes "body") options ≡ true)
    × (number 64 (codes "number") options ≡ Some filing)
IsErrand word options (Ask (RequestBody filer key)) =
    (word ≡ codes "show") × (is_set (codes "body") options ≡ true) × (number 64 (codes "number") options ≡ None)
    × (value (codes "filer") options ≡ Some filer.now) × (value (codes "key") options ≡ Some key.now)
    × (is_key key.now ≡ true)
IsErrand word options (Check against) =
    (word ≡ codes "check") × (is_against options ≡ true) × (against_of options ≡ against)
IsErrand word options Migrate = word ≡ codes "migrate"
IsErrand word options (Export format wanted) =
    (word ≡ codes "export") × (format_of options ≡ Some format) × AreWanted options wanted
IsErrand word options (Digest until) = (word ≡ codes "digest") × (number 64 (codes "until") options ≡ until)
IsErrand word options (Pages folder) = (word ≡ codes "pages") × (value (codes "into") options ≡ Some folder.now)

-- whether a word asks for an errand, and the values are there that the errand needs, and of its form
abbrev pub has_errand : Text → List Row → Bool
has_errand word options =
    if bytes_eq word (codes "list") then is_some (value (codes "filer") options)
    else if bytes_eq word (codes "show") then has_shown options
    else if bytes_eq word (codes "export") then is_some (format_of options)
    else if bytes_eq word (codes "pages") then is_some (value (codes "into") options)
    else if bytes_eq word (codes "check") then is_against options
    else list_any (bytes_eq word) (codes "migrate" ∷ codes "digest" ∷ [])

-- the errand that a word asks for, if it asks for one
abbrev pub IsErrandBy : Text → List Row → Option Errand → Type 0
IsErrandBy word options None = has_errand word options ≡ false
IsErrandBy word options (Some errand) = IsErrand word options errand

-- the task is what this word asks for
abbrev pub IsTask : Text → List Row → Task → Type 0
IsTask word options (Run limit) = (word ≡ codes "run") × (limit ≡ limit_of options)
IsTask word options (Serve serving) = (word ≡ codes "serve") × IsServingOf options serving
IsTask word options (Visit database errand) =
    (value (codes "db") options ≡ Some database.now) × IsErrand word options errand
IsTask word options (Lint filer form files) =
    (word ≡ codes "lint") × (value (codes "filer") options ≡ Some filer.now) × (form ≡ form_of options)
    × (map (λ text. text.now) files.items ≡ values (codes "FILE") options)

-- whether a word asks for a task, and the values are there that the task needs, and of its form
abbrev pub has_task : Text → List Row → Bool
has_task word options =
    if bytes_eq word (codes "run") then true
    else if bytes_eq word (codes "serve") then has_serving options
    else if bytes_eq word (codes "lint") then is_some (value (codes "filer") options)
    else is_some (value (codes "db") options) && has_errand word options

-- the task that a word asks for, if it asks for one
abbrev pub IsTaskBy : Text → List Row → Option Task → Type 0
IsTaskBy word options None = has_task word options ≡ false
IsTaskBy word options (Some task) = IsTask word options task

-- the file of the register, and the folder of the pages; empty if there is none
abbrev pub database_of : Task → Text
database_of (Serve serving) = serving.database.now
database_of (Visit database errand) = database.now
database_of other = []

abbrev pub folder_of : Task → Text
folder_of (Visit database (Pages folder)) = folder.now
folder_of other = []

-- ---- what is asked for

-- the fault of options that ask for nothing: the value of `--against` writes no digest, that of `--key` is no key, no
-- unix socket may have the path of `--socket`, or there is no task
abbrev pub unserved : List Row → NotDone
unserved options = if is_socketed options then fault.Command command.NoTask else fault.Socket

abbrev pub unasked : List Row → NotDone
unasked options =
    if is_against options then (if is_keyed options then unserved options else fault.Key) else fault.Against

-- a task, if the word that was found asks for one, and its file is waited for as long as `--wait` says, or not at all;
-- without a word one connection is run, with the limit that is set if nothing is said
abbrev pub IsAsked : Option (Text × List Row) → Result Asked NotDone → Type 0
IsAsked None asked = asked ≡ Ok (record { task = Run 1000000; wait = 0 })
IsAsked (Some (word, options)) (Err why) = (has_task word options ≡ false) × (why ≡ unasked options)
IsAsked (Some (word, options)) (Ok asked) =
    IsTask word options asked.task × (asked.wait ≡ unwrap_or (number 32 (codes "wait") options) 0)

-- ---- reading the command line

-- the word behind the program's name is `init`, which only an outbox has
abbrev pub asks_for_init : List Text → Bool
asks_for_init words = option_map_or (λ word. bytes_eq word (codes "init")) (slice_get words 1) false
