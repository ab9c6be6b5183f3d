-- What the command line asks `outbox` for, by the word that `clap` found and the values of its options. `clap` says
-- nothing of which words give which values, since an option may have a value that begins with a hyphen.
use Rattle.std.specs.Prelude.{◌≡◌, ◌&&◌, ◌||◌, ◌^◌, not, ℕ, Bool, true, false, List, [], ◌∷◌, map, codes}
use Rattle.std.specs.Prelude.{nat_lt, nat_le, Option, Some, None, is_some, option_map, option_and_then, unwrap_or}
use Rattle.std.specs.Prelude.{if◌then◌else◌}
use Rattle.std.specs.Borrow.{Bor}
use Rattle.std.specs.List.{list_any}
use Rattle.std.specs.Option.{option_map_or}
use Rattle.std.specs.Str.{bytes_eq}
use Rattle.clap.specs.Words.{Row, Text}
use Rattle.finding_lines.specs.declared.form.Form.{Form}
use Rattle.finding_lines.specs.declared.form.Form.TheVariants.{Sentences, Objects}
use Rattle.outbox_process.specs.declared.errand.Which.{Which}
use Rattle.outbox_process.specs.declared.errand.Which.TheVariants.{Next, Entry, All}
use Rattle.outbox_commands.specs.declared.options.Peer.{Peer}
use Rattle.outbox_commands.specs.declared.options.Task.{Task}
use Rattle.outbox_commands.specs.declared.options.Task.TheVariants.{Init, Put, Migrate, Send, Ask, Status, Show, Body}
use Rattle.outbox_commands.specs.declared.options.Asked.{Asked}
use Rattle.outbox_commands.specs.declared.options.Asked.TheVariants.{Outbox, Lint}
use Rattle.command_line.specs.Values.{value, values, is_set, number}

-- ---- what options say

-- `--json` asks for objects
abbrev pub form_of : List Row → Form
form_of options = if is_set (codes "json") options then Objects else Sentences

-- `--entry` asks for one entry, and `--all` for each
abbrev pub which_of : List Row → Which
which_of options = option_map_or Entry (number 64 (codes "entry") options)
    (if is_set (codes "all") options then All else Next)

-- `--amend` names a filing
abbrev pub amended : List Row → Option ℕ
amended options = option_and_then (λ n. if nat_le 1 n && nat_lt n (2 ^ 63) then Some n else None)
    (number 64 (codes "amend") options)

-- the intake of `--port`, called with `--patience`, whose replies are kept in the folder `--receipts`
pub record IsPeerOf (options : List Row) (peer : Peer) : Type 0 where
  pub port : number 16 (codes "port") options ≡ Some peer.port
  pub patience : peer.patience ≡ number 64 (codes "patience") options
  pub receipts : option_map (λ text. text.now) peer.receipts ≡ value (codes "receipts") options

-- ---- tasks on an outbox

-- the file of the outbox
abbrev pub database_of : Task → Bor Text
database_of (Init database filer) = database
database_of (Put database bodies key target strict) = database
database_of (Migrate database) = database
database_of (Send database peer which strict) = database
database_of (Ask database peer id form) = database
database_of (Status database) = database
database_of (Show database entry) = database
database_of (Body database entry) = database

-- the intake that a task calls; one that calls none keeps no receipts
abbrev pub Calls : Task → Peer → Type 0
Calls (Send database peer which strict) called = called ≡ peer
Calls (Ask database peer id form) called = called ≡ peer
Calls other called = called.receipts ≡ None

-- the task is what this word asks for
abbrev pub IsTask : Text → List Row → Task → Type 0
IsTask word options (Init database filer) =
    (word ≡ codes "init") × (value (codes "filer") options ≡ Some filer.now)
IsTask word options (Put database bodies key target strict) =
    (word ≡ codes "put") × (map (λ text. text.now) bodies.items ≡ values (codes "body") options)
    × (option_map (λ text. text.now) key ≡ value (codes "key") options) × (target.number ≡ amended options)
    × (strict ≡ is_set (codes "strict") options)
IsTask word options (Migrate database) = word ≡ codes "migrate"
IsTask word options (Send database peer which strict) =
    (word ≡ codes "send") × IsPeerOf options peer × (which ≡ which_of options)
    × (strict ≡ is_set (codes "strict") options)
IsTask word options (Ask database peer id form) =
    (word ≡ codes "ask") × IsPeerOf options peer × (number 64 (codes "entry") options ≡ Some id)
    × (form ≡ form_of options)
IsTask word options (Status database) = word ≡ codes "status"
IsTask word options (Show database entry) =
    (word ≡ codes "show") × (is_set (codes "body") options ≡ false) × (entry ≡ number 64 (codes "entry") options)
IsTask word options (Body database entry) =
    (word ≡ codes "show") × (is_set (codes "body") options ≡ true) × (number 64 (codes "entry") options ≡ Some entry)

-- whether a word asks for a task, and the values are there that the task needs beside its file
abbrev pub has_task : Text → List Row → Bool
has_task word options =
    if bytes_eq word (codes "init") then is_some (value (codes "filer") options)
    else if bytes_eq word (codes "send") then is_some (number 16 (codes "port") options)
    else if bytes_eq word (codes "ask")
    then is_some (number 16 (codes "port") options) && is_some (number 64 (codes "entry") options)
    else if bytes_eq word (codes "show")
    then not (is_set (codes "body") options) || is_some (number 64 (codes "entry") options)
    else list_any (bytes_eq word) (codes "put" ∷ codes "migrate" ∷ codes "status" ∷ [])

-- the task on this file that a word asks for, if it asks for one
abbrev pub IsTaskOn : Bor Text → Text → List Row → Option Task → Type 0
IsTaskOn database word options None = has_task word options ≡ false
IsTaskOn database word options (Some task) = (database_of task ≡ database) × IsTask word options task

-- ---- what is asked for

-- whether a word asks for something, and the values are there that it needs
abbrev pub is_asked : Text → List Row → Bool
is_asked word options =
    if bytes_eq word (codes "lint") then is_some (value (codes "filer") options)
    else is_some (value (codes "db") options) && has_task word options

-- what a word asks for, if it asks for something: a task on the file `--db`, which is waited for as long as `--wait`
-- says, or not at all; or the findings of some reports
abbrev pub IsAskedBy : Text → List Row → Option Asked → Type 0
IsAskedBy word options None = is_asked word options ≡ false
IsAskedBy word options (Some (Outbox task wait)) =
    (value (codes "db") options ≡ Some (database_of task).now) × IsTask word options task
    × (wait ≡ unwrap_or (number 32 (codes "wait") options) 0)
IsAskedBy word options (Some (Lint filer form files)) =
    (word ≡ codes "lint") × (value (codes "filer") options ≡ Some filer.now) × (form ≡ form_of options)
    × (map (λ text. text.now) files.items ≡ values (codes "FILE") options)

-- the same of the word that was found, and the options behind it; without a word nothing is asked for
abbrev pub IsAsked : Option (Text × List Row) → Option Asked → Type 0
IsAsked None asked = asked ≡ None
IsAsked (Some (word, options)) asked = IsAskedBy word options asked
