-- The tasks that words ask for.
use Rattle.std.specs.Prelude.{◌≡◌, ◌⊎◌, ℕ, true, List, Option}
use Rattle.clap.specs.Words.{Row, Text, HasMatchesOf, IsParsedFrom, app_of, kind_of, subcommand_rows_of, takes}
use Rattle.clap.specs.declared.builder.command.Command.{Command}
use Rattle.clap.specs.declared.builder.command.Command.TheViews.{out-Command}
use Rattle.clap.specs.declared.error.Error.{Error}
use Rattle.clap.specs.declared.error.kind.ErrorKind.TheVariants.{OutOfMemory}
use Rattle.clap.specs.declared.parser.matches.ArgMatches.{ArgMatches}

-- the word that asks for a command
unfoldable pub name_of : Command → List ℕ
name_of command = (out-Command command).name.now

-- ---- reading the command line

-- `clap` found these matches with this command, and they ask for that. What a word asks for that was found with its
-- options, or no word, is the first argument.
abbrev pub IsReadBy : {Asked : Type 0} → (Option (Text × List Row) → Asked → Type 0) → Command → List Text → Asked
    → Type 0
IsReadBy asks command words asked =
    (matches : ArgMatches) × IsParsedFrom command matches × HasMatchesOf (app_of command) words matches
    × asks (subcommand_rows_of matches) asked

-- the command does not take the words, as far as `clap` says which it takes, or memory ran out
abbrev pub IsUnreadBy : Command → List Text → Error → Type 0
IsUnreadBy command words error = takes (app_of command) words ≡ true → kind_of error ≡ OutOfMemory

-- the same with the command of a program
abbrev pub IsRead : {Asked : Type 0} → (Option (Text × List Row) → Asked → Type 0) → List Text → Asked → Type 0
IsRead asks words asked = (command : Command) × IsReadBy asks command words asked

abbrev pub IsUnread : List Text → Error → Type 0
IsUnread words error = (kind_of error ≡ OutOfMemory) ⊎ ((command : Command) × IsUnreadBy command words error)
