use Rattle.std.proofs.Common.{◌≡◌, ◌∷◌, [], ℕ, List, Result, Ok, Err, IfOk, ap, sym, ◌∙◌, rules}
use Rattle.clap.specs.Built.{AddsArg, AddsInTurn}
use Rattle.clap.specs.declared.builder.arg.Arg.{Arg}
use Rattle.clap.specs.declared.builder.command.Command.{Command}
use Rattle.command_line.specs.Words.{name_of}
use Rattle.command_line.proofs.word.task_of.Goals as goal

-- A command that is given arguments keeps its name.
keeps_name : (old new : Command) (args : List Arg) → AddsInTurn AddsArg old args new → name_of new ≡ name_of old
unfolding name_of
keeps_name old new [] same = ap name_of (sym same)
keeps_name old new (a ∷ args) added = keeps_name added.0 new args added.2 ∙ added.1.names.0

-- The same, where there was memory for them.
has_name : {E : Type 0} (old : Command) (args : List Arg) (name : List ℕ) (new : Result Command E)
    → IfOk new (AddsInTurn AddsArg old args) → name_of old ≡ name → IfOk new (λ task. name_of task ≡ name)
has_name old args name (Ok new) added is = keeps_name old new args added ∙ is
has_name old args name (Err _) _ _ = tt

pub returns : goal.returns
unfolding name_of
returns g c = has_name _ _ _ _ c.args-2.ensures (search rules)
