-- Texts that are queries.
use Rattle.std.specs.Prelude.{◌≡◌, Bool, true, false, ℕ, List, Ok, Err}
use Rattle.sqlite_ast.specs.declared.Statement.{Statement}
use Rattle.sqlite_ast.specs.declared.Statement.TheVariants.{Select}
use Rattle.sqlite_syntax.specs.declared.statement.Parsed.{Parsed}
use Rattle.sqlite_resolve.specs.Lowering.{Checked}
use Rattle.sqlite_resolve.specs.Compile.{first}

abbrev pub is_query : Statement → Bool
is_query (Select s) = true
is_query _ = false

abbrev pub begins_with_query : Checked Parsed → Bool
begins_with_query (Ok p) = is_query p.statement
begins_with_query (Err e) = false

-- its first statement is a SELECT
abbrev pub IsQueryText : List ℕ → Type 0
IsQueryText sql = begins_with_query (first sql) ≡ true
