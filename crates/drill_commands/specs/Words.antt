-- The words of the command line.
use Rattle.std.specs.Prelude.{List, codes, true}
use Rattle.clap.specs.Words.{App, Text, Kinds, fault_of, new_app}
use Rattle.clap.specs.Simple.{on_top}

-- the command line: the name of the program, the flags that ask for help and the version, and nothing else
abbrev pub app : App
app = on_top (λ top. record top { has_version = true }) (new_app (codes "drill"))

-- why `clap` does not take these words; it takes them if there is no reason
abbrev pub refusals : List Text → Kinds
refusals words = fault_of app words
