-- The lines that show what became of a world.
use Rattle.std.specs.Prelude.{◌≡◌, ℕ, List, ◌++◌, length, Ok}
use Rattle.std.specs.List.{flat_map}
use Rattle.event_script.specs.Restarts.{restarted}
use Rattle.event_script.specs.Scripts.{Script, script_of}
use Rattle.event_script.specs.Shown.{filing_line, entry_line, done_line}
use Rattle.filing_model.specs.Outbox.{State}
use Rattle.filing_model.specs.Register.{Filing, register}
use Rattle.filing_world.specs.World.{World}
use Rattle.filing_world.specs.Headline.{Holds, start, states}
use Rattle.filing_world.specs.Step.{Run}

-- the line of a filing
abbrev pub filing_shown : Filing → List ℕ
filing_shown f = filing_line f.number f.request.filer f.request.key f.request.target

-- the line of an entry: the number of its outbox, its own number, and its state
abbrev pub entry_shown : ℕ × ℕ × State → List ℕ
entry_shown (outbox, number, state) = entry_line outbox number state

-- a line for each filing and for each entry, and one that counts the completed requests
abbrev pub world_shown : World → List ℕ
world_shown world =
    flat_map filing_shown (register world.done) ++ flat_map entry_shown (states world) ++ done_line (length world.done)

-- ---- scripts

-- The lines of the world to which the events of the script lead that these bytes spell, with a restart of every end
-- behind them.
pub record IsShownOf (bytes text : List ℕ) : Type 0 where
  pub script : Script
  pub world : World
  -- the bytes spell the script
  pub said : script_of bytes ≡ Ok script
  -- its events lead to that world
  pub run : Run (start script.filers script.limit) (restarted script).events world
  -- the headline holds of it
  pub holds : Holds world
  pub shown : text ≡ world_shown world
