-- Why a script is not read, why no world is answered of it, and why nothing is shown of a world.
use Rattle.std.specs.Prelude.{◌≡◌, ◌⊎◌, ℕ, ⊤, List, Contains, Option, Ok}
use Rattle.std.specs.Str.{IsUtf8}
use Rattle.command_line.specs.declared.fault.CommandFault.TheVariants.{Memory}
use Rattle.command_line.specs.Reading.{IsReadFailure, IsLonger}
use Rattle.event_script.specs.Restarts.{restarted}
use Rattle.event_script.specs.Scripts.{Script, script_of, IsFaultOf}
use Rattle.filing_model.specs.Register.{Filing, register}
use Rattle.filing_world.specs.World.{World}
use Rattle.filing_world.specs.Headline.{Holds, start}
use Rattle.filing_world.specs.Step.{Run}
use Rattle.key_string.specs.Key.{IsTextFault}
use Rattle.schedule.specs.Ending.{EndsBy}
use Rattle.drill_commands.specs.declared.fault.NotDone.{NotDone}
use Rattle.drill_commands.specs.declared.fault.NotDone.TheVariants as fault

-- The reader of a script had more bytes than a script may have; or reading failed before one byte more than that was
-- read. The first arguments are what contracts see of the reader: the bytes that it has left, and its failures.
abbrev pub IsNotRead : {R : Type 0} → (R → Option (List ℕ)) → (R → ℕ) → R → R → NotDone → Type 0
IsNotRead left failures before after (fault.Read why) = IsReadFailure left failures 8388609 before after why
IsNotRead left failures before after fault.TooLong = IsLonger (left before) (left after) 8388608
IsNotRead left failures before after (fault.Command why) = ⊥
IsNotRead left failures before after fault.NotText = ⊥
IsNotRead left failures before after (fault.Script why) = ⊥
IsNotRead left failures before after (fault.World why) = ⊥
IsNotRead left failures before after (fault.Register why) = ⊥
IsNotRead left failures before after (fault.Outbox why) = ⊥
IsNotRead left failures before after (fault.Key why) = ⊥

-- The bytes are no UTF-8, a line of the script says nothing, an event ended the run, or memory ran out.
abbrev pub IsNotPlayed : List ℕ → NotDone → Type 0
IsNotPlayed bytes fault.NotText = ¬ (IsUtf8 bytes)
IsNotPlayed bytes (fault.Script why) = IsFaultOf (script_of bytes) why
IsNotPlayed bytes (fault.World why) =
    (script : Script) × (script_of bytes ≡ Ok script)
    × EndsBy (start script.filers script.limit) (restarted script).events why
IsNotPlayed bytes (fault.Command why) = why ≡ Memory
IsNotPlayed bytes (fault.Read why) = ⊥
IsNotPlayed bytes fault.TooLong = ⊥
IsNotPlayed bytes (fault.Register why) = ⊥
IsNotPlayed bytes (fault.Outbox why) = ⊥
IsNotPlayed bytes (fault.Key why) = ⊥

-- The key of a filing is no key, or memory ran out.
abbrev pub AreNotShown : List Filing → NotDone → Type 0
AreNotShown filings (fault.Key why) = (filing : Filing) × Contains filings filing × IsTextFault filing.request.key why
AreNotShown filings (fault.Command why) = why ≡ Memory
AreNotShown filings fault.NotText = ⊥
AreNotShown filings (fault.Script why) = ⊥
AreNotShown filings (fault.World why) = ⊥
AreNotShown filings (fault.Read why) = ⊥
AreNotShown filings fault.TooLong = ⊥
AreNotShown filings (fault.Register why) = ⊥
AreNotShown filings (fault.Outbox why) = ⊥

-- The register or an outbox does not give its rows, or its filings are not shown.
abbrev pub IsNotShown : World → NotDone → Type 0
IsNotShown world (fault.Register why) = ⊤
IsNotShown world (fault.Outbox why) = ⊤
IsNotShown world why = AreNotShown (register world.done) why

-- ---- scripts

-- Nothing is shown of the world to which the events of the script lead that these bytes spell, with a restart of every
-- end behind them.
pub record IsUnshownOf (bytes : List ℕ) (why : NotDone) : Type 0 where
  pub script : Script
  pub world : World
  pub said : script_of bytes ≡ Ok script
  pub run : Run (start script.filers script.limit) (restarted script).events world
  -- the headline holds of it
  pub holds : Holds world
  pub not_shown : IsNotShown world why

-- no world is answered of these bytes, or nothing is shown of it
abbrev pub IsNotDrilled : List ℕ → NotDone → Type 0
IsNotDrilled bytes why = IsNotPlayed bytes why ⊎ IsUnshownOf bytes why
