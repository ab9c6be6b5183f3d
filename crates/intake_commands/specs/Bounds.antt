-- How much of a port `intake serve` serves at once.
use Rattle.std.specs.Prelude.{◌*◌, option_map}
use Rattle.connection_hall.specs.declared.bounds.Bounds.{Bounds}
use Rattle.intake_commands.specs.declared.options.Serving.{Serving}

-- as many as the command line says, with its patience in milliseconds and its memory in bytes
abbrev pub bounds_of : Serving → Bounds
bounds_of serving = record {
  places = serving.at_once;
  connections = serving.connections;
  patience = option_map (λ seconds. seconds * 1000) serving.patience;
  memory = serving.memory * 1000000;
}
