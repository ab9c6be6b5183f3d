-- What contracts see of connections in memory.
use Rattle.std.specs.Prelude.{Some, map, option_map, false}
use Rattle.outbox_process.specs.declared.tasks.memory.Finished.{Finished}
use Rattle.outbox_process.specs.declared.tasks.memory.Replies.{Replies}
use Rattle.outbox_process.specs.Dials.{Output, Traffic}

-- what became of a connection
abbrev pub output_of : Finished → Output
output_of finished = record { id = finished.id; came = finished.came; bytes = finished.text.items }

-- the connections that are still to come, and what became of those that are over, unless memory was refused for one
abbrev pub traffic_of : Replies → Traffic
traffic_of replies = record {
  coming = Some (map (λ bytes. bytes.items) replies.coming.now);
  over = option_map (λ over. map output_of over.items) replies.over;
  gives_up = false;
}
