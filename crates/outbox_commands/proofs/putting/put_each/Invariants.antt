use Rattle.std.proofs.Common.{◌≡◌, map, Ok, IsSome}
use Rattle.outbox_process.specs.Process.{parts}
use Rattle.outbox_commands.specs.Puts.{PutsInTurn, put_of}
use Rattle.outbox_commands.proofs.putting.put_each.Given as goal

abbrev pub invariant-loop-report : goal.invariant-loop-report
invariant-loop-report g l = record {
  puts : PutsInTurn (map (put_of l.target) l.yielded) (g.N.Dial.traffic l.fn.network) (g.O.Write.contents l.fn.output)
      (g.O.Write.contents l.output) (parts g.P.Place.lying l.fn.process) (parts g.P.Place.lying l.process) (Ok tt);
  traffic : g.N.Dial.traffic l.network ≡ g.N.Dial.traffic l.fn.network;
  opened : IsSome l.process.outbox;
}
