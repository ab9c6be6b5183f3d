use Rattle.std.proofs.Common.{refl}
use Rattle.connection_hall.specs.Running.{turns}
use Rattle.connection_hall.proofs.Hands.{cut_off}
use Rattle.connection_hall.proofs.hall.Hall.give_up.Goals as goal

pub returns-clause-running : goal.returns-clause-running
returns-clause-running g c answers running =
    let old = c.args.self.now in
    let it = c.in-Some.served in
    let traffic = g.P.Sockets.traffic c.args.sockets.now in
    let hand = c.in-Some.ensures.hand answers traffic (turns old) running in
    let left = c.in-Some.ensures.running answers traffic (turns old) (λ i other is. is) running in
    c.end.ensures.running answers (record {
      served = cut_off g.S.Stream answers it it refl refl hand.served;
      why_is = tt;
      late = λ late. absurd (let h = late in cc);
      come = hand.come;
    }) left
