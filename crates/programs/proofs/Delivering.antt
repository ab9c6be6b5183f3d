-- Connections that were served in turn are deliveries.
use Rattle.std.proofs.Common.{◌≡◌, ◌∙◌, ℕ, ◌^◌, ◌≤◌, List, [], ◌∷◌, ◌++◌, length, take, Some, true, refl, sym}
use Rattle.std.proofs.Common.{subst, append_assoc}
use Rattle.http_messages.specs.Message.{Arrival}
use Rattle.filing_model.specs.declared.served.Ended.{Ended}
use Rattle.filing_model.specs.declared.served.Ended.TheVariants.{Closed, InputEnded, Fault}
use Rattle.filing_model.specs.declared.served.Mark.{Mark}
use Rattle.filing_model.specs.Request.{Request, firsts}
use Rattle.filing_model.specs.Serving.{Keeping, keeping, Serves}
use Rattle.filing_model.specs.Stopping.{No, ServesUntil, IsEndOf}
use Rattle.filing_model.specs.Text.{completed}
use Rattle.filing_model.proofs.Lists.{append_nil}
use Rattle.filing_model.proofs.Serving.{carried}
use Rattle.filing_world.specs.World.{Output, World, Event}
use Rattle.filing_world.specs.Step.{Run, Delivers}
use Rattle.filing_world.specs.Headline.{AreFilers, start, Holds}
use Rattle.filing_world.proofs.Keeping.{holds_after}
use Rattle.gateway_server.specs.Connections.{Connection, ServeInTurn}
use Rattle.programs.specs.Deliveries.{Delivery, AreOf, events_of, end_in_world, GoesOnTo}

-- a connection that a fault ended is one for which memory ran out
faults_alike : (requests : Keeping) (read : List ℕ) (marks : List Mark) (ended : Ended) (out : List ℕ)
    → Serves requests read marks ended out → Serves requests read marks (end_in_world ended) out
faults_alike requests read marks Closed out serves = serves
faults_alike requests read marks InputEnded out serves = serves
faults_alike requests read marks (Fault fault) out serves = serves

nothing_left : (read : List ℕ) (ended : Ended) → IsEndOf read [] (end_in_world ended)
nothing_left read Closed = tt
nothing_left read InputEnded = refl
nothing_left read (Fault fault) = tt

-- what one connection is
one_served : (limit : ℕ) (done after : List Request) (c : Connection)
    → Serves (keeping limit [] (firsts done) after) c.read c.output.marks c.output.ended c.output.bytes
    → (arrivals : List Arrival)
    × ServesUntil limit done c.read No arrivals c.output.marks (Some (end_in_world c.output.ended)) c.output.bytes
    × (after ≡ firsts (done ++ completed arrivals c.output.marks))
one_served limit done after c serves =
    let t = carried limit done (firsts done) after refl c.read [] c.output.marks c.output.bytes
    (end_in_world c.output.ended) (nothing_left c.read c.output.ended)
    (faults_alike (keeping limit [] (firsts done) after) c.read c.output.marks c.output.ended c.output.bytes
    serves) in (
      t.0,
      subst (λ bs. ServesUntil limit done bs No t.0 c.output.marks (Some (end_in_world c.output.ended))
          c.output.bytes) (append_nil c.read) t.1,
      t.2,
    )

-- what a connection came to, and the world after it
output_of : World → ℕ → List ℕ → Connection → Output
output_of old item came c =
    record {
      item = item;
      given = length came;
      before = length old.done;
      marks = c.output.marks;
      ended =
          Some (end_in_world c.output.ended);
      bytes = c.output.bytes;
    }

after_one : World → ℕ → List ℕ → List Arrival → Connection → World
after_one old item came arrivals c =
    record old {
      done = old.done ++ completed arrivals c.output.marks;
      outputs =
          old.outputs ++ output_of old item came c ∷ [];
      up = true;
    }

pub delivered : (old : World) (cs : List Connection) (deliveries : List Delivery) (after : List Request) → old.up ≡ true
    → ServeInTurn (keeping old.limit [] (firsts old.done) after) cs → AreOf old.sent cs deliveries
    → (new : World) × GoesOnTo old cs deliveries after new
unfolding after_one output_of
delivered old [] [] after up turns are = (
  old,
  record {
    run = refl;
    kept = turns;
    more = [];
    outputs = sym (append_nil old.outputs);
    are = tt;
    others =
        refl;
  },
)
delivered old [] (d ∷ ds) after up turns are = absurd are
delivered old (c ∷ cs) [] after up turns are = absurd are
delivered old (c ∷ cs) (d ∷ ds) after up turns are =
    let served = one_served old.limit old.done turns.0 c turns.1 in
    let of = are.0 in
    let came = take d.given of.from.bytes in
    let mid = after_one old d.item came served.0 c in
    let step : Delivers old d.item d.given No mid = record {
      up = up;
      from = of.from;
      here = of.here;
      arrivals = served.0;
      marks = c.output.marks;
      ended = Some (end_in_world c.output.ended);
      out = c.output.bytes;
      serves = subst (λ bs. ServesUntil old.limit old.done bs No served.0 c.output.marks
          (Some (end_in_world c.output.ended)) c.output.bytes) of.read served.1;
      becomes = refl;
    } in
    let rest =
    delivered mid cs ds after refl (subst (λ b. ServeInTurn (keeping old.limit [] b after) cs) served.2 turns.2)
    are.1 in (
      rest.0,
      record {
        run = (mid, step, rest.1.run);
        kept = rest.1.kept;
        more = output_of old d.item came c ∷ rest.1.more;
        outputs = rest.1.outputs ∙ append_assoc old.outputs (output_of old d.item came c ∷ []) rest.1.more;
        are = (record { item = refl; marks = refl; ended = refl; bytes = refl }, rest.1.are);
        others = subst (λ u. rest.0 ≡ record old { done = rest.0.done; outputs = rest.0.outputs; up = u }) (sym up)
            rest.1.others;
      },
    )

run_join : (old : World) (events more : List Event) (between new : World) → Run old events between
    → Run between more new → Run old (events ++ more) new
run_join old [] more between new first second = subst (λ w. Run w more new) first second
run_join old (event ∷ events) more between new first second =
    (first.0, first.1, run_join first.0 events more between new first.2 second)

pub still_holds : (filers : List (List ℕ)) (limit : ℕ) (events : List Event) (old new : World) (cs : List Connection)
    (deliveries : List Delivery) (after : List Request) → AreFilers filers → limit ≤ 2 ^ 62
    → Run (start filers limit) events old → GoesOnTo old cs deliveries after new → Holds new
still_holds filers limit events old new cs deliveries after are bound run on =
    holds_after filers limit (events ++ events_of deliveries) new are bound
    (run_join (start filers limit) events (events_of deliveries) old new run on.run)
