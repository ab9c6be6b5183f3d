-- Runs of both programs.
use Rattle.std.proofs.Common.{◌≡◌, ◌∙◌, ℕ, zero, suc, ◌≤◌, ◌^◌, List, [], ◌∷◌, ◌++◌, map, Option, Some, None, refl, sym}
use Rattle.std.proofs.Common.{ap, subst, inr}
use Rattle.sqlite_disk.specs.declared.Disk.{Ghosts}
use Rattle.sqlite_disk.specs.declared.Files.{Files}
use Rattle.connection_hall.specs.declared.stream.Stream.{Ghosts as Streams}
use Rattle.filing_model.specs.Request.{Request, firsts}
use Rattle.filing_world.specs.World.{numbered}
use Rattle.filing_world.specs.Headline.{AreFilers}
use Rattle.outbox_tables.specs.Entries.{Contents, empty}
use Rattle.database_places.specs.Places.{IsHonest}
use Rattle.programs.specs.Happenings.{Situation, at_first, AreRegistered}
use Rattle.programs.specs.Fronts.{Passing, HappenBehind, IsReachedBehind}
use Rattle.program_runs.specs.Beside.{Service, InTurn, DoTogether}
use Rattle.program_runs.specs.Deeds.{Deed, Added, Wrote, Heard, Asked, AreDone, Becomes}
use Rattle.program_runs.specs.Registers.{LieRequests}
use Rattle.program_runs.specs.Runs.{LieOutbox, AreNotGone}
use Rattle.program_runs.specs.Deployment.{OutboxTurn, Whole, Killed, AreOutboxTurns, IsOutboxTurn}
use Rattle.program_runs.specs.Deployment.{IntakeTurn, Done, Stopped, IsIntakeTurn, AreOfIntakeTurn, AreOfIntakeTurns}
use Rattle.program_runs.specs.Deployment.{AreIntakeTurns, Deployment, bare, AnyRuns, AnyDeployment}
use Rattle.program_runs.specs.Deployment.{AreOfTurn, AreOfAll}
use Rattle.program_runs.proofs.Joining.{done_join}
use Rattle.program_runs.proofs.Services.{in_turn_join, performs}
use Rattle.program_runs.proofs.Tasks.{run}
use Rattle.program_runs.proofs.Together.{together}

happen_join : (limit : ℕ) (a b c : Situation) (first second : List Passing) → HappenBehind limit a first b
    → HappenBehind limit b second c → HappenBehind limit a (first ++ second) c
happen_join limit a b c [] second one two = subst (λ (s : Situation). HappenBehind limit s second c) one two
happen_join limit a b c (h ∷ first) second one two =
    (one.0, one.1, happen_join limit one.0 b c first second one.2 two)

-- deeds leave the filer of an outbox
keeps_filer : (old new : Contents) (deed : Deed) → Becomes old deed new → new.filer ≡ old.filer
keeps_filer old new (Added key target body) is = ap (λ (c : Contents). c.filer) is.becomes
keeps_filer old new (Wrote id written) is = ap (λ (c : Contents). c.filer) is.becomes
keeps_filer old new (Heard id asks read to) is = ap (λ (c : Contents). c.filer) is.becomes
keeps_filer old new (Asked written) is = ap (λ (c : Contents). c.filer) is

keep_filer : (old new : Contents) (deeds : List Deed) → AreDone old deeds new → new.filer ≡ old.filer
keep_filer old new [] is = ap (λ (c : Contents). c.filer) is
keep_filer old new (deed ∷ deeds) is = keep_filer is.0 new deeds is.2 ∙ keeps_filer old is.0 deed is.1

-- what the law of fronts gives
abbrev pub Reaches : Type 0
Reaches = (filers : List (List ℕ)) (limit : ℕ) (passings : List Passing) (situation : Situation)
    → AreFilers filers → limit ≤ 2 ^ 62 → HappenBehind limit (at_first filers) passings situation
    → IsReachedBehind filers limit situation × AreRegistered situation

module _ {D : Type 0} (g : Ghosts D) (honest : IsHonest g) where
  -- ---- one outbox

  -- what runs left
  record AreDeeds (Are : List Deed → Type 0) (it : Contents) (lying lying' : Option (Option (Files D))) : Type 0 where
    pub deeds : List Deed
    pub are : Are deeds
    pub after : Contents
    pub done : AreDone it deeds after
    pub there : LieOutbox g lying' after
    pub stays : AreNotGone lying lying'

  one_turn : (turn : OutboxTurn g) (lying lying' : Option (Option (Files D))) (it : Contents)
      → LieOutbox g lying it → IsOutboxTurn g it.filer turn lying lying'
      → AreDeeds (AreOfTurn g turn) it lying lying'
  one_turn (Whole r) lying lying' it lies is =
      let by = run r.task r.net r.net' r.out r.out' r.old r.new r.result it honest (record {
        closed = is.closed;
        certain = is.began;
        there = subst (λ l. LieOutbox g l it) (sym is.found) lies;
      }) is.is_for is.does is.certain in
      record {
        deeds = by.deeds;
        are = by.are;
        after = by.after;
        done = by.done;
        there = subst (λ l. LieOutbox g l by.after) is.left by.lies.there;
        stays = λ gone. sym is.found ∙ by.stays (is.left ∙ gone);
      }
  one_turn (Killed deeds) lying lying' it lies is =
      let left = is it refl lies in
      record { deeds = deeds; are = refl; after = left.0; done = left.1; there = left.2; stays = left.3 }

  turns_done : (turns : List (OutboxTurn g)) (lying lying' : Option (Option (Files D))) (it : Contents)
      → LieOutbox g lying it → AreOutboxTurns g it.filer turns lying lying'
      → AreDeeds (AreOfAll (AreOfTurn g) turns) it lying lying'
  turns_done [] lying lying' it lies is =
      record {
        deeds = [];
        are = refl;
        after = it;
        done = refl;
        there = subst (λ l. LieOutbox g l it) (sym is) lies;
        stays = λ gone. sym is ∙ gone;
      }
  turns_done (turn ∷ turns) lying lying' it lies is =
      let one = one_turn turn lying is.0 it lies is.1 in
      let rest =
      turns_done turns is.0 lying' one.after one.there
      (subst (λ (filer : List ℕ). AreOutboxTurns g filer turns is.0 lying') (sym (keep_filer it one.after one.deeds
      one.done)) is.2) in
      record {
        deeds = one.deeds ++ rest.deeds;
        are = (one.deeds, rest.deeds, refl, one.are, rest.are);
        after = rest.after;
        done = done_join it one.after rest.after one.deeds rest.deeds one.done rest.done;
        there = rest.there;
        stays = λ gone. one.stays (rest.stays gone);
      }

  -- ---- the register

  record Serving (limit : ℕ) (Are : List Service → Type 0) (requests : List Request)
      (lying lying' : Option (Option (Files D))) : Type 0 where
    pub services : List Service
    pub are : Are services
    pub after : List Request
    pub in_turn : InTurn limit requests services after
    pub there : LieRequests g lying' after
    pub stays : AreNotGone lying lying'

  module _ {S N : Type 0} (s : Streams S N) (limit : ℕ) where
    one_service : (turn : IntakeTurn g s) (lying lying' : Option (Option (Files D))) (requests : List Request)
        → LieRequests g lying requests → IsIntakeTurn g s limit turn lying lying'
        → Serving limit (AreOfIntakeTurn g s limit requests turn) requests lying lying'
    one_service (Done r) lying lying' requests lies is =
        let by = performs s limit [] r.old r.new requests honest (record {
          closed = is.closed;
          certain = is.began;
          there = subst (λ l. LieRequests g l requests) (sym is.found) lies;
        }) is.fresh r.task r.status is.limited is.performs is.certain in
        record {
          services = by.services;
          are = by.are;
          after = by.after;
          in_turn = by.in_turn;
          there = subst (λ l. LieRequests g l by.after) is.left by.lies.there;
          stays = λ gone. sym is.found ∙ by.stays (is.left ∙ gone);
        }
    one_service (Stopped services) lying lying' requests lies is =
        let left = is requests lies in
        record { services = services; are = refl; after = left.0; in_turn = left.1; there = left.2; stays = left.3 }

    services_done : (turns : List (IntakeTurn g s)) (lying lying' : Option (Option (Files D)))
        (requests : List Request) → LieRequests g lying requests → AreIntakeTurns g s limit turns lying lying'
        → Serving limit (AreOfIntakeTurns g s limit requests turns) requests lying lying'
    services_done [] lying lying' requests lies is =
        record {
          services = [];
          are = refl;
          after = requests;
          in_turn = refl;
          there = subst (λ l. LieRequests g l requests) (sym is) lies;
          stays = λ gone. sym is ∙ gone;
        }
    services_done (turn ∷ turns) lying lying' requests lies is =
        let one = one_service turn lying is.0 requests lies is.1 in
        let rest = services_done turns is.0 lying' one.after one.there is.2 in
        record {
          services = one.services ++ rest.services;
          are = (one.services, rest.services, one.after, refl, one.in_turn, one.are, rest.are);
          after = rest.after;
          in_turn = in_turn_join limit requests one.after rest.after one.services rest.services one.in_turn
              rest.in_turn;
          there = rest.there;
          stays = λ gone. one.stays (rest.stays gone);
        }

  -- ---- all of them

  record OfOne (Are : List Deed → Type 0) (old : Situation) (lying lying' : Option (Option (Files D))) (n : ℕ)
      : Type 0 where
    pub deeds : List Deed
    pub are : (it : Contents) → numbered old.outboxes n ≡ Some it → Are deeds
    pub last : Contents
    pub done : (it : Contents) → numbered old.outboxes n ≡ Some it → AreDone it deeds last
    pub none : numbered old.outboxes n ≡ None → deeds ≡ []
    pub there : (it : Contents) → numbered old.outboxes n ≡ Some it → LieOutbox g lying' last
    pub stays : (it : Contents) → numbered old.outboxes n ≡ Some it → AreNotGone lying lying'

  of_one : (old : Situation) (turns : List (OutboxTurn g)) (lying lying' : Option (Option (Files D))) (n : ℕ)
      → ((it : Contents) → numbered old.outboxes n ≡ Some it → LieOutbox g lying it)
      → ((it : Contents) → numbered old.outboxes n ≡ Some it → AreOutboxTurns g it.filer turns lying lying')
      → (o : Option Contents) → numbered old.outboxes n ≡ o → OfOne (AreOfAll (AreOfTurn g) turns) old lying lying' n
  of_one old turns lying lying' n holds are None is = record {
    deeds = [];
    are = λ it here. absurd (cc);
    last = empty [];
    done = λ it here. absurd (cc);
    none = λ _. refl;
    there = λ it here. absurd (cc);
    stays = λ it here. absurd (cc);
  }
  of_one old turns lying lying' n holds are (Some it) is =
      let by = turns_done turns lying lying' it (holds it is) (are it is) in
      record {
        deeds = by.deeds;
        are = λ other here. by.are;
        last = by.after;
        done = λ other here. let same : it ≡ other = (cc) in
            subst (λ (c : Contents). AreDone c by.deeds by.after) same by.done;
        none = λ gone. absurd (cc);
        there = λ other here. by.there;
        stays = λ other here. by.stays;
      }

  held : (deployment : Deployment g) (old new : Situation) (last : ℕ → Contents)
      → ((n : ℕ) (it : Contents) → numbered old.outboxes n ≡ Some it → numbered new.outboxes n ≡ Some (last n))
      → ((n : ℕ) → numbered old.outboxes n ≡ None → numbered new.outboxes n ≡ None)
      → ((n : ℕ) (it : Contents) → numbered old.outboxes n ≡ Some it → LieOutbox g (deployment.boxes n) (last n))
      → (n : ℕ) (now : Contents) → numbered new.outboxes n ≡ Some now → (o : Option Contents)
      → numbered old.outboxes n ≡ o → LieOutbox g (deployment.boxes n) now
  held deployment old new last some none there n now here None was =
      let no : None ≡ Some now = sym (none n was) ∙ here in
      absurd (cc)
  held deployment old new last some none there n now here (Some it) was =
      let one : Some (last n) ≡ Some now = sym (some n it was) ∙ here in
      let same : last n ≡ now = (cc) in
      subst (λ (c : Contents). LieOutbox g (deployment.boxes n) c) same (there n it was)

  pub any : {S N : Type 0} (s : Streams S N) → Reaches → AnyRuns g s
  any s reaches limit filers before situation old new intake outboxes are bound happened holds serves runs =
      let service = services_done s limit intake old.register new.register situation.requests holds.register serves in
      let of : (n : ℕ) → OfOne (AreOfAll (AreOfTurn g) (outboxes n)) situation (old.boxes n) (new.boxes n) n =
      λ n. of_one situation (outboxes n) (old.boxes n) (new.boxes n) n (holds.boxes n) (runs n)
      (numbered situation.outboxes n) refl in
      record {
        deeds = λ n. (of n).deeds;
        are = λ n it here. (of n).are it here;
        services = service.services;
        serve = service.are;
        register_stays = service.stays;
        boxes_stay = λ n it here. (of n).stays it here;
        happen = λ acts each all carried.
            let last : ℕ → Contents = λ n. (of n).last in
            let doing : DoTogether limit situation acts last service.after = record {
              outboxes = λ n it here. subst (λ (ds : List Deed). AreDone it ds (last n)) (sym (each n))
                  ((of n).done it here);
              none = λ n gone. each n ∙ (of n).none gone;
              in_turn = subst (λ (ss : List Service). InTurn limit situation.requests ss service.after) (sym all)
                  service.in_turn;
            } in
            let is = together limit last service.after acts situation doing carried in
            let whole = reaches filers limit (before ++ is.passings) is.new are bound
            (happen_join limit (at_first filers) situation is.new before is.passings happened is.happen) in
            record {
              passings = is.passings;
              new = is.new;
              happen = is.happen;
              hold = record {
                register = subst (λ (rs : List Request). LieRequests g new.register rs) (sym is.requests)
                    service.there;
                boxes = λ n now here.
                    held new situation is.new last is.outboxes is.none (λ m it was. (of m).there it was) n now here
                    (numbered situation.outboxes n) refl;
              };
              reached = whole.0;
              registered = whole.1;
            };
      }

  -- ---- from the first run on

  -- each outbox is a filer's, and has no entries
  at_first_here : (filers : List (List ℕ)) (n : ℕ) (it : Contents) → numbered (map empty filers) n ≡ Some it
      → (numbered filers n ≡ Some it.filer) × (it.entries ≡ [])
  at_first_here [] zero it here = absurd (cc)
  at_first_here [] (suc n) it here = absurd (cc)
  at_first_here (filer ∷ filers) zero it here = absurd (cc)
  at_first_here (filer ∷ filers) (suc zero) it here =
      let same : empty filer ≡ it = cc in (
        ap (λ (c : Contents). Some c.filer) same,
        sym (ap (λ (c : Contents). c.entries) same),
      )
  at_first_here (filer ∷ filers) (suc (suc n)) it here = at_first_here filers (suc n) it here

  pub from_nothing : {S N : Type 0} (s : Streams S N) → Reaches → AnyDeployment g s
  unfolding firsts
  from_nothing s reaches limit filers new intake outboxes are bound serves runs =
      any s reaches limit filers [] (at_first filers) (bare g) new intake outboxes are bound refl (record {
        register = (refl, inr (refl, refl));
        boxes = λ n it here. inr (refl, (at_first_here filers n it here).1);
      }) serves (λ n it here. runs n it.filer (at_first_here filers n it here).0)
