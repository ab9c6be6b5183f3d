-- What serving some bytes did, up to its end or to a stop, where no read and no write failed, is what the model says of
-- all of them.
use Rattle.std.proofs.Common.{◌≡◌, ◌≢◌, ℕ, ◌-◌, ◌^◌, ◌<◌, ◌≤◌, List, [], ◌++◌, length, Option, Some, None, refl, sym}
use Rattle.std.proofs.Common.{subst, inl, inr, ⊎_elim, arith}
use Rattle.std.proofs.lemmas.Bool.Decides.{nat_tests}
use Rattle.http_messages.specs.declared.refusal.ConnFault.TheVariants.{Read as ReadFault, Write, ReadLimit, Memory}
use Rattle.http_wire.specs.Device.{HasFailed}
use Rattle.http_wire.specs.Wire.{Wire}
use Rattle.http_messages.specs.Message.{Arrival, Ending}
use Rattle.http_messages.specs.Reads.{max_reads}
use Rattle.filing_model.specs.declared.served.Ended.{Ended}
use Rattle.filing_model.specs.declared.served.Ended.TheVariants.{Closed, InputEnded, Fault}
use Rattle.filing_model.specs.declared.served.Mark.{Mark}
use Rattle.filing_model.specs.Request.{Request, firsts}
use Rattle.filing_model.specs.Serving.{keeping, BeginsArrivals}
use Rattle.filing_model.specs.Stopping.{Crash, No, Before, After, IsEndOrStopOf, ServesUntil, marked}
use Rattle.filing_model.specs.Text.{completed}
use Rattle.filing_model.proofs.Serving.{carried_until}
use Rattle.filing_model.proofs.Stopping.{serves_begin}
use Rattle.gateway_server.specs.Stopping.{ServesConnectionUntil, IsEndedOrStoppedBy}

-- a count that stands tells no failure, as long as it counts
no_failure : (count : ℕ) → count < 2 ^ 64 - 1 → ¬ (HasFailed count count)
no_failure count low (inl less) = omega (arith, less)
no_failure count low (inr full) = omega (arith, low, full)

end_until : (from to : Wire) (got left : List ℕ) (ended : Option Ended) → from.read_failures < 2 ^ 64 - 1
    → to.read_failures ≡ from.read_failures
    → ((sent : ℕ) → ended ≢ Some (Fault (Write sent))) → (ended ≡ Some InputEnded → left ≡ [])
    → (ended ≡ Some (Fault ReadLimit) → max_reads ≤ length got)
    → IsEndedOrStoppedBy from to ended → IsEndOrStopOf got left ended
end_until from to got left None low none written at_end limited why = tt
end_until from to got left (Some Closed) low none written at_end limited why = tt
end_until from to got left (Some InputEnded) low none written at_end limited why = at_end refl
end_until from to got left (Some (Fault ReadFault)) low none written at_end limited why =
    absurd (no_failure from.read_failures low (subst (HasFailed from.read_failures) none why.0))
end_until from to got left (Some (Fault (Write sent))) low none written at_end limited why = absurd (written sent refl)
end_until from to got left (Some (Fault ReadLimit)) low none written at_end limited why = limited refl
end_until from to got left (Some (Fault Memory)) low none written at_end limited why = tt

-- after any requests whose firsts were kept, where no read failed and it didn't end by a write
pub serves_until_whole : (limit : ℕ) (from to : Wire) (done before after : List Request) (bytes left out : List ℕ)
    (crash : Crash) (marks : List Mark) (ended : Option Ended) → before ≡ firsts done
    → from.left ≡ Some bytes → from.written ≡ Some [] → to.left ≡ Some left → to.written ≡ Some out
    → from.read_failures < 2 ^ 64 - 1 → to.read_failures ≡ from.read_failures
    → ((sent : ℕ) → ended ≢ Some (Fault (Write sent)))
    → ServesConnectionUntil (keeping limit [] before after) from to crash marks ended
    → IsEndedOrStoppedBy from to ended
    → (arrivals : List Arrival) × ServesUntil limit done bytes crash arrivals marks ended out
    × (after ≡ firsts (done ++ completed arrivals marks))
serves_until_whole limit from to done before after bytes left out crash marks ended kept begins none ends all low fine
    written served why =
    let read : bytes ≡ served.got ++ left = rw (begins, ends) at served.read in
    let wrote : out ≡ served.sent = rw (none, all) at served.wrote in
    let end =
    end_until from to served.got left ended low fine written (λ e. rw ends at (served.at_end e)) served.limited
    why in
    let whole =
    carried_until limit done before after kept served.got left crash marks ended served.sent end served.serves in (
      whole.0,
      subst (λ bs. ServesUntil limit done bs crash whole.0 marks ended out) (sym read)
          (subst (λ text. ServesUntil limit done (served.got ++ left) crash whole.0 marks ended text) (sym wrote)
          whole.1),
      whole.2,
    )

-- ---- what was completed

marked_few : (crash : Crash) (n : ℕ) → marked crash n ≤ n
marked_few No n = omega arith
marked_few (Before j) n = grind (arith, nat_tests)
marked_few (After j) n = omega arith

-- The arrivals that the model names are some with which the bytes begin, and there are no more marks than these. So
-- `completed` of the bytes and the marks is what the model says was completed.
pub marked_arrivals : (limit : ℕ) (done : List Request) (bytes : List ℕ) (crash : Crash) (arrivals : List Arrival)
    (marks : List Mark) (ended : Option Ended) (out : List ℕ)
    → ServesUntil limit done bytes crash arrivals marks ended out
    → (ending : Ending) × BeginsArrivals bytes arrivals ending × (length marks ≤ length arrivals)
marked_arrivals limit done bytes crash arrivals marks ended out s = (
  s.ending,
  serves_begin limit done bytes crash arrivals marks ended out s,
  ⊎_elim (λ w. omega (arith, w.all, marked_few crash (length arrivals)))
      (λ c. omega (arith, c.few, marked_few crash (length arrivals))) s.gives,
)
