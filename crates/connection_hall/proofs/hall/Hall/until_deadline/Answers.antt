use Rattle.std.proofs.Common.{◌≡◌, ◌∙◌, inl, inr, sym, true, false, arith}
use Rattle.std.proofs.lemmas.Bool.Decides.{leb_tells}
use Rattle.connection_hall.proofs.hall.Hall.until_deadline.Goals as goal

pub returns-in-Some-clause-deadlines : goal.returns-in-Some-clause-deadlines
returns-in-Some-clause-deadlines g c since late noted passed = elim (leb_tells c.in-Some.soonest late) [
  | inl high ↦
      let after = high.1 in
      let is = c.at_most.ensures in
      let left = c.saturating_sub.ensures in
      omega (arith, after, is, left)
  | inr low ↦ absurd (let e : true ≡ false = sym passed ∙ c.in-Some.ensures.first since noted late low.1 in cc)
]

pub returns-in-None-clause-deadlines : goal.returns-in-None-clause-deadlines
returns-in-None-clause-deadlines g c since late noted passed =
    absurd (let e : true ≡ false = sym passed ∙ c.in-None.ensures.none since noted late in cc)
