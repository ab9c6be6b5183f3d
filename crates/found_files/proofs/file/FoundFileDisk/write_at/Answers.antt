use Rattle.std.proofs.Common.{◌≡◌, ℕ, ◌<◌, ◌+◌, ◌-◌, ◌≤◌, length, take, slice_index, slice_range, refl, ◌∙◌, ap}
use Rattle.std.proofs.Common.{inl, inr, arith, rules}
use Rattle.std.proofs.lemmas.List.{places}
use Rattle.std.proofs.lemmas.Bool.{cases_lt}
use Rattle.sqlite_disk.specs.Events.{overlaid}
use Rattle.found_files.specs.Found.{model}
use Rattle.sqlite_disk.proofs.EventLemmas.{Holds-overlaid, Torn-overlaid, Torn-within, Mixed-held, Mixed-then}
use Rattle.found_files.proofs.file.FoundFileDisk.write_at.Goals as goal

pub loop-done-preserved : goal.loop-done-preserved
loop-done-preserved g c =
    let bytes = c.args.bytes.now in
    let at = c.args.at in
    let done = c.loop-done.done in
    let inv = c.loop-done.invariant in
    let old = (model (g.C.Calls.history c.loop-done.self.calls) c.loop-done.self).seen in
    let put = c.in_ok-done.field-0 in
    let count = rw (← c.in_ok-done.ensures.same) at c.write_some-put.ensures.count in
    let noted = rw (← c.in_ok-done.ensures.same) at c.write_some-put.ensures.noted in
    let rest = slice_range bytes done (length bytes) in
    let from = c.saturating_add.result in
    let is : from ≡ at + done = omega (arith, c.saturating_add.ensures, count.2) in
    let len : length rest ≡ length bytes - done = search (rules, places) in
    let few : put ≤ length rest = count.1 in
    let taken : length (take put rest) ≡ put = search (rules, places) in
    let torn = Torn-overlaid old from (take put rest) in
    let holds = Holds-overlaid old from (take put rest) in
    rw noted (
      omega arith,
      inv.1,
      inv.2,
      inv.3,
      λ some. omega (arith, holds.within),
      Torn-within at _ from _ _ _ _ (omega arith) (omega arith) inv.5 torn,
      λ left may. elim may [
        | inl seen ↦
            let (before, first, earlier) = inv.6 old (inl refl) in
            (before, first, rw seen (Torn-within at _ from _ before old _ (omega arith) (omega arith) earlier torn))
        | inr reached ↦
            let (before, first, earlier) = inv.6 reached.0 (inr reached.1) in (
              before,
              first,
              Torn-within at _ from (length rest) before reached.0 left (omega arith) (omega arith) earlier
                  reached.2.0,
            )
      ],
      λ i low. elim (cases_lt i done) [
        | inl early ↦ torn.below _ (omega (arith, inv.4 (omega arith))) (omega arith) ∙ inv.7 i early
        | inr late ↦
            let here : at + i ≡ from + (i - done) = omega arith in
            let there : done + (i - done) ≡ i = omega arith in
            let read : slice_index (take put rest) (i - done) ≡ slice_index bytes (done + (i - done))
            = search (rules, places) in
            ap (slice_index (overlaid old from (take put rest))) here ∙ holds.each (i - done) (omega arith) ∙ read
            ∙ ap (slice_index bytes) there
      ],
      inv.8,
      inv.9,
      inv.10,
      inv.11,
      λ mixes left may.
          let alike : (i : ℕ) → i < length rest → slice_index rest i ≡ slice_index bytes (done + i) =
          λ i low. search (rules, places) in
          elim may [
            | inl seen ↦
                let (before, first, earlier) = inv.12 mixes old (inl refl) in
                let front : (i : ℕ) → i < length (take put rest)
                → slice_index (take put rest) i ≡ slice_index bytes (done + i) = λ i low. search (rules, places) in (
                  before,
                  first,
                  rw seen (Mixed-then at done from bytes (take put rest) before old _ is (omega arith)
                      front earlier (Mixed-held from _ old _ torn holds)),
                )
            | inr reached ↦
                let (before, first, earlier) = inv.12 mixes reached.0 (inr reached.1) in (
                  before,
                  first,
                  Mixed-then at done from bytes rest before reached.0 left is (omega arith) alike earlier
                      (reached.2.1 mixes),
                )
          ],
    )

pub returns-in_err-done-clause-mixed : goal.returns-in_err-done-clause-mixed
returns-in_err-done-clause-mixed g c mixes fits =
    let bytes = c.args.bytes.now in
    let done = c.loop-done.done in
    let inv = c.loop-done.invariant in
    let old = (model (g.C.Calls.history c.loop-done.self.calls) c.loop-done.self).seen in
    let noted = rw (← c.in_err-done.ensures.same) at c.write_some-put.ensures.noted in
    let rest = slice_range bytes done (length bytes) in
    let len : length rest ≡ length bytes - done = search (rules, places) in
    let alike : (i : ℕ) → i < length rest → slice_index rest i ≡ slice_index bytes (done + i) =
    λ i low. search (rules, places) in
    rw noted λ left may. elim may [
      | inl seen ↦ rw seen (inv.12 mixes old (inl refl))
      | inr reached ↦
          let (before, first, earlier) = inv.12 mixes reached.0 (inr reached.1) in (
            before,
            first,
            Mixed-then c.args.at done c.saturating_add.result bytes rest before reached.0 left
                (omega (arith, c.saturating_add.ensures)) (omega arith) alike earlier (reached.2.1 mixes),
          )
    ]
