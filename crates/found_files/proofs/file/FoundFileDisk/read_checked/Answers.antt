use Rattle.std.proofs.Common.{◌≡◌, ◌≢◌, ℕ, ◌&&◌, Bool, true, false, not, length, take, drop, IsTrue, sym, refl, ◌∙◌, ap}
use Rattle.std.proofs.Common.{subst, inl, inr, arith, rules, take_all, eq-eqb, ne_eqb}
use Rattle.std.proofs.lemmas.Bool.{cases_Bool}
use Rattle.sqlite_disk.specs.Digest.{digest, Collide}
use Rattle.sqlite_disk.specs.Events.{agrees}
use Rattle.found_files.specs.Found.{model}
use Rattle.sqlite_disk.proofs.EventLemmas.{Holds-agrees, same_if_agrees, collide_if_passed}
use Rattle.found_files.proofs.file.FoundFileDisk.read_checked.Goals as goal

told_true : (a b : Bool) → IsTrue (a && not (not b)) → IsTrue b
told_true true true h = refl
told_true true false h = absurd (cc)
told_true false b h = absurd (cc)

pub returns-then-digest_of-want-clause-faults : goal.returns-then-digest_of-want-clause-faults
returns-then-digest_of-want-clause-faults g c =
    let m = model (g.C.Calls.history c.args.self.now.calls) c.args.self.now in
    let bytes = c.read_under.new.buf in
    let len : length bytes ≡ length c.args.buf.now = search rules in
    let all : take c.in_ok-read_under.field-0 bytes ≡ bytes = take_all _ bytes (search rules) in
    let other : digest c.args.key bytes ≢ c.args.want = λ e. c.if-digest_of-want.true (c.digest_of.ensures.value ∙ e) in
    rw (
      c.in_ok-read_under.ensures.noted,
      all,
      eq-eqb _ _ len,
      ne_eqb (length c.args.buf.now) 0 (omega (arith, c.requires.some)),
      ne_eqb _ _ other,
    )
    (elim (cases_Bool (agrees m.seen c.args.at bytes)) [
      | inl same ↦ rw same (
        λ both. absurd (other (ap (digest c.args.key)
            (sym (same_if_agrees m.seen c.args.at bytes same) ∙ ap (λ n. take n (drop c.args.at m.seen)) len)
            ∙ sym (c.requires.want both.0))),
        omega arith,
      )
      | inr lied ↦ rw lied (λ both. omega arith, omega arith)
    ])

pub returns-clause-read : goal.returns-clause-read
returns-clause-read g c =
    let m = model (g.C.Calls.history c.args.self.now.calls) c.args.self.now in
    let bytes = c.read_under.new.buf in
    let len : length bytes ≡ length c.args.buf.now = search rules in
    let all : take c.in_ok-read_under.field-0 bytes ≡ bytes = take_all _ bytes (search rules) in
    let passes : digest c.args.key bytes ≡ c.args.want = sym c.digest_of.ensures.value ∙ c.if-digest_of-want.false in
    rw (
      c.in_ok-read_under.ensures.noted,
      all,
      eq-eqb _ _ len,
      ne_eqb (length c.args.buf.now) 0 (omega (arith, c.requires.some)),
      eq-eqb _ _ passes,
    ) λ h.
    Holds-agrees m.seen c.args.at bytes (told_true m.is_honest _ h)

pub returns-clause-detects : goal.returns-clause-detects
returns-clause-detects g c honest within =
    let m = model (g.C.Calls.history c.args.self.now.calls) c.args.self.now in
    let bytes = c.read_under.new.buf in
    let len : length bytes ≡ length c.args.buf.now = search rules in
    let all : take c.in_ok-read_under.field-0 bytes ≡ bytes = take_all _ bytes (search rules) in
    let passes : digest c.args.key bytes ≡ c.args.want = sym c.digest_of.ensures.value ∙ c.if-digest_of-want.false in
    let written = λ (n : ℕ). take n (drop c.args.at m.seen) in
    elim (cases_Bool (agrees m.seen c.args.at bytes)) [
      | inl same ↦ inl (rw (
        c.in_ok-read_under.ensures.noted,
        all,
        eq-eqb _ _ len,
        ne_eqb (length c.args.buf.now) 0 (omega (arith, c.requires.some)),
        eq-eqb _ _ passes,
        same,
        honest,
      ))
      | inr lied ↦ inr (subst (λ n. Collide c.args.key bytes (written n)) len
          (collide_if_passed c.args.key m.seen c.args.at bytes (omega arith)
          (passes ∙ c.requires.want honest ∙ ap (λ n. digest c.args.key (written n)) (sym len)) lied))
    ]
