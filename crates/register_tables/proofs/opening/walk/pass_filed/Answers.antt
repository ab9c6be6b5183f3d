use Rattle.std.proofs.Common.{◌≡◌, ◌∷◌, ◌++◌, [], suc, length, List, Some, None, Ok, refl, sym, subst}
use Rattle.std.specs.Prelude.{OnSome}
use Rattle.xbrl_report.specs.Judgement.{HasFacts}
use Rattle.filing_model.specs.Request.{Request}
use Rattle.filing_model.specs.Register.{judged, kept, register}
use Rattle.register_rows.specs.Columns.{request_in}
use Rattle.register_rows.specs.Filed.{AreFiled}
use Rattle.register_rows.specs.Outcomes.{outcome_of}
use Rattle.register_tables.specs.Reads.{Never}
use Rattle.register_tables.specs.Walk.{IsBehind, IsPast}
use Rattle.register_tables.proofs.Ours.{concludes}
use Rattle.register_tables.proofs.WalkLemmas.{judged_so}
use Rattle.register_tables.proofs.opening.walk.pass_filed.Goals as goal

pub returns-in_default-clause-reads : goal.returns-in_default-clause-reads
returns-in_default-clause-reads g c =
    let row = c.args.row.now in
    let r : Request = request_in c.args.target row in
    let j = c.in_ok-judged.judged in
    let left = c.args.left in
    concludes g.S.Store (λ passed db. (F : List Request) → IsBehind F c.args.filed.now left c.args.seq
    → IsPast c.args.seq row (judged (kept F) r) left passed db
    × OnSome passed (AreFiled (kept F ++ judged (kept F) r ∷ []) _)) Never c.in_ok-tail.field-0 (Ok None) tt
    (λ db h. (
      λ F at.
          let told : (judged (kept F) r).outcome ≡ outcome_of (suc (length (register F))) j =
          c.in_ok-judged.ensures.judged F r at.filed_are (sym c.requires.filer) refl (sym c.bytes_at.ensures) in
          let past = rw c.in_default.is at h c.args.target in
          (subst (λ k. IsPast c.args.seq row k left None db) (judged_so F r j left.number at.number_is told) past, tt),
      tt,
    )) c.in_ok-tail.ensures.reads

pub returns-clause-reads : goal.returns-clause-reads
returns-clause-reads g c =
    let row = c.args.row.now in
    let r : Request = request_in c.args.target row in
    let j = c.in_ok-judged.judged in
    let left = c.args.left in
    let tail = c.in-Some.tail in
    concludes g.S.Store (λ passed db. (F : List Request) → IsBehind F c.args.filed.now left c.args.seq
    → IsPast c.args.seq row (judged (kept F) r) left passed db
    × OnSome passed (AreFiled (kept F ++ judged (kept F) r ∷ []) _)) Never c.in_ok-tail.field-0 (Ok (Some tail)) tt
    (λ db h. (
      λ F at.
          let told : (judged (kept F) r).outcome ≡ outcome_of (suc (length (register F))) j =
          c.in_ok-judged.ensures.judged F r at.filed_are (sym c.requires.filer) refl (sym c.bytes_at.ensures) in
          let past = rw c.in-Some.is at h c.args.target in (
            subst (λ k. IsPast c.args.seq row k left (Some tail) db)
                (judged_so F r j left.number at.number_is told) past,
            c.in_ok-note.ensures F r at.filed_are (sym c.requires.filer) refl
                (subst (λ body. HasFacts body j) c.bytes_at.ensures c.in_ok-judged.ensures.facts) at.place told,
          ),
      tt,
    )) c.in_ok-tail.ensures.reads
