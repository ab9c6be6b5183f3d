-- A kept request is added by its statements in turn.
use Rattle.std.proofs.Common.{◌≡◌, ℕ, List, [], ◌∷◌, ◌++◌, append-nil, None, Some, pos, refl, sym}
use Rattle.std.proofs.Common.{ap, subst, ◌∙◌, arith}
use Rattle.sqlite.specs.declared.types.Value.TheVariants.{Int}
use Rattle.sqlite.specs.Order.{Row}
use Rattle.sqlite.specs.Effect.{Database}
use Rattle.sqlite.specs.State.{State}
use Rattle.xbrl_report.specs.Pair.{Pair}
use Rattle.xbrl_report.specs.ReportParts.{facts}
use Rattle.filing_model.specs.Request.{Request}
use Rattle.filing_model.specs.Register.{Outcome, Kept}
use Rattle.filing_model.specs.Views.{the_request}
use Rattle.table_rows.specs.Rows.{counted_from}
use Rattle.table_rows.proofs.GainLemmas.{still_declared}
use Rattle.register_rows.specs.Schema.{register_tables, kept_table, finding_table, filing_table, fact_table}
use Rattle.register_rows.specs.Schema.{amends_table, received_table, IsDeclared}
use Rattle.register_rows.specs.Received.{IsMoment, received_row}
use Rattle.register_rows.specs.Register.{HasRows, kept_row, finding_row, finding_rows, filing_rows, fact_row, fact_rows}
use Rattle.register_rows.specs.Register.{amends_rows, amends_rows_by}
use Rattle.register_tables.specs.Gains.{GainsRows}
use Rattle.register_store.specs.Changes.{AddsInside}
use Rattle.register_store.proofs.Growing.{kept_grows, finding_grows, filing_grows, fact_grows, amends_grows}
use Rattle.register_store.proofs.Growing.{received_grows, received_more, received_stays}

-- no row more
same_rows : (old_style : ℕ) (db : Database) (ks fs gs gs' hs hs' ts ts' : List Row) → gs ≡ gs' → hs ≡ hs' → ts ≡ ts'
    → HasRows db old_style ks fs gs hs ts → HasRows db old_style ks fs gs' hs' ts'
same_rows old_style db ks fs gs gs' hs hs' ts ts' p q e h =
    subst (λ x. HasRows db old_style ks fs gs' hs' x) e
    (subst (λ x. HasRows db old_style ks fs gs' x ts) q (subst (λ x. HasRows db old_style ks fs x hs ts) p h))

same_findings : (old_style : ℕ) (db : Database) (ks fs fs' gs hs ts ts' : List Row) → fs ≡ fs' → ts ≡ ts'
    → HasRows db old_style ks fs gs hs ts → HasRows db old_style ks fs' gs hs ts'
same_findings old_style db ks fs fs' gs hs ts ts' p e h =
    subst (λ x. HasRows db old_style ks fs' gs hs x) e (subst (λ x. HasRows db old_style ks x gs hs ts) p h)

module _ (seq : ℕ) (r : Request) (none : r.target ≡ None) where
  no_amends : (k : Kept) → k.request ≡ r → amends_rows seq k ≡ []
  no_amends k is = ap (λ (q : Request). amends_rows_by seq q.target) is ∙ ap (amends_rows_by seq) none

  no_more : (k : Kept) (ts : List Row) → k.request ≡ r → ts ≡ ts ++ amends_rows seq k
  no_more k ts is = sym (ap (λ l. ts ++ l) (no_amends k is) ∙ append-nil ts)

  -- the findings of a refused one
  pub adds_refused : (moment : ℕ) → IsMoment moment → (found : List Pair) (first mid next last : State)
      → GainsRows kept_table (kept_row seq (record { request = r; outcome = Outcome.Refused found }) ∷ []) first mid
      → GainsRows received_table (received_row seq moment ∷ []) mid next
      → GainsRows finding_table (counted_from (finding_row seq) 1 found) next last
      → AddsInside seq (record { request = r; outcome = Outcome.Refused found }) moment first last
  adds_refused moment fits found first mid next last one two three =
      let declared_mid : IsDeclared first.now.schema → IsDeclared mid.now.schema = λ d.
      still_declared register_tables first.now mid.now (one.gains d).schema_is d in
      let declared_next : IsDeclared first.now.schema → IsDeclared next.now.schema = λ d.
      still_declared register_tables mid.now next.now (two.gains (declared_mid d)).schema_is (declared_mid d) in
      record {
        adds = record {
          rows = λ old_style ks fs gs hs ts has.
              let more = kept_grows first.now mid.now old_style ks fs gs hs ts _ has (one.gains has.declared) in
              let still = received_grows mid.now next.now old_style _ fs gs hs ts _ more (two.gains more.declared) in
              same_rows old_style last.now _ _ _ _ _ _ _ _ (sym (append-nil gs)) (sym (append-nil hs))
              (no_more (record { request = r; outcome = Outcome.Refused found }) ts refl)
              (finding_grows next.now last.now old_style _ fs gs hs ts _ still (three.gains still.declared));
          received = λ d moments at had.
              let was = received_stays first.now mid.now moments had kept_table _ (λ e. absurd (omega (arith, e)))
              (one.gains d) in
              let more = received_more mid.now next.now moments was moment fits
              (rw (← at) at two.gains (declared_mid d)) in
              received_stays next.now last.now (moments ++ Some moment ∷ []) more finding_table _
              (λ e. absurd (omega (arith, e))) (three.gains (declared_next d));
          sound = λ d sound.
              (three.gains (declared_next d)).sound ((two.gains (declared_mid d)).sound ((one.gains d).sound sound));
        };
        inside = three.inside;
        committed = three.committed ∙ (two.committed ∙ one.committed);
      }

  -- the filing and the facts of a registered one
  pub adds_accepted : (moment : ℕ) → IsMoment moment → (number : ℕ) (first mid dated next last : State)
      → GainsRows kept_table (kept_row seq (record { request = r; outcome = Outcome.Registered number }) ∷ []) first mid
      → GainsRows received_table (received_row seq moment ∷ []) mid dated
      → GainsRows filing_table (filing_rows seq (record { request = r; outcome = Outcome.Registered number })) dated
      next
      → GainsRows fact_table (counted_from (fact_row number) 1 (facts r.body)) next last
      → AddsInside seq (record { request = r; outcome = Outcome.Registered number }) moment first last
  adds_accepted moment fits number first mid dated next last one two three four =
      let declared_mid : IsDeclared first.now.schema → IsDeclared mid.now.schema = λ d.
      still_declared register_tables first.now mid.now (one.gains d).schema_is d in
      let declared_dated : IsDeclared first.now.schema → IsDeclared dated.now.schema = λ d.
      still_declared register_tables mid.now dated.now (two.gains (declared_mid d)).schema_is (declared_mid d) in
      let declared_next : IsDeclared first.now.schema → IsDeclared next.now.schema = λ d.
      still_declared register_tables dated.now next.now (three.gains (declared_dated d)).schema_is (declared_dated d) in
      record {
        adds = record {
          rows = λ old_style ks fs gs hs ts has.
              let more = kept_grows first.now mid.now old_style ks fs gs hs ts _ has (one.gains has.declared) in
              let timed = received_grows mid.now dated.now old_style _ fs gs hs ts _ more (two.gains more.declared) in
              let still =
              filing_grows dated.now next.now old_style _ fs gs hs ts _ timed (three.gains timed.declared) in
              same_findings old_style last.now _ _ _ _ _ _ _ (sym (append-nil fs))
              (no_more (record { request = r; outcome = Outcome.Registered number }) ts refl)
              (fact_grows next.now last.now old_style _ fs _ hs ts _ still (four.gains still.declared));
          received = λ d moments at had.
              let was = received_stays first.now mid.now moments had kept_table _ (λ e. absurd (omega (arith, e)))
              (one.gains d) in
              let more = received_more mid.now dated.now moments was moment fits
              (rw (← at) at two.gains (declared_mid d)) in
              let still = received_stays dated.now next.now (moments ++ Some moment ∷ []) more filing_table _
              (λ e. absurd (omega (arith, e))) (three.gains (declared_dated d)) in
              received_stays next.now last.now (moments ++ Some moment ∷ []) still fact_table _
              (λ e. absurd (omega (arith, e))) (four.gains (declared_next d));
          sound = λ d sound.
              (four.gains (declared_next d)).sound ((three.gains (declared_dated d)).sound
              ((two.gains (declared_mid d)).sound ((one.gains d).sound sound)));
        };
        inside = four.inside;
        committed = four.committed ∙ (three.committed ∙ (two.committed ∙ one.committed));
      }

-- the filing that it is to replace, and then the request as if it were to replace none
pub adds_amends : (seq target moment : ℕ) (filer key body : List ℕ) (o : Outcome) (first mid last : State)
    → GainsRows amends_table ((Int (pos seq) ∷ Int (pos target) ∷ []) ∷ []) first mid
    → AddsInside seq (record { request = the_request filer key None body; outcome = o }) moment mid last
    → AddsInside seq (record { request = the_request filer key (Some target) body; outcome = o }) moment first last
adds_amends seq target moment filer key body o first mid last one two = record {
  adds = record {
    rows = λ old_style ks fs gs hs ts has.
        let more = amends_grows first.now mid.now old_style ks fs gs hs ts _ has (one.gains has.declared) in
        let row : List Row = (Int (pos seq) ∷ Int (pos target) ∷ []) ∷ [] in
        let k : Kept = record { request = the_request filer key (Some target) body; outcome = o } in
        subst (λ l. HasRows last.now old_style (ks ++ kept_row seq k ∷ []) (fs ++ finding_rows seq k)
        (gs ++ filing_rows seq k) (hs ++ fact_rows seq k) l) (append-nil (ts ++ row))
        (two.adds.rows old_style ks fs gs hs (ts ++ row) more);
    received = λ d moments at had.
        let g = one.gains d in
        two.adds.received (still_declared register_tables first.now mid.now g.schema_is d) moments at
        (received_stays first.now mid.now moments had amends_table _ (λ e. absurd (omega (arith, e))) g);
    sound = λ d sound.
        let g = one.gains d in
        two.adds.sound (still_declared register_tables first.now mid.now g.schema_is d) (g.sound sound);
  };
  inside = two.inside;
  committed = two.committed ∙ one.committed;
}
