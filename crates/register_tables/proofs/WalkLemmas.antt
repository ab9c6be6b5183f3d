-- A walk over a register's tables, from one kept request to the next.
use Rattle.std.proofs.Common.{◌≡◌, ◌<◌, ◌≤◌, ◌⊎◌, inl, inr, ℕ, ◌+◌, suc, pos, true, false, List, [], ◌∷◌, ◌++◌, map}
use Rattle.std.proofs.Common.{filter}
use Rattle.std.proofs.Common.{length, Option, Some, None, refl, sym, ap, subst, ◌∙◌, IsPermutation, arith, MatchOption}
use Rattle.sqlite.proofs.Callers.{one_permutation}
use Rattle.std.proofs.lemmas.List.Sorted.{IsPermutation-sym, IsPermutation-trans}
use Rattle.table_rows.proofs.OrderLemmas.{counted_rise}
use Rattle.std.specs.Prelude.{OnSome}
use Rattle.std.proofs.Common.{append-nil, ⊎_elim, true≢false, Bool, append_assoc, length-append, IfSome, IsTrue, ◌↔◌}
use Rattle.std.proofs.lemmas.Bool.{cases_Bool}
use Rattle.std.proofs.lemmas.List.Sorted.{length_permutation}
use Rattle.std.proofs.lemmas.List.Elements.{filter-append}
use Rattle.sqlite.specs.declared.types.Value.TheVariants.{Int}
use Rattle.sqlite.specs.Order.{Row}
use Rattle.xbrl_report.specs.Pair.{Pair}
use Rattle.filing_model.specs.Request.{Request, same_key, has_key, firsts}
use Rattle.filing_model.specs.Register.{Kept, kept, Outcome, filings, kept_after, judged, register}
use Rattle.filing_model.proofs.Firsts.{firsts_new, same_key-refl}
use Rattle.filing_model.proofs.Keeping.{requests_of_kept, kept_new, all_push}
use Rattle.table_rows.specs.Rows.{counted_from}
use Rattle.register_rows.specs.Schema.{kept_table, finding_table, filing_table, fact_table}
use Rattle.register_rows.specs.Outcomes.{filings_by, outcome_of, request_outcome}
use Rattle.register_rows.specs.Register.{kept_row, finding_row, finding_rows, findings_of, amends_rows, amends_rows_by}
use Rattle.register_rows.specs.Register.{joined_from, IsCompleted, filing_rows, filing_rows_by, fact_row, fact_rows}
use Rattle.register_rows.specs.Register.{fact_rows_by}
use Rattle.std.specs.List.{AllByRecursion}
use Rattle.sqlite.specs.Table.{Table}
use Rattle.sqlite.specs.Effect.{Database}
use Rattle.sqlite_keyed.proofs.ListLemmas.{IsPermutation-filter}
use Rattle.xbrl_report.specs.FactRecord.{FactRecord}
use Rattle.xbrl_report.specs.ReportParts.{facts}
use Rattle.filing_model.specs.Register.Outcome.{Registered, Refused}
use Rattle.table_rows.proofs.TakeLemmas.{take_out, left_after, none_taken}
use Rattle.xbrl_report.specs.declared.judging.Judged.{Judged}
use Rattle.register_rows.specs.declared.filed.Filed.{Filed}
use Rattle.register_tables.specs.declared.opening.walk.Left.{Left}
use Rattle.register_tables.specs.declared.opening.walk.Sizes.{Sizes}
use Rattle.register_rows.specs.Columns.{begins_with, request_in}
use Rattle.register_rows.specs.Filed.{AreFiled}
use Rattle.table_rows.specs.Picking.{has_number, rows_in, Picks, CountsTo, Finds, HasLeft}
use Rattle.register_tables.specs.Reads.{by_second, has_second, has_texts, PicksInOrder}
use Rattle.register_tables.specs.Walk.{AreAllOf, Beyond, HasFactRows, IsBeyond, IsNext, IsPast, NonePasses, Passes}
use Rattle.register_tables.specs.Walk.{Walked}
use Rattle.register_rows.proofs.MoreRequests.{joined_append, counted_append, one_filing, kept_length, registered_more}
use Rattle.register_rows.proofs.SegmentLemmas.{length_counted}
use Rattle.register_tables.proofs.Leading.{picks_of, same_request_as}
use Rattle.register_tables.proofs.WalkRows.{IsApart, all_apart, has_its, no_fact, no_filing, no_finding, no_kept}

-- ---- the filer and key

none_has : (r : Request) (at : ℕ) (ks : List Kept)
    → length (filter (has_texts r.filer r.key) (counted_from kept_row at ks)) ≡ 0
    → has_key (map (λ (k : Kept). k.request) ks) r ≡ false
none_has r at [] none = refl
none_has r at (k ∷ ks) none = ⊎_elim
    (λ (is : same_key k.request r ≡ true). absurd (let some : suc
    (length (filter (has_texts r.filer r.key) (counted_from kept_row (at + 1) ks))) ≡ 0 =
    rw (has_its r.filer r.key r.target r.body at k ∙ is) at none in omega (arith, some)))
    (λ (is : same_key k.request r ≡ false). rw is
    (none_has r (at + 1) ks (rw (has_its r.filer r.key r.target r.body at k ∙ is) at none)))
    (cases_Bool (same_key k.request r))

-- where the request's row is the only one with its filer and key, none before it has them
is_new : (r : Request) (seq : ℕ) (k : Kept) (ks : List Kept) (all more : List Row) → k.request ≡ r
    → IsPermutation ((counted_from kept_row 1 ks ++ kept_row seq k ∷ []) ++ more) all
    → length (filter (has_texts r.filer r.key) all) ≡ 1
    → has_key (map (λ (k : Kept). k.request) ks) r ≡ false
is_new r seq k ks all more is are one =
    let p = has_texts r.filer r.key in
    let J = counted_from kept_row 1 ks in
    let row = kept_row seq k in
    let here : p row ≡ true =
    has_its r.filer r.key r.target r.body seq k ∙ ap (λ q. same_key q r) is ∙ same_key-refl r in
    let single : filter p (row ∷ []) ≡ row ∷ [] = rw here refl in
    let parts : filter p ((J ++ row ∷ []) ++ more) ≡ (filter p J ++ row ∷ []) ++ filter p more =
    filter-append p (J ++ row ∷ []) more ∙ ap (λ l. l ++ filter p more) (filter-append p J (row ∷ [])
    ∙ ap (λ l. filter p J ++ l) single) in
    let long : length (filter p all) ≡ length (filter p ((J ++ row ∷ []) ++ more)) =
    length_permutation (filter p ((J ++ row ∷ []) ++ more)) (filter p all)
    (IsPermutation-filter p ((J ++ row ∷ []) ++ more) all are) in
    let whole : length ((filter p J ++ row ∷ []) ++ filter p more)
    ≡ length (filter p J ++ row ∷ []) + length (filter p more) =
    length-append (filter p J ++ row ∷ []) (filter p more) in
    let front : length (filter p J ++ row ∷ []) ≡ length (filter p J) + 1 = length-append (filter p J) (row ∷ []) in
    let sum = ap length parts in
    none_has r 1 ks (omega (arith, long, whole, front, sum, one))

-- ---- one kept request more

module _ (amends_are : List Row) (total count : ℕ) (left tail : Left) (db : Database) (F : List Request) (r : Request)
    (was : Walked amends_are total count left db F) (now : Passes F (count + 1) left tail db r) where
  abbrev k : Kept
  k = judged (kept F) r

  many_kept : length (kept F) ≡ count
  many_kept = kept_length F was.distinct ∙ was.many

  out : (more : List Row) × IsPermutation ((counted_from kept_row 1 (kept F) ++ kept_row (count + 1) k ∷ []) ++ more)
      (rows_in db kept_table) × (length was.kept_is.rest ≡ length more + 1)
  out = take_out (has_number (count + 1)) (rows_in db kept_table) (counted_from kept_row 1 (kept F))
      (kept_row (count + 1) k ∷ []) was.kept_is.rest was.kept_is.all
      (no_kept (count + 1) 1 (kept F) (let m = many_kept in omega (arith, m))) now.kept_is

  new : has_key F r ≡ false
  new = ap (λ G. has_key G r) (sym (requests_of_kept F ∙ was.distinct))
      ∙ is_new r (count + 1) k (kept F) (rows_in db kept_table) out.0 refl out.1 now.alone

  kept_are : kept (F ++ r ∷ []) ≡ kept F ++ k ∷ []
  kept_are = kept_new F r new

  place : 1 + length (kept F) ≡ count + 1
  place = let m = many_kept in omega (arith, m)

  joined_is : (rows : ℕ → Kept → List Row) → joined_from rows 1 (kept (F ++ r ∷ [])) ≡ joined_from rows 1 (kept F)
      ++ rows (count + 1) k
  joined_is rows =
      ap (joined_from rows 1) kept_are ∙ joined_append rows 1 (kept F) (k ∷ [])
      ∙ ap (λ l. joined_from rows 1 (kept F) ++ l) (append-nil _ ∙ ap (λ n. rows n k) place)

  left_of : (table : Table) (p : Row → Bool) (rows : ℕ → Kept → List Row) (n m : ℕ)
      → HasLeft table (joined_from rows 1 (kept F)) n db → filter p (joined_from rows 1 (kept F)) ≡ []
      → Finds table p (rows (count + 1) k) db → n ≡ m + length (rows (count + 1) k) → HasLeft table
      (joined_from rows 1 (kept (F ++ r ∷ []))) m db
  left_of table p rows n m had none finds fits =
      subst (λ l. HasLeft table l m db) (sym (joined_is rows))
      (left_after table db p (joined_from rows 1 (kept F)) (rows (count + 1) k) n m had none finds fits)

  apart : AllByRecursion (λ (x : Kept). IsApart left.number x.outcome) (kept F)
  apart = subst (λ n. AllByRecursion (λ (x : Kept). IsApart n x.outcome) (kept F)) (sym was.number_is) (all_apart F)

  facts_found : (o : Outcome) (rows : List Row) → HasFactRows o left.number rows db
      → Finds fact_table (has_number left.number) rows db
  facts_found (Registered n) rows found = inr found
  facts_found (Refused found) rows none = inl none

  -- requests of which the tables have all rows go on with this one
  leads : (all : List Request) → AreAllOf all amends_are db → (later : List Request) × (all ≡ (F ++ r ∷ []) ++ later)
  leads all are = go (was.leads all are).0 (was.leads all are).1
    where
      go : (later : List Request) → all ≡ F ++ later → (more : List Request) × (all ≡ (F ++ r ∷ []) ++ more)
      go [] is =
          let m = many_kept in
          let held = subst (λ G. AreAllOf G amends_are db) (is ∙ append-nil F) are in
          let none : Picks kept_table (has_number (count + 1)) [] db =
          picks_of kept_table (has_number (count + 1)) _ [] db held.kept_is
          (no_kept (count + 1) 1 (kept F) (omega (arith, m))) in
          let one = length_permutation _ _ now.kept_is in
          let zero = length_permutation _ _ none in
          absurd (omega (arith, one, zero))
      go (s ∷ later) is =
          let m = many_kept in
          let seq : count + 1 ≡ suc (length (kept F)) = omega (arith, m) in
          let held = subst (λ G. AreAllOf G amends_are db) is are in
          let same : s ≡ r =
          same_request_as F later s was.distinct held.distinct amends_are db held r left.amends.now tail.amends.now
          was.amends_is (subst (λ n. Picks kept_table (has_number n) (kept_row n k ∷ []) db) seq now.kept_is)
          (now.amends_is ∙ ap (λ n. amends_rows_by n r.target ++ tail.amends.now) seq)
          (ap (λ n. begins_with 0 n tail.amends.now) (sym seq) ∙ now.ends) in
          (later, is ∙ ap (λ q. F ++ q ∷ later) same ∙ sym (append_assoc F (r ∷ []) later))

  filings_more : length (register (F ++ r ∷ [])) ≡ length (register F) + filings_by k.outcome
  filings_more = registered_more F r new

  pub walked_on : Walked amends_are total (count + 1) tail db (F ++ r ∷ [])
  walked_on =
      let m = many_kept in
      let long = out.2 in
      let were = was.kept_is.many in
      let all = was.in_all in
      let more = filings_more in
      let one = one_filing k.outcome in
      let had = was.number_is in
      let few = was.fewer in
      let next = now.beyond.number_is in
      let size = length-append F (r ∷ []) in
      let counted = was.many in
      record {
        many = omega (arith, size, counted);
        number_is = omega (arith, more, had, next);
        fewer = omega (arith, more, one, few);
        distinct = firsts_new F r new ∙ ap (λ l. l ++ r ∷ []) was.distinct;
        completed = all_push IsCompleted F r was.completed now.completed;
        kept_left = length out.0;
        in_all = omega (arith, long, were, all);
        kept_is = record {
          rest = out.0;
          all = subst (λ l. IsPermutation (l ++ out.0) (rows_in db kept_table))
              (sym (ap (counted_from kept_row 1) kept_are ∙ counted_append 1 (kept F) (k ∷ [])
              ∙ ap (λ n. counted_from kept_row 1 (kept F) ++ kept_row n k ∷ []) place)) out.1;
          many = refl;
        };
        finding_is =
            left_of finding_table (has_number (count + 1)) finding_rows left.findings tail.findings was.finding_is
            (no_finding (count + 1) 1 (kept F) (omega (arith, m))) (inr now.beyond.finding_is)
            now.beyond.findings_left;
        filing_is =
            left_of filing_table (has_second (count + 1)) filing_rows left.filings tail.filings was.filing_is
            (no_filing (count + 1) 1 (kept F) (omega (arith, m))) (inr now.beyond.filing_is) now.beyond.filings_left;
        fact_is =
            left_of fact_table (has_number left.number) fact_rows left.facts tail.facts was.fact_is
            (no_fact left.number 1 (kept F) apart) (facts_found k.outcome (fact_rows (count + 1) k) now.beyond.fact_is)
            now.beyond.facts_left;
        amends_is = was.amends_is ∙ ap (λ l. joined_from amends_rows 1 (kept F) ++ l) now.amends_is
            ∙ sym (append_assoc (joined_from amends_rows 1 (kept F)) (amends_rows (count + 1) k) tail.amends.now)
            ∙ ap (λ l. l ++ tail.amends.now) (sym (joined_is amends_rows));
        leads = leads;
      }

  -- the filings are those of the requests with this one
  pub filed_on : (filed : Filed) → AreFiled (kept F ++ judged (kept F) r ∷ []) filed
      → AreFiled (kept (F ++ r ∷ [])) filed
  filed_on filed are = subst (λ ks. AreFiled ks filed) (sym kept_are) are

-- before the first
pub none_walked : (amends_are : List Row) (total : ℕ) (left : Left) (db : Database) → left.number ≡ 1
    → left.amends.now ≡ amends_are → CountsTo kept_table total db
    → CountsTo finding_table left.findings db → CountsTo filing_table left.filings db
    → CountsTo fact_table left.facts db → Walked amends_are total 0 left db []
unfolding firsts kept_after filings
none_walked amends_are total left db first same kept_are findings_are filings_are facts_are = record {
  many = refl;
  number_is = first;
  fewer = omega arith;
  distinct = refl;
  completed = tt;
  kept_left = total;
  in_all = omega arith;
  kept_is = none_taken kept_table db total kept_are;
  finding_is = none_taken finding_table db left.findings findings_are;
  filing_is = none_taken filing_table db left.filings filings_are;
  fact_is = none_taken fact_table db left.facts facts_are;
  amends_is = sym same;
  leads = λ all are. (all, refl);
}

pub none_filed : (filed : Filed) → AreFiled [] filed → AreFiled (kept []) filed
unfolding firsts kept_after filings
none_filed filed are = are

-- ---- what is found

-- rows that come in their order are those that are wanted, or the table has others
pub found_items : {X : Type 0} (table : Table) (keep : Row → Bool) (made : ℕ → X → Row)
    → ((at : ℕ) (x : X) → by_second (made at x) ≡ Int (pos at) ∷ []) → (xs : List X) (rows : List Row) (found : Bool)
    → IsTrue found ↔ (rows ≡ counted_from made 1 xs) → (db : Database) → PicksInOrder table keep rows db
    → IsTrue found ↔ Picks table keep (counted_from made 1 xs) db
found_items table keep made sorts xs rows found is db p = (
  λ yes. subst (λ l. Picks table keep l db) (is.0 yes) p.picks,
  λ there. is.1 (p.ordered (counted_from made 1 xs) there (counted_rise made by_second sorts 1 xs)),
)

short_same : {X : Type 0} (xs ys : List X) → IsPermutation xs ys → length xs ≤ 1 → ys ≡ xs
short_same [] [] same few = refl
short_same [] (y ∷ ys) same few = absurd (omega (arith, length_permutation _ _ same))
short_same (x ∷ []) ys same few = one_permutation x ys same
short_same (x ∷ z ∷ xs) ys same few = absurd (omega (arith, few))

-- one row, or none, has no order
pub found_few : (table : Table) (keep : Row → Bool) (wanted rows : List Row) (found : Bool) → length wanted ≤ 1
    → IsTrue found ↔ (rows ≡ wanted) → (db : Database) → Picks table keep rows db
    → IsTrue found ↔ Picks table keep wanted db
found_few table keep wanted rows found few is db picked = (
  λ yes. subst (λ l. Picks table keep l db) (is.0 yes) picked,
  λ there. is.1 (short_same wanted rows (IsPermutation-trans _ _ _ (IsPermutation-sym _ _ there) picked) few),
)

-- ---- what is passed by

pub not_found : {P : Type 0} (found : Bool) → found ≡ false → IsTrue found ↔ P → P → ⊥
not_found found none is p = true≢false (sym (is.1 p) ∙ none)

module _ (seq : ℕ) (left : Left) (db : Database) where
  -- a refused request, whose findings are found or not, and so are filings of it
  pub beyond_refused : (fs : List Pair) (found : Option Left)
      → Picks finding_table (has_number seq) (counted_from (finding_row seq) 1 fs) db
      → Picks filing_table (has_second seq) [] db
      → MatchOption found (left.findings < length fs) (λ tail. (left.findings ≡ tail.findings + length fs)
      × (tail.filings ≡ left.filings) × (tail.facts ≡ left.facts) × (tail.number ≡ left.number)
      × (tail.amends.now ≡ left.amends.now)) → (k : Kept) → k.outcome ≡ Refused fs → IsBeyond seq k left found db
  beyond_refused fs found findings filings says k is = go found says
    where
      size : length (finding_rows seq k) ≡ length fs
      size = ap (λ o. length (counted_from (finding_row seq) 1 (findings_of o))) is
          ∙ length_counted (finding_row seq) 1 fs

      no_filings : length (filing_rows seq k) ≡ 0
      no_filings = ap (λ o. length (filing_rows_by seq o)) is

      no_facts : length (fact_rows seq k) ≡ 0
      no_facts = ap (λ o. length (fact_rows_by (facts k.request.body) o)) is

      go : (found : Option Left) → MatchOption found (left.findings < length fs) (λ tail.
          (left.findings ≡ tail.findings + length fs) × (tail.filings ≡ left.filings) × (tail.facts ≡ left.facts)
          × (tail.number ≡ left.number) × (tail.amends.now ≡ left.amends.now)) → IsBeyond seq k left found db
      go None few = λ tail past. let had = past.findings_left in let many = size in omega (arith, had, many, few)
      go (Some tail) says =
          let one = says.0 in
          let two = says.1 in
          let three = says.2 in
          let four = says.3 in
          let many = size in
          let none = no_filings in
          let neither = no_facts in
          let by : filings_by k.outcome ≡ 0 = ap filings_by is in
          record {
            finding_is =
                subst (λ o. Picks finding_table (has_number seq) (counted_from (finding_row seq) 1 (findings_of o)) db)
                (sym is) findings;
            filing_is = subst (λ o. Picks filing_table (has_second seq) (filing_rows_by seq o) db) (sym is) filings;
            fact_is = subst (λ o. HasFactRows o left.number (fact_rows_by (facts k.request.body) o) db) (sym is) refl;
            findings_left = omega (arith, many, one);
            filings_left = omega (arith, none, two);
            facts_left = omega (arith, neither, three);
            number_is = omega (arith, by, four);
          }

  -- a registered one
  pub beyond_registered : (all : List FactRecord) (found : Option Left)
      → Picks finding_table (has_number seq) [] db
      → Picks filing_table (has_second seq) ((Int (pos left.number) ∷ Int (pos seq) ∷ []) ∷ []) db
      → Picks fact_table (has_number left.number) (counted_from (fact_row left.number) 1 all) db
      → MatchOption found ((left.filings ≡ 0) ⊎ (left.facts < length all)) (λ tail. (tail.findings ≡ left.findings)
      × (left.filings ≡ tail.filings + 1) × (left.facts ≡ tail.facts + length all)
      × (tail.number ≡ left.number + 1) × (tail.amends.now ≡ left.amends.now)) → (k : Kept)
      → k.outcome ≡ Registered left.number → all ≡ facts k.request.body → IsBeyond seq k left found db
  beyond_registered all found findings filing picked says k is same = go found says
    where
      rows_are : fact_rows seq k ≡ counted_from (fact_row left.number) 1 all
      rows_are = ap (fact_rows_by (facts k.request.body)) is ∙ ap (counted_from (fact_row left.number) 1) (sym same)

      size : length (fact_rows seq k) ≡ length all
      size = ap length rows_are ∙ length_counted (fact_row left.number) 1 all

      one_row : length (filing_rows seq k) ≡ 1
      one_row = ap (λ o. length (filing_rows_by seq o)) is

      no_findings : length (finding_rows seq k) ≡ 0
      no_findings = ap (λ o. length (counted_from (finding_row seq) 1 (findings_of o))) is

      go : (found : Option Left) → MatchOption found ((left.filings ≡ 0) ⊎ (left.facts < length all)) (λ tail.
          (tail.findings ≡ left.findings) × (left.filings ≡ tail.filings + 1) × (left.facts ≡ tail.facts + length all)
          × (tail.number ≡ left.number + 1) × (tail.amends.now ≡ left.amends.now)) → IsBeyond seq k left found db
      go None (inl none) = λ tail past. let had = past.filings_left in let one = one_row in omega
          (arith, had, one, none)
      go None (inr few) = λ tail past. let had = past.facts_left in let many = size in omega (arith, had, many, few)
      go (Some tail) says =
          let one = says.0 in
          let two = says.1 in
          let three = says.2 in
          let four = says.3 in
          let many = size in
          let single = one_row in
          let none = no_findings in
          let by : filings_by k.outcome ≡ 1 = ap filings_by is in
          record {
            finding_is =
                subst (λ o. Picks finding_table (has_number seq) (counted_from (finding_row seq) 1 (findings_of o)) db)
                (sym is) findings;
            filing_is = subst (λ o. Picks filing_table (has_second seq) (filing_rows_by seq o) db) (sym is) filing;
            fact_is =
                subst (λ o. HasFactRows o left.number (fact_rows seq k) db) (sym is)
                (subst (λ l. Picks fact_table (has_number left.number) l db) (sym rows_are) picked);
            findings_left = omega (arith, none, one);
            filings_left = omega (arith, single, two);
            facts_left = omega (arith, many, three);
            number_is = omega (arith, by, four);
          }

-- ---- a kept row, judged after these requests

-- a row with what is beside it
pub past_row : (seq : ℕ) (row : Row) (k : Kept) (left : Left) (passed : Option Left) (db : Database)
    → row ≡ kept_row seq k → IsBeyond seq k left passed db → IsPast seq row k left passed db
past_row seq row k left None db is none = λ _. none
past_row seq row k left (Some tail) db is beyond = (is, beyond)

-- a request that was judged so is the next of them
pub judged_so : (F : List Request) (r : Request) (j : Judged) (number : ℕ) → number ≡ suc (length (register F))
    → (judged (kept F) r).outcome ≡ outcome_of (suc (length (register F))) j
    → request_outcome r (outcome_of number j) ≡ judged (kept F) r
judged_so F r j number is told = ap (request_outcome r) (ap (λ n. outcome_of n j) is ∙ sym told)

-- as many rows are left, but for those of `amends`, and the next filing has the same number
abbrev pub LeavesAsMany : Left → Left → Type 0
LeavesAsMany left other =
    (left.findings ≡ other.findings) × (left.filings ≡ other.filings) × (left.facts ≡ other.facts)
    × (other.number ≡ left.number)

pub beyond_both : (seq : ℕ) (k : Kept) (left other tail : Left) (db : Database) → LeavesAsMany left other
    → Beyond seq k other tail db → Beyond seq k left tail db
beyond_both seq k left other tail db same past = record {
  finding_is = past.finding_is;
  filing_is = past.filing_is;
  fact_is = subst (λ n. HasFactRows k.outcome n (fact_rows seq k) db) same.3 past.fact_is;
  findings_left = same.0 ∙ past.findings_left;
  filings_left = same.1 ∙ past.filings_left;
  facts_left = same.2 ∙ past.facts_left;
  number_is = past.number_is ∙ ap (λ n. n + filings_by k.outcome) same.3;
}

module _ (F : List Request) (seq : ℕ) (left other : Left) (row : Row) (target : Option ℕ) (held : Filed)
    (db : Database)
    (same : LeavesAsMany left other) (begins : left.amends.now ≡ amends_rows_by seq target ++ other.amends.now)
    (ends : begins_with 0 seq other.amends.now ≡ false) where
  -- a row whose filer and target were read
  pub next_of : IsCompleted (request_in target row)
      → ((t : Option ℕ) (l : List Row) → left.amends.now ≡ amends_rows_by seq t ++ l → begins_with 0 seq l ≡ false
      → (t ≡ target) × (l ≡ other.amends.now)) → (passed : Option Left)
      → IfSome passed (λ tail. tail.amends.now ≡ other.amends.now)
      → IsPast seq row (judged (kept F) (request_in target row)) other passed db
      → OnSome passed (AreFiled (kept F ++ judged (kept F) (request_in target row) ∷ []) held)
      → MatchOption passed ((t : Option ℕ) (tail : Left) → IsNext F seq row t left tail db → ⊥)
      (λ tail. (t : Option ℕ) × IsNext F seq row t left tail db
      × AreFiled (kept F ++ judged (kept F) (request_in t row) ∷ []) held)
  next_of completed only None rest past filed = λ t tail next.
      let told = only t tail.amends.now next.amends_is next.ends in
      let back : LeavesAsMany other left = (sym same.0, sym same.1, sym same.2, sym same.3) in
      past (subst (λ t. row ≡ kept_row seq (judged (kept F) (request_in t row))) told.0 next.row_is) tail
      (beyond_both seq (judged (kept F) (request_in target row)) other left tail db back
      (subst (λ t. Beyond seq (judged (kept F) (request_in t row)) left tail db) told.0 next.beyond))
  next_of completed only (Some tail) rest past filed = (
    target,
    record {
      completed = completed;
      row_is = past.0;
      beyond = beyond_both seq (judged (kept F) (request_in target row)) left other tail db same past.1;
      amends_is = begins ∙ ap (λ l. amends_rows_by seq target ++ l) (sym rest);
      ends = ap (begins_with 0 seq) rest ∙ ends;
    },
    filed,
  )

module _ (F : List Request) (seq : ℕ) (left : Left) (db : Database) (row : Row)
    (picked : Picks kept_table (has_number seq) (row ∷ []) db) where
  -- a request that passes has this row
  pub next_passed : (r : Request) (tail : Left) → Passes F seq left tail db r → IsNext F seq row r.target left tail db
  next_passed r tail p =
      let k = judged (kept F) r in
      let rows : kept_row seq k ∷ [] ≡ row ∷ [] =
      sym (one_permutation _ _ (IsPermutation-sym _ _ p.kept_is)) ∙ one_permutation _ _
      (IsPermutation-sym _ _ picked) in
      let is : kept_row seq k ≡ row = cc in
      let same : r ≡ request_in r.target row = ap (request_in r.target) is in
      record {
        completed = subst IsCompleted same p.completed;
        row_is = sym is ∙ ap (λ q. kept_row seq (judged (kept F) q)) same;
        beyond = subst (λ q. Beyond seq (judged (kept F) q) left tail db) same p.beyond;
        amends_is = p.amends_is;
        ends = p.ends;
      }

  pub passes_next : (target : Option ℕ) (tail : Left)
      → length (filter (has_texts (request_in None row).filer (request_in None row).key) (rows_in db kept_table)) ≡ 1
      → IsNext F seq row target left tail db → Passes F seq left tail db (request_in target row)
  passes_next target tail alone next = record {
    completed = next.completed;
    kept_is = subst (λ x. Picks kept_table (has_number seq) (x ∷ []) db) next.row_is picked;
    alone = alone;
    beyond = next.beyond;
    amends_is = next.amends_is;
    ends = next.ends;
  }

  -- and no other row has its filer and key
  pub alone_row : (r : Request) (tail : Left) → Passes F seq left tail db r
      → length (filter (has_texts (request_in None row).filer (request_in None row).key) (rows_in db kept_table)) ≡ 1
  alone_row r tail p =
      let rows : kept_row seq (judged (kept F) r) ∷ [] ≡ row ∷ [] =
      sym (one_permutation _ _ (IsPermutation-sym _ _ p.kept_is)) ∙ one_permutation _ _
      (IsPermutation-sym _ _ picked) in
      let is : kept_row seq (judged (kept F) r) ≡ row = cc in
      subst (λ x. length (filter (has_texts (request_in None x).filer (request_in None x).key)
      (rows_in db kept_table)) ≡ 1) is p.alone

  -- what is said of the row is said of the request
  pub passes_row : (held : Filed) (passed : Option Left)
      → length (filter (has_texts (request_in None row).filer (request_in None row).key) (rows_in db kept_table)) ≡ 1
      → MatchOption passed ((t : Option ℕ) (tail : Left) → IsNext F seq row t left tail db → ⊥)
      (λ tail. (t : Option ℕ) × IsNext F seq row t left tail db
      × AreFiled (kept F ++ judged (kept F) (request_in t row) ∷ []) held)
      → MatchOption passed (NonePasses F seq left db) (λ tail. (r : Request) × Passes F seq left tail db r
      × AreFiled (kept F ++ judged (kept F) r ∷ []) held)
  passes_row held None alone none = λ r tail p. none r.target tail (next_passed r tail p)
  passes_row held (Some tail) alone next = (request_in next.0 row, passes_next next.0 tail alone next.1, next.2)

-- where there is not one row at this place, no request passes
pub none_passes : (F : List Request) (seq : ℕ) (left : Left) (db : Database) (rows : List Row)
    → Picks kept_table (has_number seq) rows db → (length rows ≡ 1 → ⊥) → NonePasses F seq left db
none_passes F seq left db rows picked many r tail p =
    let one = length_permutation _ _ p.kept_is in
    let all = length_permutation _ _ picked in
    many (omega (arith, one, all))

-- ---- the counts that the walk begins with

pub start_of : (amends_are : List Row) (kept_count findings filings_count facts_count : Option ℕ) (db : Database)
    → IfSome kept_count (λ n. CountsTo kept_table n db) → IfSome findings (λ n. CountsTo finding_table n db)
    → IfSome filings_count (λ n. CountsTo filing_table n db) → IfSome facts_count (λ n. CountsTo fact_table n db)
    → (sizes : Option Sizes)
    → IfSome sizes (λ s. (kept_count ≡ Some s.kept) × (findings ≡ Some s.others.findings)
    × (filings_count ≡ Some s.others.filings)
    × (facts_count ≡ Some s.others.facts) × (s.others.number ≡ 1) × (s.others.amends.now ≡ amends_are))
    → IfSome sizes (λ s. Walked amends_are s.kept 0 s.others db [])
start_of amends_are k f g a db one two three four None says = tt
start_of amends_are k f g a db one two three four (Some s) says =
    none_walked amends_are s.kept s.others db says.4 says.5
    (subst (λ o. IfSome o (λ n. CountsTo kept_table n db)) says.0 one)
    (subst (λ o. IfSome o (λ n. CountsTo finding_table n db)) says.1 two)
    (subst (λ o. IfSome o (λ n. CountsTo filing_table n db)) says.2 three)
    (subst (λ o. IfSome o (λ n. CountsTo fact_table n db)) says.3 four)
