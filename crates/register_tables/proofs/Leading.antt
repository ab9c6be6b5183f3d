-- Requests that begin with some and go on with one: the rows that it has, and what is left behind it.
use Rattle.std.proofs.Common.{◌≡◌, ◌++◌, ℕ, ◌+◌, suc, true, false, List, [], ◌∷◌, map, filter, length, length-append}
use Rattle.std.proofs.Common.{append_assoc, append-nil, Bool, refl, sym, ap, ap₂, subst, ◌∙◌, arith, IsPermutation}
use Rattle.std.specs.List.{AllByRecursion}
use Rattle.std.proofs.lemmas.List.{append_cancel_left}
use Rattle.std.proofs.lemmas.List.Elements.{filter-append}
use Rattle.std.proofs.lemmas.List.Sorted.{IsPermutation-sym, length_permutation}
use Rattle.sqlite.specs.Order.{Row}
use Rattle.sqlite.specs.Table.{Table}
use Rattle.sqlite.specs.Effect.{Database}
use Rattle.sqlite.proofs.Callers.{one_permutation}
use Rattle.sqlite_keyed.proofs.ListLemmas.{IsPermutation-filter}
use Rattle.filing_model.specs.Request.{Request, firsts, has_key, same_key}
use Rattle.filing_model.specs.Register.{Kept, Outcome, judged, kept, register}
use Rattle.filing_model.specs.Register.Outcome.{Registered, Refused}
use Rattle.filing_model.proofs.Firsts.{firsts_once, same_key-refl}
use Rattle.filing_model.proofs.Keeping.{kept_grows, kept_new, requests_of_kept}
use Rattle.table_rows.specs.Picking.{has_number, rows_in, HasLeft, Picks}
use Rattle.table_rows.specs.Rows.{TableHas, counted_from}
use Rattle.xbrl_report.specs.ReportParts.{facts}
use Rattle.register_rows.specs.Columns.{begins_with, request_in}
use Rattle.register_rows.specs.Register.{IsCompleted, kept_row, finding_rows, filing_rows, fact_rows, fact_rows_by}
use Rattle.register_rows.specs.Register.{amends_rows, amends_rows_by, joined_from}
use Rattle.register_rows.specs.Schema.{kept_table, finding_table, filing_table, fact_table}
use Rattle.register_rows.proofs.FiledLemmas.{registered_next}
use Rattle.register_rows.proofs.MoreRequests.{all_at, apart_from, counted_append, joined_append}
use Rattle.register_rows.proofs.StepsOfTargets.{no_amends, only_target}
use Rattle.register_tables.specs.Reads.{has_second, has_texts}
use Rattle.register_tables.specs.Walk.{AreAllOf, HasFactRows}
use Rattle.register_tables.proofs.KeptOrder.{first_of}
use Rattle.register_tables.proofs.WalkRows.{IsApart, all_apart, has_its, later_apart, no_fact, no_filing, no_finding}
use Rattle.register_tables.proofs.WalkRows.{no_kept}
use Rattle.register_tables.proofs.WalkRows.{no_later_filing, no_later_finding, own_facts, own_filing, own_findings}

-- the rows of a table that pass are these
pub picks_of : (table : Table) (p : Row → Bool) (all some : List Row) (db : Database) → TableHas db table all
    → filter p all ≡ some → Picks table p some db
picks_of table p all some db has is =
    IsPermutation-sym _ _ (subst (λ l. IsPermutation l (filter p (rows_in db table))) is
    (IsPermutation-filter p all (rows_in db table) has))

-- where rows in the middle pass, and no others
in_the_middle : (p : Row → Bool) (front own back : List Row) → filter p front ≡ [] → filter p own ≡ own
    → filter p back ≡ [] → filter p (front ++ (own ++ back)) ≡ own
in_the_middle p front own back none all later =
    filter-append p front (own ++ back) ∙ ap (λ l. l ++ filter p (own ++ back)) none ∙ filter-append p own back
    ∙ ap₂ ◌++◌ all later ∙ append-nil own

one_more : (r : Request) (at : ℕ) (x : Kept) (ks : List Kept) (b : Bool) → same_key x.request r ≡ b
    → length (filter (has_texts r.filer r.key) (counted_from kept_row (at + 1) ks))
    ≡ length (filter (λ s. same_key s r) (map (λ (y : Kept). y.request) ks))
    → length (filter (has_texts r.filer r.key) (counted_from kept_row at (x ∷ ks)))
    ≡ length (filter (λ s. same_key s r) (map (λ (y : Kept). y.request) (x ∷ ks)))
one_more r at x ks true is same = rw (has_its r.filer r.key r.target r.body at x, is) (ap suc same)
one_more r at x ks false is same = rw (has_its r.filer r.key r.target r.body at x, is) same

-- as many rows have the filer and the key as requests
as_many : (r : Request) (at : ℕ) (ks : List Kept)
    → length (filter (has_texts r.filer r.key) (counted_from kept_row at ks))
    ≡ length (filter (λ s. same_key s r) (map (λ (x : Kept). x.request) ks))
as_many r at [] = refl
as_many r at (x ∷ ks) = one_more r at x ks (same_key x.request r) refl (as_many r (at + 1) ks)

module _ (F later : List Request) (r : Request) (once : firsts F ≡ F) (whole : firsts (F ++ r ∷ later)
    ≡ F ++ r ∷ later) where
  abbrev G : List Request
  G = F ++ r ∷ later

  abbrev k : Kept
  k = judged (kept F) r

  abbrev seq : ℕ
  seq = suc (length (kept F))

  pub fresh : has_key F r ≡ false
  fresh = apart_from F later r once whole

  pub behind : List Kept
  behind = (kept_grows (F ++ r ∷ []) later).0

  pub kept_are : kept G ≡ kept F ++ k ∷ behind
  unfolding behind
  kept_are =
      ap kept (sym (append_assoc F (r ∷ []) later)) ∙ (kept_grows (F ++ r ∷ []) later).1
      ∙ ap (λ ks. ks ++ behind) (kept_new F r fresh) ∙ append_assoc (kept F) (k ∷ []) behind

  pub joined_are : (rows : ℕ → Kept → List Row) → joined_from rows 1 (kept G)
      ≡ joined_from rows 1 (kept F) ++ (rows seq k ++ joined_from rows (seq + 1) behind)
  joined_are rows =
      ap (joined_from rows 1) kept_are ∙ joined_append rows 1 (kept F) (k ∷ behind)
      ∙ ap (λ n. joined_from rows 1 (kept F) ++ joined_from rows n (k ∷ behind)) (omega arith)

  counted_are : counted_from kept_row 1 (kept G)
      ≡ counted_from kept_row 1 (kept F) ++ counted_from kept_row seq (k ∷ behind)
  counted_are =
      ap (counted_from kept_row 1) kept_are ∙ counted_append 1 (kept F) (k ∷ behind)
      ∙ ap (λ n. counted_from kept_row 1 (kept F) ++ counted_from kept_row n (k ∷ behind)) (omega arith)

  pub row_of : filter (has_number seq) (counted_from kept_row 1 (kept G)) ≡ kept_row seq k ∷ []
  row_of =
      ap (filter (has_number seq)) counted_are
      ∙ filter-append (has_number seq) (counted_from kept_row 1 (kept F)) (counted_from kept_row seq (k ∷ behind))
      ∙ ap₂ ◌++◌ (no_kept seq 1 (kept F) (omega arith)) (first_of seq k behind)

  -- ---- where the tables have all their rows

  module _ (amends : List Row) (db : Database) (are : AreAllOf G amends db) where
    pub completed_is : IsCompleted r
    completed_is = all_at IsCompleted F r later are.completed

    pub kept_picked : Picks kept_table (has_number seq) (kept_row seq k ∷ []) db
    kept_picked = picks_of kept_table (has_number seq) _ _ db are.kept_is row_of

    pub findings_picked : Picks finding_table (has_number seq) (finding_rows seq k) db
    findings_picked =
        picks_of finding_table (has_number seq) _ _ db are.finding_is
        (ap (filter (has_number seq)) (joined_are finding_rows)
        ∙ in_the_middle (has_number seq) _ _ _ (no_finding seq 1 (kept F) (omega arith)) (own_findings seq k)
        (no_later_finding seq (seq + 1) behind (omega arith)))

    pub filing_picked : Picks filing_table (has_second seq) (filing_rows seq k) db
    filing_picked =
        picks_of filing_table (has_second seq) _ _ db are.filing_is
        (ap (filter (has_second seq)) (joined_are filing_rows)
        ∙ in_the_middle (has_second seq) _ _ _ (no_filing seq 1 (kept F) (omega arith)) (own_filing seq k)
        (no_later_filing seq (seq + 1) behind (omega arith)))

    pub facts_picked : HasFactRows k.outcome (suc (length (register F))) (fact_rows seq k) db
    facts_picked = go k.outcome refl
      where
        go : (o : Outcome) → k.outcome ≡ o
            → HasFactRows o (suc (length (register F))) (fact_rows_by (facts r.body) o) db
        go (Registered n) is =
            let next : n ≡ suc (length (register F)) = registered_next (kept F) r n is in
            subst (λ m. Picks fact_table (has_number m) (fact_rows_by (facts r.body) (Registered n)) db) next
            (picks_of fact_table (has_number n) _ _ db are.fact_is
            (ap (filter (has_number n)) (joined_are fact_rows)
            ∙ in_the_middle (has_number n) _ _ _
            (no_fact n 1 (kept F) (subst (λ m. AllByRecursion (λ (x : Kept). IsApart m x.outcome) (kept F)) (sym next)
            (all_apart F)))
            (subst (λ o. filter (has_number n) (fact_rows_by (facts r.body) o) ≡ fact_rows_by (facts r.body) o) (sym is)
            (own_facts n (facts r.body)))
            (no_fact n (seq + 1) behind (later_apart F G k behind n kept_are is next))
            ∙ ap (fact_rows_by (facts r.body)) is))
        go (Refused found) is = refl

    -- no other kept row has its filer and key
    pub alone_is : length (filter (has_texts r.filer r.key) (rows_in db kept_table)) ≡ 1
    alone_is =
        let p = has_texts r.filer r.key in
        let all = counted_from kept_row 1 (kept G) in
        let same =
        length_permutation _ _ (IsPermutation-filter p all (rows_in db kept_table) are.kept_is) in
        let asked : length (filter p all) ≡ length (filter (λ s. same_key s r) (firsts G)) =
        as_many r 1 (kept G) ∙ ap (λ l. length (filter (λ s. same_key s r) l)) (requests_of_kept G) in
        let most = firsts_once G r in
        let parts : filter (λ s. same_key s r) G ≡ filter (λ s. same_key s r) F ++
        (r ∷ filter (λ s. same_key s r) later) =
        filter-append (λ s. same_key s r) F (r ∷ later)
        ∙ ap (λ l. filter (λ s. same_key s r) F ++ l) (rw (same_key-refl r) refl) in
        let some : length (filter (λ s. same_key s r) (firsts G))
        ≡ length (filter (λ s. same_key s r) F) + length (r ∷ filter (λ s. same_key s r) later) =
        ap (λ l. length (filter (λ s. same_key s r) l)) whole ∙ ap length parts
        ∙ length-append (filter (λ s. same_key s r) F) (r ∷ filter (λ s. same_key s r) later) in
        omega (arith, same, asked, most, some)

    -- so many rows are left of a table behind the first requests
    pub rows_left : (table : Table) (rows : ℕ → Kept → List Row) (n : ℕ)
        → TableHas db table (joined_from rows 1 (kept G)) → HasLeft table (joined_from rows 1 (kept F)) n db
        → n ≡ length (joined_from rows (seq + 1) behind) + length (rows seq k)
    rows_left table rows n has left =
        let all = length_permutation _ _ has in
        let parts = ap length (joined_are rows) in
        let whole = length-append (joined_from rows 1 (kept F)) (rows seq k ++ joined_from rows (seq + 1) behind) in
        let own = length-append (rows seq k) (joined_from rows (seq + 1) behind) in
        let had = length_permutation _ _ left.all in
        let had_parts = length-append (joined_from rows 1 (kept F)) left.rest in
        let many = left.many in
        omega (arith, all, parts, whole, own, had, had_parts, many)

    -- the rows of `amends` behind those of the first requests
    pub amends_left : (left : List Row) → amends ≡ joined_from amends_rows 1 (kept F) ++ left
        → left ≡ amends_rows_by seq r.target ++ joined_from amends_rows (seq + 1) behind
    amends_left left is =
        append_cancel_left (joined_from amends_rows 1 (kept F)) _ _ (sym is ∙ are.amends_is ∙ joined_are amends_rows)

    -- another request with the row of this one is this one
    pub same_request_as : (s : Request) (left tail : List Row) → amends ≡ joined_from amends_rows 1 (kept F) ++ left
        → Picks kept_table (has_number seq) (kept_row seq (judged (kept F) s) ∷ []) db
        → left ≡ amends_rows_by seq s.target ++ tail → begins_with 0 seq tail ≡ false → r ≡ s
    same_request_as s left tail is picked begins ends =
        let row : kept_row seq (judged (kept F) s) ∷ [] ≡ kept_row seq k ∷ [] =
        sym (picked_one picked) ∙ picked_one kept_picked in
        let first : kept_row seq k ≡ kept_row seq (judged (kept F) s) = cc in
        let target =
        only_target seq r.target s.target (joined_from amends_rows (seq + 1) behind) tail
        (no_amends seq (seq + 1) behind (omega arith)) ends (sym (amends_left left is) ∙ begins) in
        ap₂ request_in target.0 first
      where
        picked_one : {x : Row} → Picks kept_table (has_number seq) (x ∷ []) db
            → filter (has_number seq) (rows_in db kept_table) ≡ x ∷ []
        picked_one {x} p = one_permutation x _ (IsPermutation-sym _ _ p)
