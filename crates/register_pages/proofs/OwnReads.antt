-- What the SELECT of one filer's requests reads.
use Rattle.std.proofs.Common.{◌≡◌, ℕ, ◌+◌, ◌<◌, true, false, List, [], ◌∷◌, map, filter, length, get_or}
use Rattle.std.proofs.Common.{codes, refl, ap, ◌∙◌, ⊎_elim, inl, inr}
use Rattle.std.specs.Prelude.{All, bytes_eq}
use Rattle.std.proofs.lemmas.Bool.{cases_Bool}
use Rattle.std.proofs.lemmas.List.{get_or-map}
use Rattle.std.proofs.lemmas.List.Elements.{All-cons, All-filter, All-nil, All-weaker}
use Rattle.sqlite_schema.specs.declared.schema.Index.{Index}
use Rattle.sqlite_schema.specs.declared.schema.View.{View}
use Rattle.sqlite_tied.specs.Compute.{everything}
use Rattle.sqlite_keyed.proofs.ListLemmas.{ascending-filter}
use Rattle.sqlite.specs.declared.types.Value.TheVariants.{Text}
use Rattle.sqlite.specs.Order.{Row}
use Rattle.sqlite.specs.Table.{Table}
use Rattle.sqlite.specs.Schema.{Schema}
use Rattle.sqlite.specs.State.{State, Shown}
use Rattle.sqlite.specs.Term.{col}
use Rattle.sqlite.specs.Listing.{understood}
use Rattle.filing_model.specs.Request.{Request}
use Rattle.filing_model.specs.Register.{Kept, kept}
use Rattle.table_rows.specs.Rows.{counted_from}
use Rattle.table_rows.specs.Reading.{ReadsRows}
use Rattle.table_rows.specs.Standing.{HasCommitted}
use Rattle.table_rows.specs.Tables.{schema_with}
use Rattle.table_rows.proofs.SelectLemmas.{one_table}
use Rattle.table_rows.proofs.ReadingLemmas.{by_each, reads_rows}
use Rattle.table_rows.proofs.QueryLemmas.{Asks}
use Rattle.table_rows.proofs.TextLemmas.{IsQueryText}
use Rattle.table_rows.proofs.OrderLemmas.{and_true, counted_rise, same_text}
use Rattle.register_rows.specs.Register.{kept_row}
use Rattle.register_rows.specs.Schema.{HasCommon, common_tables, kept_table}
use Rattle.register_tables.specs.Reads.{Knows, by_first}
use Rattle.register_tables.specs.Registers.{IsRegisterOf}
use Rattle.register_tables.proofs.ReadTexts.{columns, equals, on_ours}
use Rattle.register_store.specs.Found.{IsPlaced}
use Rattle.register_store.specs.Reads.{has_filer}
use Rattle.register_store.proofs.ReplaceLemmas.{no_kept}
use Rattle.register_pages.specs.declared.reads.TheConstants.{OWN}
use Rattle.register_pages.specs.Own.{ArePlaced, own_columns, own_row}
use Rattle.register_pages.specs.Pages.{is_refused, placed, sent_by}

abbrev pub own_text : List ℕ
own_text = OWN.now

pub query_own : IsQueryText own_text
unfolding everything
query_own = refl

module _ (tables : List Table) (indexes : List Index) (views : List View) where
  own_means : Asks (schema_with common_tables tables indexes views) own_text
      (one_table 1 (equals 2) (columns (0 ∷ 3 ∷ 5 ∷ [])) (by_each (col 1 0 ∷ [])))
  unfolding understood everything
  own_means =
      record {
        names = codes "seq" ∷ codes "idem" ∷ codes "number" ∷ [];
        is = refl;
        plain = (refl, refl);
        listing = refl;
      }

asks_own : (s : Schema) → HasCommon s
    → Asks s own_text (one_table 1 (equals 2) (columns (0 ∷ 3 ∷ 5 ∷ [])) (by_each (col 1 0 ∷ [])))
asks_own = on_ours _ _ own_means

pub reads_own : (old new : State) → Knows old → (rows : List Row) (filer : List ℕ)
    → Shown own_text (Text filer ∷ []) old new rows → ReadsRows kept_table (has_filer filer) by_first own_columns rows
    old new
reads_own old new knows rows filer h =
    reads_rows common_tables kept_table own_text (equals 2) (columns (0 ∷ 3 ∷ 5 ∷ [])) (col 1 0 ∷ []) asks_own
    (Text filer ∷ []) old new knows (has_filer filer) (λ _. refl) by_first (λ _. refl) own_columns
    (λ _. refl) (λ _. refl) rows h

-- ---- they are the filer's

module _ (filer : List ℕ) where
  its_filer : (at : ℕ) (k : Kept) → has_filer filer (kept_row at k) ≡ bytes_eq k.request.filer filer
  its_filer at k = and_true _ ∙ same_text k.request.filer filer

  own_rows : (at : ℕ) (ks : List Kept)
      → map own_columns (filter (has_filer filer) (counted_from kept_row at ks))
      ≡ map own_row (filter (λ p. bytes_eq p.1.request.filer filer) (placed at ks))
  own_rows at [] = refl
  own_rows at (x ∷ ks) = ⊎_elim
      (λ (t : bytes_eq x.request.filer filer ≡ true).
      rw (its_filer at x ∙ t, t) (ap (λ rows. own_row (at, x) ∷ rows) (own_rows (at + 1) ks)))
      (λ (f : bytes_eq x.request.filer filer ≡ false). rw (its_filer at x ∙ f, f) (own_rows (at + 1) ks))
      (cases_Bool (bytes_eq x.request.filer filer))

  pub own_shown : {old_style : ℕ} (F : List Request) (old new : State) (rows : List Row)
      → HasCommitted (IsRegisterOf old_style F) old
      → ReadsRows kept_table (has_filer filer) by_first own_columns rows old new
      → rows ≡ map own_row (sent_by filer (kept F))
  own_shown F old new rows was r =
      let wanted = counted_from kept_row 1 (kept F) in
      r.ordered wanted (was.now r.same.0.was_open).rows.rows.kept_is
      (ascending-filter _ (has_filer filer) wanted (counted_rise kept_row by_first (λ _ _. refl) 1 (kept F)))
      ∙ own_rows 1 (kept F)

-- ---- each is at its place

placed_each : (at : ℕ) (ks : List Kept) → All (λ p. IsPlaced at p.0 ks p.1) (placed at ks)
placed_each at [] = All-nil (λ (p : ℕ × Kept). IsPlaced at p.0 [] p.1)
placed_each at (x ∷ ks) =
    All-cons (λ (p : ℕ × Kept). IsPlaced at p.0 (x ∷ ks) p.1) (at, x) (placed (at + 1) ks) (inl (refl, refl))
    (All-weaker (λ (p : ℕ × Kept). IsPlaced (at + 1) p.0 ks p.1) (λ (p : ℕ × Kept). IsPlaced at p.0 (x ∷ ks) p.1)
    (λ p. inr) (placed (at + 1) ks) (placed_each (at + 1) ks))

pub refused_placed : (filer : List ℕ) (ks : List Kept) → ArePlaced ks (filter is_refused (sent_by filer ks))
refused_placed filer ks =
    let IsThere : ℕ × Kept → Type 0 = λ p. IsPlaced 1 p.0 ks p.1 in
    All-filter is_refused IsThere (sent_by filer ks)
    (All-filter (λ p. bytes_eq p.1.request.filer filer) IsThere (placed 1 ks) (placed_each 1 ks))

-- ---- one of them

-- a pair, for the end of a list
abbrev pub no_request : ℕ × Kept
no_request = (0, no_kept)

pub own_at : (i : ℕ) (rows : List Row) (sent : List (ℕ × Kept)) (row : Row) → rows ≡ map own_row sent → i < length sent
    → row ≡ get_or rows i row → row ≡ own_row (get_or sent i no_request)
own_at i rows sent row are low is =
    is ∙ ap (λ rs. get_or rs i row) are ∙ get_or-map own_row sent i no_request row low
