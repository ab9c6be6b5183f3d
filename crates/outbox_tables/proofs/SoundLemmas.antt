-- The rows of an outbox pass the audit of an opening.
use Rattle.std.proofs.Common.{◌≡◌, ◌≤◌, ◌<◌, ◌^◌, ◌+◌, ℕ, zero, suc, pos, true, false, not, List, [], ◌∷◌, ◌++◌, map}
use Rattle.std.proofs.Common.{length, slice_get, nat_le, nat_lt, Option, None, Some, IsPermutation, refl, ap, subst}
use Rattle.std.proofs.Common.{◌∙◌, arith, ◌⊎◌, inl, inr}
use Rattle.std.specs.Prelude.{◌&&◌, ◌≢◌, option_and_then}
use Rattle.std.specs.List.{AllByRecursion}
use Rattle.std.proofs.lemmas.Bool.Decides.{nat_tests}
use Rattle.std.proofs.lemmas.List.Sorted.{IsPermutation-sym, IsPermutation-trans, All-permutation}
use Rattle.std.proofs.lemmas.List.Elements.{recursion_from_All, All-from_recursion}
use Rattle.sqlite.specs.declared.types.Value.TheVariants.{Int}
use Rattle.sqlite.specs.Order.{Row, column}
use Rattle.sqlite.specs.State.{State, Shown, FailsToQuery}
use Rattle.sqlite.specs.declared.error.Error.{Error}
use Rattle.sqlite.proofs.Callers.{one_permutation, reads_as}
use Rattle.sqlite_keyed.proofs.ListLemmas.{all_both, any_from_none, IsPermutation-filter}
use Rattle.key_string.specs.Filer.{is_filer}
use Rattle.key_string.proofs.Fields.{IsKey-is_key}
use Rattle.http_messages.specs.Head.{max_body_len}
use Rattle.http_messages.specs.Posting.{IsTarget}
use Rattle.filing_model.specs.Outbox.{Entry, State as Place, Open, Confirmed, Refused, Clashed, IsSendable, request_of}
use Rattle.table_rows.specs.Causes.{cause_of}
use Rattle.table_rows.specs.declared.cause.Cause.{Cause}
use Rattle.table_rows.specs.declared.cause.Cause.TheVariants.{Other}
use Rattle.outbox_tables.specs.declared.fault.OutboxFault.TheVariants as fault
use Rattle.outbox_tables.specs.Faults.{meta_fault_by, entry_fault_by}
use Rattle.table_rows.proofs.QuestionLemmas.{asked, question_fails}
use Rattle.outbox_tables.specs.Schema.{HasCommon, IsDeclared, meta_table, entry_table}
use Rattle.table_rows.specs.Rows.{TableHas}
use Rattle.outbox_tables.specs.Entries.{Contents, IsOutbox, FitsNumber, numbered_from, target_at}
use Rattle.outbox_tables.specs.Rows.{code_of, number_of, form_row, entry_row, entry_rows, target_row, target_rows_from}
use Rattle.outbox_tables.specs.Rows.{target_rows}
use Rattle.outbox_tables.specs.Audit.{meta_text, targets_text, entries_text, is_int, is_state, filer_in, is_entry}
use Rattle.outbox_tables.specs.Audit.{is_target, with_id, is_id_to, is_left_over, first_damaged, damaged_row, IsKept}
use Rattle.outbox_tables.proofs.Texts.{asks_entries, asks_meta, asks_targets}
use Rattle.outbox_tables.proofs.SelectLemmas.{entries_selected}
use Rattle.outbox_tables.proofs.HeldLemmas.{meta_held}
use Rattle.outbox_tables.proofs.TargetLemmas.{own_id, target_with, few_rows}

-- ---- an entry

short : (n : ℕ) → n ≤ max_body_len → nat_le n max_body_len ≡ true
short n low = grind (arith, nat_tests)

fits : (n : ℕ) → 1 ≤ n → n < 2 ^ 63 → (nat_le 1 n && nat_lt n (2 ^ 63)) ≡ true
fits n low high = grind (arith, nat_tests)

sound_state : (s : Place) → FitsNumber s → is_state (Int (pos (code_of s))) (number_of s) ≡ true
sound_state Open f = refl
sound_state (Confirmed n) f = fits n f.0 f.1
sound_state Refused f = refl
sound_state Clashed f = refl

-- the row of an entry that an outbox keeps is one
entry_sound : (id : ℕ) (e : Entry) → IsKept e → is_entry id (entry_row (id, e)) ≡ true
entry_sound id e k =
    rw (own_id id, IsKey-is_key e.key k.key, short (length e.body) k.body, sound_state e.state k.number) refl

none_damaged : (targets : List Row) (id : ℕ) (es : List Entry) → ((k : ℕ) → is_target (with_id k targets) ≡ true)
    → AllByRecursion IsKept es → first_damaged targets id (map entry_row (numbered_from id es)) ≡ None
none_damaged targets id [] sound all = refl
none_damaged targets id (e ∷ es) sound all =
    rw (entry_sound id e all.0, sound id) (none_damaged targets (suc id) es sound all.1)

pub kept_entries : (it : Contents) → IsOutbox it → AllByRecursion IsKept it.entries
kept_entries it is =
    all_both (λ (e : Entry). IsSendable (request_of it.filer e)) (λ e. FitsNumber e.state) IsKept
    (λ e s n. record { key = s.key; target = s.target; body = s.body; number = n }) it.entries is.sendable
    is.numbers

-- ---- its target

target_sound : (id : ℕ) (o : Option ℕ) → IsTarget o → is_target (target_row id o) ≡ true
target_sound id None f = refl
target_sound id (Some n) f = fits n f.0 f.1

target_kept : (es : List Entry) (k : ℕ) → AllByRecursion IsKept es
    → IsTarget (option_and_then (λ (e : Entry). e.target) (slice_get es k))
target_kept [] k all = tt
target_kept (e ∷ es) zero all = all.0.target
target_kept (e ∷ es) (suc k) all = target_kept es k all.1

target_fits : (es : List Entry) (id : ℕ) → AllByRecursion IsKept es → IsTarget (target_at es id)
target_fits es zero all = tt
target_fits es (suc k) all = target_kept es k all

id_fits : (n count : ℕ) → 1 ≤ n → n ≤ count → (nat_le 1 n && nat_le n count) ≡ true
id_fits n count low high = grind (arith, nat_tests)

ids_fit : (n count : ℕ) (es : List Entry) → 1 ≤ n → n + length es ≤ suc count
    → AllByRecursion (λ r. not (is_id_to count (column r 0)) ≡ false) (target_rows_from n es)
ids_fit n count [] low high = tt
ids_fit n count (e ∷ es) low high = go e.target (ids_fit (suc n) count es (omega (arith, low)) (omega (arith, high)))
  where
    go : (o : Option ℕ) → AllByRecursion (λ r. not (is_id_to count (column r 0)) ≡ false) (target_rows_from (suc n) es)
        → AllByRecursion (λ r. not (is_id_to count (column r 0)) ≡ false)
        (target_row n o ++ target_rows_from (suc n) es)
    go None later = later
    go (Some k) later = (ap not (id_fits n count low (omega (arith, high))), later)

module _ (es : List Entry) (targets : List Row) (kept : AllByRecursion IsKept es)
    (same : IsPermutation (target_rows es) targets) where
  each_sound : (k : ℕ) → is_target (with_id k targets) ≡ true
  each_sound k =
      let mine =
      subst (λ l. IsPermutation l (with_id k targets)) (target_with k es)
      (IsPermutation-filter (λ (w : Row). is_int k (column w 0)) _ _ same) in
      ap is_target (few_rows k (target_at es k) (with_id k targets) mine)
      ∙ target_sound k (target_at es k) (target_fits es k kept)

  none_left_over : is_left_over (length es) targets ≡ false
  none_left_over =
      let P = λ (r : Row). not (is_id_to (length es) (column r 0)) ≡ false in
      any_from_none (λ (r : Row). not (is_id_to (length es) (column r 0))) targets
      (recursion_from_All P targets (All-permutation P _ targets same
      (All-from_recursion P _ (ids_fit 1 (length es) es (omega arith) (omega arith)))))

length_rows : (n : ℕ) (es : List Entry) → length (map entry_row (numbered_from n es)) ≡ length es
length_rows n [] = refl
length_rows n (e ∷ es) = ap suc (length_rows (suc n) es)

pub none_unsound : (es : List Entry) (targets : List Row) → AllByRecursion IsKept es
    → IsPermutation (target_rows es) targets → damaged_row targets (entry_rows es) ≡ None
none_unsound es targets kept same =
    rw (
      none_damaged targets 1 es (each_sound es targets kept same) kept,
      length_rows 1 es,
      none_left_over es targets kept same,
    ) refl

-- ---- the filer

filer_told : (form : ℕ) (filer : List ℕ) → is_filer filer ≡ true → filer_in form (form_row form filer ∷ []) ≡ Some filer
filer_told form filer is = rw (own_id form, is) refl

-- ---- the database of an outbox, in any form

module _ (old new : State) (c : HasCommon old.now.schema) where
  pub filer_is : (form : ℕ) (filer : List ℕ) → TableHas old.now meta_table (form_row form filer ∷ [])
      → is_filer filer ≡ true → (rows : List Row) → Shown meta_text [] old new rows → filer_in form rows ≡ Some filer
  filer_is form filer held is rows h =
      let found = meta_held old new c rows h in
      ap (filer_in form) (one_permutation (form_row form filer) rows
      (IsPermutation-trans _ _ _ held (IsPermutation-sym rows _ found))) ∙ filer_told form filer is

  pub no_damage : (es : List Entry) (targets rows : List Row) → TableHas old.now entry_table (entry_rows es)
      → AllByRecursion IsKept es → IsPermutation (target_rows es) targets → Shown entries_text [] old new rows
      → damaged_row targets rows ≡ None
  no_damage es targets rows held kept same h =
      let asks = asked asks_entries old.now.schema c in
      let answer =
      (reads_as entries_text [] old new old.now.schema refl _ asks.is asks.plain asks.listing rows h).answer in
      ap (damaged_row targets) (entries_selected es old.now.trees rows held answer) ∙ none_unsound es targets kept same

  module _ (unlimited : old.step_limit ≡ None) where
    pub meta_readable : (e : Error) → FailsToQuery meta_text [] old new e → cause_of e ≢ Other
    meta_readable = question_fails asks_meta old new c unlimited

    pub entries_readable : (e : Error) → FailsToQuery entries_text [] old new e → cause_of e ≢ Other
    entries_readable = question_fails asks_entries old new c unlimited

pub targets_readable : (old new : State) → IsDeclared old.now.schema → old.step_limit ≡ None → (e : Error)
    → FailsToQuery targets_text [] old new e → cause_of e ≢ Other
targets_readable old new d unlimited = question_fails asks_targets old new d.begins unlimited

-- ---- so a failure to read them is told as one of memory or of the disk

pub unread : (cause : Cause) → cause ≢ Other → (meta_fault_by cause ≡ fault.Memory) ⊎ (meta_fault_by cause ≡ fault.Disk)
unread Cause.Memory told = inl refl
unread Cause.Disk told = inr refl
unread Other told = absurd (told refl)

pub unlisted : (cause : Cause) → cause ≢ Other
    → (entry_fault_by cause ≡ fault.Memory) ⊎ (entry_fault_by cause ≡ fault.Disk)
unlisted Cause.Memory told = inl refl
unlisted Cause.Disk told = inr refl
unlisted Other told = absurd (told refl)
