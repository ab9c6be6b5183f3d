-- What the store of a register holds and shows.
use Rattle.std.specs.Prelude.{◌≡◌, ◌≤◌, ◌^◌, ℕ, false, List, length, None, Option, Result, IsTrue, IfOk, refl}
use Rattle.std.specs.Coded.{Coded, code_by, coded×, coded_list, coded_option, coded_ℕ}
use Rattle.sqlite.specs.Store.{Ghosts}
use Rattle.sqlite.specs.Held.{Held, held_code, state}
use Rattle.sqlite.specs.State.{State, HasCleanDisk, Survives}
use Rattle.sqlite.specs.Tree.{Trees}
use Rattle.xbrl_report.specs.declared.judging.Judged.{Judged}
use Rattle.xbrl_report.specs.Judgement.{IsAmendmentJudgement}
use Rattle.filing_model.specs.Request.{Request, has_key}
use Rattle.filing_model.specs.Register.{is_free, register}
use Rattle.table_rows.specs.Standing.{HasCommitted}
use Rattle.register_rows.specs.Catalogue.{Entry, catalogue_of}
use Rattle.register_tables.specs.Registers.{IsRegisterOf, LeavesOnly}

-- a connection, how many requests are kept, how many of them are filings, how many were kept before there were problem
-- details, and the catalogue of the filings
pub record StoreParts (S : Type 0) : Type 0 where
  pub conn : Held S
  pub kept : ℕ
  pub filings : ℕ
  pub old_style : ℕ
  pub catalogue : List Entry

abbrev pub entry_code : Coded Entry
entry_code =
    code_by (ℕ × (ℕ × (Option ℕ × Option ℕ))) (coded× coded_ℕ
    (coded× coded_ℕ (coded× (coded_option coded_ℕ) (coded_option coded_ℕ))))
    (λ e. (e.seq, (e.facts, (e.replaces, e.replaced_by))))
    (λ p. record { seq = p.0; facts = p.1.0; replaces = p.1.1.0; replaced_by = p.1.1.1 }) (λ _. refl)

abbrev pub parts_code : {S : Type 0} → Coded S → Coded (StoreParts S)
parts_code {S} store =
    code_by (Held S × (ℕ × (ℕ × (ℕ × List Entry))))
    (coded× (held_code store) (coded× coded_ℕ (coded× coded_ℕ (coded× coded_ℕ (coded_list entry_code)))))
    (λ s. (s.conn, (s.kept, (s.filings, (s.old_style, s.catalogue)))))
    (λ p. record { conn = p.0; kept = p.1.0; filings = p.1.1.0; old_style = p.1.1.1.0; catalogue = p.1.1.1.1 })
    (λ _. refl)

-- between calls no transaction is under way, no statement is cut short, and the next number is within what a row holds
pub record IsIdle {S : Type 0} (conn : Held S) (kept filings old_style : ℕ) : Type 0 where
  pub autocommit : conn.in_transaction ≡ false
  pub unlimited : conn.step_limit ≡ None
  pub few : kept ≤ 2 ^ 62
  pub fewer : filings ≤ kept
  pub within : old_style ≤ kept

-- the state of the store's connection
abbrev pub shows : {S : Type 0} → Ghosts S → StoreParts S → State
shows g store = state g store.conn

-- While the store is open, its rows stand for these requests, and are committed. A store that a fault of the disk shut
-- says nothing of its rows.
pub record HasRequests {S : Type 0} (g : Ghosts S) (store : StoreParts S) (F : List Request) : Type 0 where
  pub stands : HasCommitted (IsRegisterOf store.old_style F) (shows g store)
  pub kept_is : store.kept ≡ length F
  pub filings_is : store.filings ≡ length (register F)
  pub within : store.old_style ≤ length F
  pub catalogue_is : store.catalogue ≡ catalogue_of F

-- If the disk is clean at the end, this holds of the requests for which the rows stood before, if they were committed.
abbrev pub ForRegister : {S : Type 0} → Ghosts S → Held S → Held S → (ℕ → List Request → Type 0) → Type 0
ForRegister g old new Holds = HasCleanDisk (state g new) → (old_style : ℕ) (F : List Request)
    → HasCommitted (IsRegisterOf old_style F) (state g old) → Holds old_style F

-- If the disk is clean at the end, this holds of the requests that the store had before.
abbrev pub ForRequests : {S : Type 0} → Ghosts S → StoreParts S → StoreParts S → (List Request → Type 0) → Type 0
ForRequests g old new Holds = HasCleanDisk (shows g new) → (F : List Request) → HasRequests g old F → Holds F

-- This holds of the store that a call hands out, if its disk is clean.
abbrev pub HandsOut : {S E : Type 0} → Ghosts S → Result (StoreParts S) E → (StoreParts S → Type 0) → Type 0
HandsOut g result Holds = IfOk result (λ store. HasCleanDisk (shows g store) → Holds store)

-- This holds of the request, if its filer and key are new after these requests, and if its report was judged by whether
-- the filing that it is to replace, if any, is free after them.
abbrev pub ForNew : List Request → Request → Judged → (Request → Type 0) → Type 0
ForNew F r judged Holds = has_key F r ≡ false
    → IsAmendmentJudgement r.filer r.body (is_free (register F) r.filer r.target) judged → Holds r

-- the store is open, and a crash now leaves the rows of these requests, and no others
abbrev pub IsDurableAs : {S : Type 0} → Ghosts S → StoreParts S → ℕ → List Request → Type 0
IsDurableAs g store old_style F = IsTrue (shows g store).is_open × LeavesOnly (shows g store) old_style F

-- A crash in the call leaves what one before it could leave, or these trees, which depend on the requests before it.
abbrev pub SurvivesAs : {S : Type 0} → Ghosts S → StoreParts S → StoreParts S → (List Request → Trees → Type 0) → Type 0
SurvivesAs g old new Leaves =
    Survives (shows g old) (shows g new) (λ trees. (F : List Request) → HasRequests g old F
    → IsTrue (shows g old).is_open → Leaves F trees)
