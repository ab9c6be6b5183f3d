-- Entries by their numbers, as an outbox's tables have them and as the world names them.
use Rattle.std.proofs.Common.{◌≡◌, ℕ, ◌<◌, ◌≤◌, suc, Bool, true, false, IsTrue, ◌∷◌, List, [], length, Option, Some}
use Rattle.std.proofs.Common.{None, refl, ap, ap₂, find, bytes_eq, map, option_map, ⊎_elim, arith, Result, Ok, Err}
use Rattle.std.proofs.Common.{IfOk, Vec, Global}
use Rattle.std.specs.List.{list_any}
use Rattle.std.specs.Prelude.{nat_le}
use Rattle.std.proofs.lemmas.Bool.{cases_Bool}
use Rattle.std.proofs.lemmas.Bool.Decides.{nat_tests}
use Rattle.http_messages.specs.Head.{max_body_len}
use Rattle.filing_model.specs.Outbox.{Entry, State}
use Rattle.filing_world.specs.Step.{takes}
use Rattle.filing_world.specs.Headline.{states_of}
use Rattle.table_rows.specs.declared.fault.StoreFault.{StoreFault}
use Rattle.filing_model.specs.declared.state.State.{State as Stored}
use Rattle.outbox_tables.specs.Entries.{numbered_from, numbered as with_ids}
use Rattle.outbox_core.specs.Entries.{has_text, opened}
use Rattle.outbox_core.specs.Reading.{view_pair, id_and_state}
use Rattle.schedule.specs.OutboxListed.{listed}
use Rattle.schedule.specs.Outboxes.{after_answer, up_with}

-- ---- whether an entry is taken

unused : (key : List ℕ) (id : ℕ) (entries : List Entry) → find (has_text key) (numbered_from id entries) ≡ None
    → list_any (λ e. bytes_eq e.key key) entries ≡ false
unused key id [] none = refl
unused key id (e ∷ es) none = ⊎_elim
    (λ (is : bytes_eq e.key key ≡ true). absurd (let found = rw is at none in cc))
    (λ (is : bytes_eq e.key key ≡ false). rw is (unused key (suc id) es (rw is at none)))
    (cases_Bool (bytes_eq e.key key))

used : (key : List ℕ) (id : ℕ) (entries : List Entry) (n : ℕ)
    → option_map (λ x. x.0) (find (has_text key) (numbered_from id entries)) ≡ Some n
    → list_any (λ e. bytes_eq e.key key) entries ≡ true
used key id [] n some = absurd (cc)
used key id (e ∷ es) n some = ⊎_elim
    (λ (is : bytes_eq e.key key ≡ true). rw is refl)
    (λ (is : bytes_eq e.key key ≡ false). rw is (used key (suc id) es n (rw is at some)))
    (cases_Bool (bytes_eq e.key key))

module _ (filer : List ℕ) (entries : List Entry) (key : List ℕ) (target : Option ℕ) (body : List ℕ) where
  pub takes_new : length body ≤ max_body_len → find (has_text key) (with_ids entries) ≡ None
      → takes (up_with filer entries) (opened key target body) ≡ true
  takes_new short none =
      let fits : nat_le (length body) max_body_len ≡ true = grind (arith, nat_tests, short) in
      rw (fits, unused key 1 entries none) refl

  pub takes_no_long : max_body_len < length body → takes (up_with filer entries) (opened key target body) ≡ false
  takes_no_long long =
      let over : nat_le (length body) max_body_len ≡ false = grind (arith, nat_tests, long) in
      rw over refl

  pub takes_no_used : (n : ℕ) → option_map (λ x. x.0) (find (has_text key) (with_ids entries)) ≡ Some n
      → takes (up_with filer entries) (opened key target body) ≡ false
  takes_no_used n some = ⊎_elim
      (λ (is : nat_le (length body) max_body_len ≡ true). rw (is, used key 1 entries n some) refl)
      (λ (is : nat_le (length body) max_body_len ≡ false). rw is refl)
      (cases_Bool (nat_le (length body) max_body_len))

-- a body that an outbox did not refuse is short enough
pub short_enough : (failed : Bool) (size most : ℕ) → (IsTrue failed → ⊥) → ((failed ≡ false) × (most < size) → ⊥)
    → size ≤ most
short_enough true size most able short = absurd (able refl)
short_enough false size most able short = ⊎_elim
    (λ (is : nat_le size most ≡ true). grind (arith, nat_tests, is))
    (λ (is : nat_le size most ≡ false). let long : most < size = grind (arith, nat_tests, is) in
    absurd (short (refl, long)))
    (cases_Bool (nat_le size most))

-- ---- the states of all entries

-- a call that only reads leaves what was there, whether it is refused or not
pub after_same : {A E X : Type 0} (answer : Result A E) (old : X) → after_answer answer old (λ _. old) ≡ old
after_same (Ok a) old = refl
after_same (Err e) old = refl

-- what an outbox tells of its entries is what the world tells of them
pub states_told : (outbox id : ℕ) (states : List (ℕ × Stored)) (entries : List Entry)
    → map view_pair states ≡ map id_and_state (numbered_from id entries)
    → map (listed outbox) states ≡ states_of outbox id entries
states_told outbox id [] [] same = refl
states_told outbox id [] (e ∷ es) same = absurd (cc)
states_told outbox id (s ∷ ss) [] same = absurd (cc)
states_told outbox id (s ∷ ss) (e ∷ es) same =
    let first : view_pair s ≡ (id, e.state) = cc in
    let rest : map view_pair ss ≡ map id_and_state (numbered_from (suc id) es) = cc in
    ap₂ (λ x xs. x ∷ xs) (ap (λ (p : ℕ × State). (outbox, p.0, p.1)) first) (states_told outbox (suc id) ss es rest)

pub states_listed : (answer : Result (Vec (ℕ × Stored) Global) StoreFault) (entries : List Entry)
    → IfOk answer (λ states. map view_pair states.items ≡ map id_and_state (with_ids entries))
    → IfOk answer (λ states. (outbox : ℕ) → map (listed outbox) states.items ≡ states_of outbox 1 entries)
states_listed (Ok states) entries same = λ outbox. states_told outbox 1 states.items entries same
states_listed (Err fault) entries same = tt
