-- A run of `outbox send`.
use Rattle.std.proofs.Common.{◌≡◌, ◌∙◌, ◌⊎◌, ℕ, List, [], ◌∷◌, ◌++◌, drop, Option, Some, None}
use Rattle.std.specs.Prelude.{option_map}
use Rattle.std.proofs.Common.{Result, Ok, Err, refl, sym, ap, subst, ⊎_elim, inl, inr, append_assoc}
use Rattle.std.proofs.lemmas.List.{take-append-drop}
use Rattle.sqlite_disk.specs.declared.Disk.{Ghosts}
use Rattle.sqlite.specs.Files.{over_files}
use Rattle.sqlite_store.specs.declared.store.FileStore.{FileStore}
use Rattle.table_rows.proofs.CleanLemmas.{always_clean}
use Rattle.filing_model.specs.Prefix.{IsPrefixOf}
use Rattle.filing_model.specs.Outbox.{Entry, Open, bytes_of, request_of}
use Rattle.filing_model.specs.Numbered.{renewed}
use Rattle.filing_model.specs.Views.{view_state}
use Rattle.filing_model.specs.declared.state.State.{State}
use Rattle.filing_model.proofs.Lists.{prefix_refl, append_nil}
use Rattle.filing_world.proofs.Lists.{changed_renewed, renewed_same}
use Rattle.outbox_tables.specs.Entries.{Contents, contents_of, entry_at}
use Rattle.outbox_core.specs.Entries.{set_state, in_state}
use Rattle.outbox_core.specs.OutboxParts.{OutboxParts, HasEntries}
use Rattle.outbox_core.specs.declared.fault.TakeFault.{TakeFault}
use Rattle.outbox_core.specs.declared.fault.TakeFault.TheVariants.{NoEntry, Memory, Store}
use Rattle.filer_client.specs.Exchange.{IsOpenRequest, IsSettled, WritesBefore, WritesRequest}
use Rattle.filer_client.specs.declared.fault.ExchangeFault.{ExchangeFault}
use Rattle.filer_client.specs.declared.fault.ExchangeFault.TheVariants.{Write, Reply, Take}
use Rattle.database_places.specs.Places.{IsHonest}
use Rattle.outbox_process.specs.declared.fault.Why.{Why}
use Rattle.outbox_process.specs.Dials.{Traffic, Grows}
use Rattle.outbox_process.specs.Looking.{AreAny, DoesNothing}
use Rattle.outbox_process.specs.declared.tasks.rounds.Round.{Round}
use Rattle.outbox_process.specs.Rounds.{Turn, IsTurn, SentInTurn, ids_of, SendsAll}
use Rattle.outbox_process.specs.Sending.{IsOpenAt, IsSentOnce, IsTried, Tries, SendsEntry, entries_after}
use Rattle.outbox_process.specs.Sending.{SendsNext}
use Rattle.outbox_process.specs.declared.errand.Which.TheVariants as which
use Rattle.program_runs.specs.Deeds.{Deed, Wrote, Heard, AreDone}
use Rattle.program_runs.specs.Runs.{AreOfOne, AreOfTurns, AreOfSend, AreOfNetwork}
use Rattle.program_runs.proofs.Carried.{no_deeds, deeds_join}
use Rattle.program_runs.proofs.Joining.{done_join}
use Rattle.program_runs.proofs.Lies.{Brings}

-- ---- one entry

-- what trying an entry is, over this network
pub record IsOne (old new : Traffic) (it : Contents) (id : ℕ) (after : Contents) : Type 0 where
  pub deeds : List Deed
  pub are : AreOfOne id deeds
  pub carried : AreOfNetwork old new deeds
  pub done : AreDone it deeds after

nothing : (old new : Traffic) (it : Contents) (id : ℕ) → new ≡ old → IsOne old new it id it
nothing old new it id same = record { deeds = []; are = tt; carried = no_deeds old new same; done = refl }

-- a first part of the request was written, on a connection of its own
wrote : (old new : Traffic) (it : Contents) (id : ℕ) (text written : List ℕ) (came : Result State ExchangeFault)
    → IsOpenRequest it.filer it.entries id text → IsPrefixOf written text
    → Grows old.over new.over (record { id = id; came = came; bytes = written } ∷ []) → IsOne old new it id it
wrote old new it id text written came request part one = record {
  deeds = Wrote id written ∷ [];
  are = refl;
  carried = (record { id = id; came = came; bytes = written } ∷ [], one, refl);
  done = (it, record { text = text; request = request; part = part; becomes = refl }, refl);
}

-- an entry that has the state already
stays : (it : Contents) (id : ℕ) (to : State) → IsSettled it.entries id (view_state to)
    → set_state it.entries id (view_state to) ≡ it.entries
stays it id to is =
    let entry = is.entry in
    let same : in_state (view_state to) entry ≡ entry = λ i. record entry { state = (sym is.state_is) i } in
    changed_renewed (in_state (view_state to)) it.entries id entry is.at
    ∙ ap (renewed it.entries id) same ∙ renewed_same it.entries id entry is.at

sent : (it : Contents) (id : ℕ) (old new : Traffic) (to : State) → IsSentOnce it.filer it.entries id old new to
    → IsOne old new it id (contents_of it.filer (set_state it.entries id (view_state to)))
sent it id old new to is = elim is [
  | inl settled ↦ subst (λ (es : List Entry). IsOne old new it id (contents_of it.filer es))
      (sym (stays it id to settled.0)) (nothing old new it id settled.1)
  | inr one ↦ let hears = one.5 in
      record {
        deeds = Wrote id one.0 ∷ Heard id (request_of it.filer one.3.entry) hears.1.0 (view_state to) ∷ [];
        are = (refl, refl);
        carried = (record { id = id; came = Ok to; bytes = one.0 } ∷ [], one.4.1, refl);
        done = (
          it,
          record { text = one.0; request = one.3; part = prefix_refl one.0; becomes = refl },
          (
            contents_of it.filer (set_state it.entries id (view_state to)),
            record {
              text = one.0;
              request = one.3;
              asks_is = refl;
              reply = hears.0;
              gives = hears.1.2;
              moves = hears.2;
              becomes = refl;
            },
            refl,
          ),
        );
      }
]

-- an open entry has a request
open_request : (it : Contents) (id : ℕ) (found : Option Entry) → entry_at it.entries id ≡ found
    → option_map (λ (e : Entry). e.state) found ≡ Some Open
    → (text : List ℕ) × IsOpenRequest it.filer it.entries id text
open_request it id None is opens = absurd (cc)
open_request it id (Some entry) is opens = (
  bytes_of (request_of it.filer entry),
  record { entry = entry; at = is; is_open = (let same : entry.state ≡ Open = cc in same); bytes = refl },
)

-- the whole request was written, or nothing
some_or_none : (it : Contents) (id : ℕ) (old new : Traffic) (written : List ℕ) (fault : TakeFault)
    → IsOpenAt it.entries id → ((written ≡ []) ⊎ WritesRequest it.filer it.entries id (Some []) (Some written))
    → Grows old.over new.over (record { id = id; came = Err (Take fault); bytes = written } ∷ [])
    → IsOne old new it id it
some_or_none it id old new written fault opens is one = ⊎_elim
    (λ (none : written ≡ []).
    let request = open_request it id (entry_at it.entries id) refl opens in
    wrote old new it id request.0 written (Err (Take fault)) request.1
    (request.0, ap (λ (front : List ℕ). front ++ request.0) (sym none)) one)
    (λ (whole : WritesRequest it.filer it.entries id (Some []) (Some written)).
    wrote old new it id whole.0 written (Err (Take fault)) whole.1 ([], sym whole.2 ∙ sym (append_nil written)) one)
    is

broken : (it : Contents) (id : ℕ) (old new : Traffic) (written : List ℕ) (fault : ExchangeFault)
    → IsOpenAt it.entries id → WritesBefore it.filer it.entries id (Some []) (Some written) fault
    → Grows old.over new.over (record { id = id; came = Err fault; bytes = written } ∷ []) → IsOne old new it id it
broken it id old new written (Write sent) opens is one =
    wrote old new it id is.0 written (Err (Write sent)) is.1 (
      drop sent is.0,
      sym (take-append-drop sent is.0) ∙ ap (λ (front : List ℕ). front ++ drop sent is.0) (sym is.3),
    ) one
broken it id old new written (Reply fault) opens is one =
    wrote old new it id is.0 written (Err (Reply fault)) is.1 ([], sym is.2 ∙ sym (append_nil written)) one
broken it id old new written (Take NoEntry) opens is one =
    let none : None ≡ Some Open = sym (ap (option_map (λ (e : Entry). e.state)) is.0) ∙ opens in
    absurd (cc)
broken it id old new written (Take Memory) opens is one = some_or_none it id old new written Memory opens is one
broken it id old new written (Take Store) opens is one = some_or_none it id old new written Store opens is one

pub tried : (it : Contents) (id : ℕ) (old new : Traffic) (came : Result State Why)
    → IsTried it.filer it.entries id old new came
    → IsOne old new it id (contents_of it.filer (entries_after it.entries id came))
tried it id old new (Ok to) is = sent it id old new to is
tried it id old new (Err why) is = elim is.1 [
  | inl unconnected ↦ nothing old new it id unconnected.1
  | inr cut ↦ broken it id old new cut.2.0 cut.0 is.0 cut.2.3 cut.2.4.1
]

-- ---- an outbox

module _ {D : Type 0} {g : Ghosts D} where
  entry_brings : (id : ℕ) (net net' : Traffic) (before after : OutboxParts (FileStore D g)) (it : Contents)
      (came : Result State Why) → IsHonest g → HasEntries over_files before it.entries
      → before.filer ≡ it.filer → Tries over_files AreAny id net net' before after came
      → Brings before after it (λ deeds. AreOfOne id deeds × AreOfNetwork net net' deeds)
  entry_brings id net net' before after it came honest has filer tries =
      let is = tries.tried (always_clean honest after.conn) it.entries has tt in
      let one = tried it id net net' came (subst (λ f. IsTried f it.entries id net net' came) filer is.0) in
      record {
        deeds = one.deeds;
        are = (one.are, one.carried);
        entries = entries_after it.entries id came;
        done = one.done;
        has = is.1;
        filer = tries.filer;
      }

  idle : (net net' : Traffic) (before after : OutboxParts (FileStore D g)) (it : Contents)
      (out out' : Option (List ℕ)) (Are : List Deed → Type 0) → Are [] → IsHonest g
      → HasEntries over_files before it.entries → DoesNothing over_files net net' before after out out'
      → Brings before after it (λ deeds. Are deeds × AreOfNetwork net net' deeds)
  idle net net' before after it out out' Are none honest has is = record {
    deeds = [];
    are = (none, no_deeds net net' is.traffic);
    entries = it.entries;
    done = refl;
    has = is.entries (always_clean honest after.conn) it.entries has;
    filer = is.filer;
  }

  pub send_entry_brings : (id : ℕ) (net net' : Traffic) (before after : OutboxParts (FileStore D g)) (it : Contents)
      (out out' : Option (List ℕ)) (came : Result State Why) → IsHonest g
      → HasEntries over_files before it.entries → before.filer ≡ it.filer
      → SendsEntry over_files id net net' before after out out' came
      → Brings before after it (λ deeds. AreOfOne id deeds × AreOfNetwork net net' deeds)
  send_entry_brings id net net' before after it out out' came honest has filer sends = elim sends [
    | inl is ↦ entry_brings id net net' before after it is.came honest has filer is.tries
    | inr none ↦ idle net net' before after it out out' (AreOfOne id) tt honest has none.3
  ]

-- ---- a round

pub record IsRound (old new : Traffic) (it : Contents) (ids : List ℕ) (after : Contents) : Type 0 where
  pub deeds : List Deed
  pub are : AreOfTurns ids deeds
  pub carried : AreOfNetwork old new deeds
  pub done : AreDone it deeds after

turn : (it : Contents) (id : ℕ) (old new : Traffic) (came : Result State ExchangeFault)
    → IsTurn it.filer it.entries id old new came
    → IsOne old new it id (contents_of it.filer (entries_after it.entries id came))
turn it id old new (Ok to) is = sent it id old new to is
turn it id old new (Err fault) is = broken it id old new is.1.0 fault is.0 is.1.3 is.1.4.1

round : (filer : List ℕ) (entries : List Entry) (old : Traffic) (turns : List Turn) (after : List Entry)
    (new : Traffic) → SentInTurn filer entries old turns after new
    → IsRound old new (contents_of filer entries) (ids_of turns) (contents_of filer after)
round filer entries old [] after new is =
    record { deeds = []; are = refl; carried = no_deeds old new is.1; done = ap (contents_of filer) is.0 }
round filer entries old (t ∷ turns) after new is =
    let one = turn (contents_of filer entries) t.id old is.0 t.came is.1 in
    let mid = entries_after entries t.id t.came in
    let rest = round filer mid is.0 turns after new is.2 in
    record {
      deeds = one.deeds ++ rest.deeds;
      are = (one.deeds, rest.deeds, refl, one.are, rest.are);
      carried = deeds_join old is.0 new one.deeds rest.deeds one.carried rest.carried;
      done = done_join (contents_of filer entries) (contents_of filer mid) (contents_of filer after) one.deeds
          rest.deeds one.done rest.done;
    }

turns_push : (ids : List ℕ) (next : ℕ) (deeds more : List Deed) → AreOfTurns ids deeds → AreOfOne next more
    → AreOfTurns (ids ++ next ∷ []) (deeds ++ more)
turns_push [] next deeds more are one =
    (more, [], ap (λ (ds : List Deed). ds ++ more) are ∙ sym (append_nil more), one, refl)
turns_push (id ∷ ids) next deeds more are one = (
  are.0,
  are.1 ++ more,
  ap (λ (ds : List Deed). ds ++ more) are.2 ∙ append_assoc are.0 are.1 more,
  are.3,
  turns_push ids next are.1 more are.4 one,
)

module _ {D : Type 0} {g : Ghosts D} where
  some_of : (net net' : Traffic) (before after : OutboxParts (FileStore D g)) (it : Contents) (id : ℕ)
      → Brings before after it (λ deeds. AreOfOne id deeds × AreOfNetwork net net' deeds)
      → Brings before after it (λ deeds. AreOfSend which.Next deeds × AreOfNetwork net net' deeds)
  some_of net net' before after it id b = record {
    deeds = b.deeds;
    are = ((id, b.are.0), b.are.1);
    entries = b.entries;
    done = b.done;
    has = b.has;
    filer = b.filer;
  }

  pub send_next_brings : (net net' : Traffic) (before after : OutboxParts (FileStore D g)) (it : Contents)
      (out out' : Option (List ℕ)) (came : Result (Option State) Why) → IsHonest g
      → HasEntries over_files before it.entries → before.filer ≡ it.filer
      → SendsNext over_files net net' before after out out' came
      → Brings before after it (λ deeds. AreOfSend which.Next deeds × AreOfNetwork net net' deeds)
  send_next_brings net net' before after it out out' came honest has filer sends = elim sends [
    | inl first ↦ some_of net net' before after it first.id
        (entry_brings first.id net net' before after it first.sends.came honest has filer first.sends.tries)
    | inr others ↦ elim others [
      | inl none ↦ record {
        deeds = [];
        are = ((0, tt), no_deeds net net' none.traffic);
        entries = it.entries;
        done = refl;
        has = (none.none (always_clean honest after.conn) it.entries has).1;
        filer = none.filer;
      }
      | inr unread ↦ idle net net' before after it out out' (AreOfSend which.Next) (0, tt) honest has unread.3
    ]
  ]

  pub send_all_brings : (net net' : Traffic) (before after : OutboxParts (FileStore D g)) (it : Contents)
      (out out' : Option (List ℕ)) (came : Result Round Why) → IsHonest g
      → HasEntries over_files before it.entries → before.filer ≡ it.filer
      → SendsAll over_files net net' before after out out' came
      → Brings before after it (λ deeds. AreOfSend which.All deeds × AreOfNetwork net net' deeds)
  send_all_brings net net' before after it out out' (Ok done) honest has filer sends =
      let made = sends.made in
      let is = made.in_turn (always_clean honest after.conn) it.entries has tt in
      let whole = round it.filer it.entries net made.turns is.0 net'
      (subst (λ f. SentInTurn f it.entries net made.turns is.0 net') filer is.1) in
      record {
        deeds = whole.deeds;
        are = ((ids_of made.turns, whole.are), whole.carried);
        entries = is.0;
        done = whole.done;
        has = is.2;
        filer = made.filer;
      }
  send_all_brings net net' before after it out out' (Err fault) honest has filer sends = elim sends [
    | inl some ↦ let stops = some.stops in
        let is = stops.tried (always_clean honest after.conn) it.entries has tt in
        let whole = round it.filer it.entries net stops.turns is.0 is.1
        (subst (λ f. SentInTurn f it.entries net stops.turns is.0 is.1) filer is.2) in
        let mid = contents_of it.filer is.0 in
        let last = tried mid stops.next is.1 net' stops.came
        (subst (λ f. IsTried f is.0 stops.next is.1 net' stops.came) filer is.3) in
        record {
          deeds = whole.deeds ++ last.deeds;
          are = (
            (
              ids_of stops.turns ++ stops.next ∷ [],
              turns_push (ids_of stops.turns) stops.next whole.deeds last.deeds whole.are last.are,
            ),
            deeds_join net is.1 net' whole.deeds last.deeds whole.carried last.carried,
          );
          entries = entries_after is.0 stops.next stops.came;
          done = done_join it mid (contents_of it.filer (entries_after is.0 stops.next stops.came)) whole.deeds
              last.deeds whole.done last.done;
          has = is.4;
          filer = stops.filer;
        }
    | inr others ↦ elim others [
      | inl none ↦ record {
        deeds = [];
        are = (([], refl), no_deeds net net' none.traffic);
        entries = it.entries;
        done = refl;
        has = (none.none (always_clean honest after.conn) it.entries has).1;
        filer = none.filer;
      }
      | inr unread ↦ idle net net' before after it out out' (AreOfSend which.All) ([], refl) honest has unread.1
    ]
  ]
