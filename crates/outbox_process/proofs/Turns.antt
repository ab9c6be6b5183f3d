-- Entries that have their turns, one behind another.
use Rattle.std.proofs.Common.{◌≡◌, ◌≢◌, ◌∙◌, ℕ, suc, ◌+◌, ◌<◌, ◌≤◌, Bool, true, false, List, [], ◌∷◌, ◌++◌, length}
use Rattle.std.proofs.Common.{take, drop, slice_index_or, Option, Result, Ok, Err, refl, sym, ap, ap₂, subst, inl, inr}
use Rattle.std.proofs.Common.{append_assoc, append-nil, arith, true≢false, option_map}
use Rattle.std.specs.Prelude.{cond, count_by}
use Rattle.std.specs.List.{AllByRecursion}
use Rattle.std.specs.Io.KnownBytes.{Appends}
use Rattle.std.proofs.KnownBytes.{Appends-nil, Appends-trans}
use Rattle.std.proofs.Math.Seq.{take-suc}
use Rattle.std.proofs.lemmas.List.{length-append, map-append, take-append-drop, take_all}
use Rattle.std.proofs.lemmas.Grind.{flat_map-append}
use Rattle.std.proofs.lemmas.List.Sums.{sum_by-append}
use Rattle.sqlite.specs.Store.{Ghosts}
use Rattle.sqlite.specs.State.{HasCleanDisk}
use Rattle.filing_model.specs.Outbox.{Entry}
use Rattle.filing_model.specs.Views.{view_state}
use Rattle.filing_model.specs.declared.state.State.{State}
use Rattle.outbox_core.specs.OutboxParts.{OutboxParts, shows, HasEntries, ForEntries}
use Rattle.filer_client.specs.declared.fault.ExchangeFault.{ExchangeFault}
use Rattle.outbox_process.specs.declared.fault.Why.{Why}
use Rattle.outbox_process.specs.declared.fault.Why.TheVariants as why
use Rattle.outbox_process.specs.declared.tasks.rounds.Ending.{Ending}
use Rattle.outbox_process.specs.declared.tasks.rounds.Ending.TheVariants as ending
use Rattle.outbox_process.specs.declared.tasks.rounds.Round.{Round}
use Rattle.outbox_process.specs.Dials.{Traffic}
use Rattle.outbox_process.specs.Endings.{ending_of, ending_by, has_failed, was_left_open, was_refused, counts, with_one}
use Rattle.outbox_process.specs.Faults.{is_of_exchange, is_of_entry, IsNotPrinted}
use Rattle.outbox_process.specs.Lines.{line_of, nothing_open}
use Rattle.outbox_process.specs.Looking.{AreAny}
use Rattle.outbox_process.specs.Rounds.{open_ids, EndsIn, FindsNone, SendsSome, SendsWhole, Turn, IsTurn, SentInTurn}
use Rattle.outbox_process.specs.Rounds.{ids_of, lines_of, endings, HaveTurns, EndsRound, StopsAt, AreToSend, TakesTurn}
use Rattle.outbox_process.specs.Rounds.{SendsEach, SendsAll}
use Rattle.outbox_process.specs.Sending.{IsBroken, IsOpenAt, IsTried, entries_after, Tries, Sends}
use Rattle.outbox_process.proofs.Opens.{other_stays, to_send}

-- ---- some turns, and then more

joined : (filer : List ℕ) (before between after : List Entry) (old mid new : Traffic) (xs ys : List Turn)
    → SentInTurn filer before old xs between mid → SentInTurn filer between mid ys after new
    → SentInTurn filer before old (xs ++ ys) after new
joined filer before between after old mid new [] ys first second =
    subst (λ e. SentInTurn filer e old ys after new) first.0
    (subst (λ t. SentInTurn filer between t ys after new) first.1 second)
joined filer before between after old mid new (x ∷ xs) ys first second = (
  first.0,
  first.1,
  joined filer (entries_after before x.id x.came) between after first.0 mid new xs ys first.2
      second,
)

-- ---- the counts of endings

abbrev of_counts : ℕ → ℕ → ℕ → ℕ → Round
of_counts s f o r = record { sent = s; failed = f; left_open = o; refused = r }

same_counts : (s f o r s' f' o' r' : ℕ) → s ≡ s' → f ≡ f' → o ≡ o' → r ≡ r'
    → of_counts s f o r ≡ of_counts s' f' o' r'
same_counts s f o r s' f' o' r' a b c d = cc

one_more : (p : Ending → Bool) (all : List Ending) (last : Ending)
    → count_by p (all ++ last ∷ []) ≡ count_by p all + cond (p last) 1 0
one_more p all last =
    let joined = sum_by-append (λ (e : Ending). cond (p e) 1 0) all (last ∷ []) in omega (arith, joined)

longer : (all : List Ending) (last : Ending) → length (all ++ last ∷ []) ≡ length all + 1
longer all last = simp length-append (omega arith)

counts_more : (all : List Ending) (last : Ending) → counts (all ++ last ∷ []) ≡ with_one (counts all) last
counts_more all ending.Filed =
    same_counts _ _ _ _ _ _ _ _ (longer all ending.Filed)
    (let one = one_more has_failed all ending.Filed in omega (arith, one))
    (let one = one_more was_left_open all ending.Filed in omega (arith, one))
    (let one = one_more was_refused all ending.Filed in omega (arith, one))
counts_more all ending.Refused =
    same_counts _ _ _ _ _ _ _ _ (longer all ending.Refused)
    (let one = one_more has_failed all ending.Refused in omega (arith, one))
    (let one = one_more was_left_open all ending.Refused in omega (arith, one))
    (let one = one_more was_refused all ending.Refused in omega (arith, one))
counts_more all ending.Open =
    same_counts _ _ _ _ _ _ _ _ (longer all ending.Open)
    (let one = one_more has_failed all ending.Open in omega (arith, one))
    (let one = one_more was_left_open all ending.Open in omega (arith, one))
    (let one = one_more was_refused all ending.Open in omega (arith, one))
counts_more all ending.Failed =
    same_counts _ _ _ _ _ _ _ _ (longer all ending.Failed)
    (let one = one_more has_failed all ending.Failed in omega (arith, one))
    (let one = one_more was_left_open all ending.Failed in omega (arith, one))
    (let one = one_more was_refused all ending.Failed in omega (arith, one))

abbrev pub IsFew : Round → Type 0
IsFew round = round.failed + round.left_open + round.refused ≤ round.sent

few_more : (round : Round) (last : Ending) → IsFew round → IsFew (with_one round last)
few_more round ending.Filed few = omega (arith, few)
few_more round ending.Refused few = omega (arith, few)
few_more round ending.Open few = omega (arith, few)
few_more round ending.Failed few = omega (arith, few)

sent_more : (round : Round) (last : Ending) → (with_one round last).sent ≡ round.sent + 1
sent_more round ending.Filed = refl
sent_more round ending.Refused = refl
sent_more round ending.Open = refl
sent_more round ending.Failed = refl

-- an entry that had no turn is open still
still_open : (filer : List ℕ) (turns : List Turn) (before after : List Entry) (old new : Traffic) (id : ℕ)
    → AllByRecursion (λ other. id ≢ other) (ids_of turns) → SentInTurn filer before old turns after new
    → IsOpenAt before id → IsOpenAt after id
still_open filer [] before after old new id apart made opened =
    subst (λ entries. IsOpenAt entries id) (sym made.0) opened
still_open filer (turn ∷ turns) before after old new id apart made opened =
    still_open filer turns (entries_after before turn.id turn.came) after made.0 new id apart.1 made.2 (one turn.came)
  where
    one : (came : Result State ExchangeFault) → IsOpenAt (entries_after before turn.id came) id
    one (Ok to) =
        ap (option_map (λ (e : Entry). e.state)) (other_stays before turn.id id (view_state to) apart.0) ∙ opened
    one (Err fault) = opened

-- ---- the next of those that are to be sent

all_mid : (P : ℕ → Type 0) (xs : List ℕ) (y : ℕ) (zs : List ℕ) → AllByRecursion P (xs ++ y ∷ zs) → P y
all_mid P [] y zs all = all.0
all_mid P (x ∷ xs) y zs all = all_mid P xs y zs all.1

next_open : (done : List ℕ) (next : ℕ) (rest : List ℕ) (entries : List Entry) → AreToSend (done ++ next ∷ rest) entries
    → IsOpenAt entries next
next_open [] next rest entries are = are.0
next_open (id ∷ done) next rest entries are = next_open done next rest entries are.2

next_apart : (done : List ℕ) (next : ℕ) (rest : List ℕ) (entries : List Entry) → AreToSend (done ++ next ∷ rest) entries
    → AllByRecursion (λ other. next ≢ other) done
next_apart [] next rest entries are = tt
next_apart (id ∷ done) next rest entries are =
    (all_mid (λ other. other ≢ id) done next rest are.1, next_apart done next rest entries are.2)

empty_list : (ids : List ℕ) → length ids ≡ 0 → ids ≡ []
empty_list [] empty = refl
empty_list (id ∷ ids) empty = absurd (omega (arith, empty))

ends_some : (ids : List ℕ) (out : Option (List ℕ)) → (length ids ≡ 0 → ⊥) → EndsIn ids out out
ends_some [] out some = absurd (some refl)
ends_some (id ∷ ids) out some = refl

module _ {S : Type 0} (g : Ghosts S) where
  abbrev Made : List ℕ → List ℕ → Traffic → Traffic → OutboxParts S → OutboxParts S → Option (List ℕ) → Option (List ℕ)
      → Type 0
  Made all ids old new box box' out out' = HaveTurns g (AreToSend all) ids old new box box' out out'

  abbrev One : ℕ → Traffic → Traffic → OutboxParts S → OutboxParts S → Option (List ℕ) → Option (List ℕ) → Type 0
  One id old new box box' out out' = HaveTurns g (λ entries. IsOpenAt entries id) (id ∷ []) old new box box' out out'

  -- none had a turn
  pub none : (all : List ℕ) (old : Traffic) (box : OutboxParts S) (out : Option (List ℕ))
      → (made : Made all [] old old box box out out) × (of_counts 0 0 0 0 ≡ counts (endings made.turns))
  none all old box out = (
    record {
      turns = [];
      they = refl;
      in_turn = λ clean entries had are. (entries, (refl, refl), had);
      told = Appends-nil out;
      filer = refl;
      clean = λ clean. clean;
    },
    refl,
  )

  -- the next has its turn
  reach : (all done : List ℕ) (next : ℕ) (rest : List ℕ) (old mid : Traffic) (box between : OutboxParts S)
      (out so_far : Option (List ℕ)) → all ≡ done ++ next ∷ rest → (made : Made all done old mid box between out so_far)
      → ForEntries g box between (λ entries. AreToSend all entries
      → (after : List Entry) × SentInTurn box.filer entries old made.turns after mid × HasEntries g between after
      × IsOpenAt after next)
  reach all done next rest old mid box between out so_far splits made clean entries had are =
      let came = made.in_turn clean entries had are in
      let all_are : AreToSend (done ++ next ∷ rest) entries = subst (λ ids. AreToSend ids entries) splits are in
      let apart =
      subst (AllByRecursion (λ other. next ≢ other)) (sym made.they) (next_apart done next rest entries all_are) in (
        came.0,
        came.1,
        came.2,
        still_open box.filer made.turns entries came.0 old mid next apart came.1
            (next_open done next rest entries all_are),
      )

  pub more : (all done : List ℕ) (next : ℕ) (rest : List ℕ) (old mid new : Traffic) (box between box' : OutboxParts S)
      (out so_far out' : Option (List ℕ)) → all ≡ done ++ next ∷ rest
      → Made all done old mid box between out so_far → One next mid new between box' so_far out'
      → Made all (done ++ next ∷ []) old new box box' out out'
  more all done next rest old mid new box between box' out so_far out' splits a b = record {
    turns = a.turns ++ b.turns;
    they = map-append (λ (turn : Turn). turn.id) a.turns b.turns ∙ ap₂ (λ (xs ys : List ℕ). xs ++ ys) a.they b.they;
    in_turn = λ clean entries had are.
        let came = reach all done next rest old mid box between out so_far splits a (b.clean clean) entries had are in
        let last = b.in_turn clean came.0 came.2 came.3 in (
          last.0,
          joined box.filer entries came.0 last.0 old mid new a.turns b.turns came.1
              (subst (λ filer. SentInTurn filer came.0 mid b.turns last.0 new) a.filer last.1),
          last.2,
        );
    told = subst (Appends out out') (sym (flat_map-append (λ (turn : Turn). line_of turn.id turn.came) a.turns b.turns))
        (Appends-trans out so_far out' (lines_of a.turns) (lines_of b.turns) a.told b.told);
    filer = b.filer ∙ a.filer;
    clean = λ clean. a.clean (b.clean clean);
  }

  pub more_endings : (all done : List ℕ) (next : ℕ) (rest : List ℕ) (old mid new : Traffic)
      (box between box' : OutboxParts S) (out so_far out' : Option (List ℕ)) (splits : all ≡ done ++ next ∷ rest)
      (a : Made all done old mid box between out so_far) (b : One next mid new between box' so_far out')
      → endings (more all done next rest old mid new box between box' out so_far out' splits a b).turns
      ≡ endings a.turns ++ endings b.turns
  unfolding more
  more_endings all done next rest old mid new box between box' out so_far out' splits a b =
      map-append (λ (turn : Turn). ending_by turn.came) a.turns b.turns

  -- the next ends the round
  pub stopped : (all done : List ℕ) (next : ℕ) (rest : List ℕ) (old mid new : Traffic)
      (box between box' : OutboxParts S) (out so_far out' : Option (List ℕ)) (fault : Why)
      → all ≡ done ++ next ∷ rest
      → Made all done old mid box between out so_far
      → Sends g (λ entries. IsOpenAt entries next) next mid new between box' so_far out' (Err fault)
      → EndsRound new fault
      → StopsAt g (AreToSend all) all old new box box' out out' fault
  stopped all done next rest old mid new box between box' out so_far out' fault splits a b ends = record {
    turns = a.turns;
    next = next;
    rest = rest;
    splits = splits ∙ ap (λ (ids : List ℕ). ids ++ next ∷ rest) (sym a.they);
    came = b.came;
    tried = λ clean entries had are.
        let came =
        reach all done next rest old mid box between out so_far splits a (b.tries.clean clean) entries had are in
        let last = b.tries.tried clean came.0 came.2 came.3 in
        (came.0, mid, came.1, subst (λ filer. IsTried filer came.0 next mid new b.came) a.filer last.0, last.1);
    so_far = so_far;
    before = a.told;
    told = b.told;
    ends = ends;
    filer = b.tries.filer ∙ a.filer;
    clean = λ clean. a.clean (b.tries.clean clean);
  }

  -- ---- going through the ids

  -- those so far ended so
  abbrev pub Going : List ℕ → List ℕ → Traffic → Traffic → OutboxParts S → OutboxParts S → Option (List ℕ)
      → Option (List ℕ) → Round → Type 0
  Going all done old new box box' out out' round =
      (made : Made all done old new box box' out out') × (round ≡ counts (endings made.turns))

  split : (ids : List ℕ) (at or : ℕ) → at < length ids
      → ids ≡ take at ids ++ slice_index_or ids at or ∷ drop (suc at) ids
  split ids at or within =
      sym (take-append-drop (suc at) ids) ∙ ap (λ (xs : List ℕ). xs ++ drop (suc at) ids) (take-suc ids at or within)
      ∙ append_assoc (take at ids) (slice_index_or ids at or ∷ []) (drop (suc at) ids)

  pub step : (ids : List ℕ) (at or : ℕ) (old mid new : Traffic) (box between box' : OutboxParts S)
      (out so_far out' : Option (List ℕ)) (round next : Round) (last : Ending) → at < length ids
      → (made : Made ids (take at ids) old mid box between out so_far) × (round ≡ counts (endings made.turns))
      × (round.sent ≡ at) × IsFew round
      → TakesTurn g (slice_index_or ids at or) mid new between box' so_far out' (Ok last)
      → next ≡ with_one round last
      → (made : Made ids (take (at + 1) ids) old new box box' out out') × (next ≡ counts (endings made.turns))
      × (next.sent ≡ at + 1) × IsFew next
  step ids at or old mid new box between box' out so_far out' round next last within had takes is =
      let id = slice_index_or ids at or in
      let splits = split ids at or within in
      let rest = drop (suc at) ids in
      let made = more ids (take at ids) id rest old mid new box between box' out so_far out' splits had.0 takes.0 in
      let ended : endings made.turns ≡ endings had.0.turns ++ last ∷ [] =
      more_endings ids (take at ids) id rest old mid new box between box' out so_far out' splits had.0 takes.0
      ∙ ap (λ (es : List Ending). endings had.0.turns ++ es) takes.1 in
      let count : next ≡ counts (endings made.turns) =
      is ∙ ap (λ (r : Round). with_one r last) had.1 ∙ sym (counts_more (endings had.0.turns) last)
      ∙ sym (ap counts ended) in
      let after : at + 1 ≡ suc at = omega arith in
      let done : take at ids ++ id ∷ [] ≡ take (at + 1) ids =
      sym (ap (λ n. take n ids) after ∙ take-suc ids at or within) in
      let going : Going ids (take at ids ++ id ∷ []) old new box box' out out' next = (made, count) in
      let all = subst (λ ids_done. Going ids ids_done old new box box' out out' next) done going in (
        all.0,
        all.1,
        ap (λ (r : Round). r.sent) is ∙ sent_more round last ∙ ap (λ n. n + 1) had.2,
        subst IsFew (sym is) (few_more round last had.3),
      )

  pub stop : (ids : List ℕ) (at or : ℕ) (old mid new : Traffic) (box between box' : OutboxParts S)
      (out so_far out' : Option (List ℕ)) (fault : Why) → at < length ids
      → Made ids (take at ids) old mid box between out so_far
      → TakesTurn g (slice_index_or ids at or) mid new between box' so_far out' (Err fault)
      → StopsAt g (AreToSend ids) ids old new box box' out out' fault
  stop ids at or old mid new box between box' out so_far out' fault within had takes =
      stopped ids (take at ids) (slice_index_or ids at or) (drop (suc at) ids) old mid new box between box' out so_far
      out' fault (split ids at or within) had takes.0 takes.1

  pub end : (ids : List ℕ) (at : ℕ) (old new : Traffic) (box box' : OutboxParts S) (out out' : Option (List ℕ))
      (round : Round) → length ids ≤ at → Going ids (take at ids) old new box box' out out' round
      → Going ids ids old new box box' out out' round
  end ids at old new box box' out out' round least going =
      subst (λ done. Going ids done old new box box' out out' round) (take_all at ids least) going

  -- ---- a round begins with a look at the entries

  module _ (ids : List ℕ) (box mid : OutboxParts S)
      (looked : ForEntries g box mid (λ entries. (ids ≡ open_ids entries) × HasEntries g mid entries))
      (named : mid.filer ≡ box.filer)
      (clean_before : HasCleanDisk (shows g mid) → HasCleanDisk (shows g box)) where
    ready : (entries : List Entry) → ids ≡ open_ids entries → AreToSend ids entries
    ready entries are = subst (λ is. AreToSend is entries) (sym are) (to_send entries)

    pub all_turns : (old new : Traffic) (box' : OutboxParts S) (out out' : Option (List ℕ))
        (made : Made ids ids old new mid box' out out')
        → (all : HaveTurns g AreAny ids old new box box' out out') × (endings all.turns ≡ endings made.turns)
    all_turns old new box' out out' made = (
      record {
        turns = made.turns;
        they = made.they;
        in_turn = λ clean entries had any.
            let found = looked (made.clean clean) entries had in
            let came = made.in_turn clean entries found.1 (ready entries found.0) in
            (came.0, subst (λ filer. SentInTurn filer entries old made.turns came.0 new) named came.1, came.2);
        told = made.told;
        filer = made.filer ∙ named;
        clean = λ clean. clean_before (made.clean clean);
      },
      refl,
    )

    -- all of them had their turns
    pub whole : (old new : Traffic) (box' : OutboxParts S) (out out' : Option (List ℕ)) (round : Round)
        → Going ids ids old new mid box' out out' round → (length ids ≡ 0 → ⊥)
        → SendsWhole g old new box box' out out' round
    whole old new box' out out' round going some =
        let all = all_turns old new box' out out' going.0 in
        record {
          ids = ids;
          are = λ clean entries had. (looked (going.0.clean clean) entries had).0;
          so_far = out';
          made = all.0;
          last = ends_some ids out' some;
          counts_are = going.1 ∙ sym (ap counts all.1);
        }

    -- none is open, and that was printed
    pub whole_none : (old : Traffic) (out out' : Option (List ℕ)) → length ids ≡ 0 → Appends out out' nothing_open
        → SendsWhole g old old box mid out out' (of_counts 0 0 0 0)
    whole_none old out out' empty told =
        let is : ids ≡ [] = empty_list ids empty in
        record {
          ids = [];
          are = λ clean entries had. sym is ∙ (looked clean entries had).0;
          so_far = out;
          made = record {
            turns = [];
            they = refl;
            in_turn = λ clean entries had any. (entries, (refl, refl), (looked clean entries had).1);
            told = Appends-nil out;
            filer = named;
            clean = clean_before;
          };
          last = told;
          counts_are = refl;
        }

    -- none is open, and that could not be printed
    pub found_none : (old : Traffic) (fault : Why) → length ids ≡ 0 → IsNotPrinted fault
        → FindsNone g old old box mid fault
    found_none old fault empty told = record {
      none = λ clean entries had. let found = looked clean entries had in (sym found.0 ∙ empty_list ids empty, found.1);
      filer = named;
      traffic = refl;
      told = told;
    }

    pub some_turns : (old new : Traffic) (box' : OutboxParts S) (out out' : Option (List ℕ)) (fault : Why)
        → StopsAt g (AreToSend ids) ids old new mid box' out out' fault → SendsSome g old new box box' out out' fault
    some_turns old new box' out out' fault stops = record {
      ids = ids;
      are = λ clean entries had. (looked (stops.clean clean) entries had).0;
      stops = record {
        turns = stops.turns;
        next = stops.next;
        rest = stops.rest;
        splits = stops.splits;
        came = stops.came;
        tried = λ clean entries had any.
            let found = looked (stops.clean clean) entries had in
            let came = stops.tried clean entries found.1 (ready entries found.0) in (
              came.0,
              came.1,
              subst (λ filer. SentInTurn filer entries old stops.turns came.0 came.1) named came.2,
              subst (λ filer. IsTried filer came.0 stops.next came.1 new stops.came) named came.3,
              came.4,
            );
        so_far = stops.so_far;
        before = stops.before;
        told = stops.told;
        ends = stops.ends;
        filer = stops.filer ∙ named;
        clean = λ clean. clean_before (stops.clean clean);
      };
    }

    -- some were sent
    pub sent_each : (old new : Traffic) (box' : OutboxParts S) (out out' : Option (List ℕ))
        (result : Result Round Why) → (length ids ≡ 0 → ⊥) → SendsEach g ids old new mid box' out out' result
        → SendsAll g old new box box' out out' result
    sent_each old new box' out out' (Ok round) some sends = whole old new box' out out' round sends some
    sent_each old new box' out out' (Err fault) some sends = inl (some_turns old new box' out out' fault sends)

  -- ---- what came of one

  abbrev Sent : ℕ → Traffic → Traffic → OutboxParts S → OutboxParts S → Option (List ℕ) → Option (List ℕ)
      → Result State Why → Type 0
  Sent id old new box box' out out' result =
      Sends g (λ entries. IsOpenAt entries id) id old new box box' out out' result

  turn : (id : ℕ) (old new : Traffic) (box box' : OutboxParts S) (out out' : Option (List ℕ))
      (came : Result State ExchangeFault) (sent : Result State Why)
      → Tries g (λ entries. IsOpenAt entries id) id old new box box' sent
      → ((entries : List Entry) → IsTried box.filer entries id old new sent → IsTurn box.filer entries id old new came)
      → ((entries : List Entry) → entries_after entries id came ≡ entries_after entries id sent)
      → line_of id came ≡ line_of id sent
      → Appends out out' (line_of id sent) → One id old new box box' out out'
  turn id old new box box' out out' came sent tries turns same line told = record {
    turns = record { id = id; came = came } ∷ [];
    they = refl;
    in_turn = λ clean entries had opened.
        let t = tries.tried clean entries had opened in (
          entries_after entries id came,
          (new, turns entries t.0, (refl, refl)),
          subst (HasEntries g box') (sym (same entries)) t.1,
        );
    told = subst (Appends out out') (sym (append-nil _ ∙ line)) told;
    filer = tries.filer;
    clean = tries.clean;
  }

  -- it was sent
  pub turn_sent : (id : ℕ) (old new : Traffic) (box box' : OutboxParts S) (out out' : Option (List ℕ)) (state : State)
      → Sent id old new box box' out out' (Ok state) → TakesTurn g id old new box box' out out' (Ok (ending_of state))
  unfolding turn
  turn_sent id old new box box' out out' state sends = elim sends.told [
    | inl told ↦
        let tries = subst (Tries g (λ entries. IsOpenAt entries id) id old new box box') (sym told.0) sends.tries in
        let line = subst (λ came. Appends out out' (line_of id came)) (sym told.0) told.1 in
        let one = turn id old new box box' out out' (Ok state) (Ok state) tries (λ entries t. t) (λ entries. refl) in
        (one refl line, refl)
    | inr why ↦ let no = why.1 in absurd cc
  ]

  -- its exchange failed by a fault of its own
  broken_off : (id : ℕ) (old new : Traffic) (box box' : OutboxParts S) (out out' : Option (List ℕ)) (other : ℕ)
      (fault : ExchangeFault)
      → Tries g (λ entries. IsOpenAt entries id) id old new box box' (Err (why.Exchange other fault))
      → Appends out out' (line_of {E = Why} id (Err (why.Exchange other fault))) → is_of_exchange fault ≡ true
      → new.gives_up ≡ false → TakesTurn g id old new box box' out out' (Ok ending.Failed)
  unfolding turn
  broken_off id old new box box' out out' other fault tries told own goes_on = (
    turn id old new box box' out out' (Err fault) (Err (why.Exchange other fault)) tries
        (λ entries t. elim t.1 [
          | inl unconnected ↦ absurd unconnected.0
          | inr broken ↦
              let same : broken.0 ≡ fault = (let is = broken.1 in cc) in
              (t.0, subst (IsBroken box.filer entries id old new) same broken.2, own, goes_on)
        ]) (λ entries. refl) refl told,
    refl,
  )

  of_entry : (fault : Why) → is_of_entry fault ≡ true
      → (id : ℕ) × (own : ExchangeFault) × (fault ≡ why.Exchange id own) × (is_of_exchange own ≡ true)
  of_entry (why.Exchange id own) is = (id, own, refl, is)
  of_entry (why.Files fault) is = absurd cc
  of_entry why.Taken is = absurd cc
  of_entry (why.Create fault) is = absurd cc
  of_entry (why.Open fault) is = absurd cc
  of_entry why.IsCurrent is = absurd cc
  of_entry (why.Migrate fault) is = absurd cc
  of_entry (why.Store fault) is = absurd cc
  of_entry (why.NoEntry id) is = absurd cc
  of_entry (why.IsOpen id) is = absurd cc
  of_entry (why.Put fault) is = absurd cc
  of_entry (why.NotTold id wants) is = absurd cc
  of_entry (why.Connect error) is = absurd cc
  of_entry (why.NotListed id number) is = absurd cc
  of_entry (why.NoList id number status) is = absurd cc
  of_entry (why.Contradicts id state told) is = absurd cc
  of_entry why.Memory is = absurd cc
  of_entry why.Output is = absurd cc
  of_entry why.NotClosed is = absurd cc

  pub turn_failed : (id : ℕ) (old new : Traffic) (box box' : OutboxParts S) (out out' : Option (List ℕ))
      (fault : Why) → Sent id old new box box' out out' (Err fault) → is_of_entry fault ≡ true
      → new.gives_up ≡ false
      → TakesTurn g id old new box box' out out' (Ok ending.Failed)
  turn_failed id old new box box' out out' fault sends own goes_on = elim sends.told [
    | inl told ↦
        let it = of_entry fault own in
        let came : sends.came ≡ Err (why.Exchange it.0 it.1) = sym told.0 ∙ ap (λ (w : Why). Err w) it.2 in
        broken_off id old new box box' out out' it.0 it.1
        (subst (Tries g (λ entries. IsOpenAt entries id) id old new box box') came sends.tries)
        (subst (λ c. Appends out out' (line_of id c)) came told.1) it.3 goes_on
    | inr unprinted ↦
        let is : fault ≡ unprinted.0 = (let same = unprinted.1 in cc) in
        let no : is_of_entry fault ≡ false = (elim unprinted.2 [
          | inl memory ↦ ap is_of_entry (is ∙ memory)
          | inr output ↦ ap is_of_entry (is ∙ output)
        ]) in
        absurd (true≢false (sym own ∙ no))
  ]
