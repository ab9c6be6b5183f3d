-- What each event did to the parts of a world, said as its step.
use Rattle.std.proofs.Common.{◌≡◌, ℕ, zero, suc, true, false, List, [], ◌∷◌, ◌++◌, Option, Some, None, refl, sym, ap}
use Rattle.std.proofs.Common.{take, ◌∙◌, subst, ⊎_elim, slice_get, slice_set, slice_index_or, ◌<◌, ◌⊎◌, length, map}
use Rattle.std.proofs.Common.{option_map, arith, true≢false, ◌||◌}
use Rattle.std.specs.List.{list_any}
use Rattle.std.proofs.lemmas.List.{length-map, length-set, map-append, map-set, get_or-set_same}
use Rattle.std.proofs.lemmas.List.Folds.{list_any-append}
use Rattle.std.proofs.lemmas.Option.{slice_get_past, slice_get-get_or, slice_get-map, get_or_from_slice_get}
use Rattle.std.proofs.lemmas.Option.{some_pair_parts}
use Rattle.key_string.specs.Key.{IsKey}
use Rattle.http_messages.specs.Reply.{ReplyParts}
use Rattle.http_messages.specs.Posting.{IsTarget}
use Rattle.filing_model.specs.Outbox.{Entry, request_of, bytes_of}
use Rattle.filing_model.specs.Stopping.{Crash}
use Rattle.filing_world.specs.World.{World, Outbox, Sent, Output, Hand, numbered, renewed}
use Rattle.filing_world.specs.Step.{Puts, Sends, Hands, Restarts, Hears, with_entry, box_after, IsAway, CannotPlay}
use Rattle.filing_world.specs.Invariant.{AllOwn}
use Rattle.filing_world.proofs.Lists.{renewed_same, same_element, written}
use Rattle.filer_client.specs.Exchange.{request_at}
use Rattle.schedule.specs.Filers.{FilerParts, boxes, is_any_taken, sleepers, takens}
use Rattle.schedule.specs.Served.{Served}
use Rattle.schedule.specs.Played.{world_of, HasSleeper}
use Rattle.schedule.specs.Playing.{IsUp}

-- what is there stands at its place
pub element_is : {X : Type 0} → (xs : List X) (at : ℕ) (x y : X) → slice_get xs at ≡ Some x → y ≡ slice_index_or xs at y
    → y ≡ x
element_is xs at x y there is = is ∙ get_or_from_slice_get xs at x y there

-- there is nothing past the end
pub none_past : {X : Type 0} → (xs : List X) (number : ℕ) → (number ≡ 0) ⊎ (length xs < number)
    → numbered xs number ≡ None
none_past xs zero past = refl
none_past xs (suc at) past =
    slice_get_past xs at (⊎_elim (λ (e : suc at ≡ 0). absurd (omega (arith, e)))
    (λ (e : length xs < suc at). omega (arith, e)) past)

pub named : {X : Type 0} → (xs : List X) (number at : ℕ) (x : X) → number ≡ suc at → slice_get xs at ≡ Some x
    → numbered xs number ≡ Some x
named xs number at x is here = subst (λ n. numbered xs n ≡ Some x) (sym is) here

-- the outbox of a filer is at the filer's place
pub box_there : (filers : List FilerParts) (at : ℕ) (it : FilerParts) → slice_get filers at ≡ Some it
    → slice_get (boxes filers) at ≡ Some it.box
box_there filers at it here = slice_get-map (λ f. f.box) filers at ∙ ap (option_map (λ f. f.box)) here

pub box_named : (filers : List FilerParts) (number at : ℕ) (it : FilerParts)
    → number ≡ suc at → slice_get filers at ≡ Some it → numbered (boxes filers) number ≡ Some it.box
box_named filers number at it is here = named (boxes filers) number at it.box is (box_there filers at it here)

-- an outbox that is up is there by its number
pub up_there : (filers : List FilerParts) (number at : ℕ) (it : FilerParts)
    → number ≡ suc at → slice_get filers at ≡ Some it → it.box.up ≡ true → IsUp (boxes filers) number
up_there filers number at it is here up = (it.box, box_named filers number at it is here, up)

-- and is not away
pub up_not_away : (boxes : List Outbox) (number : ℕ) → IsUp boxes number → ¬ (IsAway boxes number)
up_not_away boxes number up away = true≢false (sym up.2 ∙ away up.0 up.1)

-- no outbox has a number past the end
pub away_past : (filers : List FilerParts) (number : ℕ) → (number ≡ 0) ⊎ (length filers < number)
    → IsAway (boxes filers) number
away_past filers number past = λ box there. let none =
    none_past (boxes filers) number (subst (λ n. (number ≡ 0)
    ⊎ (n < number)) (sym (length-map filers (λ f. f.box))) past) in absurd (cc)

-- one that is down is away
pub away_down : (filers : List FilerParts) (number at : ℕ) (it : FilerParts)
    → number ≡ suc at → slice_get filers at ≡ Some it → it.box.up ≡ false → IsAway (boxes filers) number
away_down filers number at it is here down = λ other there.
    let first = box_named filers number at it is here in
    let same : it.box ≡ other = cc in
    subst (λ (b : Outbox). b.up ≡ false) same down

-- an output can be handed over to an outbox that is up
pub can_hand : (sent : List Sent) (outputs : List Output) (filers : List FilerParts) (output given outbox entry : ℕ)
    (crash : Crash) (from : Output) (item : Sent) → numbered outputs output ≡ Some from
    → numbered sent from.item ≡ Some item
    → item.from ≡ Some (outbox, entry) → IsUp (boxes filers) outbox → (server : Served)
    → ¬ (CannotPlay (world_of server sent outputs filers) (Hand output given crash))
can_hand sent outputs filers output given outbox entry crash from item here item_here sender up server cannot = ⊎_elim
    (λ (none : numbered outputs output ≡ None). some-none from (sym here ∙ none))
    (λ other.
    let same : from ≡ other.0 = same_element (numbered outputs output) from other.0 here other.2 in
    let item_is : item ≡ other.1 =
    same_element (numbered sent other.0.item) item other.1
    (subst (λ (o : Output). numbered sent o.item ≡ Some item) same item_here) other.3 in
    let from_is = ap (λ (x : Sent). x.from) item_is in
    ⊎_elim
    (λ (none : other.1.from ≡ None). some-none (outbox, entry) (sym sender ∙ from_is ∙ none))
    (λ away. up_not_away (boxes filers) outbox up
    (subst (IsAway (boxes filers))
    (sym (some_pair_parts outbox away.0 entry away.1 (sym sender ∙ from_is ∙ away.2)).0) away.3))
    other.4)
    cannot
  where
    some-none : {X : Type 0} (x : X) → Some x ≡ None → ⊥
    some-none x e = cc

-- what is sent for an entry is its request
request_found : (filer : List ℕ) (found : Option Entry) (text : List ℕ)
    → Some text ≡ option_map (λ e. bytes_of (request_of filer e)) found
    → (entry : Entry) × (found ≡ Some entry) × (text ≡ bytes_of (request_of filer entry))
request_found filer None text is = absurd (cc)
request_found filer (Some e) text is = let bytes : text ≡ bytes_of (request_of filer e) = cc in (e, refl, bytes)

-- no entry has a number for which there is no request
pub no_request : (filer : List ℕ) (entries : List Entry) (number : ℕ) → None ≡ request_at filer entries number
    → numbered entries number ≡ None
no_request filer entries number is = none_mapped (numbered entries number) is
  where
    none_mapped : (found : Option Entry) → None ≡ option_map (λ e. bytes_of (request_of filer e)) found → found ≡ None
    none_mapped None is = refl
    none_mapped (Some e) is = absurd (cc)

-- a world with other outboxes
abbrev pub world_with : Served → List Sent → List Output → List Outbox → World
world_with server sent outputs outboxes =
    record {
      limit = server.limit;
      done = server.done;
      sent = sent;
      outputs = outputs;
      outboxes = outboxes;
      up =
          server.up;
    }

-- an element that is set, as a function has it
map-slice_set : {X Y : Type 0} (f : X → Y) (xs : List X) (at : ℕ) (x : X)
    → map f (slice_set xs at x) ≡ slice_set (map f xs) at (f x)
map-slice_set f xs at x = map-set f xs at x

-- a filer of which a part stays as it was leaves this part of all filers as it was
pub set_same : {X : Type 0} (part : FilerParts → X) (filers : List FilerParts) (at : ℕ) (it new : FilerParts)
    → slice_get filers at ≡ Some it → part new ≡ part it → map part (slice_set filers at new) ≡ map part filers
set_same part filers at it new here same =
    let parts = map part filers in
    map-set part filers at new ∙ ap (slice_set parts at) same ∙ written parts at (part it)
    ∙ renewed_same parts (suc at) (part it) (slice_get-map part filers at ∙ ap (option_map part) here)

-- one more filer that has its process
pub none_taken_more : (filers : List FilerParts) (it : FilerParts) → is_any_taken filers ≡ false → it.taken ≡ false
    → is_any_taken (filers ++ it ∷ []) ≡ false
none_taken_more filers it none there =
    ap (list_any (λ taken. taken)) (map-append (λ f. f.taken) filers (it ∷ []))
    ∙ list_any-append (λ taken. taken) (takens filers) (it.taken ∷ []) ∙ ap (λ b. b || (it.taken || false)) none
    ∙ ap (λ b. b || false) there

-- one that is asleep makes a sleeper among them
pub set_asleep : (filers : List FilerParts) (at : ℕ) (new : FilerParts) → at < length filers → new.asleep ≡ true
    → HasSleeper (sleepers (slice_set filers at new))
set_asleep filers at new within asleep = (
  suc at,
  slice_get-map (λ f. f.asleep) (slice_set filers at new) at ∙ ap (option_map (λ f. f.asleep))
      (there_now filers at new within) ∙ ap Some asleep,
)
  where
    there_now : {X : Type 0} (xs : List X) (at : ℕ) (x : X) → at < length xs → slice_get (slice_set xs at x) at ≡ Some x
    there_now xs at x within =
        slice_get-get_or (slice_set xs at x) at x (subst (λ n. at < n) (sym (length-set xs at x)) within)
        ∙ ap Some (get_or-set_same xs at x x within)

module _ (filers : List FilerParts) (at number : ℕ) (is : number ≡ suc at) (it : FilerParts)
    (here : slice_get filers at ≡ Some it) where
  abbrev box : Outbox
  box = it.box

  there : numbered (boxes filers) number ≡ Some box
  there = box_named filers number at it is here

  set : (new : FilerParts) → boxes (slice_set filers at new) ≡ renewed (boxes filers) number new.box
  set new =
      map-slice_set (λ f. f.box) filers at new ∙ written (boxes filers) at new.box
      ∙ ap (λ n. renewed (boxes filers) n new.box) (sym is)

  pub put_step : box.up ≡ true → (entry : Entry) (new : FilerParts) → new.box ≡ with_entry box entry → IsKey entry.key
      → IsTarget entry.target → (server : Served) (sent : List Sent) (outputs : List Output)
      → Puts (world_of server sent outputs filers) number entry (world_of server sent outputs (slice_set filers at new))
  put_step up entry new becomes key target server sent outputs = record {
    is_key = key;
    is_target = target;
    box = box;
    here = there;
    up = up;
    becomes = ap (world_with server sent outputs) (set new ∙ ap (renewed (boxes filers) number) becomes);
  }

  pub send_step : box.up ≡ true → (entry : ℕ) (text : List ℕ) (sent more : List Sent) (new : FilerParts)
      → Some text ≡ request_at box.filer box.entries entry → new.box ≡ box
      → more ≡ sent ++ record { from = Some (number, entry); bytes = text } ∷ []
      → (server : Served) (outputs : List Output)
      → Sends (world_of server sent outputs filers) number entry
      (world_of server more outputs (slice_set filers at new))
  send_step up entry text sent more new request same pushed server outputs = record {
    box = box;
    here = there;
    up = up;
    what = found.0;
    there = found.1;
    becomes =
        let lists : more ≡ sent ++ record {
          from = Some (number, entry);
          bytes =
              bytes_of (request_of box.filer found.0);
        } ∷ [] =
        pushed ∙ ap (λ bs. sent ++ record { from = Some (number, entry); bytes = bs } ∷ []) found.2 in
        let kept : boxes (slice_set filers at new) ≡ boxes filers =
        set new ∙ ap (renewed (boxes filers) number) same ∙ renewed_same (boxes filers) number box there in
        λ i. world_with server (lists i) outputs (kept i);
  }
    where
      found : (e : Entry) × (numbered box.entries entry ≡ Some e) × (text ≡ bytes_of (request_of box.filer e))
      found = request_found box.filer (numbered box.entries entry) text request

  -- no entry of the outbox has the number
  pub no_entry : (entry : ℕ) → numbered box.entries entry ≡ None → (other : Outbox)
      → numbered (boxes filers) number ≡ Some other → numbered other.entries entry ≡ None
  no_entry entry none other second =
      let same : box ≡ other = let first = there in cc in
      subst (λ (b : Outbox). numbered b.entries entry ≡ None) same none

  pub hand_step : box.up ≡ true
      → (sent : List Sent) (outputs : List Output) (output given entry : ℕ) (crash : Crash) (from : Output)
      (item : Sent) → numbered outputs output ≡ Some from → numbered sent from.item ≡ Some item
      → item.from ≡ Some (number, entry)
      → (new : FilerParts) → ((what : Entry) → numbered box.entries entry ≡ Some what
      → (heard : Option ReplyParts) × Hears (take given from.bytes) crash heard
      × (new.box ≡ box_after box entry what heard crash))
      → (server : Served) → AllOwn (boxes filers) sent
      → Hands (world_of server sent outputs filers) output given crash
      (world_of server sent outputs (slice_set filers at new))
  hand_step up sent outputs output given entry crash from item out_here item_here sender new moves server own =
      let its = own_entry sent from.item item item_here sender own in
      let step = moves its.0 its.1 in record {
        from = from;
        here = out_here;
        item = item;
        item_here = item_here;
        outbox = number;
        number = entry;
        sender = sender;
        box = box;
        box_here = there;
        up = up;
        entry = its.0;
        entry_here = its.1;
        heard = step.0;
        hears = step.1;
        becomes = ap (world_with server sent outputs) (set new ∙ ap (renewed (boxes filers) number) step.2);
      }
    where
      own_entry : (sent : List Sent) (k : ℕ) (item : Sent) → numbered sent k ≡ Some item
          → item.from ≡ Some (number, entry) → AllOwn (boxes filers) sent
          → (what : Entry) × (numbered box.entries entry ≡ Some what)
      own_entry sent zero item item_here sender own = absurd (cc)
      own_entry sent (suc k) item item_here sender own =
          let its = own k number entry item item_here sender in
          let same : its.box ≡ box = let first = there in let second = its.here in cc in
          (its.entry, subst (λ (b : Outbox). numbered b.entries entry ≡ Some its.entry) same its.there)

  pub restart_step : (new : FilerParts) → new.box ≡ record box { up = true }
      → (server : Served) (sent : List Sent) (outputs : List Output)
      → Restarts (world_of server sent outputs filers) number (world_of server sent outputs (slice_set filers at new))
  restart_step new becomes server sent outputs = record {
    box = box;
    here = there;
    becomes = ap (world_with server sent outputs) (set new ∙ ap (renewed (boxes filers) number) becomes);
  }
