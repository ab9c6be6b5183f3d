-- What reading a connection on comes to.
use Rattle.std.proofs.Common.{◌≡◌, ℕ, ◌<◌, ◌≤◌, ◌&&◌, not, Bool, true, false, List, [], ◌++◌, length, drop}
use Rattle.std.proofs.Common.{Option, refl, sym, ap, ap₂, ◌∙◌, subst, inl, inr, arith, ⊎_elim}
use Rattle.std.proofs.KnownBytes.{Appends-trans}
use Rattle.std.proofs.lemmas.Bool.{false≢true, cases_lt}
use Rattle.std.specs.Io.KnownBytes.{Appends, IsAtEnd}
use Rattle.std.specs.Option.{option_map_or}
use Rattle.http_connection.specs.Connection.{held, is_over, has_ended, lent_awaits, lent_len, IsSound, LendsFirst}
use Rattle.http_connection.proofs.Heads.{Asks-of}
use Rattle.http_messages.proofs.MoreBytes.{BeginsHead-more}
use Rattle.http_messages.proofs.Unique.{IsRefused-excludes}
use Rattle.http_messages.specs.Message.{Asks, IsRest, IsRefused, awaits}
use Rattle.http_messages.specs.declared.refusal.ConnFault.{ConnFault}
use Rattle.http_messages.specs.declared.refusal.ConnFault.TheVariants.{Read, Write, ReadLimit, Memory}
use Rattle.http_messages.specs.declared.refusal.Refusal.{Refusal}
use Rattle.http_connection.specs.declared.connection.Connection.{Connection}
use Rattle.http_wire.specs.declared.device.Source.{Ghosts as Reads}
use Rattle.http_wire.specs.declared.device.Sink.{Ghosts as Writes}
use Rattle.http_wire.specs.declared.reading.Reading.{Reading}
use Rattle.http_wire.specs.Calls.{HoldsArrival, interim_if, IsFault, IsSendFault, WritesUpTo}
use Rattle.http_connection.specs.declared.event.Event.TheVariants.{ConnectionClosed}
use Rattle.http_wire.specs.declared.inbox.Next.{Next}
use Rattle.http_wire.specs.declared.inbox.Next.TheVariants.{Message, Refuse, End}
use Rattle.http_connection.specs.Connection.{TellsNext}
use Rattle.http_messages.specs.Block.{HoldsBlock}
use Rattle.http_wire.specs.Device.{HasFailed}
use Rattle.http_wire.specs.Reading.{reading, FindsArrival, IsRead}
use Rattle.http_wire.proofs.ReceivedLemmas.{Receives-join}
use Rattle.std.specs.Prelude.{Result, Ok, Err}
use Rattle.http_wire.specs.Received.{Receives, ReceivesNothing, IsReadFault}
use Rattle.http_wire.specs.Wire.{Wire, wire}

-- How far a connection was read that is not at its next arrival yet: the interim response went if its head asks for it.
pub record ReadsOn {R W : Type 0} (r : Reads R) (w : Writes W) (reader reader' : R) (writer writer' : W)
    (old new : Reading) (is_sent : Bool) : Type 0 where
  pub reads : Receives (r.left reader) (r.left reader') (reading old) (reading new)
  pub lazy : HoldsArrival (held old.connection) → ReceivesNothing reader reader' (reading old) (reading new)
  pub sound : IsSound new.connection
  pub more : is_over new.connection ≡ false
  pub asked : is_sent ≡ true → Asks (held new.connection) true
  pub ended : has_ended new.connection ≡ true
      → Asks (held new.connection) is_sent × IsAtEnd (r.left reader') × IsRest (held new.connection)
  pub wrote : Appends (w.written writer) (w.written writer') (interim_if is_sent)
  pub read_fine : r.read_failures reader' ≡ r.read_failures reader
  pub write_fine : w.write_failures writer' ≡ w.write_failures writer

-- bytes ask for an interim response, or they do not
Asks-one : (bytes : List ℕ) → Asks bytes true → Asks bytes false → ⊥
Asks-one bytes (parts, n, head, is) none = false≢true (sym (none parts n head) ∙ is)

-- what is asked for is asked for still as more bytes come
pub Asks-more : (bytes more : List ℕ) → Asks bytes true → Asks (bytes ++ more) true
Asks-more bytes more (parts, n, head, is) = (parts, n, BeginsHead-more bytes more parts n head, is)

-- what went before and what goes now is the interim response that is asked for
interim-join : (bytes : List ℕ) (asked awaits : Bool) → (asked ≡ true → Asks bytes true) → Asks bytes awaits
    → interim_if asked ++ interim_if (awaits && not asked) ≡ interim_if awaits
interim-join bytes false false known asks = refl
interim-join bytes false true known asks = refl
interim-join bytes true true known asks = refl
interim-join bytes true false known asks = absurd (Asks-one bytes (known refl) asks)

pub Appends-asked : (a b d : Option (List ℕ)) (bytes : List ℕ) (asked awaits : Bool) → (asked ≡ true → Asks bytes true)
    → Asks bytes awaits → Appends a b (interim_if asked) → Appends b d (interim_if (awaits && not asked))
    → Appends a d (interim_if awaits)
Appends-asked a b d bytes asked awaits known asks first second =
    subst (Appends a d) (interim-join bytes asked awaits known asks) (Appends-trans a b d _ _ first second)

-- a request that is lent asks as its head does
pub Asks-lent : (c : Connection) → LendsFirst c → Asks (held c) (lent_awaits c)
Asks-lent c lends =
    Asks-of (held c) lends.request.head lends.begins.head_len (lent_awaits c) lends.begins.head
    (ap (λ message. option_map_or (λ request. awaits request.head) message false) lends.lends)

-- a refusal comes before any head, and so nothing was asked for
pub Asks-refused : (bytes : List ℕ) (refusal : Refusal) (asked : Bool) → (asked ≡ true → Asks bytes true)
    → IsRefused bytes refusal → interim_if asked ≡ []
Asks-refused bytes refusal false known refused = refl
Asks-refused bytes refusal true known refused =
    let asks = known refl in
    absurd (IsRefused-excludes bytes asks.0 asks.1 refusal asks.2 refused)

-- what went out so far, where a call fails
pub WritesUpTo-memory : (a b : Option (List ℕ)) (bytes : List ℕ) (asked : Bool) → (asked ≡ true → Asks bytes true)
    → Appends a b (interim_if asked) → WritesUpTo a b bytes Memory
WritesUpTo-memory a b bytes false known wrote = inr wrote
WritesUpTo-memory a b bytes true known wrote = inl (interim_if true, (true, known refl, refl), wrote)

pub WritesUpTo-read : (a b : Option (List ℕ)) (bytes : List ℕ) (asks : Bool) (fault : ConnFault) (x y reads : ℕ)
    → Asks bytes asks → Appends a b (interim_if asks) → IsReadFault x y reads fault → WritesUpTo a b bytes fault
WritesUpTo-read a b bytes asks Read x y reads asked wrote f = (interim_if asks, (asks, asked, refl), wrote)
WritesUpTo-read a b bytes asks (Write n) x y reads asked wrote f = absurd f
WritesUpTo-read a b bytes asks ReadLimit x y reads asked wrote f = (interim_if asks, (asks, asked, refl), wrote)
WritesUpTo-read a b bytes asks Memory x y reads asked wrote f = inl (interim_if asks, (asks, asked, refl), wrote)

-- the interim response is written where nothing went before
pub WritesUpTo-part : {W : Type 0} (w : Writes W) (first before after : W) (bytes : List ℕ) (asked awaits : Bool)
    (fault : ConnFault) → Asks bytes awaits → Appends (w.written first) (w.written before) (interim_if asked)
    → IsSendFault w before after (awaits && not asked) fault
    → WritesUpTo (w.written first) (w.written after) bytes fault
WritesUpTo-part w first before after bytes asked awaits Read asks wrote f = absurd f
WritesUpTo-part w first before after bytes false true (Write sent) asks wrote f =
    (asks, f.2, Appends-trans _ _ _ _ _ wrote f.3)
WritesUpTo-part w first before after bytes false false (Write sent) asks wrote f = absurd (false≢true f.0)
WritesUpTo-part w first before after bytes true true (Write sent) asks wrote f = absurd (false≢true f.0)
WritesUpTo-part w first before after bytes true false (Write sent) asks wrote f = absurd (false≢true f.0)
WritesUpTo-part w first before after bytes asked awaits ReadLimit asks wrote f = absurd f
WritesUpTo-part w first before after bytes asked awaits Memory asks wrote f = absurd f

-- why a read that was wanted gave nothing is why the call failed
pub IsFault-read : (before after : Wire) (reads : ℕ) (bytes : List ℕ) (fault : ConnFault)
    → after.write_failures ≡ before.write_failures → ¬ (HoldsArrival bytes)
    → IsReadFault before.read_failures after.read_failures reads fault → IsFault before after reads bytes fault
IsFault-read before after reads bytes Read same none f = ((f, same), none)
IsFault-read before after reads bytes (Write sent) same none f = absurd f
IsFault-read before after reads bytes ReadLimit same none f = ((f.0, same), f.1, none)
IsFault-read before after reads bytes Memory same none f = ((f.0, same), λ all. absurd (omega (arith, all, f.1)))

-- a rest is no arrival
pub none_held : (bytes : List ℕ) → IsRest bytes → ¬ (HoldsArrival bytes)
none_held bytes rest (inl (request, n, begins)) = rest.none request n begins
none_held bytes rest (inr (refusal, refused)) = rest.refused refusal refused

-- why the interim response wasn't written is why the call failed
IsFault-send : {R W : Type 0} (r : Reads R) (w : Writes W) (first reader : R) (before writer writer' : W) (asked : Bool)
    (reads : ℕ) (bytes : List ℕ) (fault : ConnFault) → r.read_failures reader ≡ r.read_failures first
    → w.write_failures writer ≡ w.write_failures before → IsSendFault w writer writer' asked fault
    → IsFault (wire r w first before) (wire r w reader writer') reads bytes fault
IsFault-send r w first reader before writer writer' asked reads bytes Read same fine f = absurd f
IsFault-send r w first reader before writer writer' asked reads bytes (Write sent) same fine f =
    (same, subst (λ n. HasFailed n (w.write_failures writer')) fine f.1)
IsFault-send r w first reader before writer writer' asked reads bytes ReadLimit same fine f = absurd f
IsFault-send r w first reader before writer writer' asked reads bytes Memory same fine f = absurd f

-- what is held stays, and so does the count
same : (mid new : Reading) → held new.connection ≡ held mid.connection → new.reads ≡ mid.reads
    → reading mid ≡ reading new
same mid new bytes count = ap₂ (λ b n. record { bytes = b; reads = n }) (sym bytes) (sym count)

-- the input has ended only if a read gave nothing
ended_by : (mid new : Reading) (a left : Option (List ℕ)) (is_sent : Bool) → IsRest (held mid.connection)
    → Asks (held mid.connection) is_sent → has_ended mid.connection ≡ false
    → Receives a left (reading mid) (reading new)
    → IsRead left mid new → has_ended new.connection ≡ true
    → Asks (held new.connection) is_sent × IsAtEnd left × IsRest (held new.connection)
ended_by mid new a left is_sent rest asks goes_on got read ended = ⊎_elim
    (λ (more : mid.reads < new.reads). absurd (false≢true (sym goes_on ∙ (sym (read.some more) ∙ ended))))
    (λ (low : new.reads ≤ mid.reads).
    let idle : new.reads ≡ mid.reads = omega (arith, low, got.reads) in
    let bytes = got.idle idle in
    (subst (λ b. Asks b is_sent) (sym bytes) asks, (read.none idle).1, subst IsRest (sym bytes) rest))
    (cases_lt mid.reads new.reads)

not_true : (b : Bool) → (b ≡ true → ⊥) → b ≡ false
not_true false never = refl
not_true true never = absurd (never refl)

-- it has ended if nothing is told of a connection that is open
is_ended : (new : Reading) → is_over new.connection ≡ false → TellsNext new.connection ConnectionClosed
    → has_ended new.connection ≡ true
is_ended new more (inl over) = absurd (false≢true (sym more ∙ over))
is_ended new more (inr ended) = ended.0

-- ---- what one call of `next_arrival` comes to, step by step

module _ {R W : Type 0} (r : Reads R) (w : Writes W) (first : R) (before : W) (old : Reading) where
  -- what comes next is asked, and the bytes stay
  pub ReadsOn-told : (reader : R) (writer : W) (mid new : Reading) (is_sent : Bool)
      → held new.connection ≡ held mid.connection → new.reads ≡ mid.reads
      → is_over new.connection ≡ is_over mid.connection → has_ended new.connection ≡ has_ended mid.connection
      → (IsSound mid.connection → IsSound new.connection) → ReadsOn r w first reader before writer old mid is_sent
      → ReadsOn r w first reader before writer old new is_sent
  ReadsOn-told reader writer mid new is_sent bytes count over ended sound so = record {
    reads = subst (Receives _ _ (reading old)) (same mid new bytes count) so.reads;
    lazy = λ holds. subst (ReceivesNothing first reader (reading old)) (same mid new bytes count) (so.lazy holds);
    sound = sound so.sound;
    more = over ∙ so.more;
    asked = λ yes. subst (λ b. Asks b true) (sym bytes) (so.asked yes);
    ended = λ yes.
        let was = so.ended (sym ended ∙ yes) in
        (subst (λ b. Asks b is_sent) (sym bytes) was.0, was.1, subst IsRest (sym bytes) was.2);
    wrote = so.wrote;
    read_fine = so.read_fine;
    write_fine = so.write_fine;
  }

  -- the interim response goes if it is asked for
  pub ReadsOn-sent : (reader : R) (writer writer' : W) (mid : Reading) (is_sent awaits : Bool)
      → Asks (held mid.connection) awaits → has_ended mid.connection ≡ false
      → Appends (w.written writer) (w.written writer') (interim_if (awaits && not is_sent))
      → w.write_failures writer' ≡ w.write_failures writer
      → ReadsOn r w first reader before writer old mid is_sent
      → ReadsOn r w first reader before writer' old mid awaits
  ReadsOn-sent reader writer writer' mid is_sent awaits asks goes_on wrote fine so = record {
    reads = so.reads;
    lazy = so.lazy;
    sound = so.sound;
    more = so.more;
    asked = λ yes. subst (Asks (held mid.connection)) yes asks;
    ended = λ yes. absurd (false≢true (sym goes_on ∙ yes));
    wrote = Appends-asked _ _ _ (held mid.connection) is_sent awaits so.asked asks so.wrote wrote;
    read_fine = so.read_fine;
    write_fine = fine ∙ so.write_fine;
  }

  -- one more read is made of what is no arrival
  pub ReadsOn-read : (reader reader' : R) (writer : W) (mid new : Reading) (is_sent : Bool)
      → IsRest (held mid.connection) → Asks (held mid.connection) is_sent → has_ended mid.connection ≡ false
      → Receives (r.left reader) (r.left reader') (reading mid) (reading new)
      → r.read_failures reader' ≡ r.read_failures reader → IsRead (r.left reader') mid new
      → (IsSound mid.connection → IsSound new.connection) → ReadsOn r w first reader before writer old mid is_sent
      → ReadsOn r w first reader' before writer old new is_sent
  ReadsOn-read reader reader' writer mid new is_sent rest asks goes_on got fine read sound so = record {
    reads = Receives-join _ _ _ _ _ _ so.reads got;
    lazy = λ holds. absurd (none_held (held mid.connection) rest
        (subst HoldsArrival (sym (so.lazy holds).bytes) holds));
    sound = sound so.sound;
    more = read.over ∙ so.more;
    asked = λ yes. subst (λ b. Asks b true) (sym got.bytes)
        (Asks-more (held mid.connection) (drop (length (held mid.connection)) (held new.connection)) (so.asked yes));
    ended = ended_by mid new (r.left reader) (r.left reader') is_sent rest asks goes_on got read;
    wrote = so.wrote;
    read_fine = fine ∙ so.read_fine;
    write_fine = so.write_fine;
  }

  -- the input goes on where a whole request is there
  pub goes_on : (reader : R) (writer : W) (new : Reading) (is_sent : Bool) → LendsFirst new.connection
      → ReadsOn r w first reader before writer old new is_sent → has_ended new.connection ≡ false
  goes_on reader writer new is_sent lends so = not_true (has_ended new.connection)
      (λ yes. (so.ended yes).2.none lends.request (lent_len new.connection) lends.begins)

  -- ---- and how it ends

  -- the head that is there can't be read for want of memory
  pub no_memory : (reader : R) (writer : W) (new : Reading) (is_sent : Bool) → HoldsBlock (held new.connection)
      → ReadsOn r w first reader before writer old new is_sent
      → FindsArrival r w first reader before writer old new (Err Memory)
  no_memory reader writer new is_sent holds so = record {
    reads = so.reads;
    lazy = so.lazy;
    found = tt;
    more = so.more;
    interim = tt;
    part = WritesUpTo-memory _ _ (held new.connection) is_sent so.asked so.wrote;
    fine = tt;
    fault = ((so.read_fine, so.write_fine), λ _. holds);
  }

  -- the interim response could not be written
  pub not_sent : (reader : R) (writer writer' : W) (new : Reading) (is_sent awaits : Bool) (fault : ConnFault)
      → Asks (held new.connection) awaits → IsSendFault w writer writer' (awaits && not is_sent) fault
      → ReadsOn r w first reader before writer old new is_sent
      → (result : Result Next ConnFault) → result ≡ Err fault
      → FindsArrival r w first reader before writer' old new result
  not_sent reader writer writer' new is_sent awaits fault asks failed so result is = rw is (record {
    reads = so.reads;
    lazy = so.lazy;
    found = tt;
    more = so.more;
    interim = tt;
    part = WritesUpTo-part w before writer writer' (held new.connection) is_sent awaits fault asks so.wrote failed;
    fine = tt;
    fault = IsFault-send r w first reader before writer writer' _ new.reads (held new.connection) fault so.read_fine
        so.write_fine failed;
  })

  -- a read failed
  pub not_read : (reader reader' : R) (writer : W) (mid new : Reading) (is_sent : Bool) (fault : ConnFault)
      → IsRest (held mid.connection) → Asks (held mid.connection) is_sent
      → held new.connection ≡ held mid.connection → is_over new.connection ≡ is_over mid.connection
      → Receives (r.left reader) (r.left reader') (reading mid) (reading new)
      → IsReadFault (r.read_failures reader) (r.read_failures reader') new.reads fault
      → ReadsOn r w first reader before writer old mid is_sent
      → (result : Result Next ConnFault) → result ≡ Err fault
      → FindsArrival r w first reader' before writer old new result
  not_read reader reader' writer mid new is_sent fault rest asks bytes over got failed so result is =
      let left = subst IsRest (sym bytes) rest in
      rw is (record {
        reads = Receives-join _ _ _ _ _ _ so.reads got;
        lazy = λ holds. absurd (none_held (held mid.connection) rest
            (subst HoldsArrival (sym (so.lazy holds).bytes) holds));
        found = tt;
        more = over ∙ so.more;
        interim = tt;
        part = WritesUpTo-read _ _ (held new.connection) is_sent fault _ _ _
            (subst (λ b. Asks b is_sent) (sym bytes) asks) so.wrote failed;
        fine = tt;
        fault = IsFault-read (wire r w first before) (wire r w reader' writer) new.reads (held new.connection) fault
            so.write_fine (none_held (held new.connection) left)
            (subst (λ n. IsReadFault n (r.read_failures reader') new.reads fault) so.read_fine failed);
      })

  -- a whole request is there
  pub request_found : (reader : R) (writer : W) (new : Reading) → LendsFirst new.connection
      → ReadsOn r w first reader before writer old new (lent_awaits new.connection)
      → FindsArrival r w first reader before writer old new (Ok Message)
  request_found reader writer new lends so = record {
    reads = so.reads;
    lazy = so.lazy;
    found = (lends, goes_on reader writer new _ lends so);
    more = so.more;
    interim = so.wrote;
    part = tt;
    fine = (so.read_fine, so.write_fine);
    fault = tt;
  }

  -- or what no request can follow
  pub refusal_found : (reader : R) (writer : W) (new : Reading) (is_sent : Bool) (refusal : Refusal)
      → IsRefused (held new.connection) refusal → ReadsOn r w first reader before writer old new is_sent
      → FindsArrival r w first reader before writer old new (Ok (Refuse refusal))
  refusal_found reader writer new is_sent refusal refused so = record {
    reads = so.reads;
    lazy = so.lazy;
    found = refused;
    more = so.more;
    interim = subst (Appends (w.written before) (w.written writer))
        (Asks-refused (held new.connection) refusal is_sent so.asked refused) so.wrote;
    part = tt;
    fine = (so.read_fine, so.write_fine);
    fault = tt;
  }

  -- or nothing, at the end of the input
  pub end_found : (reader : R) (writer : W) (new : Reading) (is_sent : Bool)
      → TellsNext new.connection ConnectionClosed → ReadsOn r w first reader before writer old new is_sent
      → FindsArrival r w first reader before writer old new (Ok End)
  end_found reader writer new is_sent told so =
      let was = so.ended (is_ended new so.more told) in
      record {
        reads = so.reads;
        lazy = so.lazy;
        found = (was.2, was.1);
        more = so.more;
        interim = (interim_if is_sent, (is_sent, was.0, refl), so.wrote);
        part = tt;
        fine = (so.read_fine, so.write_fine);
        fault = tt;
      }
