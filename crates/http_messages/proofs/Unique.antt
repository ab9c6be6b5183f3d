-- Bytes are read in one way.
use Rattle.std.proofs.Common.{◌≡◌, ◌≢◌, ℕ, ◌+◌, Bool, true, false, List, [], ◌∷◌, ◌++◌, length, drop, map, Option, None}
use Rattle.std.proofs.Common.{refl, sym, ap, ap₂, ◌∙◌, subst, arith, ◌⊎◌, inl, inr, length-append, not, is_some, ◌||◌}
use Rattle.std.proofs.Common.{◌==◌, cond}
use Rattle.std.specs.Prelude.{slice_range}
use Rattle.std.proofs.lemmas.Bool.{cases_lt, cases_Bool}
use Rattle.std.proofs.lemmas.Option.{none-some, same_Some}
use Rattle.httparse.specs.Spans.{name_and_value}
use Rattle.httparse.specs.Grammar.{RequestHead}
use Rattle.httparse.proofs.GrammarLemmas.{request_unique}
use Rattle.http_uri.specs.Grammar.{path_of}
use Rattle.http_uri.specs.Uri.{Spells, uri_path}
use Rattle.http_uri.specs.declared.uri.Uri.{Uri}
use Rattle.http_uri.proofs.Theorems.{Spells_unique}
use Rattle.http_messages.specs.Block.{BeginsBlock, IsBlockEnd, IsTooLong, skipped_len, from_block}
use Rattle.http_messages.specs.Head.{RequestParts, ReadsHead, IsHead, IsHeadFault, IsMalformed, HasFraming}
use Rattle.http_messages.specs.Head.{framing_fault, body_length, closes, written_path}
use Rattle.http_messages.specs.Message.{BeginsHead, BeginsRequest, SpellsRequest, IsRefused, Asks, Arrival, Read}
use Rattle.http_messages.specs.Message.{Refused, Ending, Rest, HasArrivals}
use Rattle.http_messages.proofs.MoreBytes.{BeginsRequest-more}
use Rattle.http_messages.specs.Request.{Request}
use Rattle.http_messages.specs.declared.head.HeadFault.{HeadFault}
use Rattle.http_messages.specs.declared.head.HeadFault.TheVariants.{Malformed, Host, Coding, Length, NoLength, TooLarge}
use Rattle.http_messages.specs.declared.head.HeadFault.TheVariants.{Memory}
use Rattle.http_messages.specs.declared.refusal.Refusal.{Refusal}
use Rattle.http_messages.specs.declared.refusal.Refusal.TheVariants.{HeadTooLarge, Head}

-- a text begins with one block
pub BeginsBlock-unique : (text : List ℕ) (n m : ℕ) → BeginsBlock text n → BeginsBlock text m → n ≡ m
BeginsBlock-unique text n m a b =
    elim (cases_lt n m) [
      | inl less ↦ absurd (b.first n less a.ends)
      | inr other ↦ elim (cases_lt m n) [ inl less ↦ absurd (a.first m less b.ends) | inr same ↦ omega arith ]
    ]

-- a block ends in one place
pub IsBlockEnd-unique : (bytes : List ℕ) (n m : ℕ) → IsBlockEnd bytes n → IsBlockEnd bytes m → n ≡ m
IsBlockEnd-unique bytes n m a b =
    a.2 ∙ ap (λ len. skipped_len bytes + len) (BeginsBlock-unique (from_block bytes) a.0 b.0 a.1 b.1) ∙ sym b.2

-- one text is the spelling of URIs of one path
path_by : Option (List ℕ) → List ℕ → List ℕ
path_by scheme kept = cond (not (length kept == 0) || is_some scheme) (path_of kept) []

same_path : (text : List ℕ) (u v : Uri) → Spells text u → Spells text v → uri_path u ≡ uri_path v
unfolding path_by
same_path text u v a b = let same = Spells_unique text u v a b in ap₂ path_by same.0 same.2

-- heads and requests of the same parts are the same
abbrev parts_by : List ℕ → List ℕ → ℕ → List (List ℕ × List ℕ) → RequestParts
parts_by method path minor fields = record { method = method; path = path; minor = minor; fields = fields }

same_parts : (p q : RequestParts) → p.method ≡ q.method → p.path ≡ q.path → p.minor ≡ q.minor → p.fields ≡ q.fields
    → p ≡ q
same_parts p q method path minor fields =
    ap (λ m. parts_by m p.path p.minor p.fields) method
    ∙ ap (λ t. parts_by q.method t p.minor p.fields) path
    ∙ ap (λ n. parts_by q.method q.path n p.fields) minor
    ∙ ap (λ f. parts_by q.method q.path q.minor f) fields

-- a block has one head
pub ReadsHead-unique : (block : List ℕ) (p q : RequestParts) → ReadsHead block p → ReadsHead block q → p ≡ q
ReadsHead-unique block p q a b =
    let head : a.head ≡ b.head = (request_unique block a.head b.head [] [] a.reads b.reads).0 in
    let target : a.head.target ≡ b.head.target = ap (λ (h : RequestHead). h.target) head in
    let spells = subst (λ text. Spells text a.target) target a.spells in
    let path = same_path b.head.target a.target b.target spells b.spells in
    same_parts p q
    (a.method ∙ ap (λ (h : RequestHead). h.method) head ∙ sym b.method)
    (a.path ∙ ap₂ written_path target path ∙ sym b.path)
    (a.minor ∙ ap (λ (h : RequestHead). h.minor) head ∙ sym b.minor)
    (a.fields ∙ ap (λ (h : RequestHead). map name_and_value h.fields) head ∙ sym b.fields)

-- bytes begin with one head
pub BeginsHead-unique : (bytes : List ℕ) (p q : RequestParts) (n m : ℕ) → BeginsHead bytes p n → BeginsHead bytes q m
    → (p ≡ q) × (n ≡ m)
BeginsHead-unique bytes p q n m a b =
    let end = IsBlockEnd-unique bytes n m a.block b.block in
    let reads = subst (λ k. ReadsHead (slice_range bytes (skipped_len bytes) k) p) end a.head.reads in
    (ReadsHead-unique (slice_range bytes (skipped_len bytes) m) p q reads b.head.reads, end)

abbrev request_by : RequestParts → List ℕ → Request
request_by head body = record { head = head; body = body }

same_requests : (r s : Request) → r.head ≡ s.head → r.body ≡ s.body → r ≡ s
same_requests r s head body = ap₂ request_by head body

-- bytes begin with one request
pub BeginsRequest-unique : (bytes : List ℕ) (r s : Request) (n m : ℕ) → BeginsRequest bytes r n
    → BeginsRequest bytes s m → (r ≡ s) × (n ≡ m)
BeginsRequest-unique bytes r s n m a b =
    let heads = BeginsHead-unique bytes r.head s.head a.head_len b.head_len a.head b.head in
    let ends : n ≡ m =
    a.length_is ∙ ap₂ (λ len (parts : RequestParts). len + body_length parts) heads.1 heads.0 ∙ sym b.length_is in
    (same_requests r s heads.0 (a.body ∙ ap₂ (slice_range bytes) heads.1 ends ∙ sym b.body), ends)

-- what has a head isn't too long
pub IsTooLong-excludes : (bytes : List ℕ) (n : ℕ) → IsBlockEnd bytes n → ¬ (IsTooLong bytes)
IsTooLong-excludes bytes n b t = t.unended b.0 b.1.short b.1.ends

-- a head without fault has no fault
IsHead-sound : (block : List ℕ) (p : RequestParts) (fault : HeadFault) → IsHead block p → ¬ (HasFraming block fault)
IsHead-sound block p fault h f =
    let same = ReadsHead-unique block p f.0 h.reads f.1 in
    let none : framing_fault f.0 ≡ None = subst (λ q. framing_fault q ≡ None) same h.sound in
    none-some fault (sym none ∙ f.2)

IsHead-excludes : (block : List ℕ) (p : RequestParts) (fault : HeadFault) → IsHead block p → fault ≢ Memory
    → ¬ (IsHeadFault block fault)
IsHead-excludes block p Malformed h other f = f p h.reads
IsHead-excludes block p Host h other f = IsHead-sound block p Host h f
IsHead-excludes block p Coding h other f = IsHead-sound block p Coding h f
IsHead-excludes block p Length h other f = IsHead-sound block p Length h f
IsHead-excludes block p NoLength h other f = IsHead-sound block p NoLength h f
IsHead-excludes block p TooLarge h other f = IsHead-sound block p TooLarge h f
IsHead-excludes block p Memory h other f = other refl

-- bytes that begin with a head are not refused
pub IsRefused-excludes : (bytes : List ℕ) (p : RequestParts) (n : ℕ) (refusal : Refusal) → BeginsHead bytes p n
    → ¬ (IsRefused bytes refusal)
IsRefused-excludes bytes p n HeadTooLarge h r = IsTooLong-excludes bytes n h.block r
IsRefused-excludes bytes p n (Head fault) h r =
    let end = IsBlockEnd-unique bytes n r.0 h.block r.1 in
    let head = subst (λ k. IsHead (slice_range bytes (skipped_len bytes) k) p) end h.head in
    IsHead-excludes (slice_range bytes (skipped_len bytes) r.0) p fault head r.2 r.3

-- a fault of a block is that its grammar fails, or one of its framing
fault_cases : (block : List ℕ) (fault : HeadFault) → fault ≢ Memory → IsHeadFault block fault
    → ((fault ≡ Malformed) × IsMalformed block) ⊎ HasFraming block fault
fault_cases block Malformed other f = inl (refl, f)
fault_cases block Host other f = inr f
fault_cases block Coding other f = inr f
fault_cases block Length other f = inr f
fault_cases block NoLength other f = inr f
fault_cases block TooLarge other f = inr f
fault_cases block Memory other f = absurd (other refl)

one_fault : (block : List ℕ) (f g : HeadFault) → ((f ≡ Malformed) × IsMalformed block) ⊎ HasFraming block f
    → ((g ≡ Malformed) × IsMalformed block) ⊎ HasFraming block g → f ≡ g
one_fault block f g (inl a) (inl b) = a.0 ∙ sym b.0
one_fault block f g (inl a) (inr b) = absurd (a.1 b.0 b.1)
one_fault block f g (inr a) (inl b) = absurd (b.1 a.0 a.1)
one_fault block f g (inr a) (inr b) =
    let same = ReadsHead-unique block a.0 b.0 a.1 b.1 in
    same_Some f g (sym a.2 ∙ ap framing_fault same ∙ b.2)

-- a block has one fault, beside that of memory
pub IsHeadFault-unique : (block : List ℕ) (f g : HeadFault) → f ≢ Memory → g ≢ Memory → IsHeadFault block f
    → IsHeadFault block g → f ≡ g
IsHeadFault-unique block f g some other a b =
    one_fault block f g (fault_cases block f some a) (fault_cases block g other b)

-- bytes begin with one refusal
pub IsRefused-unique : (bytes : List ℕ) (r s : Refusal) → IsRefused bytes r → IsRefused bytes s → r ≡ s
IsRefused-unique bytes HeadTooLarge HeadTooLarge a b = refl
IsRefused-unique bytes HeadTooLarge (Head g) a b = absurd (IsTooLong-excludes bytes b.0 b.1 a)
IsRefused-unique bytes (Head f) HeadTooLarge a b = absurd (IsTooLong-excludes bytes a.0 a.1 b)
IsRefused-unique bytes (Head f) (Head g) a b =
    let end = IsBlockEnd-unique bytes a.0 b.0 a.1 b.1 in
    let fault = subst (λ n. IsHeadFault (slice_range bytes (skipped_len bytes) n) f) end a.3 in
    ap Head (IsHeadFault-unique (slice_range bytes (skipped_len bytes) b.0) f g a.2 b.2 fault b.3)

-- bytes ask for an interim response, or don't
pub Asks-unique : (bytes : List ℕ) (a b : Bool) → Asks bytes a → Asks bytes b → a ≡ b
Asks-unique bytes true true h k = refl
Asks-unique bytes false false h k = refl
Asks-unique bytes true false h k = sym h.3 ∙ k h.0 h.1 h.2
Asks-unique bytes false true h k = sym (h k.0 k.1 k.2) ∙ k.3

-- Bytes have one list of arrivals and one ending.
pub HasArrivals-unique : (bytes : List ℕ) (ps qs : List Arrival) (e f : Ending) → HasArrivals bytes ps e
    → HasArrivals bytes qs f → (ps ≡ qs) × (e ≡ f)
HasArrivals-unique bytes [] [] e f h k = (refl, h.3 ∙ ap Rest (Asks-unique bytes h.0 k.0 h.2 k.2) ∙ sym k.3)
HasArrivals-unique bytes [] (Refused s ∷ qs) e f h k = absurd (h.1.refused s k.0)
HasArrivals-unique bytes [] (Read s ∷ qs) e f h k = absurd (h.1.none s k.0 k.1)
HasArrivals-unique bytes (Refused r ∷ ps) [] e f h k = absurd (k.1.refused r h.0)
HasArrivals-unique bytes (Refused r ∷ ps) (Refused s ∷ qs) e f h k =
    (ap₂ (λ x (xs : List Arrival). Refused x ∷ xs) (IsRefused-unique bytes r s h.0 k.0) (h.1 ∙ sym k.1), h.2 ∙ sym k.2)
HasArrivals-unique bytes (Refused r ∷ ps) (Read s ∷ qs) e f h k =
    absurd (IsRefused-excludes bytes s.head k.1.head_len r k.1.head h.0)
HasArrivals-unique bytes (Read r ∷ ps) [] e f h k = absurd (k.1.none r h.0 h.1)
HasArrivals-unique bytes (Read r ∷ ps) (Refused s ∷ qs) e f h k =
    absurd (IsRefused-excludes bytes r.head h.1.head_len s h.1.head k.0)
HasArrivals-unique bytes (Read r ∷ ps) (Read s ∷ qs) e f h k =
    let same = BeginsRequest-unique bytes r s h.0 k.0 h.1 k.1 in
    let rest : (ps ≡ qs) × (e ≡ f) = elim (cases_Bool (closes r.head)) [
      | inl last ↦
          let other : closes s.head ≡ true = ap (λ (q : Request). closes q.head) (sym same.0) ∙ last in
          ((h.2 last).0 ∙ sym (k.2 other).0, (h.2 last).1 ∙ sym (k.2 other).1)
      | inr more ↦
          let other : closes s.head ≡ false = ap (λ (q : Request). closes q.head) (sym same.0) ∙ more in
          let after = subst (λ n. HasArrivals (drop n bytes) qs f) (sym same.1) (k.3 other) in
          HasArrivals-unique (drop h.0 bytes) ps qs e f (h.3 more) after
    ] in
    (ap₂ (λ x (xs : List Arrival). Read x ∷ xs) same.0 rest.0, rest.1)

nothing_more : (more : List ℕ) → length more ≡ 0 → more ≡ []
nothing_more [] e = refl
nothing_more (b ∷ more) e = absurd (omega (arith, e))

-- No spelling of a request is the front of another.
pub SpellsRequest-prefix_free : (bytes more : List ℕ) (r s : Request) → SpellsRequest bytes r
    → SpellsRequest (bytes ++ more) s → (more ≡ []) × (r ≡ s)
SpellsRequest-prefix_free bytes more r s a b =
    let same =
    BeginsRequest-unique (bytes ++ more) r s (length bytes) (length (bytes ++ more))
    (BeginsRequest-more bytes more r (length bytes) a) b in
    (nothing_more more (omega (arith, same.1, length-append bytes more)), same.0)
