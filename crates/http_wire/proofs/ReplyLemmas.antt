-- How a reply is read out of what the reader gave.
use Rattle.std.proofs.Common.{◌≡◌, ℕ, ◌+◌, ◌-◌, ◌<◌, ◌≤◌, true, false, List, [], ◌++◌, length, take, drop, Option, Ok}
use Rattle.std.proofs.Common.{Err, sym, ap, ◌∙◌, subst, inl, inr, arith, append_assoc, length-append}
use Rattle.std.proofs.KnownBytes.{Consumes-nil, Consumes-trans}
use Rattle.std.specs.Prelude.{slice_range}
use Rattle.std.specs.Io.KnownBytes.{Consumes}
use Rattle.std.proofs.Math.Seq.{take-append_seam}
use Rattle.std.proofs.lemmas.Grind.{common_steps}
use Rattle.std.proofs.lemmas.List.{append-nil}
use Rattle.http_wire.specs.declared.received.Received.{Received}
use Rattle.http_messages.specs.declared.refusal.ReplyFault.{ReplyFault}
use Rattle.http_messages.specs.declared.refusal.ReplyFault.TheVariants.{Cut, Malformed, NoLength, TooLarge, Read}
use Rattle.http_messages.specs.declared.refusal.ReplyFault.TheVariants.{ReadLimit, Memory}
use Rattle.http_messages.specs.declared.response.ResponseHead.{ResponseHead}
use Rattle.http_wire.specs.Received.{held_bytes, read_count}
use Rattle.http_messages.specs.Reply.{ReplyParts}
use Rattle.http_messages.specs.Block.{IsUnended}
use Rattle.http_messages.specs.ReplyFaults.{content_length, IsCutReply}
use Rattle.http_wire.specs.ReplyFaults.{HasGiven, IsReplyFailure}
use Rattle.http_messages.specs.ResponseBlock.{ShowsParts}
use Rattle.http_wire.specs.ReplyReading.{Takes, TakesHead, IsHeadFailure, IsContentFailure}
use Rattle.http_messages.specs.Response.{ResponseParts, BeginsResponseHead, BeginsInterims, BeginsReply}
use Rattle.http_messages.specs.Response.{DeclaresContent, GivesReply, is_interim}
use Rattle.http_messages.proofs.RefusedReply.{DeclaresContent-of, content_length-fault, IsLengthFault}
use Rattle.http_messages.proofs.RefusedReply.{IsCutReply-unended, IsCutReply-content}
use Rattle.http_messages.proofs.UniqueReply.{interims-push, BeginsInterims-more, BeginsResponseHead-more}
use Rattle.http_messages.proofs.UniqueReply.{BeginsReply-front}

-- ---- what was given, after a step

joined : (t h r x n : List ℕ) → h ++ r ≡ x ++ n → (t ++ x) ++ n ≡ (t ++ h) ++ r
joined t h r x n e = append_assoc t x n ∙ ap (λ l. t ++ l) (sym e) ∙ sym (append_assoc t h r)

drop-own : (t r : List ℕ) → drop (length t) (t ++ r) ≡ r
drop-own t r = grind (arith, common_steps)

drop-front : (f b h r : List ℕ) → drop (length f) ((f ++ b) ++ h) ++ r ≡ drop (length f) (((f ++ b) ++ h) ++ r)
drop-front f b h r = grind (arith, common_steps)

content-part : (f b c h : List ℕ)
    → c ≡ slice_range (((f ++ b) ++ c) ++ h) (length f + length b) (length ((f ++ b) ++ c))
content-part f b c h =
    let start : length f + length b ≡ length (f ++ b) = sym (length-append f b) in
    let size : length ((f ++ b) ++ c) - length (f ++ b) ≡ length c = grind (arith, common_steps) in
    let past : drop (length (f ++ b)) (((f ++ b) ++ c) ++ h) ≡ c ++ h =
    ap (drop (length (f ++ b))) (append_assoc (f ++ b) c h) ∙ drop-own (f ++ b) (c ++ h) in
    sym (ap (λ k. slice_range (((f ++ b) ++ c) ++ h) k (length ((f ++ b) ++ c))) start
    ∙ ap (λ n. take n (drop (length (f ++ b)) (((f ++ b) ++ c) ++ h))) size ∙ ap (take (length c)) past
    ∙ take-append_seam c h)

-- a reply that ends before the rest is given
GivesReply-front : (exact rest : List ℕ) (reply : ReplyParts) → BeginsReply (exact ++ rest) reply (length exact)
    → GivesReply (exact ++ rest) reply
GivesReply-front exact rest reply b = (
  length exact,
  subst (λ l. BeginsReply l reply (length l)) (sym (take-append_seam exact rest))
      (BeginsReply-front exact rest reply (length exact) (omega arith) b),
)

-- what was given is what was taken and what is held
record Given (first after : Option (List ℕ)) (r : Received) (taken : List ℕ) : Type 0 where
  given : Consumes first after (taken ++ held_bytes r)
  count : read_count r ≤ length (taken ++ held_bytes r)

Given-takes : (first mid after : Option (List ℕ)) (old new : Received) (taken text : List ℕ) → Given first mid old taken
    → Takes mid after old new text → Given first after new (taken ++ text)
Given-takes first mid after old new taken text g t =
    let whole = joined taken (held_bytes old) t.read text (held_bytes new) t.bytes in
    let size = ap length whole ∙ length-append (taken ++ held_bytes old) t.read in
    record {
      given = subst (Consumes first after) (sym whole)
          (Consumes-trans first mid after (taken ++ held_bytes old) t.read g.given t.given);
      count = omega (arith, size, t.count, g.count);
    }

-- interim responses stay where more is taken
interims-takes : (mid after : Option (List ℕ)) (old new : Received) (taken text : List ℕ) (n : ℕ)
    → BeginsInterims (taken ++ held_bytes old) n → Takes mid after old new text
    → BeginsInterims ((taken ++ text) ++ held_bytes new) n
interims-takes mid after old new taken text n h t =
    subst (λ l. BeginsInterims l n) (sym (joined taken (held_bytes old) t.read text (held_bytes new) t.bytes))
    (BeginsInterims-more (taken ++ held_bytes old) t.read n h)

-- Since the reader stood at `first` it gave interim responses, which were taken, and what is held.
pub record HasSkipped (first after : Option (List ℕ)) (r : Received) : Type 0 where
  pub taken : List ℕ
  pub given : Consumes first after (taken ++ held_bytes r)
  pub count : read_count r ≤ length (taken ++ held_bytes r)
  pub interims : BeginsInterims (taken ++ held_bytes r) (length taken)

-- at first nothing is skipped
pub HasSkipped-none : (a : Option (List ℕ)) (r : Received) → held_bytes r ≡ [] → read_count r ≡ 0 → HasSkipped a a r
HasSkipped-none a r empty count = record {
  taken = [];
  given = subst (Consumes a a) (sym empty) (Consumes-nil a);
  count = omega (arith, count);
  interims = BeginsInterims.none;
}

-- reads skip nothing
HasSkipped-more : (first mid after : Option (List ℕ)) (old new : Received) → HasSkipped first mid old
    → Takes mid after old new [] → HasSkipped first after new
HasSkipped-more first mid after old new s t =
    let g = Given-takes first mid after old new s.taken [] (record { given = s.given; count = s.count }) t in
    let same = append-nil s.taken in
    record {
      taken = s.taken;
      given = subst (λ l. Consumes first after (l ++ held_bytes new)) same g.given;
      count = subst (λ l. read_count new ≤ length (l ++ held_bytes new)) same g.count;
      interims =
          subst (λ l. BeginsInterims (l ++ held_bytes new) (length s.taken)) same
          (interims-takes mid after old new s.taken [] (length s.taken) s.interims t);
    }

-- ---- a head that was taken

-- the interim responses before it, the head, and what is held after it
record HeadAt (first after : Option (List ℕ)) (r : Received) (head : ResponseHead) : Type 0 where
  front : List ℕ
  block : List ℕ
  given : Given first after r (front ++ block)
  interims : BeginsInterims ((front ++ block) ++ held_bytes r) (length front)
  parts : ResponseParts
  begins : BeginsResponseHead (drop (length front) ((front ++ block) ++ held_bytes r)) parts (length block)
  shows : ShowsParts head parts

HeadAt-of : (first mid after : Option (List ℕ)) (old new : Received) (head : ResponseHead) → HasSkipped first mid old
    → TakesHead mid after old new head → HeadAt first after new head
HeadAt-of first mid after old new head s t = record {
  front = s.taken;
  block = t.block;
  given = Given-takes first mid after old new s.taken t.block (record { given = s.given; count = s.count }) t.takes;
  interims = interims-takes mid after old new s.taken t.block (length s.taken) s.interims t.takes;
  parts = t.parts;
  begins =
      let place : drop (length s.taken) ((s.taken ++ t.block) ++ held_bytes new) ≡ t.block ++ held_bytes new =
      ap (drop (length s.taken)) (append_assoc s.taken t.block (held_bytes new))
      ∙ drop-own s.taken (t.block ++ held_bytes new) in
      subst (λ l. BeginsResponseHead l t.parts (length t.block)) (sym place) t.begins;
  shows = t.shows;
}

-- an interim one is skipped
pub HasSkipped-head : (first mid after : Option (List ℕ)) (old new : Received) (head : ResponseHead)
    → HasSkipped first mid old → TakesHead mid after old new head → is_interim head.status ≡ true
    → HasSkipped first after new
HasSkipped-head first mid after old new head s t is =
    let h = HeadAt-of first mid after old new head s t in
    let own : is_interim h.parts.status ≡ true = ap is_interim (sym h.shows.status) ∙ is in
    record {
      taken = h.front ++ h.block;
      given = h.given.given;
      count = h.given.count;
      interims =
          subst (BeginsInterims ((h.front ++ h.block) ++ held_bytes new)) (sym (length-append h.front h.block))
          (interims-push _ (length h.front) (length h.block) h.parts h.interims h.begins own);
    }

-- ---- failures

skipped_arrival : (first after : Option (List ℕ)) (r : Received) (s : HasSkipped first after r)
    → drop (length s.taken) (s.taken ++ held_bytes r) ≡ held_bytes r
skipped_arrival first after r s = drop-own s.taken (held_bytes r)

-- as long as the head has no end, what was given is cut
cut_head : (first after : Option (List ℕ)) (r : Received) (s : HasSkipped first after r) → IsUnended (held_bytes r)
    → IsCutReply (s.taken ++ held_bytes r)
cut_head first after r s unended =
    IsCutReply-unended _ (length s.taken) s.interims (rw (skipped_arrival first after r s) unended)

-- no head was read
pub head_failure : (first mid after : Option (List ℕ)) (a b : ℕ) (old new : Received) (fault : ReplyFault)
    → HasSkipped first mid old → IsHeadFailure mid after a b old new fault → IsReplyFailure first after a b fault
head_failure first mid after a b old new Cut s f =
    let m = HasSkipped-more first mid after old new s f.1 in
    (f.0, f.3, (m.taken ++ held_bytes new, m.given, cut_head first after new m f.2))
head_failure first mid after a b old new Malformed s f =
    let m = HasSkipped-more first mid after old new s f.1 in (
      f.0,
      (
        m.taken ++ held_bytes new,
        m.given,
        (
          length m.taken,
          m.interims,
          inl (rw (skipped_arrival first after new m) f.2),
        ),
      ),
    )
head_failure first mid after a b old new NoLength s f = absurd f
head_failure first mid after a b old new TooLarge s f =
    let m = HasSkipped-more first mid after old new s f.1 in (
      f.0,
      (
        m.taken ++ held_bytes new,
        m.given,
        (
          length m.taken,
          m.interims,
          inl (rw (skipped_arrival first after new m) f.2),
        ),
      ),
    )
head_failure first mid after a b old new Read s f = f
head_failure first mid after a b old new ReadLimit s f =
    let m = HasSkipped-more first mid after old new s f.1 in
    (f.0, (m.taken ++ held_bytes new, m.given, (omega (arith, m.count, f.3), cut_head first after new m f.2)))
head_failure first mid after a b old new Memory s f = f.0

module _ (first mid after : Option (List ℕ)) (old new : Received) (head : ResponseHead) (s : HasSkipped first mid old)
    (t : TakesHead mid after old new head) (final : is_interim head.status ≡ false) where
  here : HeadAt first after new head
  here = HeadAt-of first mid after old new head s t

  here-final : is_interim here.parts.status ≡ false
  here-final = ap is_interim (sym here.shows.status) ∙ final

  -- the length of its content is refused
  by_fault : (a b : ℕ) (fault : ReplyFault) → b ≡ a → head.content_len ≡ Err fault → IsLengthFault fault
      → IsReplyFailure first after a b fault
  by_fault a b fault stands e (inl is) =
      subst (IsReplyFailure first after a b) (sym is) (
        stands,
        (
          (here.front ++ here.block) ++ held_bytes new,
          here.given.given,
          (
            length here.front,
            here.interims,
            inr (
              here.parts,
              length here.block,
              here.begins,
              here-final,
              sym here.shows.content_len ∙ e ∙ ap Err is,
            ),
          ),
        ),
      )
  by_fault a b fault stands e (inr (inl is)) =
      subst (IsReplyFailure first after a b) (sym is) (
        stands,
        (
          (here.front ++ here.block) ++ held_bytes new,
          here.given.given,
          (
            length here.front,
            here.interims,
            (
              here.parts,
              length here.block,
              here.begins,
              here-final,
              sym here.shows.content_len ∙ e ∙ ap Err is,
            ),
          ),
        ),
      )
  by_fault a b fault stands e (inr (inr is)) =
      subst (IsReplyFailure first after a b) (sym is) (
        stands,
        (
          (here.front ++ here.block) ++ held_bytes new,
          here.given.given,
          (
            length here.front,
            here.interims,
            inr (
              here.parts,
              length here.block,
              here.begins,
              here-final,
              sym here.shows.content_len ∙ e ∙ ap Err is,
            ),
          ),
        ),
      )

  pub length_failure : (a b : ℕ) (fault : ReplyFault) → b ≡ a → head.content_len ≡ Err fault
      → IsReplyFailure first after a b fault
  length_failure a b fault stands e =
      by_fault a b fault stands e (content_length-fault here.parts.fields fault (sym here.shows.content_len ∙ e))

  module _ (later : Option (List ℕ)) (last : Received) (len : ℕ) (declared : head.content_len ≡ Ok len) where
    -- what was taken after it
    after-head : (text : List ℕ) → Takes after later new last text
        → Given first later last ((here.front ++ here.block) ++ text)
    after-head text t2 = Given-takes first after later new last (here.front ++ here.block) text here.given t2

    all-bytes : List ℕ → List ℕ
    all-bytes text = ((here.front ++ here.block) ++ text) ++ held_bytes last

    after-interims : (text : List ℕ) → Takes after later new last text
        → BeginsInterims (all-bytes text) (length here.front)
    unfolding all-bytes
    after-interims text t2 =
        interims-takes after later new last (here.front ++ here.block) text (length here.front) here.interims t2

    after-begins : (text : List ℕ) → Takes after later new last text
        → BeginsResponseHead (drop (length here.front) (all-bytes text)) here.parts (length here.block)
    unfolding all-bytes
    after-begins text t2 =
        let whole = joined (here.front ++ here.block) (held_bytes new) t2.read text (held_bytes last) t2.bytes in
        let longer =
        BeginsResponseHead-more (drop (length here.front) ((here.front ++ here.block) ++ held_bytes new)) t2.read
        here.parts (length here.block) here.begins in
        let place : drop (length here.front) ((here.front ++ here.block) ++ held_bytes new) ++ t2.read
        ≡ drop (length here.front) (all-bytes text) =
        drop-front here.front here.block (held_bytes new) t2.read ∙ ap (drop (length here.front)) (sym whole) in
        subst (λ l. BeginsResponseHead l here.parts (length here.block)) place longer

    own-length : content_length here.parts.fields ≡ Ok len
    own-length = sym here.shows.content_len ∙ declared

    sizes : (text : List ℕ) → length (all-bytes text)
        ≡ length here.front + length here.block + length text + length (held_bytes last)
    unfolding all-bytes
    sizes text = simp length-append

    -- as long as some of it is missing, what was given is cut
    cut-content : (part : List ℕ) → Takes after later new last part → held_bytes last ≡ [] → length part < len
        → IsCutReply (all-bytes part)
    cut-content part t2 empty short =
        let none : length (held_bytes last) ≡ 0 = ap length empty in
        IsCutReply-content (all-bytes part) (length here.front) (after-interims part t2) here.parts (length here.block)
        len (after-begins part t2) here-final own-length (omega (arith, sizes part, none, short))

    -- its content wasn't read
    pub content_failure : (a b : ℕ) (fault : ReplyFault) → IsContentFailure after later a b new last len fault
        → IsReplyFailure first later a b fault
    unfolding all-bytes
    content_failure a b Cut f =
        let part = f.1.0 in
        (f.0, f.2, (all-bytes part, (after-head part f.1.1).given, cut-content part f.1.1 f.1.2 f.1.3))
    content_failure a b Malformed f = absurd f
    content_failure a b NoLength f = absurd f
    content_failure a b TooLarge f = absurd f
    content_failure a b Read f = f
    content_failure a b ReadLimit f =
        let part = f.1.0 in (
          f.0,
          (
            all-bytes part,
            (after-head part f.1.1).given,
            (omega (arith, (after-head part f.1.1).count, f.2), cut-content part f.1.1 f.1.2 f.1.3),
          ),
        )
    content_failure a b Memory f = f

    begins-reply : (content : List ℕ) → Takes after later new last content → length content ≡ len
        → BeginsReply (all-bytes content) (record { status = head.status; content = content; kind = head.kind })
        (length ((here.front ++ here.block) ++ content))
    unfolding all-bytes
    begins-reply content t2 size =
        let exact : length ((here.front ++ here.block) ++ content)
        ≡ length here.front + length here.block + length content = simp length-append in
        record {
          skipped = length here.front;
          interims = after-interims content t2;
          parts = here.parts;
          head_len = length here.block;
          head = after-begins content t2;
          declares =
              subst (DeclaresContent here.parts) (sym size) (DeclaresContent-of here.parts len here-final own-length);
          status = here.shows.status;
          kind = here.shows.kind;
          length_is = exact;
          whole = omega (arith, exact, sizes content);
          content = content-part here.front here.block content (held_bytes last);
        }

    -- its content was read
    pub reply_given : (content : List ℕ) → Takes after later new last content → length content ≡ len
        → HasGiven first later (λ bytes. GivesReply bytes
        (record { status = head.status; content = content; kind = head.kind }))
    unfolding all-bytes
    reply_given content t2 size = (
      all-bytes content,
      (after-head content t2).given,
      GivesReply-front ((here.front ++ here.block) ++ content) (held_bytes last)
          (record { status = head.status; content = content; kind = head.kind }) (begins-reply content t2 size),
    )
