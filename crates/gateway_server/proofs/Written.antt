-- The texts that go out on a connection.
use Rattle.std.proofs.Common.{◌≡◌, ℕ, ◌≤◌, Bool, true, false, List, [], ◌∷◌, ◌++◌, length, take, Option, Some, None}
use Rattle.std.proofs.Common.{Result, Ok, Err, IfOk, refl, sym, ap, ◌∙◌, subst, append_assoc, inl, inr}
use Rattle.std.proofs.KnownBytes.{Appends-nil, Appends-trans}
use Rattle.std.proofs.lemmas.List.{append-nil}
use Rattle.std.proofs.lemmas.List.Elements.{All-nil, All-cons, All-append}
use Rattle.std.proofs.lemmas.List.Folds.{concat-append}
use Rattle.std.specs.declared.alloc.AllocError.{AllocError}
use Rattle.std.specs.List.{concat}
use Rattle.std.specs.Io.KnownBytes.{Appends}
use Rattle.http_messages.specs.declared.refusal.ConnFault.{ConnFault}
use Rattle.http_messages.specs.declared.refusal.ConnFault.TheVariants.{Write, ReadLimit, Memory}
use Rattle.http_messages.specs.declared.refusal.ConnFault.TheVariants as fault
use Rattle.http_messages.specs.declared.reply.Reply.{Reply}
use Rattle.http_messages.specs.Message.{interim}
use Rattle.http_messages.specs.Replies.{reply_parts}
use Rattle.http_messages.specs.Reply.{render}
use Rattle.http_wire.specs.Calls.{interim_if, WritesAsked, WritesUpTo}
use Rattle.filing_model.specs.declared.served.Ended.{Ended}
use Rattle.filing_model.specs.declared.served.Ended.TheVariants.{Closed, InputEnded, Fault}
use Rattle.gateway_server.specs.declared.serving.Turn.{Turn}
use Rattle.gateway_server.specs.declared.serving.Turn.TheVariants.{On, Stopped, Ended as Ends}
use Rattle.gateway_server.specs.Stopping.{Replies, end_of}
use Rattle.gateway_server.specs.Written.{IsText, IsPart, WritesTexts}

-- nothing went out
pub WritesTexts-none : (before after : Option (List ℕ)) (ended : Option Ended) → IsPart ended []
    → Appends before after [] → WritesTexts before after ended
WritesTexts-none before after ended no_part w =
    record { texts = []; are_texts = All-nil IsText; part = []; is_part = no_part; wrote = w }

-- the connection is as it was
pub WritesTexts-same : (written : Option (List ℕ)) (ended : Option Ended) → IsPart ended []
    → WritesTexts written written ended
WritesTexts-same written ended no_part = WritesTexts-none written written ended no_part (Appends-nil written)

-- a whole text went out
WritesTexts-whole : (before after : Option (List ℕ)) (ended : Option Ended) (text : List ℕ) → IsPart ended []
    → IsText text → Appends before after text → WritesTexts before after ended
WritesTexts-whole before after ended text no_part is w = record {
  texts = text ∷ [];
  are_texts = All-cons IsText text [] is (All-nil IsText);
  part = [];
  is_part = no_part;
  wrote = subst (Appends before after) (sym (append-nil (text ++ []) ∙ append-nil text)) w;
}

-- a write failed within a text
WritesTexts-part : (before after : Option (List ℕ)) (sent : ℕ) (text : List ℕ) → IsText text → sent ≤ length text
    → Appends before after (take sent text) → WritesTexts before after (Some (Fault (Write sent)))
WritesTexts-part before after sent text is within w =
    record {
      texts = [];
      are_texts = All-nil IsText;
      part = take sent text;
      is_part = (text, is, within, refl);
      wrote =
          w;
    }

-- more went out after whole texts
pub WritesTexts-join : (before mid after : Option (List ℕ)) (ended : Option Ended) → WritesTexts before mid None
    → WritesTexts mid after ended → WritesTexts before after ended
WritesTexts-join before mid after ended first more = record {
  texts = first.texts ++ more.texts;
  are_texts = All-append IsText first.texts more.texts first.are_texts more.are_texts;
  part = more.part;
  is_part = more.is_part;
  wrote = subst (Appends before after) joined (Appends-trans before mid after (concat first.texts ++ first.part)
      (concat more.texts ++ more.part) first.wrote more.wrote);
}
  where
    joined : (concat first.texts ++ first.part) ++ (concat more.texts ++ more.part) ≡ concat (first.texts ++ more.texts)
        ++ more.part
    joined =
        ap (λ part. (concat first.texts ++ part) ++ (concat more.texts ++ more.part)) first.is_part
        ∙ ap (λ front. front ++ (concat more.texts ++ more.part)) (append-nil (concat first.texts))
        ∙ sym (append_assoc (concat first.texts) (concat more.texts) more.part)
        ∙ ap (λ all. all ++ more.part) (sym (concat-append first.texts more.texts))

-- ---- the interim response

pub WritesTexts-interim : (before after : Option (List ℕ)) (ended : Option Ended) (asks : Bool) → IsPart ended []
    → Appends before after (interim_if asks) → WritesTexts before after ended
WritesTexts-interim before after ended true no_part w =
    WritesTexts-whole before after ended interim no_part (inl refl) w
WritesTexts-interim before after ended false no_part w = WritesTexts-none before after ended no_part w

pub WritesTexts-asked : (before after : Option (List ℕ)) (bytes : List ℕ) (ended : Option Ended) → IsPart ended []
    → WritesAsked before after bytes → WritesTexts before after ended
WritesTexts-asked before after bytes ended no_part (text, (asks, asked, is), w) =
    WritesTexts-interim before after ended asks no_part (subst (Appends before after) is w)

-- reading on failed
pub WritesTexts-fault : (before after : Option (List ℕ)) (bytes : List ℕ) (f : ConnFault)
    → WritesUpTo before after bytes f → WritesTexts before after (Some (Fault f))
WritesTexts-fault before after bytes fault.Read w =
    WritesTexts-asked before after bytes (Some (Fault fault.Read)) refl w
WritesTexts-fault before after bytes (Write sent) w = WritesTexts-part before after sent interim (inl refl) w.1 w.2
WritesTexts-fault before after bytes ReadLimit w = WritesTexts-asked before after bytes (Some (Fault ReadLimit)) refl w
WritesTexts-fault before after bytes Memory (inl w) = WritesTexts-asked before after bytes (Some (Fault Memory)) refl w
WritesTexts-fault before after bytes Memory (inr w) = WritesTexts-none before after (Some (Fault Memory)) refl w

-- ---- a reply

WritesTexts-replies : (before after : Option (List ℕ)) (text : List ℕ) (close : Bool) (turn : Turn) → IsText text
    → Replies before after text close turn → WritesTexts before after (end_of turn)
WritesTexts-replies before after text close On is r = WritesTexts-whole before after None text refl is r.0
WritesTexts-replies before after text close Stopped is r =
    subst (λ to. WritesTexts before to None) (sym r) (WritesTexts-same before None refl)
WritesTexts-replies before after text close (Ends Closed) is r =
    WritesTexts-whole before after (Some Closed) text refl is r.0
WritesTexts-replies before after text close (Ends InputEnded) is r = absurd r
WritesTexts-replies before after text close (Ends (Fault fault.Read)) is r = absurd r
WritesTexts-replies before after text close (Ends (Fault (Write sent))) is r =
    WritesTexts-part before after sent text is r.0 r.1
WritesTexts-replies before after text close (Ends (Fault ReadLimit)) is r = absurd r
WritesTexts-replies before after text close (Ends (Fault Memory)) is r =
    WritesTexts-none before after (Some (Fault Memory)) refl r

-- the reply that was decided, if there was memory for one
pub WritesTexts-reply : (before after : Option (List ℕ)) (reply : Result Reply AllocError) (close : Bool) (turn : Turn)
    → ((text : List ℕ) → IfOk reply (λ r. render (reply_parts r) close ≡ text) → Replies before after text close turn)
    → WritesTexts before after (end_of turn)
WritesTexts-reply before after (Ok reply) close turn replies =
    WritesTexts-replies before after (render (reply_parts reply) close) close turn
    (inr (reply_parts reply, close, refl)) (replies (render (reply_parts reply) close) refl)
WritesTexts-reply before after (Err refused) close turn replies =
    WritesTexts-replies before after interim close turn (inl refl) (replies interim tt)
