-- Each status that is answered has a phrase.
use Rattle.std.proofs.Common.{◌≡◌, Bool, true, false, List, [], ◌∷◌, refl, sym, subst, ⊎_elim, Result, Ok, Err}
use Rattle.std.specs.Prelude.{IsSome, IfOk, nat_eq}
use Rattle.std.proofs.lemmas.Bool.{cases_Bool}
use Rattle.http_messages.specs.declared.head.HeadFault.{HeadFault}
use Rattle.http_messages.specs.declared.head.HeadFault.TheVariants.{Malformed, Host, Coding, Length, NoLength, TooLarge}
use Rattle.http_messages.specs.declared.head.HeadFault.TheVariants.{Memory}
use Rattle.http_messages.specs.declared.refusal.Refusal.{Refusal}
use Rattle.http_messages.specs.declared.refusal.Refusal.TheVariants.{HeadTooLarge, Head}
use Rattle.http_messages.specs.declared.reply.Reply.{Reply}
use Rattle.http_messages.specs.Replies.{reply_parts}
use Rattle.http_messages.specs.Reply.{ReplyParts, phrase}
use Rattle.xbrl_report.specs.CodeNumber.{number_of}
use Rattle.xbrl_report.specs.Pair.{Pair}
use Rattle.filing_model.specs.declared.served.Style.{Style}
use Rattle.filing_model.specs.Answer.{Answer, Registered, Refused, KeyReused}
use Rattle.filing_model.specs.Listing.{Listing}
use Rattle.filing_model.specs.Reply.{reply_as, list_reply, refused_status, unavailable}
use Rattle.filing_model.specs.Text.{fault_reply, refusal_reply}
use Rattle.gateway_requests.specs.declared.route.Rejection.{Rejection}
use Rattle.gateway_requests.specs.declared.route.Rejection.TheVariants.{NoPath, NoMethod, ContentCoding, KeyMissing}
use Rattle.gateway_requests.specs.declared.route.Rejection.TheVariants.{KeyBad}
use Rattle.gateway_server.specs.Decided.{rejection_reply}
use Rattle.gateway_requests.specs.Route.{rejection_status}

abbrev pub HasPhrase : ReplyParts → Type 0
HasPhrase reply = IsSome (phrase reply.status)

refused_phrase : (findings : List Pair) → IsSome (phrase (refused_status findings))
unfolding phrase
refused_phrase [] = refl
refused_phrase (f ∷ fs) = ⊎_elim
    (λ (h : nat_eq (number_of f.code) 1 ≡ true). rw h refl)
    (λ (h : nat_eq (number_of f.code) 1 ≡ false). rw h refl)
    (cases_Bool (nat_eq (number_of f.code) 1))

pub phrase-reply_as : (style : Style) (a : Answer) → HasPhrase (reply_as style a)
unfolding reply_as phrase
phrase-reply_as style (Registered n repeat) = refl
phrase-reply_as style (Refused findings repeat) = refused_phrase findings
phrase-reply_as style KeyReused = refl

pub phrase-list_reply : (ls : List Listing) → HasPhrase (list_reply ls)
unfolding list_reply phrase
phrase-list_reply ls = refl

phrase-rejection_status : (why : Rejection) → IsSome (phrase (rejection_status why))
unfolding phrase
phrase-rejection_status NoPath = refl
phrase-rejection_status NoMethod = refl
phrase-rejection_status ContentCoding = refl
phrase-rejection_status KeyMissing = refl
phrase-rejection_status KeyBad = refl

pub phrase-rejection_reply : (why : Rejection) (is_bare : Bool) → HasPhrase (rejection_reply why is_bare)
phrase-rejection_reply why true = phrase-rejection_status why
phrase-rejection_reply why false = phrase-rejection_status why

-- a reply with these parts has a phrase
pub phrase-parts : (E : Type 0) (r : Result Reply E) (parts : ReplyParts) → HasPhrase parts
    → IfOk r (λ reply. reply_parts reply ≡ parts) → IfOk r (λ reply. IsSome (phrase reply.status))
phrase-parts E (Ok reply) parts has same = subst HasPhrase (sym same) has
phrase-parts E (Err e) parts has same = tt

pub phrase-unavailable : HasPhrase unavailable
unfolding phrase
phrase-unavailable = refl

phrase-fault_reply : (fault : HeadFault) → HasPhrase (fault_reply fault)
unfolding phrase
phrase-fault_reply Malformed = refl
phrase-fault_reply Host = refl
phrase-fault_reply Coding = refl
phrase-fault_reply Length = refl
phrase-fault_reply NoLength = refl
phrase-fault_reply TooLarge = refl
phrase-fault_reply Memory = refl

pub phrase-refusal_reply : (refusal : Refusal) → HasPhrase (refusal_reply refusal)
unfolding phrase
phrase-refusal_reply HeadTooLarge = refl
phrase-refusal_reply (Head fault) = phrase-fault_reply fault
