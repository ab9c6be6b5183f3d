-- A filer's request on the wire: whole it is the message that it was made from, and cut it is nothing.
use Rattle.std.proofs.Common.{◌≡◌, ℕ, ◌≤◌, true, false, List, [], ◌∷◌, length, take, refl, Option}
use Rattle.std.specs.Prelude.{codes}
use Rattle.httparse.specs.Grammar.{trim_ows}
use Rattle.key_string.specs.Filer.{is_filer}
use Rattle.key_string.specs.Key.{spelling, IsKey}
use Rattle.http_messages.specs.Coding.{has_content_coding}
use Rattle.http_messages.specs.Head.{values_named, closes, max_body_len}
use Rattle.http_messages.specs.Message.{SpellsRequest, Arrival, Ending, HasArrivals, awaits}
use Rattle.http_messages.specs.Posting.{IsTarget, resource_of, render_post, render_post_head, post_parts, post_request}
use Rattle.http_messages.specs.Posting.{HoldsAlone}
use Rattle.http_messages.proofs.AloneLemmas.{SpellsRequest-of_block, HoldsAlone-of_front}
use Rattle.http_messages.proofs.PostLemmas.{IsResource, IsResource-of}
use Rattle.http_messages.proofs.PostHead.{post_head-block, post_head-is, post_parts-body_length}

module _ (resource key : List ℕ) (len : ℕ) where
  -- no interim response is asked for, and the connection closes
  pub post_parts-silent : awaits (post_parts resource key len) ≡ false
  post_parts-silent = refl

  pub post_parts-closes : closes (post_parts resource key len) ≡ true
  unfolding trim_ows
  post_parts-closes = refl

  -- it has this one key and no coding
  pub post_parts-key : values_named (codes "idempotency-key") (post_parts resource key len).fields ≡ spelling key ∷ []
  post_parts-key = refl

  pub post_parts-uncoded : has_content_coding (post_parts resource key len) ≡ false
  post_parts-uncoded = refl

module _ (filer : List ℕ) (target : Option ℕ) (key body : List ℕ) (filer_is : is_filer filer ≡ true)
    (target_is : IsTarget target) (key_is : IsKey key) (fits : length body ≤ max_body_len) where
  abbrev resource : List ℕ
  resource = resource_of filer target

  resource_is : IsResource resource
  resource_is = IsResource-of filer target filer_is target_is

  -- the bytes are the request
  pub post-spells : SpellsRequest (render_post filer target key body) (post_request filer target key body)
  unfolding render_post
  post-spells =
      SpellsRequest-of_block (render_post_head resource key (length body)) (post_parts resource key (length body)) body
      (post_head-block resource key (length body) resource_is key_is fits)
      (post_head-is resource key (length body) resource_is key_is fits)
      (post_parts-body_length resource key (length body) resource_is key_is fits)

  -- their front is nothing, or all of it
  pub post-alone : (n : ℕ) (arrivals : List Arrival) (ending : Ending)
      → HasArrivals (take n (render_post filer target key body)) arrivals ending
      → HoldsAlone (post_request filer target key body) arrivals ending
  unfolding render_post
  post-alone n arrivals ending h =
      HoldsAlone-of_front (render_post_head resource key (length body)) (post_parts resource key (length body)) body
      (post_head-block resource key (length body) resource_is key_is fits)
      (post_head-is resource key (length body) resource_is key_is fits)
      (post_parts-body_length resource key (length body) resource_is key_is fits)
      n arrivals ending (post_parts-silent resource key (length body)) (post_parts-closes resource key (length body)) h
