use Rattle.std.proofs.Common.{◌≡◌, ℕ, List, Option, true, false, bytes_eq, codes, refl, sym, ap₂, ◌∙◌, ⊎_elim}
use Rattle.http_messages.specs.Coding.{has_content_coding}
use Rattle.http_messages.specs.Request.{Request as Message}
use Rattle.filing_model.specs.Reply.{word_reply}
use Rattle.filing_model.specs.Text.{Reject, route_by_method}
use Rattle.gateway_requests.specs.Route.{view_message}
use Rattle.gateway_requests.proofs.route.route_by_method.Goals as goal

-- of a POST and of a GET a content coding is told, whatever its key is
coded_get : (filer : List ℕ) (target : Option ℕ) (m : Message) → bytes_eq m.head.method (codes "POST") ≡ false
    → bytes_eq m.head.method (codes "GET") ≡ true → has_content_coding m.head ≡ true
    → Reject (word_reply 415 (codes "content-coding")) ≡ route_by_method filer target m
coded_get filer target m post get coded = rw (post, get, coded) refl

coded_post : (filer : List ℕ) (target : Option ℕ) (m : Message) → bytes_eq m.head.method (codes "POST") ≡ true
    → has_content_coding m.head ≡ true → Reject (word_reply 415 (codes "content-coding"))
    ≡ route_by_method filer target m
coded_post filer target m post coded = rw (post, coded) refl

pub returns-then-has_content_coding-clause-asked : goal.returns-then-has_content_coding-clause-asked
returns-then-has_content_coding-clause-asked c =
    let filer = c.args.named.filer.now in
    let m : Message = view_message c.args.message.now in
    let post : c.eq-is_post.result ≡ bytes_eq m.head.method (codes "POST") =
    c.eq-is_post.ensures ∙ ap₂ bytes_eq c.method.ensures c.as_slice.ensures in
    let get : c.eq-is_get.result ≡ bytes_eq m.head.method (codes "GET") =
    c.eq-is_get.ensures ∙ ap₂ bytes_eq c.method-2.ensures c.as_slice-2.ensures in
    let coded : has_content_coding m.head ≡ true = sym c.has_content_coding.ensures ∙ c.if-has_content_coding.true in
    ⊎_elim
    (λ (is : (c.eq-is_post.result ≡ false) × (c.eq-is_get.result ≡ true)). coded_get filer c.args.named.number m
    (sym post ∙ is.0) (sym get ∙ is.1) coded)
    (λ (is : c.eq-is_post.result ≡ true). coded_post filer c.args.named.number m (sym post ∙ is) coded)
    c.else-not-is_post.either
