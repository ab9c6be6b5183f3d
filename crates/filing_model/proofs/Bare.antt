-- What a HEAD is answered.
use Rattle.std.proofs.Common.{◌≡◌, ℕ, true, List, [], Option, Some, None, refl, ap, ◌∙◌, subst}
use Rattle.std.specs.Prelude.{codes, bytes_eq}
use Rattle.http_messages.specs.Head.{closes}
use Rattle.http_messages.specs.Message.{Arrival}
use Rattle.http_messages.specs.Request.{Request as Message}
use Rattle.http_messages.specs.declared.reply.Kind.TheVariants.{Problem}
use Rattle.http_messages.specs.Reply.{render}
use Rattle.filing_model.specs.declared.served.Mark.{Mark}
use Rattle.filing_model.specs.declared.served.Mark.TheVariants.{Done, Unavailable, NotFiled}
use Rattle.filing_model.specs.Request.{Request}
use Rattle.filing_model.specs.Text.{Route, Reject, resource_of_path, route_by_method, route_by_resource, bare, is_head}
use Rattle.filing_model.specs.Text.{route, reply_on, reply_with, MarkFits, RouteFits, reply_text_with}

-- a route that tells a status by problem details, and no content
abbrev IsBare : Route → Type 0
IsBare to = (status : ℕ) × (to ≡ Reject (record { status = status; content = []; kind = Problem }))

module _ (m : Message) (head : m.head.method ≡ codes "HEAD") where
  by_method : (filer : List ℕ) (target : Option ℕ) → IsBare (bare true (route_by_method filer target m))
  by_method filer target = (405, rw head refl)

  by_resource : (resource : Option (List ℕ × Option ℕ)) → IsBare (bare true (route_by_resource resource m))
  by_resource None = (404, refl)
  by_resource (Some (filer, target)) = by_method filer target

  route-head : IsBare (route m)
  unfolding route
  route-head =
      let told = by_resource (resource_of_path m.head.path) in
      let is : is_head m ≡ true = ap (λ method. bytes_eq method (codes "HEAD")) head in
      (told.0, ap (λ b. bare b (route_by_resource (resource_of_path m.head.path) m)) is ∙ told.1)

  module _ (old_style requests : List Request) where
    pub reply-head : (reply_with old_style requests m).content ≡ []
    reply-head = ap (λ to. (reply_on old_style requests to).content) route-head.1

    pub kind-head : (reply_with old_style requests m).kind ≡ Problem
    kind-head = ap (λ to. (reply_on old_style requests to).kind) route-head.1

    reply-told : reply_with old_style requests m ≡ record {
      status = (reply_with old_style requests m).status;
      content =
          [];
      kind = Problem;
    }
    reply-told =
        λ i. record { status = (reply_with old_style requests m).status; content = reply-head i; kind = kind-head i }

    pub reply_text-head : (limit : ℕ) (mark : Mark) → MarkFits limit requests (Arrival.Read m) mark
        → reply_text_with old_style requests (Arrival.Read m) mark
        ≡ render (record { status = (reply_with old_style requests m).status; content = []; kind = Problem })
        (closes m.head)
    reply_text-head limit mark fit = by_mark mark (subst (λ to. RouteFits limit requests to mark) route-head.1 fit)
      where
        by_mark : (mark : Mark) → RouteFits limit requests
            (Reject (record { status = route-head.0; content = []; kind = Problem })) mark
            → reply_text_with old_style requests (Arrival.Read m) mark
            ≡ render (record { status = (reply_with old_style requests m).status; content = []; kind = Problem })
            (closes m.head)
        by_mark Done fits = absurd fits
        by_mark Unavailable fits = absurd fits
        by_mark NotFiled fits = ap (λ told. render told (closes m.head)) reply-told
