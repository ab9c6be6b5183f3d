use Rattle.std.proofs.Common.{◌∷◌, sym, ap, ◌∙◌, inr}
use Rattle.http_messages.specs.FieldsNamed.{values_left}
use Rattle.gateway_requests.proofs.route.only_key.Goals as goal

pub returns-in-Some-next : goal.returns-in-Some-next
returns-in-Some-next c =
    inr (
      c.in-Some.value.now,
      c.in-Some-next.field-0.now,
      values_left c.next-2.new.self,
      sym c.fields_named-values.ensures.values ∙ c.in-Some.ensures.steps
          ∙ ap (λ vs. c.in-Some.value.now ∷ vs) c.in-Some-next.ensures.steps,
    )
