use Rattle.std.proofs.Common.{◌≡◌, None, sym, ap, ◌∙◌, option_map}
use Rattle.http_messages.specs.Request.{Request as Message}
use Rattle.filing_model.specs.Text.{route, bare, is_head, resource_of_path, route_by_resource}
use Rattle.gateway_requests.specs.Path.{view_path}
use Rattle.gateway_requests.specs.Route.{view_message}
use Rattle.gateway_requests.proofs.route.route_of.Goals as goal

-- a path that names no filings is told first
pub returns-in-None-clause-asked : goal.returns-in-None-clause-asked
unfolding route
returns-in-None-clause-asked c =
    let m : Message = view_message c.args.message.now in
    let none : resource_of_path m.head.path ≡ None =
    ap resource_of_path (sym c.path.ensures) ∙ sym c.read_path.ensures.value
    ∙ ap (option_map view_path) c.in-None.is in
    ap (λ named. bare (is_head m) (route_by_resource named m)) none
