use Rattle.std.proofs.Common.{rules, ◌≡◌, ◌++◌, ◌∷◌, [], ◌∙◌, sym, ap, append_assoc}
use Rattle.std.proofs.lemmas.List.{append-nil, nil_from_length}
use Rattle.schedule.proofs.server.append_completed.Goals as goal

pub loop-request-init : goal.loop-request-init
loop-request-init c = λ arrivals ending begins few.
    ap (λ l. c.args.done.now.items ++ l) (c.into_iter-request-iterator.ensures.into_iter_gives.0
    ∙ c.in_ok-request-items.ensures.first arrivals ending begins few)

pub loop-request-preserved : goal.loop-request-preserved
loop-request-preserved c = λ arrivals ending begins few.
    let done = c.loop-request.done.items in
    let request = c.in-Some.request in
    let rest = c.next.new.self.rest.items in
    let pushed : c.push_reserved.new.self.items ≡ done ++ request ∷ [] =
    rw c.reserve.ensures.items at c.push_reserved.ensures.items in
    let stepped : c.loop-request.request-iterator.rest.items ≡ request ∷ rest = search rules in
    ap (λ l. l ++ rest) pushed ∙ append_assoc done (request ∷ []) rest ∙ ap (λ l. done ++ l) (sym stepped)
    ∙ c.loop-request.invariant arrivals ending begins few

pub returns : goal.returns
returns c = λ arrivals ending begins few.
    let left = c.loop-request.request-iterator.rest.items in
    let none : left ≡ [] = nil_from_length left (search rules) in
    sym (append-nil _) ∙ ap (λ l. c.loop-request.done.items ++ l) (sym none)
    ∙ c.loop-request.invariant arrivals ending begins few
