use Rattle.std.proofs.Common.{◌≡◌, sym, subst, string_bytes}
use Rattle.std.proofs.lemmas.Slice.Eq.{bytes_eq-Decides}
use Rattle.lru.proofs.CallerLemmas.{Contains-lookup}
use Rattle.intake_core.specs.Cache.{IsNameOf}
use Rattle.intake_core.proofs.CacheLemmas.{AreKnownIn-promoted, if_some-known}
use Rattle.intake_core.proofs.cache.Cache.recall.Goals as goal

pub returns-clause-answer : goal.returns-clause-answer
returns-clause-answer c = λ old_style requests h named.
    let asked = c.args.request.now in
    let v = c.in_ok-get.field-0.now in
    let at = Contains-lookup _ c.args.self.now.answers.entries v (sym c.in_ok-get.ensures.value) in
    let same : c.args.name.now ≡ string_bytes at.0 = (bytes_eq-Decides c.args.name.now (string_bytes at.0)).0 at.2 in
    rw c.ok.ensures.value
    (if_some-known old_style requests asked v c.answer_to.result
    (h (at.0, v) at.1 asked.filer asked.key (subst (IsNameOf asked.filer asked.key) same named)) c.answer_to.ensures)

pub returns-clause-same : goal.returns-clause-same
returns-clause-same c = λ old_style requests. AreKnownIn-promoted _ old_style requests _ _ c.get.follows.holds-at-none

pub returns-in_err-get-clause-same : goal.returns-in_err-get-clause-same
returns-in_err-get-clause-same c =
    λ old_style requests. AreKnownIn-promoted _ old_style requests _ _ c.get.follows.holds-at-none
