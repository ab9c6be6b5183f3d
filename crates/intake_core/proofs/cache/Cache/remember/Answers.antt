use Rattle.std.proofs.Common.{sym, ap, ◌∙◌, subst, string_bytes}
use Rattle.filing_model.specs.Register.{Kept}
use Rattle.filing_model.specs.Style.{style_of}
use Rattle.intake_core.specs.Cache.{IsKeptIn}
use Rattle.intake_core.proofs.CacheLemmas.{AreKnownIn-put, IsKnownIn-named}
use Rattle.intake_core.proofs.cache.Cache.remember.Goals as goal

pub returns-in-Ok : goal.returns-in-Ok
returns-in-Ok c = λ old_style requests h named new styled.
    let asked = c.args.request.now in
    let r = c.in-Ok.remembered in
    let made = c.in-Ok.ensures in
    AreKnownIn-put old_style requests c.args.self.now.answers c.put.new.self c.args.name r c.put.result
    c.put.ensures.entries c.put.ensures.err h
    (IsKnownIn-named old_style requests asked.filer asked.key (string_bytes c.args.name) r named
    (subst (IsKeptIn requests) (sym made.0) new) (made.1 ∙ styled
    ∙ ap (λ (k : Kept). style_of old_style k.request) (sym made.0)))
