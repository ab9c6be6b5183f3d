use Rattle.std.proofs.Common.{◌∷◌, []}
use Rattle.std.specs.Prelude.{codes}
use Rattle.register_pages.specs.Pages.{Page}
use Rattle.register_pages.proofs.Adding.{writes_then}
use Rattle.register_pages.proofs.others.write_others.Goals as goal

pub returns : goal.returns
returns g c =
    writes_then _ _ _ _ _ _ (Page (codes "findings.html") ∷ []) (Page (codes "index.html") ∷ [])
    (c.put.ensures (codes "findings.html") c.from_str.ensures.ok)
    (c.put-2.ensures (codes "index.html") c.from_str-2.ensures.ok)
