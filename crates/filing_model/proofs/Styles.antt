-- Which style a filer's key is answered in.
use Rattle.std.proofs.Common.{◌≡◌, Bool, true, false, cond, List, refl}
use Rattle.std.specs.Prelude.{◌↔◌}
use Rattle.filing_model.specs.declared.served.Style.TheVariants.{Old, Problem}
use Rattle.filing_model.specs.Request.{Request, has_key}
use Rattle.filing_model.specs.Style.{style_of}

pub style-old : (old_style : List Request) (r : Request) → (style_of old_style r ≡ Old) ↔ (has_key old_style r ≡ true)
style-old old_style r = by_test (has_key old_style r)
  where
    by_test : (b : Bool) → (cond b Old Problem ≡ Old) ↔ (b ≡ true)
    by_test true = ((λ e. refl), (λ e. refl))
    by_test false = ((λ e. absurd (cc)), (λ e. absurd (cc)))
