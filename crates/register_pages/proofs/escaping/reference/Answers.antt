use Rattle.std.proofs.Common.{codes, sym, subst}
use Rattle.register_pages.specs.Reading.{Refers, less, greater, ampersand, quotation, apostrophe}
use Rattle.register_pages.proofs.escaping.reference.Goals as goal

pub returns-in-60 : goal.returns-in-60
returns-in-60 c = subst (Refers (codes "&lt;")) (sym c.in-60.is) less

pub returns-in-62 : goal.returns-in-62
returns-in-62 c = subst (Refers (codes "&gt;")) (sym c.in-62.is) greater

pub returns-in-38 : goal.returns-in-38
returns-in-38 c = subst (Refers (codes "&amp;")) (sym c.in-38.is) ampersand

pub returns-in-34 : goal.returns-in-34
returns-in-34 c = subst (Refers (codes "&quot;")) (sym c.in-34.is) quotation

pub returns-in-39 : goal.returns-in-39
returns-in-39 c = subst (Refers (codes "&#39;")) (sym c.in-39.is) apostrophe
