use Rattle.std.proofs.Common.{◌≡◌, ◌+◌, ap, length, subst, ◌∙◌, arith}
use Rattle.std.specs.Prelude.{IfOk, string_bytes}
use Rattle.register_extracts.specs.Filings.{FilingParts}
use Rattle.register_pages.specs.Pages.{Writes, filing_page, numbered, pages_for}
use Rattle.register_pages.proofs.Adding.{page_added}
use Rattle.register_pages.proofs.filing.write_facts.Goals as goal

pub loop-at-preserved : goal.loop-at-preserved
loop-at-preserved g c =
    let page = filing_page c.args.filing.now.number in
    let next = c.loop-at.at + 1 in
    let number : c.filing.inside.number ≡ c.args.filing.now.number =
    ap (λ (f : FilingParts). f.number) c.filing.view_is in
    page_added _ _ _ _ _ _ page c.loop-at.at c.loop-at.invariant (c.put.ensures (page next)
    (subst (λ n. IfOk c.of_filing.result (λ text. string_bytes text ≡ filing_page n next)) number
    c.of_filing.ensures))

pub returns : goal.returns
returns g c =
    let all : c.loop-at.at ≡ c.pages_for-pages.result = omega arith in
    subst (λ n. Writes c.args.missed.now c.loop-at.missed (g.F.Folder.pages c.args.folder.now)
    (g.F.Folder.pages c.loop-at.folder) (numbered (filing_page c.args.filing.now.number) n))
    (all ∙ c.pages_for-pages.ensures ∙ ap (λ fs. pages_for 1000 (length fs)) c.facts-rest.ensures) c.loop-at.invariant
