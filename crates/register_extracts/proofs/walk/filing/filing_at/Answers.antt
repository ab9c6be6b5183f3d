use Rattle.std.proofs.Common.{◌≡◌, ℕ, List, Option, Some, None, refl, sym, ap, ap₂, subst, ◌∙◌}
use Rattle.std.specs.Prelude.{option_map}
use Rattle.xbrl_report.specs.FactRecord.{FactRecord}
use Rattle.xbrl_report.specs.ReportParts.{facts}
use Rattle.filing_model.specs.Register.{kept, register}
use Rattle.filing_model.proofs.Keeping.{register_numbered}
use Rattle.register_rows.specs.Catalogue.{Entry, entry_numbered, view_line}
use Rattle.register_store.specs.Found.{IsPlaced}
use Rattle.register_store.specs.Moments.{milliseconds_of, moment_in}
use Rattle.register_extracts.proofs.Numbers.{its_moment}
use Rattle.register_store.proofs.CatalogueLemmas.{entry, filing_absent, filing_there, line_told}
use Rattle.register_extracts.specs.Filings.{FilingParts}
use Rattle.register_extracts.specs.Sent.{SentParts, sent_of}
use Rattle.register_extracts.proofs.walk.filing.filing_at.Goals as goal

pub returns-in_default-clause-found : goal.returns-in_default-clause-found
returns-in_default-clause-found g c clean old_style F was moments one_each dated is =
    let n = c.args.number in
    let none =
    line_told F n None (ap (option_map (λ l. view_line l.now)) (sym c.in_default.is) ∙ c.line.ensures
    ∙ ap (λ es. entry_numbered es n) is) in
    rw (filing_absent 1 n (kept F) none) refl

pub returns-in-Valid-clause-found : goal.returns-in-Valid-clause-found
returns-in-Valid-clause-found g c clean old_style F was moments one_each dated is =
    let n = c.args.number in
    let its =
    line_told F n (Some (view_line c.in-Some.line.now)) (ap (option_map (λ l. view_line l.now)) (sym c.in-Some.is)
    ∙ c.line.ensures ∙ ap (λ es. entry_numbered es n) is) in
    let there = filing_there 1 1 its.seq n (kept F) its.k (register_numbered F) its.placed its.number_is in
    let seq : c.seq.result ≡ its.seq = c.seq.ensures ∙ ap (λ (e : Entry). e.seq) its.is in
    let told_at =
    c.in_ok-sent.ensures.found clean old_style F was moments one_each dated its.k
    (subst (λ s. IsPlaced 1 s (kept F) its.k) (sym seq) its.placed) in
    let parts = c.sent.view_is ∙ told_at.0 in
    let moment = told_at.1 ∙ ap (moment_in moments) seq
    ∙ sym (its_moment F moments its.seq n its.k its.placed its.number_is) in
    let body = c.deref.ensures.value ∙ ap (λ (s : SentParts). s.body) parts in
    let facts_are = (rw c.in-Valid.is at c.in_ok-report.ensures.facts) ∙ ap facts body in
    let told : SentParts → Entry → Option ℕ → List FactRecord → Option FilingParts
    = λ s e m fs. Some (record {
      number = n;
      filer = s.filer;
      key = s.key;
      replaces = e.replaces;
      replaced_by = e.replaced_by;
      received = m;
      body = s.body;
      facts = fs;
    }) in
    let line = entry (register F) its.seq its.k n in
    rw (c.replaces.ensures, c.replaced_by.ensures, there)
    (ap₂ (λ s e. told s e (milliseconds_of c.in_ok-sent.field-0.received) c.in-Valid.report.facts) parts its.is
    ∙ ap₂ (told (sent_of its.k.request) line) moment facts_are)
