use Rattle.std.proofs.Common.{sym, ap, ◌∙◌}
use Rattle.std.specs.Prelude.{option_map}
use Rattle.filing_model.specs.Listing.{listing}
use Rattle.filing_model.specs.Register.{register}
use Rattle.register_store.proofs.CatalogueLemmas.{filing_told}
use Rattle.register_store.proofs.select.catalogued.row_at.Goals as goal

pub returns : goal.returns
returns c F k is placed =
    let number = sym (c.number_at.ensures F k is placed) ∙ c.in_ok-number_at.was in
    c.row_of.ensures F is ∙ ap (option_map (listing (register F)))
    (filing_told F c.in_ok-number_at.field-0 c.args.place k placed number)
