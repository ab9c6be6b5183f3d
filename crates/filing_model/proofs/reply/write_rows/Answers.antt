use Rattle.std.proofs.Common.{List, ◌++◌, ◌∷◌, ◌∙◌, ap, sym, refl, None}
use Rattle.std.specs.List.{flat_map}
use Rattle.std.proofs.lemmas.List.{take_all}
use Rattle.std.proofs.lemmas.Result.{on_ok_weaker}
use Rattle.json.specs.Token.{Token, begin_array}
use Rattle.json.specs.Tree.{json_tokens}
use Rattle.serde_json.specs.Data.{array}
use Rattle.serde_json.specs.View.{items_of}
use Rattle.serde_json.specs.Written.{outline}
use Rattle.filing_model.specs.Reply.{listing_data}
use Rattle.filing_model.specs.Views.{view_row}
use Rattle.filing_model.specs.declared.listing.FilingRow.{FilingRow}
use Rattle.filing_model.proofs.JsonTokens.{array_whole, item_next}
use Rattle.filing_model.proofs.ListTokens.{map_twice}
use Rattle.filing_model.proofs.reply.write_rows.Goals as goal

pub loop-row-init : goal.loop-row-init
loop-row-init c = record {
  more = c.in_ok-begin_array.ensures.ok;
  before = c.in_ok-begin_array.ensures.room.0;
}

pub loop-row-preserved : goal.loop-row-preserved
loop-row-preserved c =
    let wrote = c.in_ok-write_row.ensures in
    record {
      more = item_next (λ r. listing_data (view_row r)) c.args.rows.now c.loop-row.row-index _
          (record { number = 0; facts = 0; replaces = None; replaced_by = None }) c.args.writer.now.tokens
          c.loop-row.writer.tokens c.write_row.new.writer.tokens c.loop-row-test.true refl
          c.loop-row.invariant.more wrote.more;
      before = wrote.before ∙ c.loop-row.invariant.before;
    }

pub returns : goal.returns
returns c =
    let listed : FilingRow → List Token = λ r. json_tokens (outline (listing_data (view_row r))) in
    record {
      more = on_ok_weaker c.end_array.result (λ m. m
          ∙ ap (λ ls. c.args.writer.now.tokens ++ json_tokens (outline (array (items_of ls))))
          (sym (map_twice listing_data view_row c.args.rows.now)))
          (array_whole (λ r. listing_data (view_row r)) c.args.rows.now c.args.writer.now.tokens
          c.loop-row.writer.tokens c.end_array.new.self.tokens
          (c.loop-row.invariant.more
          ∙ ap (λ rs. c.args.writer.now.tokens ++ begin_array ∷ flat_map listed rs)
          (take_all c.loop-row.row-index c.args.rows.now c.loop-row-test.false))
          c.end_array.result c.end_array.ensures.ok);
      before = c.end_array.ensures.room.0 ∙ c.loop-row.invariant.before;
    }
