use Rattle.std.proofs.Common.{◌∷◌, [], ◌++◌, ap, sym, ◌∙◌}
use Rattle.std.proofs.lemmas.Result.{on_ok_weaker}
use Rattle.register_pages.specs.Visible.{symbol}
use Rattle.register_pages.proofs.ReadingLemmas.{reads_reference, reads_character}
use Rattle.register_pages.proofs.VisibleLemmas.{reads_symbol, shown_as_it_is, shown_as_symbol}
use Rattle.register_pages.proofs.escaping.append_byte.Goals as goal

pub returns-in-Some : goal.returns-in-Some
returns-in-Some c =
    rw (shown_as_symbol c.args.byte c.in-Some.ensures.0) (on_ok_weaker c.append_symbol.result (λ is. (
      symbol c.args.byte,
      reads_symbol c.args.byte,
      is ∙ ap (λ l. c.args.written.now.items ++ l)
          (sym c.in-Some.ensures.1),
    )) c.append_symbol.ensures)

pub returns-in_ok-extend_from_slice-in-Some-reference : goal.returns-in_ok-extend_from_slice-in-Some-reference
returns-in_ok-extend_from_slice-in-Some-reference c =
    rw (shown_as_it_is c.args.byte c.in_default.ensures) (
      c.in-Some-reference.name.now,
      reads_reference _ _ c.in-Some-reference.ensures,
      c.in_ok-extend_from_slice-in-Some-reference.ensures.items
          ∙ ap (λ l. c.args.written.now.items ++ l) c.as_bytes.ensures.value,
    )

pub returns-in_ok-push-in-None : goal.returns-in_ok-push-in-None
returns-in_ok-push-in-None c =
    rw (shown_as_it_is c.args.byte c.in_default.ensures)
    (c.args.byte ∷ [], reads_character _ c.in-None.ensures, c.in_ok-push-in-None.ensures.items)
