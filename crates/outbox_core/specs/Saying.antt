-- What a reply says of an entry that is settled; own rules.
use Rattle.std.specs.Prelude.{◌≡◌, ◌≢◌}
use Rattle.http_messages.specs.Reply.{ReplyParts}
use Rattle.filing_model.specs.Outbox.{State, Open, moved}
use Rattle.filing_model.specs.Views.{view_state}
use Rattle.outbox_core.specs.declared.state.Said.{Said}
use Rattle.outbox_core.specs.declared.state.Said.TheVariants.{Nothing, Same, Otherwise}

-- By what it would make of an open entry: nothing, what this one is settled as, or something else.
abbrev pub Says : State → ReplyParts → Said → Type 0
Says settled reply Nothing = moved Open reply ≡ Open
Says settled reply Same = (moved Open reply ≡ settled) × (settled ≢ Open)
Says settled reply (Otherwise told) =
    (moved Open reply ≡ view_state told) × (view_state told ≢ settled) × (view_state told ≢ Open)
