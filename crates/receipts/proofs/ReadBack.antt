-- The request of an entry, as an intake reads it.
use Rattle.std.proofs.Common.{◌≡◌, ℕ, List, [], ◌∷◌, ◌++◌, length, refl, sym, ap, ◌∙◌, subst, true≢false}
use Rattle.http_messages.specs.Message.{Arrival, Read, Ending, Closed, HasArrivals}
use Rattle.filing_model.specs.Outbox.{bytes_of, IsSendable}
use Rattle.filing_model.specs.Request.{Request}
use Rattle.filing_model.specs.Text.{completed, requests_of_route}
use Rattle.filing_model.specs.declared.served.Mark.TheVariants.{Done}
use Rattle.filing_world.proofs.Posting.{posted}

module _ (r : Request) (sendable : IsSendable r) where
  -- its bytes are one message, after which the connection closes
  arrives : HasArrivals (bytes_of r) (Read (posted r sendable).message ∷ []) Closed
  arrives =
      let is = posted r sendable in
      (length (bytes_of r), is.spells, λ _. (refl, refl), λ stays. absurd (true≢false (sym is.closes' ∙ stays)))

  -- what is completed by it is this request
  pub read_back : (bytes : List ℕ) (list : List Request) → bytes ≡ bytes_of r
      → ((arrivals : List Arrival) (ending : Ending) → HasArrivals bytes arrivals ending
      → list ≡ completed arrivals (Done ∷ [])) → list ≡ r ∷ []
  unfolding completed
  read_back bytes list same all =
      let is = posted r sendable in
      all (Read is.message ∷ []) Closed (subst (λ b. HasArrivals b (Read is.message ∷ []) Closed) (sym same) arrives)
      ∙ ap (λ to. requests_of_route to Done ++ []) is.alone.filed
