-- Entries by their ids.
use Rattle.std.proofs.Common.{ℕ, suc, ◌<◌, List, [], ◌∷◌, arith}
use Rattle.std.specs.List.{AllByRecursion}
use Rattle.sqlite_trees.specs.Tree.{IsAscending}
use Rattle.filing_model.specs.Outbox.{Entry}
use Rattle.outbox_tables.specs.Entries.{numbered_from}

above : (id n : ℕ) (es : List Entry) → id < n → AllByRecursion (λ (x : ℕ × Entry). id < x.0) (numbered_from n es)
above id n [] low = tt
above id n (e ∷ es) low = (low, above id (suc n) es (omega arith))

pub rises : (n : ℕ) (es : List Entry) → IsAscending (λ (x y : ℕ × Entry). x.0 < y.0) (numbered_from n es)
rises n [] = tt
rises n (e ∷ es) = (above n (suc n) es (omega arith), rises (suc n) es)
