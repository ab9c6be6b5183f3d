-- A register of which several requests were being decided with one commit; own rules.
use Rattle.std.specs.Prelude.{◌≡◌, ℕ, List, [], ◌∷◌, ◌++◌, map}
use Rattle.sqlite_disk.specs.declared.Disk.{Ghosts}
use Rattle.sqlite_disk.specs.declared.Files.{Files}
use Rattle.filing_model.specs.Request.{Request, firsts}
use Rattle.intake_core.specs.Group.{Decided}
use Rattle.intake_process.specs.Process.{HoldRegisterWithLog}

-- these are some of those, in their order
abbrev pub AreSome : List Request → List Request → Type 0
AreSome [] all = Unit {0}
AreSome (r ∷ some) all =
    (front : List Request) × (back : List Request) × (all ≡ front ++ r ∷ back) × AreSome some back

-- The files hold these requests, and behind them some of those that were to be decided, in their order.
pub record HoldSome {D : Type 0} (g : Ghosts D) (files : Files D) (old_style : ℕ) (requests : List Request)
    (decided : List Decided) : Type 0 where
  pub some : List Request
  pub are : AreSome some (map (λ d. d.0) decided)
  pub held : HoldRegisterWithLog g files old_style (firsts (requests ++ some))
