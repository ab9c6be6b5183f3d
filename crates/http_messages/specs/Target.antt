-- The path of a request's target (RFC 9112, section 3.2).
use Rattle.std.specs.Prelude.{◌≡◌, ℕ, ◌⊎◌, List}
use Rattle.http_uri.specs.Uri.{Spells, SpellsNone, uri_path}
use Rattle.http_uri.specs.declared.uri.Uri.{Uri}
use Rattle.http_messages.specs.declared.head.HeadFault.{HeadFault}
use Rattle.http_messages.specs.declared.head.HeadFault.TheVariants.{Malformed, Memory}
use Rattle.http_messages.specs.Head.{written_path}

-- the target is read, and this is the path that it writes
abbrev pub IsPathOf : List ℕ → List ℕ → Type 0
IsPathOf target path = (uri : Uri) × Spells target uri × (path ≡ written_path target (uri_path uri))

-- the target isn't read, or memory ran out
abbrev pub IsTargetFault : List ℕ → HeadFault → Type 0
IsTargetFault target fault = ((fault ≡ Malformed) × SpellsNone target) ⊎ (fault ≡ Memory)
