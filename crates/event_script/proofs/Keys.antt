-- The keys of lines.
use Rattle.std.proofs.Common.{◌≡◌, ℕ, List, [], None, refl, arith}
use Rattle.key_string.specs.declared.fault.KeyFault.{KeyFault}
use Rattle.key_string.specs.declared.fault.KeyFault.TheVariants.{NotString, Empty, TooLong, NotPrintable, Memory}
use Rattle.key_string.specs.Key.{IsFieldFault, key_of_field}
use Rattle.key_string.proofs.Fields.{key_of_field-none, key_of_field-not_key}

-- nor does a field with a fault other than memory
pub key_of_field-fault : (field : List ℕ) (fault : KeyFault) → IsFieldFault field fault → ¬ (fault ≡ Memory)
    → key_of_field field ≡ None
key_of_field-fault field NotString f other = key_of_field-none field (λ text s. absurd (f text s))
key_of_field-fault field Empty f other = key_of_field-not_key field [] f (λ key. omega (arith, key.nonempty))
key_of_field-fault field TooLong f other = key_of_field-not_key field f.0 f.1 (λ key. omega (arith, key.short, f.2))
key_of_field-fault field (NotPrintable at) f other = absurd f
key_of_field-fault field Memory f other = absurd (other refl)
