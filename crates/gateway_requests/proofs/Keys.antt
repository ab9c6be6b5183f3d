-- What the key's field gives.
use Rattle.std.proofs.Common.{ℕ, List, [], ◌∷◌, refl, arith, inl}
use Rattle.key_string.specs.declared.fault.KeyFault.{KeyFault}
use Rattle.key_string.specs.declared.fault.KeyFault.TheVariants.{NotString, Empty, TooLong, NotPrintable, Memory}
use Rattle.key_string.specs.Key.{IsFieldFault}
use Rattle.key_string.proofs.Fields.{key_of_field-none, key_of_field-not_key}
use Rattle.gateway_requests.specs.Route.{NoKeyOf, no_key}

pub NoKeyOf-fault : (field : List ℕ) (fault : KeyFault) → IsFieldFault field fault → NoKeyOf (field ∷ []) (no_key fault)
NoKeyOf-fault field NotString f = inl (field, refl, key_of_field-none field (λ text s. absurd (f text s)))
NoKeyOf-fault field Empty f = inl (field, refl, key_of_field-not_key field [] f (λ key. omega (arith, key.nonempty)))
NoKeyOf-fault field TooLong f =
    inl (field, refl, key_of_field-not_key field f.0 f.1 (λ key. omega (arith, key.short, f.2)))
NoKeyOf-fault field (NotPrintable at) f = absurd f
NoKeyOf-fault field Memory f = tt
