-- The first method of a name, in lists of signatures that are read in another way.
use Rattle.std.proofs.Common.{◌≡◌, ℕ, List, [], ◌∷◌, map, refl, Option, Some, None, true, false}
use Rattle.std.specs.Prelude.{bytes_eq, if◌then◌else◌}
use Rattle.std.specs.Option.{option_map}
use Rattle.wy_types.specs.Signature.{Signature, mapped_signature, find_method}

-- the first of the signatures as they are read is the first, read so
pub find_mapped : {K L : Type 0} (kind : K → L) (effect : List ℕ → List ℕ) (name : List ℕ) (ms : List (Signature K)) →
    find_method name (map (mapped_signature kind effect) ms) ≡ option_map (mapped_signature kind effect) (find_method name ms)
find_mapped kind effect name [] = refl
find_mapped {K} {L} kind effect name (m ∷ ms) =
    let rest = find_mapped kind effect name ms in
    elim (bytes_eq m.name name) as (λ b. (if b then Some (mapped_signature kind effect m) else find_method name (map (mapped_signature kind effect) ms)) ≡ option_map (mapped_signature kind effect) (if b then Some m else find_method name ms)) [
      | true ↦ refl
      | false ↦ rest
    ]
