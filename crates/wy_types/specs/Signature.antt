-- Signatures of methods, over any types.
use Rattle.std.specs.Prelude.{ℕ, List, [], ◌∷◌, ◌++◌, map, Option, Some, None, bytes_eq, if◌then◌else◌}

-- a method's name, the types of its parameters, its effect and the type of its result
pub record Signature (K : Type 0) : Type 0 where
  pub name : List ℕ
  pub params : List K
  pub effect : List ℕ
  pub result : K

-- the signature with its types and its effect read in another way
abbrev pub mapped_signature : {K L : Type 0} → (K → L) → (List ℕ → List ℕ) → Signature K → Signature L
mapped_signature kind effect m = record { name = m.name; params = map kind m.params; effect = effect m.effect; result = kind m.result }

-- the first method of a name
abbrev pub find_method : {K : Type 0} → List ℕ → List (Signature K) → Option (Signature K)
find_method name [] = None
find_method name (m ∷ ms) = if bytes_eq m.name name then Some m else find_method name ms

-- the types in signatures: the parameters and the result of each
abbrev pub signature_types : {K : Type 0} → List (Signature K) → List K
signature_types [] = []
signature_types (m ∷ ms) = (m.params ++ m.result ∷ []) ++ signature_types ms
