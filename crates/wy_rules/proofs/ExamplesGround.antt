-- The methods of types of a run, in the program with a kept callback (and its atoms: `disk.Read` 0 to `disk.List` 3).
use Rattle.std.proofs.Common.{◌≡◌, ℕ, List, [], ◌∷◌, refl}
use Rattle.std.specs.Prelude.{codes}
use Rattle.wy_types.specs.Signature.{Signature}
use Rattle.wy_rules.specs.GroundTypes.{GroundType, Text, Nothing, Named, At, Own, ground_methods}
use Rattle.wy_rules.proofs.ExamplesPlug.{plug_program}

abbrev signature : List ℕ → List GroundType → List ℕ → Signature GroundType
signature name params effect = record { name = name; params = params; effect = effect; result = Nothing }

-- the instance `a`: its method's effect is the grant's atom
app_methods : ground_methods (plug_program (2 ∷ 4 ∷ [])) (Own 0 0) ≡ signature (codes "fire") (Text ∷ []) (2 ∷ []) ∷ []
app_methods = refl

-- the import `p`: each method has the ground of the bound, and the callback's type stands at it
plug_methods : ground_methods (plug_program (2 ∷ 4 ∷ [])) (Own 1 0) ≡ signature (codes "keep") (At 5 (2 ∷ []) ∷ []) (2 ∷ []) ∷ signature (codes "go") [] (2 ∷ []) ∷ []
plug_methods = refl

-- the literal in the program
literal_methods : ground_methods (plug_program (2 ∷ 4 ∷ [])) (Own 2 1) ≡ signature (codes "fire") (Text ∷ []) (2 ∷ []) ∷ []
literal_methods = refl

-- a declared type with a set of grant atoms
handler_methods : ground_methods (plug_program (2 ∷ 4 ∷ [])) (Named 5 ((2 ∷ []) ∷ [])) ≡ signature (codes "fire") (Text ∷ []) (2 ∷ []) ∷ []
handler_methods = refl
