-- Examples of tables of types, and of parts of scopes.
use Rattle.std.proofs.Common.{◌≡◌, [], ◌∷◌, refl}
use Rattle.wy_types.specs.declared.types.TypeRef.TheVariants.{Int, Bool, Text, At}
use Rattle.wy_cert.specs.declared.certificate.CertType.TheVariants as as_listed
use Rattle.wy_proving.specs.Written.{written_out}
use Rattle.wy_certify.specs.Numbering.{part_types}
use Rattle.wy_certify.specs.PartTable.{type_added, each_once, part_table}

-- a type that comes again is there
twice_met : each_once (Int ∷ Bool ∷ Int ∷ []) ≡ Int ∷ Bool ∷ []
unfolding type_added
twice_met = refl

-- types at other sets are other types
other_sets : each_once (At 3 [] ∷ At 3 (1 ∷ []) ∷ At 3 [] ∷ []) ≡ At 3 [] ∷ At 3 (1 ∷ []) ∷ []
unfolding type_added
other_sets = refl

-- the types of pairs come before those of `val`s
in_order : part_table ((Int, Text) ∷ []) [] (Bool ∷ Text ∷ []) [] ≡ Int ∷ Text ∷ Bool ∷ []
unfolding type_added part_types
in_order = refl

-- what is said by that table
by_numbers : written_out (Int ∷ Text ∷ Bool ∷ []) ((Int, Text) ∷ []) [] (Bool ∷ Text ∷ []) [] ≡ record {
  types = as_listed.Int ∷ as_listed.Text ∷ as_listed.Bool ∷ [];
  pairs = record { left = 0; right = 1 } ∷ [];
  plain = [];
  locals = 2 ∷ 1 ∷ [];
  nodes = [];
}
by_numbers = refl
