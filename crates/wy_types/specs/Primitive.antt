-- The primitive types: the first declarations of each program.
use Rattle.std.specs.Prelude.{codes, ℕ, List, [], ◌∷◌, Option, None, length, replicate}
use Rattle.wy_types.specs.declared.types.TypeRef.{TypeRef}
use Rattle.wy_types.specs.declared.types.TypeRef.TheVariants.{Int, Bool, Text, Unit as Nothing}
use Rattle.wy_types.specs.declared.types.Method.{Method}
use Rattle.wy_types.specs.declared.resolved.TypeDecl.{TypeDecl}

-- a method with a number of texts as parameters, the effect of one member, and a result
abbrev pub primitive_method : List ℕ → ℕ → ℕ → TypeRef → Method
primitive_method name texts member result = record { name = name; params = replicate texts Text; effect = member ∷ []; result = result }

abbrev pub primitive_type : List ℕ → List (List ℕ) → List Method → TypeDecl
primitive_type name members methods = record { name = name; members = members; bounds = replicate (length members) None; defined = []; methods = methods }

abbrev pub console : TypeDecl
console =
    primitive_type (codes "Console") (codes "In" ∷ codes "Out" ∷ [])
    (primitive_method (codes "read") 0 0 Text ∷ primitive_method (codes "write") 1 1 Nothing ∷ [])

abbrev pub folder : TypeDecl
folder =
    primitive_type (codes "Folder") (codes "Read" ∷ codes "Write" ∷ codes "Append" ∷ codes "List" ∷ [])
    (primitive_method (codes "read") 1 0 Text ∷ primitive_method (codes "has") 1 0 Bool ∷ primitive_method (codes "write") 2 1 Nothing ∷
    primitive_method (codes "append") 2 2 Nothing ∷ primitive_method (codes "names") 0 3 Text ∷ [])

abbrev pub clock : TypeDecl
clock = primitive_type (codes "Clock") (codes "Tick" ∷ []) (primitive_method (codes "now") 0 0 Int ∷ [])

abbrev pub random : TypeDecl
random = primitive_type (codes "Random") (codes "Draw" ∷ []) (primitive_method (codes "word") 0 0 Int ∷ [])

-- a folder whose files can be removed
abbrev pub full_folder : TypeDecl
full_folder =
    primitive_type (codes "FullFolder") (codes "Read" ∷ codes "Write" ∷ codes "Append" ∷ codes "List" ∷ codes "Remove" ∷ [])
    (primitive_method (codes "read") 1 0 Text ∷ primitive_method (codes "has") 1 0 Bool ∷ primitive_method (codes "write") 2 1 Nothing ∷
    primitive_method (codes "append") 2 2 Nothing ∷ primitive_method (codes "names") 0 3 Text ∷ primitive_method (codes "remove") 1 4 Nothing ∷ [])

-- the primitive types, in the order of their numbers
abbrev pub primitive_types : List TypeDecl
primitive_types = console ∷ folder ∷ clock ∷ random ∷ full_folder ∷ []

-- The primitive types of the edition before. A type that no text can name, since no name has a space in it, has the number of the
-- one that they lack, so that declared types have the same numbers over both tables.
abbrev pub unnamed : TypeDecl
unnamed = primitive_type (codes "no type") [] []

abbrev pub former_types : List TypeDecl
former_types = console ∷ folder ∷ clock ∷ random ∷ unnamed ∷ []

-- the number of the first declared type, and how many types there are at most
abbrev pub first_declared : ℕ
first_declared = 5

abbrev pub most_types : ℕ
most_types = 1029
