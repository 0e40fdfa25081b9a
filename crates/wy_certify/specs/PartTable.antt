-- The table by whose numbers the part of a scope speaks of types: each once, in the order in which they are met
-- (docs/LANGUAGE.md, "Certificates").
use Rattle.std.specs.Prelude.{Bool as Truth, false, ◌||◌, List, [], ◌∷◌, ◌++◌, length, if◌then◌else◌}
use Rattle.wy_text.specs.Members.{In}
use Rattle.wy_types.specs.declared.types.TypeRef.{TypeRef}
use Rattle.wy_rules.specs.Canonical.{same_type}
use Rattle.wy_spelling.specs.Spelling.{IsNumber}
use Rattle.wy_proving.specs.Certified.{Pair}
use Rattle.wy_proving.specs.Steps.{Step}
use Rattle.wy_certify.specs.Numbering.{part_types}

-- the type is in the list
abbrev pub is_listed : TypeRef → List TypeRef → Truth
is_listed t [] = false
is_listed t (u ∷ us) = same_type u t || is_listed t us

-- the list, with the type added at its end if the list lacks it
unfoldable pub type_added : List TypeRef → TypeRef → List TypeRef
type_added ts t = if is_listed t ts then ts else ts ++ t ∷ []

-- .. with types, one after the other
abbrev pub each_once_after : List TypeRef → List TypeRef → List TypeRef
each_once_after ts [] = ts
each_once_after ts (u ∷ us) = each_once_after (type_added ts u) us

-- the list without what stood in it before
abbrev pub each_once : List TypeRef → List TypeRef
each_once us = each_once_after [] us

-- the table of the types of a part
abbrev pub part_table : List Pair → List Pair → List TypeRef → List (Step TypeRef) → List TypeRef
part_table ps bs us sts = each_once (part_types ps bs us sts)

-- four bytes can say the number of each type, and how many parts each step has
abbrev pub AreNumbers : List TypeRef → List (Step TypeRef) → Type 0
AreNumbers ts sts = IsNumber (length ts) × ((st : Step TypeRef) → In st sts → IsNumber st.parts)
