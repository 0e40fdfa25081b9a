-- What a certificate lists for a scope: types, and pairs of types.
use Rattle.std.specs.Prelude.{ℕ, List, [], ◌∷◌, ◌++◌, ◌||◌, Option, Some, None, Bool as Truth, false, map, slice_get}
use Rattle.wy_types.specs.declared.types.TypeRef.{TypeRef}
use Rattle.wy_types.specs.declared.types.TypeRef.TheVariants as to
use Rattle.wy_types.specs.Types.{erased}
use Rattle.wy_rules.specs.Canonical.{both, same_type}
use Rattle.wy_cert.specs.declared.certificate.CertType.{CertType}
use Rattle.wy_cert.specs.declared.certificate.CertType.TheVariants.{Int, Bool, Text, Unit as Nothing, Named, At, Own}
use Rattle.wy_cert.specs.declared.certificate.CertPair.{CertPair}
use Rattle.wy_cert.specs.declared.certificate.CertScope.{CertScope}

-- the type that is listed
abbrev pub typed : CertType → TypeRef
typed Int = to.Int
typed Bool = to.Bool
typed Text = to.Text
typed Nothing = to.Unit
typed (Named d es) = to.Named d es
typed (At d e) = to.At d e
typed (Own l) = to.Own l

-- the types of a scope, by their numbers
abbrev pub types_of : CertScope → List TypeRef
types_of c = map typed c.types

-- a pair of types
abbrev pub Pair : Type 0
Pair = TypeRef × TypeRef

-- .. where both types are there
abbrev pub pair_of : Option TypeRef → Option TypeRef → List Pair
pair_of (Some a) (Some b) = (a, b) ∷ []
pair_of a b = []

-- the pairs whose numbers name types
abbrev pub typed_pairs : List TypeRef → List CertPair → List Pair
typed_pairs types [] = []
typed_pairs types (q ∷ qs) = pair_of (slice_get types q.left) (slice_get types q.right) ++ typed_pairs types qs

-- a pair with every declared type bare
abbrev pub bare : Pair → Pair
bare q = (erased q.0, erased q.1)

-- the annotated pairs of a scope
abbrev pub annotated_pairs : CertScope → List Pair
annotated_pairs c = typed_pairs (types_of c) c.pairs

-- its plain pairs, which are compared by erasure
abbrev pub plain_pairs : CertScope → List Pair
plain_pairs c = map bare (typed_pairs (types_of c) c.plain)

-- whether a pair is listed
abbrev pub has_pair : List Pair → TypeRef → TypeRef → Truth
has_pair [] a b = false
has_pair (q ∷ qs) a b = both (same_type q.0 a) (same_type q.1 b) || has_pair qs a b

-- a type before others, where all are there
abbrev pub with_type : Option TypeRef → Option (List TypeRef) → Option (List TypeRef)
with_type (Some t) (Some ts) = Some (t ∷ ts)
with_type t ts = None

-- the types of these numbers, where each names one
abbrev pub named_types : List TypeRef → List ℕ → Option (List TypeRef)
named_types types [] = Some []
named_types types (n ∷ ns) = with_type (slice_get types n) (named_types types ns)
