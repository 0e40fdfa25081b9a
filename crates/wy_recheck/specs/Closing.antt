-- When a pair is closed in a list, in either mode (docs/LANGUAGE.md, "Certificates").
use Rattle.std.specs.Prelude.{◌≡◌, ℕ, List, Some, slice_get}
use Rattle.wy_effects.specs.Bounds.{IsWithin}
use Rattle.wy_types.specs.declared.types.TypeRef.{TypeRef}
use Rattle.wy_types.specs.Program.{Program}
use Rattle.wy_types.specs.Types.{IsObject, methods_of}
use Rattle.wy_types.specs.Bounds.{bounds_of}
use Rattle.wy_types.specs.Subtyping.{IsClosed, AnyEffect}
use Rattle.wy_rules.specs.PlainMethods.{erased_methods}
use Rattle.wy_subtype.specs.declared.verdict.Mode.{Mode}
use Rattle.wy_subtype.specs.declared.verdict.Mode.TheVariants.{Annotated, Plain}
use Rattle.wy_cert.specs.declared.certificate.CertPair.{CertPair}
use Rattle.wy_proving.specs.Certified.{Pair, bare}

-- how a pair is looked up: plain pairs by their erasures
abbrev pub looked_up : Mode → Pair → Pair
looked_up Annotated q = q
looked_up Plain q = bare q

-- the pair is closed in the list
abbrev pub ClosedIn : Program → ℕ → Mode → List Pair → Pair → Type 0
ClosedIn p k Annotated pairs q = IsClosed TypeRef (methods_of p k) IsObject (IsWithin (bounds_of p k)) pairs q
ClosedIn p k Plain pairs q = IsClosed TypeRef (erased_methods p k) IsObject AnyEffect pairs (bare q)

-- its numbers name types, and the pair of these is closed in the list
abbrev pub PairStandsIn : Program → ℕ → Mode → List TypeRef → CertPair → List Pair → Type 0
PairStandsIn p k mode types q pairs = (a : TypeRef) × (b : TypeRef) × (slice_get types q.left ≡ Some a) × (slice_get types q.right ≡ Some b) × ClosedIn p k mode pairs (a, b)
