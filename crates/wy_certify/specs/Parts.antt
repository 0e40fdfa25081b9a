-- What is said of scopes, as the code's own values.
use Rattle.std.specs.Prelude.{◌≡◌, ℕ, List, Some, length, map, slice_get}
use Rattle.wy_types.specs.declared.types.TypeRef.{TypeRef}
use Rattle.wy_types.specs.Program.{Program, Scope}
use Rattle.wy_subtype.specs.declared.verdict.Mode.TheVariants.{Annotated, Plain}
use Rattle.wy_cert.specs.declared.certificate.CertScope.{CertScope}
use Rattle.wy_proving.specs.Certified.{Pair}
use Rattle.wy_proving.specs.Steps.{Step}
use Rattle.wy_proving.specs.Written.{asks, plain_asks, written_out, written_steps}
use Rattle.wy_certify.specs.declared.finding.ScopePart.{ScopePart}
use Rattle.wy_certify.specs.Closed.{IsClosedList}
use Rattle.wy_certify.specs.PartTable.{part_table}
use Rattle.wy_certify.specs.Pair.{pair_of}
use Rattle.wy_certify.specs.LocalsAt.{locals_at}
use Rattle.wy_certify.specs.Step.{steps_of}

abbrev pub part_pairs : ScopePart → List Pair
part_pairs x = map pair_of x.pairs

abbrev pub part_bares : ScopePart → List Pair
part_bares x = map pair_of x.bares

abbrev pub part_steps : ScopePart → List (Step TypeRef)
part_steps x = steps_of x.steps

-- its types, each once
abbrev pub types_in : ScopePart → List TypeRef
types_in x = part_table (part_pairs x) (part_bares x) x.vals (part_steps x)

-- it is written by the numbers of types
abbrev pub said_by : List TypeRef → ScopePart → CertScope
said_by ts x = written_out ts (part_pairs x) (part_bares x) x.vals (part_steps x)

-- .. of its own
abbrev pub said : ScopePart → CertScope
said x = said_by (types_in x) x

-- what is found of a scope
pub record IsFound (p : Program) (k : ℕ) (s : Scope) (x : ScopePart) : Type 0 where
  pub vals : x.vals ≡ locals_at p k s
  pub steps : part_steps x ≡ written_steps p k s (locals_at p k s)
  pub closed : IsClosedList p k s Annotated (asks p k s (locals_at p k s)) (part_pairs x)
  pub closed_plainly : IsClosedList p k s Plain (plain_asks p k s (locals_at p k s)) (part_bares x)

-- .. of each scope
pub record AreFoundParts (p : Program) (xs : List ScopePart) : Type 0 where
  pub number : length xs ≡ length p.scopes
  pub each : (k : ℕ) (s : Scope) (x : ScopePart) → slice_get p.scopes k ≡ Some s → slice_get xs k ≡ Some x → IsFound p k s x
