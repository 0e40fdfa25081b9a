-- Types whose numbers and sets are in range.
use Rattle.std.specs.Prelude.{◌≡◌, ℕ, ◌<◌, List, [], ◌⊎◌, Option, Some, None, length, map, slice_get}
use Rattle.wy_text.specs.Members.{In}
use Rattle.wy_effects.specs.EffSet.{IsSet, AreSets}
use Rattle.wy_types.specs.declared.types.TypeRef.{TypeRef}
use Rattle.wy_types.specs.declared.types.TypeRef.TheVariants.{Int, Bool, Text, Unit as Nothing, Named, At, Own}
use Rattle.wy_types.specs.declared.resolved.TypeDecl.{TypeDecl}
use Rattle.wy_types.specs.declared.resolved.Literal.{Literal}
use Rattle.wy_types.specs.Program.{Program, Scope, Body}
use Rattle.wy_types.specs.Signature.{Signature}
use Rattle.wy_types.specs.Types.{signature}
use Rattle.wy_types.specs.MemberCount.{member_count}

abbrev pub scope_literals : Option Scope → List Literal
scope_literals None = []
scope_literals (Some s) = s.literals

-- how many types of its own a scope has: that of its module and those of its literals
abbrev pub own_count : Program → ℕ → ℕ
own_count p scope = length (scope_literals (slice_get p.scopes scope))

-- the declared type is there, the atoms are below `atoms` and the literal below `owns`; a declared type has a set for each abstract member, or is bare
abbrev pub FitsType : Program → ℕ → ℕ → TypeRef → Type 0
FitsType p atoms owns Int = Unit {0}
FitsType p atoms owns Bool = Unit {0}
FitsType p atoms owns Text = Unit {0}
FitsType p atoms owns Nothing = Unit {0}
FitsType p atoms owns (Named d members) =
    (d < length p.declarations) × ((length members ≡ member_count (slice_get p.declarations d)) ⊎ (members ≡ [])) × AreSets atoms members
FitsType p atoms owns (At d bound) = (d < length p.declarations) × IsSet atoms bound
FitsType p atoms owns (Own l) = l < owns

abbrev pub AllFit : Program → ℕ → ℕ → List TypeRef → Type 0
AllFit p atoms owns ts = (t : TypeRef) → In t ts → FitsType p atoms owns t

pub record FitsSignature (p : Program) (atoms owns : ℕ) (m : Signature TypeRef) : Type 0 where
  pub params : AllFit p atoms owns m.params
  pub effect : IsSet atoms m.effect
  pub result : FitsType p atoms owns m.result

abbrev pub AllSignaturesFit : Program → ℕ → ℕ → List (Signature TypeRef) → Type 0
AllSignaturesFit p atoms owns ms = (m : Signature TypeRef) → In m ms → FitsSignature p atoms owns m

-- the signatures of declarations are over the declaration's abstract members and name no own type; those of bodies are over the scope's atoms and own types
pub record SignaturesFit (p : Program) : Type 0 where
  pub declarations : (k : ℕ) (d : TypeDecl) → slice_get p.declarations k ≡ Some d → AllSignaturesFit p (length d.members) 0 (map signature d.methods)
  pub bodies : (k : ℕ) (s : Scope) → slice_get p.scopes k ≡ Some s → AllSignaturesFit p 512 (length s.literals) (map (λ (b : Body). signature b.signature) s.bodies)

-- a type that may be handed in for a scope
abbrev pub IsTypeOf : Program → ℕ → TypeRef → Type 0
IsTypeOf p scope t = FitsType p 512 (own_count p scope) t
