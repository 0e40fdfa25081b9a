-- Programs whose signatures are in range.
use Rattle.std.specs.Prelude.{◌≤◌, length, map}
use Rattle.wy_text.specs.Members.{In}
use Rattle.wy_effects.specs.Bounds.{GoDown}
use Rattle.wy_types.specs.declared.types.TypeRef.{TypeRef}
use Rattle.wy_types.specs.declared.resolved.TypeDecl.{TypeDecl}
use Rattle.wy_types.specs.Program.{Program, Scope, Body}
use Rattle.wy_types.specs.Signature.{Signature}
use Rattle.wy_types.specs.Types.{signature}
use Rattle.wy_types.specs.Fitting.{SignaturesFit}

-- all numbers and sets in signatures are in range, no method has more than 16 parameters, and the bounds of at most 512 atoms name earlier ones; every core
-- keeps this
pub record IsInRange (p : Program) : Type 0 where
  pub signatures : SignaturesFit p
  pub declared : (d : TypeDecl) → In d p.declarations → (m : Signature TypeRef) → In m (map signature d.methods) → length m.params ≤ 16
  pub written : (s : Scope) → In s p.scopes → (b : Body) → In b s.bodies → length b.signature.params ≤ 16
  pub bounds : (s : Scope) → In s p.scopes → GoDown s.bounds × (length s.bounds ≤ 512)
