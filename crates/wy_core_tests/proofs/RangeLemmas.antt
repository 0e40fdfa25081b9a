-- What the checks of tests show of a core's signatures and bounds.
use Rattle.std.proofs.Common.{◌≡◌, ℕ, ◌+◌, ◌<◌, ◌≤◌, List, [], ◌∷◌, map, inl, inr, length, refl, sym, ap, ◌∙◌, subst, arith, Option, Some}
use Rattle.std.specs.Prelude.{slice_get}
use Rattle.std.specs.Option.{option_map}
use Rattle.std.proofs.lemmas.Option.{slice_get-map}
use Rattle.wy_effects.specs.declared.atom.Atom.{Atom}
use Rattle.wy_text.specs.Members.{In}
use Rattle.wy_effects.specs.EffSet.{IsSetFrom, IsSet}
use Rattle.wy_effects.specs.Bounds.{GoDown}
use Rattle.wy_text.proofs.Lists.{In-unmap, In-slice_get}
use Rattle.wy_types.specs.declared.types.TypeRef.{TypeRef}
use Rattle.wy_types.specs.declared.types.Method.{Method}
use Rattle.wy_types.specs.declared.resolved.TypeDecl.{TypeDecl}
use Rattle.wy_types.specs.declared.resolved.Scope as s
use Rattle.wy_types.specs.declared.resolved.Body as b
use Rattle.wy_types.specs.declared.resolved.Core.{Core}
use Rattle.wy_types.specs.Program.{Program, Scope, Body, scope_of, body_of, program_of}
use Rattle.wy_types.specs.Signature.{Signature}
use Rattle.wy_types.specs.Types.{signature}
use Rattle.wy_types.specs.Fitting.{FitsSignature, AllSignaturesFit, own_count, scope_literals}
use Rattle.wy_types.specs.InRange.{IsInRange}
use Rattle.wy_types.proofs.Kept.{Fits-wider}

abbrev pub MethodFits : Program → ℕ → Method → Type 0
MethodFits p number m = FitsSignature p number 0 (signature m) × (length m.params ≤ 16)

abbrev pub DeclarationFits : Program → TypeDecl → Type 0
DeclarationFits p d = (m : Method) → In m d.methods → MethodFits p (length d.members) m

narrower : (k m n : ℕ) (xs : List ℕ) → IsSetFrom k m xs → ((x : ℕ) → In x xs → x < n) → IsSetFrom k n xs
narrower k m n [] s h = tt
narrower k m n (x ∷ xs) s h = (s.0, h x (inl refl), narrower (x + 1) m n xs s.2 (λ y i. h y (inr i)))

-- a set whose atoms are below a number
pub set_below : (n : ℕ) (xs : List ℕ) (atoms : List Atom) → IsSet 512 xs → map (λ (a : Atom). a.0) atoms ≡ xs → ((a : Atom) → In a atoms → a.0 < n) → IsSet n xs
set_below n xs atoms s e h =
    narrower 0 512 n xs s (λ x i.
    let P : List ℕ → Type 0 = λ l. In x l in
    let r = In-unmap (λ (a : Atom). a.0) x atoms (subst P (sym e) i) in
    let Q : ℕ → Type 0 = λ y. y < n in
    subst Q r.2 (h r.0 r.1))

-- the signatures of declarations that fit
all_fit : (p : Program) (d : TypeDecl) → DeclarationFits p d → AllSignaturesFit p (length d.members) 0 (map signature d.methods)
all_fit p d h m i =
    let r = In-unmap signature m d.methods i in
    let P : Signature TypeRef → Type 0 = λ v. FitsSignature p (length d.members) 0 v in
    subst P r.2 (h r.0 r.1).0

all_few : (p : Program) (d : TypeDecl) → DeclarationFits p d → (m : Signature TypeRef) → In m (map signature d.methods) → length m.params ≤ 16
all_few p d h m i =
    let r = In-unmap signature m d.methods i in
    let P : Signature TypeRef → Type 0 = λ v. length v.params ≤ 16 in
    subst P r.2 (h r.0 r.1).1

-- a signature that names no own type is in range whatever own types there are
wider : (p : Program) (owns : ℕ) (m : Signature TypeRef) → FitsSignature p 512 0 m → FitsSignature p 512 owns m
wider p owns m f = record {
  params = λ t i. Fits-wider p 512 owns t (omega arith) (f.params t i);
  effect = f.effect;
  result = Fits-wider p 512 owns m.result (omega arith) f.result;
}

abbrev pub BodyFits : Program → b.Body → Type 0
BodyFits p x = MethodFits p 512 x.signature

abbrev pub ScopeFits : Program → s.Scope → Type 0
ScopeFits p x = (y : b.Body) → In y x.bodies → BodyFits p y

-- the bounds of a scope's atoms
abbrev pub AtomsFit : s.Scope → Type 0
AtomsFit x = GoDown x.bounds × (length x.bounds ≤ 512)

module _ (core : Core) (fits : (x : s.Scope) → In x core.scopes → ScopeFits (program_of core) x) (bounded : (x : s.Scope) → In x core.scopes → AtomsFit x) where
  body_fits : (y : Scope) → In y (map scope_of core.scopes) → (c : Body) → In c y.bodies → MethodFits (program_of core) 512 c.signature
  body_fits y i c j =
      let r = In-unmap scope_of y core.scopes i in
      let P : Scope → Type 0 = λ v. In c v.bodies in
      let q = In-unmap body_of c r.0.bodies (subst P (sym r.2) j) in
      let Q : Body → Type 0 = λ v. MethodFits (program_of core) 512 v.signature in
      subst Q q.2 (fits r.0 r.1 q.0 q.1)

  pub in_range : ((d : TypeDecl) → In d core.declarations → DeclarationFits (program_of core) d) → IsInRange (program_of core)
  in_range fit = record {
    signatures = record {
      declarations = λ k d e. all_fit (program_of core) d (fit d (In-slice_get core.declarations k d e));
      bodies = λ k y e m i.
          let r = In-unmap (λ (c : Body). signature c.signature) m y.bodies i in
          let P : Signature TypeRef → Type 0 = λ v. FitsSignature (program_of core) 512 (length y.literals) v in
          let f = body_fits y (In-slice_get (map scope_of core.scopes) k y e) r.0 r.1 in
          subst P r.2 (wider (program_of core) (length y.literals) (signature r.0.signature) f.0);
    };
    declared = λ d i. all_few (program_of core) d (fit d i);
    written = λ y i c j. (body_fits y i c j).1;
    bounds = λ y i.
        let r = In-unmap scope_of y core.scopes i in
        let P : Scope → Type 0 = λ v. GoDown v.bounds × (length v.bounds ≤ 512) in
        subst P r.2 (bounded r.0 r.1);
  }

-- an own type of a scope of the code
pub own_fits : (core : Core) (scope literal : ℕ) (x : s.Scope) → Some x ≡ slice_get core.scopes scope → literal < length x.literals → literal < own_count (program_of core) scope
own_fits core scope literal x e lt =
    let there : slice_get (map scope_of core.scopes) scope ≡ Some (scope_of x) = slice_get-map scope_of core.scopes scope ∙ ap (option_map scope_of) (sym e) in
    let P : Option Scope → Type 0 = λ o. literal < length (scope_literals o) in
    subst P (sym there) lt
