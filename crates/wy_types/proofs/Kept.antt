-- What follows from what a core keeps: its signatures are in range, and so is all that types reach.
use Rattle.std.proofs.Common.{ℕ, ◌+◌, ◌≤◌, List, [], ◌∷◌, map, inl, length, refl, subst, arith}
use Rattle.wy_effects.specs.EffSet.{IsSetFrom}
use Rattle.wy_text.proofs.Lists.{In-left, In-right, In-unmap, In-slice_get}
use Rattle.wy_types.specs.declared.types.TypeRef.{TypeRef}
use Rattle.wy_types.specs.declared.types.TypeRef.TheVariants.{Int, Bool, Text, Unit as Nothing, Named, At, Own}
use Rattle.wy_types.specs.declared.path.Part.{Part}
use Rattle.wy_types.specs.declared.path.Part.TheVariants.{Parameter, Result}
use Rattle.wy_types.specs.declared.path.Step.{Step}
use Rattle.wy_types.specs.Program.{Program, Scope, Body}
use Rattle.wy_types.specs.Signature.{Signature}
use Rattle.wy_types.specs.Types.{signature, methods_of}
use Rattle.wy_types.specs.Paths.{IsPartOf, Goes, Walks}
use Rattle.wy_types.specs.Fitting.{FitsType, FitsSignature, AllSignaturesFit, SignaturesFit, IsTypeOf, own_count}
use Rattle.wy_types.specs.Core.{IsCore, ScopeFits}
use Rattle.wy_types.specs.Few.{ReachedAreFew}
use Rattle.wy_types.proofs.Finite.{Fits-methods, length-le-type_bound}

IsSetFrom-wider : (k m n : ℕ) (xs : List ℕ) → m ≤ n → IsSetFrom k m xs → IsSetFrom k n xs
IsSetFrom-wider k m n [] le s = tt
IsSetFrom-wider k m n (x ∷ xs) le s = (s.0, omega (arith, s.1), IsSetFrom-wider (x + 1) m n xs le s.2)

-- a type of a scope's atoms is one of all atoms, whatever own types there are
pub Fits-wider : (p : Program) (atoms owns : ℕ) (t : TypeRef) → atoms ≤ 512 → FitsType p atoms 0 t → FitsType p 512 owns t
Fits-wider p atoms owns Int le f = tt
Fits-wider p atoms owns Bool le f = tt
Fits-wider p atoms owns Text le f = tt
Fits-wider p atoms owns Nothing le f = tt
Fits-wider p atoms owns (Named d members) le f = (f.0, f.1, λ s i. IsSetFrom-wider 0 atoms 512 s le (f.2 s i))
Fits-wider p atoms owns (At d bound) le f = (f.0, IsSetFrom-wider 0 atoms 512 bound le f.1)
Fits-wider p atoms owns (Own l) le f = absurd (omega arith)

body_signatures : (p : Program) (s : Scope) → ScopeFits p s → AllSignaturesFit p 512 (length s.literals) (map (λ (b : Body). signature b.signature) s.bodies)
body_signatures p s f m i =
    let r = In-unmap (λ (b : Body). signature b.signature) m s.bodies i in
    let w = f.written r.0 r.1 in
    let P : Signature TypeRef → Type 0 = λ v. FitsSignature p 512 (length s.literals) v in
    let here : FitsSignature p 512 (length s.literals) (signature r.0.signature) = record {
      params = λ t j. Fits-wider p (length s.atoms) (length s.literals) t f.atoms (w.0 t (In-left t r.0.signature.params (r.0.signature.result ∷ []) j)).0;
      effect = IsSetFrom-wider 0 (length s.atoms) 512 r.0.signature.effect f.atoms w.1;
      result = Fits-wider p (length s.atoms) (length s.literals) r.0.signature.result f.atoms (w.0 r.0.signature.result (In-right r.0.signature.result r.0.signature.params (r.0.signature.result ∷ []) (inl refl))).0;
    } in
    subst P r.2 here

pub core_signatures_fit : (p : Program) → IsCore p → SignaturesFit p
core_signatures_fit p c = record {
  declarations = λ k d e m i. ((c.declarations d (In-slice_get p.declarations k d e)).written m i).0;
  bodies = λ k s e. body_signatures p s (c.scopes s (In-slice_get p.scopes k s e));
}

-- the types at the parts of a signature in range are in range
pub Fits-part : (p : Program) (scope : ℕ) (m : Signature TypeRef) (part : Part) (u : TypeRef) → FitsSignature p 512 (own_count p scope) m → IsPartOf TypeRef (methods_of p scope) m part u → IsTypeOf p scope u
Fits-part p scope m Result u f e = let P : TypeRef → Type 0 = λ v. IsTypeOf p scope v in subst P e f.result
Fits-part p scope m (Parameter i) u f e = f.params u (In-slice_get m.params i u e)

-- what a type in range reaches is in range
pub Fits-goes : (p : Program) (w : SignaturesFit p) (scope : ℕ) (t : TypeRef) (s : Step) (u : TypeRef) → IsTypeOf p scope t → Goes TypeRef (methods_of p scope) t s u → IsTypeOf p scope u
Fits-goes p w scope t s u f g = Fits-part p scope g.method s.part u (Fits-methods p w scope t f g.method g.has) g.part

pub Fits-walks : (p : Program) (w : SignaturesFit p) (scope : ℕ) (path : List Step) (t u : TypeRef) → IsTypeOf p scope t → Walks TypeRef (methods_of p scope) t path u → IsTypeOf p scope u
Fits-walks p w scope [] t u f walk = let P : TypeRef → Type 0 = λ v. IsTypeOf p scope v in subst P walk f
Fits-walks p w scope (s ∷ path) t u f walk = Fits-walks p w scope path walk.0 u (Fits-goes p w scope t s walk.0 f walk.1) walk.2

pub few : ReachedAreFew
few p c scope t f us apart reached =
    length-le-type_bound p scope us apart (λ u i. let r = reached u i in Fits-walks p (core_signatures_fit p c) scope r.0 t u f r.1)
