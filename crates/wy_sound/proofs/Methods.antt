-- A method that a type of a run has is that of a body of the instance's scope, which a call finds.
use Rattle.std.proofs.Common.{◌≡◌, ℕ, zero, suc, ◌+◌, Bool, true, false, ◌&&◌, List, [], ◌∷◌, map, refl, sym, ap, ◌∙◌, subst, Some, arith, nat_eq}
use Rattle.std.specs.Prelude.{slice_get, bytes_eq, if◌then◌else◌}
use Rattle.std.proofs.lemmas.Bool.Decides.{nat_tests}
use Rattle.std.proofs.lemmas.Slice.Eq.{bytes_eq-Decides}
use Rattle.wy_types.specs.declared.types.TypeRef.{TypeRef}
use Rattle.wy_types.specs.Program.{Program, Scope, Body}
use Rattle.wy_types.specs.Signature.{Signature, mapped_signature, find_method}
use Rattle.wy_types.specs.Types.{signature, methods_of_owner, scope_bodies}
use Rattle.wy_types.proofs.FindingMethods.{find_mapped}
use Rattle.wy_rules.specs.GroundTypes.{GroundType, Own, effect_by, own_methods, ground_methods}
use Rattle.wy_rules.specs.Typing.{DerivesBody, DerivesBodies}
use Rattle.wy_rules.specs.Derivations.{BodyDerivation}
use Rattle.wy_rules.specs.Readings.{Reading}
use Rattle.wy_meaning.specs.Eval.{Method, find_body}
use Rattle.wy_sound.proofs.Lists.{some_mapped, some_same}
use Rattle.wy_sound.specs.TypedHeaps.{Placed, kind_at}

-- the body of a name that a call finds from body k on
pub record FindsBody (k l : ℕ) (name : List ℕ) (bs : List Body) (g : Signature TypeRef) : Type 0 where
  pub method : Method
  pub found : find_body k l name bs ≡ Some method
  pub place : ℕ
  pub number : method.number ≡ k + place
  pub there : slice_get bs place ≡ Some method.body
  pub owner : method.body.owner ≡ l
  pub called : method.body.signature.name ≡ name
  pub signed : signature method.body.signature ≡ g

next_finds : (k l : ℕ) (name : List ℕ) (b : Body) (bs : List Body) (g : Signature TypeRef) →
    (nat_eq b.owner l && bytes_eq b.signature.name name) ≡ false → FindsBody (k + 1) l name bs g → FindsBody k l name (b ∷ bs) g
next_finds k l name b bs g e r = record {
  method = r.method;
  found = ap (λ c. if c then Some (record { number = k; body = b }) else find_body (k + 1) l name bs) e ∙ r.found;
  place = suc r.place;
  number = (let h = r.number in omega (arith, h));
  there = r.there;
  owner = r.owner;
  called = r.called;
  signed = r.signed;
}

body_found : (k l : ℕ) (name : List ℕ) (bs : List Body) (g : Signature TypeRef) → find_method name (methods_of_owner l bs) ≡ Some g →
    FindsBody k l name bs g
body_found k l name [] g e = absurd cc
body_found k l name (b ∷ bs) g e = of_owner (nat_eq b.owner l) refl e (body_found (k + 1) l name bs g)
  where
    of_name : nat_eq b.owner l ≡ true → (t : Bool) → bytes_eq b.signature.name name ≡ t →
        (if t then Some (signature b.signature) else find_method name (methods_of_owner l bs)) ≡ Some g →
        (find_method name (methods_of_owner l bs) ≡ Some g → FindsBody (k + 1) l name bs g) → FindsBody k l name (b ∷ bs) g
    of_name o true t e f = record {
      method = record { number = k; body = b };
      found = ap (λ c. if c && bytes_eq b.signature.name name then Some (record { number = k; body = b }) else find_body (k + 1) l name bs) o ∙
          ap (λ c. if c then Some (record { number = k; body = b }) else find_body (k + 1) l name bs) t;
      place = 0;
      number = (omega arith);
      there = refl;
      owner = (grind (arith, nat_tests, o));
      called = (bytes_eq-Decides b.signature.name name).0 t;
      signed = some_same e;
    }
    of_name o false t e f = next_finds k l name b bs g (ap (λ c. c && bytes_eq b.signature.name name) o ∙ t) (f e)

    of_owner : (t : Bool) → nat_eq b.owner l ≡ t →
        find_method name (if t then (signature b.signature ∷ methods_of_owner l bs) else methods_of_owner l bs) ≡ Some g →
        (find_method name (methods_of_owner l bs) ≡ Some g → FindsBody (k + 1) l name bs g) → FindsBody k l name (b ∷ bs) g
    of_owner true o e f = of_name o (bytes_eq b.signature.name name) refl e f
    of_owner false o e f = next_finds k l name b bs g (ap (λ c. c && bytes_eq b.signature.name name) o) (f e)

-- the signature of a body, over the types of the run
abbrev pub signature_at : (p : Program) (x : ℕ) → Placed p x → Body → Signature GroundType
signature_at p x pl b = mapped_signature (kind_at p x pl) (effect_by pl.instance.bound pl.instance.ground) (signature b.signature)

-- .. is that of the own type's method
pub record HasBodyFor (p : Program) (x : ℕ) (pl : Placed p x) (l : ℕ) (name : List ℕ) (m : Signature GroundType) : Type 0 where
  pub method : Method
  pub found : find_body 0 l name pl.scope.bodies ≡ Some method
  pub there : slice_get pl.scope.bodies method.number ≡ Some method.body
  pub owner : method.body.owner ≡ l
  pub called : method.body.signature.name ≡ name
  pub signed : signature_at p x pl method.body ≡ m

pub own_body : (p : Program) (x : ℕ) (pl : Placed p x) (l : ℕ) (name : List ℕ) (m : Signature GroundType) →
    find_method name (ground_methods p (Own x l)) ≡ Some m → HasBodyFor p x pl l name m
own_body p x pl l name m e =
    let table : ground_methods p (Own x l) ≡ map (mapped_signature (kind_at p x pl) (effect_by pl.instance.bound pl.instance.ground))
    (methods_of_owner l pl.scope.bodies) =
    ap (own_methods p x l) pl.is.there ∙
    ap (λ o. map (mapped_signature (kind_at p x pl) (effect_by pl.instance.bound pl.instance.ground))
    (methods_of_owner l (scope_bodies o))) pl.is.scope in
    let r = some_mapped (mapped_signature (kind_at p x pl) (effect_by pl.instance.bound pl.instance.ground))
    (find_method name (methods_of_owner l pl.scope.bodies)) m
    (sym (find_mapped (kind_at p x pl) (effect_by pl.instance.bound pl.instance.ground) name (methods_of_owner l pl.scope.bodies)) ∙
    ap (find_method name) (sym table) ∙ e) in
    let f = body_found 0 l name pl.scope.bodies r.0 r.1 in
    let place_is : f.place ≡ f.method.number = (let h = f.number in omega (arith, h)) in
    record {
      method = f.method;
      found = f.found;
      there = ap (slice_get pl.scope.bodies) (sym place_is) ∙ f.there;
      owner = f.owner;
      called = f.called;
      signed = ap (mapped_signature (kind_at p x pl) (effect_by pl.instance.bound pl.instance.ground)) f.signed ∙ r.2;
    }

-- the derivation of a body of a scope
pub body_derivation : (y : Reading) (s : Scope) (locals : List y.Kind) (ds : List (BodyDerivation y.Kind)) (bs : List Body) (k : ℕ) (b : Body) →
    DerivesBodies y s locals ds bs → slice_get bs k ≡ Some b → (d : BodyDerivation y.Kind) × DerivesBody y s locals d b
body_derivation y s locals [] [] k b h e = absurd cc
body_derivation y s locals (d ∷ ds) (c ∷ bs) zero b h e = (d, subst (λ b. DerivesBody y s locals d b) (some_same e) h.0)
body_derivation y s locals (d ∷ ds) (c ∷ bs) (suc k) b h e = body_derivation y s locals ds bs k b h.1 e
body_derivation y s locals ds bs k b h e = absurd h
