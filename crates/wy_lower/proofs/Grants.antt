-- The code has the program's grants at their numbers.
use Rattle.std.proofs.Common.{◌≡◌, inl, inr, ℕ, zero, suc, List, [], ◌∷◌, ◌++◌, Option, Some, None, refl, sym, ap, ◌∙◌, subst, arith}
use Rattle.std.specs.Prelude.{slice_get}
use Rattle.wy_text.specs.Members.{In}
use Rattle.wy_types.specs.declared.types.TypeRef.{TypeRef}
use Rattle.wy_types.specs.declared.types.TypeRef.TheVariants.{Int, Bool as Truth, Text, Unit as Nothing, Named, At, Own}
use Rattle.wy_types.specs.declared.resolved.OwnName.{OwnName}
use Rattle.wy_types.specs.declared.resolved.Origin.{Origin}
use Rattle.wy_types.specs.declared.resolved.Origin.TheVariants as origin
use Rattle.wy_types.specs.Core.{IsPrimitive, OriginFits}
use Rattle.wy_types.specs.Program.{Program, Scope}
use Rattle.wy_device.specs.Editions.{Edition, current}
use Rattle.wy_device.specs.declared.primitive.Primitive.{Primitive}
use Rattle.wy_meaning.specs.Starts.{Starts, GrantIs, primitive_of_type, grant_of_primitive, grant_from, grant_named, grant_of, scope_names, last_scope}
use Rattle.wy_code.specs.declared.code.Grant.{Grant as CodeGrant}
use Rattle.wy_lower.specs.Lowerable.{Lowerable, GrantsStandFirst}
use Rattle.wy_lower.specs.Lowering.{grant_of_type, grant_code, grants_code, lowered}
use Rattle.wy_lower.proofs.Codes.{in_list}
use Rattle.wy_lower.proofs.Looking.{some_is}
use Rattle.wy_lower.proofs.Replies.{HasGrant}
use Rattle.wy_lower.proofs.Steps.{HasGrants}

------------------------------------------------------------
-- Grants

-- each grant of these names has a primitive type
abbrev AreOfTypes : List OwnName → Type 0
AreOfTypes ns = (n : OwnName) → In n ns → n.origin ≡ origin.Grant → (y : GrantIs) × (grant_named current (Some n) ≡ Some y)

-- the code of a grant
abbrev code_of_grant : GrantIs → List CodeGrant
code_of_grant y = record { name = y.name; primitive = y.primitive } ∷ []

of_primitive : (n : OwnName) (o : Option Primitive) (y : GrantIs) → grant_of_primitive n.name o ≡ Some y → grant_of_type n.name o ≡ code_of_grant y
of_primitive n None y e = absurd cc
of_primitive n (Some x) y e = ap (λ (c : GrantIs). code_of_grant c) (some_is e)

granted : (n : OwnName) (o : Origin) (y : GrantIs) → grant_from current o n ≡ Some y → grant_code o n ≡ code_of_grant y
granted n origin.Grant y e = of_primitive n (primitive_of_type current n.typ) y e
granted n (origin.Parameter bare) y e = absurd cc
granted n (origin.Use m) y e = absurd cc
granted n (origin.Instance m arguments) y e = absurd cc
granted n (origin.Import m arguments bound) y e = absurd cc

only_grants : (n : OwnName) (o : Origin) (y : GrantIs) → grant_from current o n ≡ Some y → o ≡ origin.Grant
only_grants n origin.Grant y e = refl
only_grants n (origin.Parameter bare) y e = absurd cc
only_grants n (origin.Use m) y e = absurd cc
only_grants n (origin.Instance m arguments) y e = absurd cc
only_grants n (origin.Import m arguments bound) y e = absurd cc

grants_from : (ns : List OwnName) → GrantsStandFirst ns → AreOfTypes ns → (k : ℕ) (y : GrantIs) → grant_named current (slice_get ns k) ≡ Some y →
    HasGrant y (slice_get (grants_code ns) k)
grants_from [] first types k y e = absurd cc
grants_from (n ∷ ns) first types zero y e = ap (λ l. slice_get (l ++ grants_code ns) 0) (granted n n.origin y e)
grants_from (n ∷ ns) first types (suc k) y e = of (slice_get ns k) refl (grants_from ns first.1 (λ m j. types m (inr j)) k y e)
  where
    of : (o : Option OwnName) → slice_get ns k ≡ o → HasGrant y (slice_get (grants_code ns) k) →
        HasGrant y (slice_get (grants_code (n ∷ ns)) (suc k))
    of None t rest = let z : grant_named current (slice_get ns k) ≡ None = ap (grant_named current) t in absurd cc
    of (Some m) t rest =
        let z : grant_from current m.origin m ≡ Some y = sym (ap (grant_named current) t) ∙ e in
        let h = types n (inl refl) (first.0 m (in_list ns k m t) (only_grants m m.origin y z)) in
        ap (λ l. slice_get (l ++ grants_code ns) (suc k)) (granted n n.origin h.0 h.1) ∙ rest

primitive_kind : (n : OwnName) (t : TypeRef) → IsPrimitive t → (y : GrantIs) × (grant_of_primitive n.name (primitive_of_type current t) ≡ Some y)
primitive_kind n Int h = absurd h
primitive_kind n Truth h = absurd h
primitive_kind n Text h = absurd h
primitive_kind n Nothing h = absurd h
primitive_kind n (At d bound) h = absurd h
primitive_kind n (Own l) h = absurd h
primitive_kind n (Named zero members) h = (_, refl)
primitive_kind n (Named (suc zero) members) h = (_, refl)
primitive_kind n (Named (suc (suc zero)) members) h = (_, refl)
primitive_kind n (Named (suc (suc (suc zero))) members) h = (_, refl)
primitive_kind n (Named (suc (suc (suc (suc zero)))) members) h = (_, refl)
primitive_kind n (Named (suc (suc (suc (suc (suc d))))) members) h = absurd (omega arith)

module _ (p : Program) (st : Starts) (ok : Lowerable p st) where
  types : AreOfTypes (scope_names (slice_get p.scopes (last_scope p.scopes)))
  types = of (slice_get p.scopes (last_scope p.scopes)) refl
    where
      number_of : (ns : List OwnName) (n : OwnName) → In n ns → (k : ℕ) × (slice_get ns k ≡ Some n)
      number_of [] n j = absurd j
      number_of (m ∷ ns) n (inl e) = (0, ap (λ (c : OwnName). Some c) e)
      number_of (m ∷ ns) n (inr j) = let r = number_of ns n j in (suc r.0, r.1)

      of : (o : Option Scope) → slice_get p.scopes (last_scope p.scopes) ≡ o → AreOfTypes (scope_names o)
      of None e n j h = absurd j
      of (Some sc) e n j h =
          let k = number_of sc.names n j in
          let f = (ok.core.scopes sc (in_list p.scopes _ sc e)).names k.0 n k.1 in
          let fits : OriginFits p sc k.0 n origin.Grant = subst (λ (c : Origin). OriginFits p sc k.0 n c) h f.1 in
          let y = primitive_kind n n.typ fits.1 in
          (y.0, ap (λ (c : Origin). grant_from current c n) h ∙ y.1)

  coded_grants : (k : ℕ) (y : GrantIs) → grant_of st.edition p k ≡ Some y → HasGrant y (slice_get (lowered p st).grants k)
  unfolding lowered
  coded_grants k y e = grants_from _ ok.grants types k y (ap (λ (d : Edition). grant_of d p k) (sym ok.edition) ∙ e)

  pub has_grants : HasGrants p st
  has_grants = record { edition = ok.edition; grants = coded_grants }
