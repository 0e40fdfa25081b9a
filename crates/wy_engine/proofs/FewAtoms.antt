-- The grants of a program have few atoms.
use Rattle.std.proofs.Common.{◌≡◌, ◌≤◌, ◌<◌, ◌+◌, ◌*◌, ℕ, zero, suc, List, [], ◌∷◌, ◌++◌, Option, Some, None, refl, sym, subst, arith, length, map, take, length-append, lit≤}
use Rattle.std.specs.Prelude.{slice_get}
use Rattle.std.proofs.Math.ListN.{length-map}
use Rattle.wy_effects.specs.AtomTable.{atom_name}
use Rattle.wy_text.proofs.Lists.{In-slice_get}
use Rattle.wy_types.specs.Core.{IsCore, IsPrimitive, OriginFits, ScopeFits, one_grant, origins_count}
use Rattle.wy_types.specs.Ground.{abstract_names, members_of, names_of, program_number}
use Rattle.wy_types.specs.Primitive.{primitive_types, first_declared}
use Rattle.wy_sound.proofs.Lists.{taken_get}
use Rattle.wy_types.specs.Program.{Program, Scope}
use Rattle.wy_types.specs.declared.resolved.Origin.{Origin}
use Rattle.wy_types.specs.declared.resolved.Origin.TheVariants.{Grant, Import, Instance, Parameter, Use}
use Rattle.wy_types.specs.declared.resolved.OwnName.{OwnName}
use Rattle.wy_types.specs.declared.resolved.TypeDecl.{TypeDecl}
use Rattle.wy_types.specs.declared.types.TypeRef.{TypeRef}
use Rattle.wy_types.specs.declared.types.TypeRef.TheVariants.{At, Bool as Truth, Int, Named, Own, Text, Unit as Nothing}
use Rattle.wy_authority.specs.Authority.{authority_of, grant_atoms, granted}

-- a primitive type has five members at most
few_of : (d : ℕ) → d < first_declared → length (abstract_names (slice_get primitive_types d)) ≤ 5
few_of zero lt = lit≤ tt
few_of (suc zero) lt = lit≤ tt
few_of (suc (suc zero)) lt = lit≤ tt
few_of (suc (suc (suc zero))) lt = lit≤ tt
few_of (suc (suc (suc (suc zero)))) lt = lit≤ tt
few_of (suc (suc (suc (suc (suc d))))) lt = absurd (omega (arith, lt))

few_among : (ds : List TypeDecl) → take first_declared ds ≡ primitive_types → (d : ℕ) → d < first_declared → length (abstract_names (slice_get ds d)) ≤ 5
few_among ds e d lt = subst (λ (o : Option TypeDecl). length (abstract_names o) ≤ 5) (sym (taken_get d first_declared ds primitive_types lt e)) (few_of d lt)

few_members : (p : Program) → IsCore p → (t : TypeRef) → IsPrimitive t → length (members_of p t) ≤ 5
few_members p core Int is = absurd is
few_members p core Truth is = absurd is
few_members p core Text is = absurd is
few_members p core Nothing is = absurd is
few_members p core (Named d sets) is = few_among p.declarations core.primitives d is
few_members p core (At d bound) is = absurd is
few_members p core (Own l) is = absurd is

-- each grant among these names has a primitive type
abbrev GrantsArePrimitive : List OwnName → Type 0
GrantsArePrimitive ns = (k : ℕ) (n : OwnName) → slice_get ns k ≡ Some n → n.origin ≡ Grant → IsPrimitive n.typ

few_granted : (p : Program) → IsCore p → (n : OwnName) (ns : List OwnName) → (n.origin ≡ Grant → IsPrimitive n.typ) → length (grant_atoms p ns) ≤ 5 * origins_count one_grant ns
    → (o : Origin) → n.origin ≡ o → length (granted p o n ++ grant_atoms p ns) ≤ 5 * (one_grant o + origins_count one_grant ns)
few_granted p core n ns primitive rest (Parameter bare) is = omega (arith, rest)
few_granted p core n ns primitive rest Grant is =
    let own : length (members_of p n.typ) ≤ 5 = few_members p core n.typ (primitive is) in
    let mapped : length (map (atom_name n.name) (members_of p n.typ)) ≡ length (members_of p n.typ) = length-map (members_of p n.typ) (atom_name n.name) in
    let both : length (map (atom_name n.name) (members_of p n.typ) ++ grant_atoms p ns) ≡ length (map (atom_name n.name) (members_of p n.typ)) + length (grant_atoms p ns) = length-append (map (atom_name n.name) (members_of p n.typ)) (grant_atoms p ns) in
    omega (arith, own, mapped, both, rest)
few_granted p core n ns primitive rest (Use m) is = omega (arith, rest)
few_granted p core n ns primitive rest (Instance m arguments) is = omega (arith, rest)
few_granted p core n ns primitive rest (Import m arguments bound) is = omega (arith, rest)

few_grant_atoms : (p : Program) → IsCore p → (ns : List OwnName) → GrantsArePrimitive ns → length (grant_atoms p ns) ≤ 5 * origins_count one_grant ns
few_grant_atoms p core [] primitive = omega arith
few_grant_atoms p core (n ∷ ns) primitive =
    few_granted p core n ns (primitive zero n refl) (few_grant_atoms p core ns (λ k m e. primitive (suc k) m e)) n.origin refl

few_in : (p : Program) → IsCore p → (k : ℕ) (s : Option Scope) → slice_get p.scopes k ≡ s → length (grant_atoms p (names_of s)) ≤ 512
few_in p core k None e = omega arith
few_in p core k (Some s) e =
    let fits : ScopeFits p s = core.scopes s (In-slice_get p.scopes k s e) in
    let few : length (grant_atoms p s.names) ≤ 5 * origins_count one_grant s.names = few_grant_atoms p core s.names grant_fits in
    omega (arith, few, fits.few_grants)
  where
    grant_fits : GrantsArePrimitive s.names
    grant_fits i n at is =
        let fits : OriginFits p s i n Grant = subst (λ (o : Origin). OriginFits p s i n o) is ((core.scopes s (In-slice_get p.scopes k s e)).names i n at).1 in
        fits.1

pub few_atoms : (p : Program) → IsCore p → length (authority_of p).atoms ≤ 512
few_atoms p core = few_in p core (program_number p) (slice_get p.scopes (program_number p)) refl
