-- Declared types fit.
use Rattle.std.proofs.Common.{◌≡◌, ℕ, ◌≤◌, List, [], ◌∷◌, ◌++◌, map, length, Bool, true, false, inl, inr, refl, sym, subst, arith}
use Rattle.std.specs.Prelude.{if◌then◌else◌}
use Rattle.std.proofs.lemmas.List.{length-map}
use Rattle.wy_syntax.specs.declared.types.Param.{Param}
use Rattle.wy_syntax.specs.declared.types.Signature as tree
use Rattle.wy_syntax.specs.declared.items.Member.{Member}
use Rattle.wy_syntax.specs.declared.items.Member.TheVariants.{Abstract, Bounded, Defined, Method}
use Rattle.wy_syntax.specs.declared.items.TypeDecl.{TypeDecl}
use Rattle.wy_text.specs.Members.{In, Apart}
use Rattle.wy_effects.specs.EffSet.{IsSet}
use Rattle.wy_text.proofs.Lists.{In-cases, In-unmap}
use Rattle.wy_types.specs.declared.types.TypeRef.{TypeRef}
use Rattle.wy_types.specs.declared.resolved.DefinedMember.{DefinedMember}
use Rattle.wy_types.specs.Program.{Program}
use Rattle.wy_types.specs.Signature.{Signature}
use Rattle.wy_types.specs.Types.{signature}
use Rattle.wy_types.specs.Fitting.{FitsSignature}
use Rattle.wy_types.specs.Core.{HasSets, DeclarationFits}
use Rattle.wy_symbols.specs.declared.scoping.Head.{Head}
use Rattle.wy_symbols.specs.declared.scoping.Meaning.{Meaning}
use Rattle.wy_symbols.specs.Declarations.{repeated}
use Rattle.wy_symbols.specs.Meanings.{abstract_names, abstract_bounds}
use Rattle.wy_symbols.specs.Atoms.{AtomScope, members_after}
use Rattle.wy_symbols.specs.TypeUses.{param_types, type_ref, method_of, declaration_scope, defined_members, declared_methods, member_names, method_names, declaration}
use Rattle.wy_heads.specs.Counts.{signature_count, abstract_count, member_params}
use Rattle.wy_well_formed.proofs.Repeats.{repeated_apart}
use Rattle.wy_well_formed.proofs.Sets.{AreMeant, Holds}
use Rattle.wy_well_formed.proofs.BoundLists.{from_fits}
use Rattle.wy_well_formed.proofs.Meant.{none_meant, members_meant, length_bounds, bounds_from}
use Rattle.wy_well_formed.proofs.WrittenTypes.{Knows, Stands, use_stands, effect_below}
use Rattle.wy_well_formed.proofs.AtomCounts.{abstract_members_count}
use Rattle.wy_well_formed.proofs.MemberNames.{split_apart, names_after, methods_names, methods_count}

-- a declaration within the limits
pub record FewMembers (d : TypeDecl) : Type 0 where
  pub members : abstract_count d.members ≤ 512
  pub methods : signature_count d.members ≤ 128
  pub parameters : (n : ℕ) → In n (member_params d.members) → n ≤ 16

-- a declaration without a repeated name
pub record NamesDiffer (d : TypeDecl) : Type 0 where
  pub members : repeated [] (member_names d.members) ≡ []
  pub methods : repeated [] (method_names d.members) ≡ []

defined_meant : (n : ℕ) (ms : List Meaning) → AreMeant n ms → (d : DefinedMember) → In d (defined_members ms) → IsSet n d.effects
defined_meant n [] h d i = absurd i
defined_meant n (m ∷ ms) h d i =
    let rest = defined_meant n ms (record { set = λ k j. h.set k (inr j) }) d in
    let P : Bool → Type 0 = λ b. In d (if b then defined_members ms else record { name = m.name; effects = m.atoms } ∷ defined_members ms) → IsSet n d.effects in
    (elim (m.is_abstract) as P [
      | true ↦ rest
      | false ↦ λ j. elim j [
        | inl e ↦ (let Q : DefinedMember → Type 0 = λ v. IsSet n v.effects in subst Q e (h.set m (inl refl)))
        | inr l ↦ rest l
      ]
    ]) i

module _ (p : Program) (n : ℕ) (s : AtomScope) (holds : Holds n s) (knows : Knows p s.heads) where
  params_stand : (ps : List Param) (t : TypeRef) → In t (param_types s false ps) → Stands p n false t
  params_stand ps t i =
      let r = In-unmap (λ (x : Param). type_ref s false x.type_use) t ps i in
      let P : TypeRef → Type 0 = λ v. Stands p n false v in
      subst P r.2 (use_stands p n s holds knows false (r.0).type_use)

  abbrev IsOver : Signature TypeRef → Type 0
  IsOver m = FitsSignature p n 0 m × ((t : TypeRef) → In t (m.params ++ m.result ∷ []) → HasSets p false t)

  signature_over : (g : tree.Signature) → IsOver (signature (method_of s false g))
  signature_over g =
      let result = use_stands p n s holds knows false g.result in (
        record { params = λ t i. (params_stand g.params t i).0; effect = effect_below p n s holds knows false g.effect; result = result.0 },
        λ t i. elim (In-cases t (param_types s false g.params) (type_ref s false g.result ∷ []) i) [
          | inl j ↦ (params_stand g.params t j).1
          | inr j ↦ elim j [ inl e ↦ (let P : TypeRef → Type 0 = λ v. HasSets p false v in subst P e result.1) | inr l ↦ absurd l ]
        ],
      )

  methods_over : (ms : List Member) (m : Signature TypeRef) → In m (map signature (declared_methods s ms)) → IsOver m
  methods_over [] m i = absurd i
  methods_over (Abstract x ∷ ms) m i = methods_over ms m i
  methods_over (Bounded x set ∷ ms) m i = methods_over ms m i
  methods_over (Defined x set ∷ ms) m i = methods_over ms m i
  methods_over (Method g ∷ ms) m (inl e) = let P : Signature TypeRef → Type 0 = λ v. IsOver v in subst P e (signature_over g)
  methods_over (Method g ∷ ms) m (inr i) = methods_over ms m i

few_params : (s : AtomScope) (ms : List Member) → ((n : ℕ) → In n (member_params ms) → n ≤ 16) → (m : Signature TypeRef) → In m (map signature (declared_methods s ms)) → length m.params ≤ 16
few_params s [] h m i = absurd i
few_params s (Abstract x ∷ ms) h m i = few_params s ms h m i
few_params s (Bounded x set ∷ ms) h m i = few_params s ms h m i
few_params s (Defined x set ∷ ms) h m i = few_params s ms h m i
few_params s (Method g ∷ ms) h m (inl e) =
    let few : length g.params ≤ 16 = h (length g.params) (inl refl) in
    let l = length-map g.params (λ (x : Param). type_ref s false x.type_use) in
    let P : Signature TypeRef → Type 0 = λ v. length v.params ≤ 16 in
    subst P e (omega (arith, few, l))
few_params s (Method g ∷ ms) h m (inr i) = few_params s ms (λ n j. h n (inr j)) m i

pub declaration_fits : (p : Program) (heads : List Head) (d : TypeDecl) → Knows p heads → FewMembers d → NamesDiffer d → DeclarationFits p (declaration heads d)
declaration_fits p heads d knows few differ =
    let members = members_after [] 0 d.members in
    let n = length (abstract_names members) in
    let count : n ≡ abstract_count d.members = (let c = abstract_members_count [] 0 d.members in omega (arith, c)) in
    let meant : AreMeant n members = members_meant n [] 0 d.members (none_meant n) (omega arith) in
    let s = declaration_scope heads members in
    let holds : Holds n s = record { owners = record { opens = λ o i. absurd i }; meanings = meant } in
    let P : List (List ℕ) → Type 0 = λ l. Apart l in
    record {
      written = methods_over p n s holds knows d.members;
      defined = defined_meant n members meant;
      bounds = from_fits n (abstract_bounds members) (length_bounds members) (bounds_from d.members);
      member_names = split_apart members (subst P (sym (names_after [] 0 d.members)) (repeated_apart [] (member_names d.members) differ.members));
      method_names = subst P (sym (methods_names s d.members)) (repeated_apart [] (method_names d.members) differ.methods);
      few_members = let f = few.members in omega (arith, f, count);
      few_methods = let c = methods_count s d.members in let f = few.methods in omega (arith, f, c);
      few_parameters = few_params s d.members few.parameters;
    }
