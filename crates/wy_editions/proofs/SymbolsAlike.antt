-- Written sets, types, signatures and declarations stand for the same, and are refused alike, in scopes whose heads differ in the
-- type of one number alone, which no name that is `Ok` finds.
use Rattle.std.proofs.Common.{◌≡◌, ℕ, ◌+◌, Bool, true, false, List, [], ◌∷◌, ◌++◌, map, Option, Some, None, inl, inr, refl, ap, ap₂, ◌∙◌, if◌then◌else◌}
use Rattle.wy_syntax.specs.declared.types.AtomUse.{AtomUse}
use Rattle.wy_syntax.specs.declared.types.MemberSet.{MemberSet}
use Rattle.wy_syntax.specs.declared.types.Name.{Name}
use Rattle.wy_syntax.specs.declared.types.Param.{Param}
use Rattle.wy_syntax.specs.declared.types.Signature.{Signature}
use Rattle.wy_syntax.specs.declared.types.TypeUse.{TypeUse}
use Rattle.wy_syntax.specs.declared.types.TypeUse.TheVariants as use_of
use Rattle.wy_syntax.specs.declared.items.Member.{Member}
use Rattle.wy_syntax.specs.declared.items.Member.TheVariants.{Abstract, Bounded, Defined, Method}
use Rattle.wy_syntax.specs.declared.items.TypeDecl.{TypeDecl}
use Rattle.wy_effects.specs.EffSet.{union}
use Rattle.wy_types.specs.declared.types.TypeRef.TheVariants as ref
use Rattle.wy_symbols.specs.declared.scoping.Head.{Head}
use Rattle.wy_symbols.specs.declared.scoping.Meaning.{Meaning}
use Rattle.wy_symbols.specs.declared.scoping.Opening.{Opening}
use Rattle.wy_symbols.specs.declared.scoping.Opening.TheVariants.{Members, Nothing, Missing}
use Rattle.wy_symbols.specs.declared.scoping.Owner.{Owner}
use Rattle.wy_symbols.specs.Declarations.{same_name, repeated}
use Rattle.wy_symbols.specs.Meanings.{meaning_of, abstract_names}
use Rattle.wy_symbols.specs.Atoms.{AtomScope, head_names, type_number, members_of, member_set, opening_set, owner_of, owner_set, meaning_set, atom_set, set_of, unless_member, opening_refusals, owner_refusals, unless_meant, atom_refusals, set_refusals, members_after, member_scope}
use Rattle.wy_symbols.specs.TypeUses.{written_set, written_sets, named_type, bound_type, type_ref, set_names, texts_of, lacking, not_abstract, sets_refusals, type_name_refusals, bare_refusals, with_refusals, type_refusals, plain_refusals, use_refusals, param_names, param_types, effect_of, effect_refusals, method_of, params_refusals, signature_refusals, declaration_scope, declared_methods, declaration, member_names, method_names, members_refusals, declaration_refusals, declarations_refusals}
use Rattle.wy_editions.proofs.TypeNames.{UseHas, ParamsHave, SignatureHas, MembersHave, DeclHas, DeclsHave}
use Rattle.wy_editions.proofs.Alike.{HeadsAlike, NumberNot, OpensNot, OwnersOpenNot, ScopesAlike}

module _ (Ok : List ℕ → Type 0) (i : ℕ) where
  -- the owner of a name does not open the type of that number
  abbrev FoundNot : Option Owner → Type 0
  FoundNot None = Unit {0}
  FoundNot (Some o) = OpensNot Ok i o.opening

  found_not : (os : List Owner) (x : List ℕ) → OwnersOpenNot Ok i os → FoundNot (owner_of os x)
  found_not [] x h = tt
  found_not (o ∷ os) x h =
      elim (same_name o.name x) as (λ (b : Bool). FoundNot (if b then Some o else owner_of os x)) [
        | true ↦ h o (inl refl)
        | false ↦ found_not os x (λ p j. h p (inr j))
      ]

  module _ (s t : AtomScope) (a : ScopesAlike Ok i s t) where
    ------------------------------------------------------------
    -- Written sets

    opening_same : (owner x : List ℕ) (o : Opening) → OpensNot Ok i o → opening_set s owner x o ≡ opening_set t owner x o
    opening_same owner x (Members d) n =
        ap (λ (ms : List Meaning). member_set s.atoms owner ms (meaning_of ms x)) (a.heads.members d n)
        ∙ ap (λ atoms. member_set atoms owner (members_of t.heads d) (meaning_of (members_of t.heads d) x)) a.atoms
    opening_same owner x Nothing n = refl
    opening_same owner x Missing n = refl

    owner_same : (owner x : List ℕ) (o : Option Owner) → FoundNot o → owner_set s owner x o ≡ owner_set t owner x o
    owner_same owner x None n = refl
    owner_same owner x (Some o) n = opening_same owner x o.opening n

    atom_same : (o : Option Name) (x : List ℕ) → atom_set s o x ≡ atom_set t o x
    atom_same None x = ap (λ (ms : List Meaning). meaning_set (meaning_of ms x)) a.meanings
    atom_same (Some o) x =
        owner_same o.text x (owner_of s.owners o.text) (found_not s.owners o.text a.opened) ∙ ap (λ (os : List Owner). owner_set t o.text x (owner_of os o.text)) a.owners

    pub set_same : (set : List AtomUse) → set_of s set ≡ set_of t set
    set_same [] = refl
    set_same (u ∷ more) = ap₂ union (atom_same u.owner u.member.text) (set_same more)

    opening_refusals_same : (o n : Name) (w : Opening) → OpensNot Ok i w → opening_refusals s o n w ≡ opening_refusals t o n w
    opening_refusals_same o n (Members d) h = ap (λ (ms : List Meaning). unless_member n (meaning_of ms n.text)) (a.heads.members d h)
    opening_refusals_same o n Nothing h = refl
    opening_refusals_same o n Missing h = refl

    owner_refusals_same : (o n : Name) (w : Option Owner) → FoundNot w → owner_refusals s o n w ≡ owner_refusals t o n w
    owner_refusals_same o n None h = refl
    owner_refusals_same o n (Some w) h = opening_refusals_same o n w.opening h

    atom_refusals_same : (o : Option Name) (n : Name) → atom_refusals s o n ≡ atom_refusals t o n
    atom_refusals_same None n = ap (λ (ms : List Meaning). unless_meant n (meaning_of ms n.text)) a.meanings
    atom_refusals_same (Some o) n =
        owner_refusals_same o n (owner_of s.owners o.text) (found_not s.owners o.text a.opened) ∙ ap (λ (os : List Owner). owner_refusals t o n (owner_of os o.text)) a.owners

    pub set_refusals_same : (set : List AtomUse) → set_refusals s set ≡ set_refusals t set
    set_refusals_same [] = refl
    set_refusals_same (u ∷ more) = ap₂ (λ x y. x ++ y) (atom_refusals_same u.owner u.member) (set_refusals_same more)

    ------------------------------------------------------------
    -- Types

    written_same : (ms : List MemberSet) (x : List ℕ) → written_set s ms x ≡ written_set t ms x
    written_same [] x = refl
    written_same (m ∷ ms) x = ap₂ (λ u v. if same_name m.name.text x then u else v) (set_same m.effect) (written_same ms x)

    writtens_same : (sets : List MemberSet) (names : List (List ℕ)) → written_sets s sets names ≡ written_sets t sets names
    writtens_same sets [] = refl
    writtens_same sets (n ∷ ns) = ap₂ ◌∷◌ (written_same sets n) (writtens_same sets ns)

    named_same : (plain : Bool) (sets : List MemberSet) (o : Option ℕ) → NumberNot Ok i o → named_type s plain sets o ≡ named_type t plain sets o
    named_same plain sets None h = refl
    named_same true sets (Some d) h = refl
    named_same false sets (Some d) h =
        ap (ref.Named d) (
        writtens_same sets (abstract_names (members_of s.heads d)) ∙
        ap (λ (ms : List Meaning). written_sets t sets (abstract_names ms)) (a.heads.members d (h d refl))
        )

    bound_same : (plain : Bool) (set : List AtomUse) (o : Option ℕ) → bound_type s plain set o ≡ bound_type t plain set o
    bound_same plain set None = refl
    bound_same true set (Some d) = refl
    bound_same false set (Some d) = ap (ref.At d) (set_same set)

    pub type_same : (plain : Bool) (u : TypeUse) → UseHas Ok u → type_ref s plain u ≡ type_ref t plain u
    type_same plain (use_of.Int p) h = refl
    type_same plain (use_of.Bool p) h = refl
    type_same plain (use_of.Text p) h = refl
    type_same plain (use_of.Unit p) h = refl
    type_same plain (use_of.Bare n) h =
        named_same plain [] (type_number (head_names s.heads) n.text) (a.heads.number_not n.text h) ∙ ap (named_type t plain []) (a.heads.numbers n.text h)
    type_same plain (use_of.With n sets) h =
        named_same plain sets (type_number (head_names s.heads) n.text) (a.heads.number_not n.text h) ∙ ap (named_type t plain sets) (a.heads.numbers n.text h)
    type_same plain (use_of.At n set) h =
        bound_same plain set (type_number (head_names s.heads) n.text) ∙ ap (bound_type t plain set) (a.heads.numbers n.text h)

    ------------------------------------------------------------
    -- Their refusals

    sets_refusals_same : (sets : List MemberSet) → sets_refusals s sets ≡ sets_refusals t sets
    sets_refusals_same [] = refl
    sets_refusals_same (m ∷ ms) = ap₂ (λ x y. x ++ y) (set_refusals_same m.effect) (sets_refusals_same ms)

    bare_refusals_same : (bare : Bool) (n : Name) (o : Option ℕ) → NumberNot Ok i o → bare_refusals s bare n o ≡ bare_refusals t bare n o
    bare_refusals_same bare n None h = refl
    bare_refusals_same true n (Some d) h = refl
    bare_refusals_same false n (Some d) h = ap (λ (ms : List Meaning). lacking n ms []) (a.heads.members d (h d refl))

    with_refusals_same : (n : Name) (sets : List MemberSet) (o : Option ℕ) → NumberNot Ok i o → with_refusals s n sets o ≡ with_refusals t n sets o
    with_refusals_same n sets None h = refl
    with_refusals_same n sets (Some d) h = ap (λ (ms : List Meaning). lacking n ms (texts_of sets) ++ not_abstract ms (set_names sets)) (a.heads.members d (h d refl))

    pub type_refusals_same : (bare : Bool) (u : TypeUse) → UseHas Ok u → type_refusals s bare u ≡ type_refusals t bare u
    type_refusals_same bare (use_of.Int p) h = refl
    type_refusals_same bare (use_of.Bool p) h = refl
    type_refusals_same bare (use_of.Text p) h = refl
    type_refusals_same bare (use_of.Unit p) h = refl
    type_refusals_same bare (use_of.Bare n) h =
        bare_refusals_same bare n (type_number (head_names s.heads) n.text) (a.heads.number_not n.text h) ∙ ap (bare_refusals t bare n) (a.heads.numbers n.text h)
    type_refusals_same bare (use_of.With n sets) h =
        ap₂ (λ x y. x ++ (repeated [] (set_names sets) ++ y))
        (with_refusals_same n sets (type_number (head_names s.heads) n.text) (a.heads.number_not n.text h) ∙ ap (with_refusals t n sets) (a.heads.numbers n.text h))
        (sets_refusals_same sets)
    type_refusals_same bare (use_of.At n set) h = ap₂ (λ o y. type_name_refusals n o ++ y) (a.heads.numbers n.text h) (set_refusals_same set)

    pub plain_refusals_same : (u : TypeUse) → UseHas Ok u → plain_refusals s u ≡ plain_refusals t u
    plain_refusals_same (use_of.Int p) h = refl
    plain_refusals_same (use_of.Bool p) h = refl
    plain_refusals_same (use_of.Text p) h = refl
    plain_refusals_same (use_of.Unit p) h = refl
    plain_refusals_same (use_of.Bare n) h = ap (type_name_refusals n) (a.heads.numbers n.text h)
    plain_refusals_same (use_of.With n sets) h = ap (type_name_refusals n) (a.heads.numbers n.text h)
    plain_refusals_same (use_of.At n set) h = ap (type_name_refusals n) (a.heads.numbers n.text h)

    pub use_same : (plain : Bool) (u : TypeUse) → UseHas Ok u → use_refusals s plain u ≡ use_refusals t plain u
    use_same true u h = plain_refusals_same u h
    use_same false u h = type_refusals_same false u h

    ------------------------------------------------------------
    -- Signatures

    param_types_same : (plain : Bool) (ps : List Param) → ParamsHave Ok ps → param_types s plain ps ≡ param_types t plain ps
    param_types_same plain [] h = refl
    param_types_same plain (p ∷ ps) h = ap₂ ◌∷◌ (type_same plain p.type_use h.0) (param_types_same plain ps h.1)

    effect_same : (plain : Bool) (o : Option (List AtomUse)) → effect_of s plain o ≡ effect_of t plain o
    effect_same plain None = refl
    effect_same true (Some set) = refl
    effect_same false (Some set) = set_same set

    effect_refusals_same : (plain : Bool) (o : Option (List AtomUse)) → effect_refusals s plain o ≡ effect_refusals t plain o
    effect_refusals_same plain None = refl
    effect_refusals_same true (Some set) = refl
    effect_refusals_same false (Some set) = set_refusals_same set

    pub method_same : (plain : Bool) (g : Signature) → SignatureHas Ok g → method_of s plain g ≡ method_of t plain g
    method_same plain g h =
        let params = param_types_same plain g.params h.0 in
        let effect = effect_same plain g.effect in
        let result = type_same plain g.result h.1 in
        cc

    params_refusals_same : (plain : Bool) (ps : List Param) → ParamsHave Ok ps → params_refusals s plain ps ≡ params_refusals t plain ps
    params_refusals_same plain [] h = refl
    params_refusals_same plain (p ∷ ps) h = ap₂ (λ x y. x ++ y) (use_same plain p.type_use h.0) (params_refusals_same plain ps h.1)

    pub signature_same : (plain : Bool) (g : Signature) → SignatureHas Ok g → signature_refusals s plain g ≡ signature_refusals t plain g
    signature_same plain g h =
        ap (λ x. repeated [] (param_names g.params) ++ x) (
        ap₂ (λ x y. x ++ y) (params_refusals_same plain g.params h.0) (ap₂ (λ x y. x ++ y) (effect_refusals_same plain g.effect) (use_same plain g.result h.1))
        )

  ------------------------------------------------------------
  -- Declarations

  module _ (h g : List Head) (a : HeadsAlike Ok i h g) where
    declaration_alike : (members : List Meaning) → ScopesAlike Ok i (declaration_scope h members) (declaration_scope g members)
    declaration_alike members = record { heads = a; atoms = refl; owners = refl; meanings = refl; opened = λ o j. absurd j }

    methods_same : (members : List Meaning) (ms : List Member) → MembersHave Ok ms →
        declared_methods (declaration_scope h members) ms ≡ declared_methods (declaration_scope g members) ms
    methods_same members [] k = refl
    methods_same members (Abstract n ∷ ms) k = methods_same members ms k
    methods_same members (Bounded n set ∷ ms) k = methods_same members ms k
    methods_same members (Defined n set ∷ ms) k = methods_same members ms k
    methods_same members (Method m ∷ ms) k =
        ap₂ ◌∷◌ (method_same (declaration_scope h members) (declaration_scope g members) (declaration_alike members) false m k.0) (methods_same members ms k.1)

    declaration_same : (d : TypeDecl) → DeclHas Ok d → declaration h d ≡ declaration g d
    declaration_same d k = (let methods = methods_same (members_after [] 0 d.members) d.members k.1 in cc)

    pub declarations_same : (ds : List TypeDecl) → DeclsHave Ok ds → map (declaration h) ds ≡ map (declaration g) ds
    declarations_same [] k = refl
    declarations_same (d ∷ ds) k = ap₂ ◌∷◌ (declaration_same d k.0) (declarations_same ds k.1)

    members_refusals_same : (all before : List Meaning) (n : ℕ) (ms : List Member) → MembersHave Ok ms →
        members_refusals (declaration_scope h all) before n ms ≡ members_refusals (declaration_scope g all) before n ms
    members_refusals_same all before n [] k = refl
    members_refusals_same all before n (Abstract x ∷ ms) k = members_refusals_same all (members_after before n (Abstract x ∷ [])) (n + 1) ms k
    members_refusals_same all before n (Bounded x set ∷ ms) k =
        ap (λ y. set_refusals (member_scope before) set ++ y) (members_refusals_same all (members_after before n (Bounded x set ∷ [])) (n + 1) ms k)
    members_refusals_same all before n (Defined x set ∷ ms) k =
        ap (λ y. set_refusals (member_scope before) set ++ y) (members_refusals_same all (members_after before n (Defined x set ∷ [])) n ms k)
    members_refusals_same all before n (Method m ∷ ms) k =
        ap₂ (λ x y. x ++ y) (signature_same (declaration_scope h all) (declaration_scope g all) (declaration_alike all) false m k.0) (members_refusals_same all before n ms k.1)

    declaration_refusals_same : (d : TypeDecl) → DeclHas Ok d → declaration_refusals h d ≡ declaration_refusals g d
    declaration_refusals_same d k =
        ap (λ x. repeated [] (member_names d.members) ++ (repeated [] (method_names d.members) ++ x)) (members_refusals_same (members_after [] 0 d.members) [] 0 d.members k.1)

    pub declarations_refusals_same : (ds : List TypeDecl) → DeclsHave Ok ds → declarations_refusals h ds ≡ declarations_refusals g ds
    declarations_refusals_same [] k = refl
    declarations_refusals_same (d ∷ ds) k = ap₂ (λ x y. x ++ y) (declaration_refusals_same d k.0) (declarations_refusals_same ds k.1)
