-- Own names one by one: each opens the atoms of its owner, and a grant, a use and a line has its type.
use Rattle.std.proofs.Common.{◌≡◌, ℕ, ◌+◌, ◌≤◌, List, [], ◌∷◌, ◌++◌, map, length, Bool, true, false, Option, Some, inl, inr, refl, sym, ap, ◌∙◌, subst, arith}
use Rattle.std.specs.Prelude.{slice_get}
use Rattle.wy_text.specs.declared.fault.AtomName.{AtomName}
use Rattle.wy_text.specs.declared.fault.Place.{Place}
use Rattle.wy_syntax.specs.declared.types.Name.{Name}
use Rattle.wy_syntax.specs.declared.types.TypeUse.{TypeUse}
use Rattle.wy_syntax.specs.declared.types.TypeUse.TheVariants as use_of
use Rattle.wy_syntax.specs.declared.types.Param.{Param}
use Rattle.wy_syntax.specs.declared.items.Line.{Line}
use Rattle.wy_syntax.specs.declared.items.Line.TheVariants as line
use Rattle.wy_syntax.specs.declared.items.Grant.{Grant}
use Rattle.wy_text.proofs.Lists.{In-cases}
use Rattle.wy_types.specs.declared.types.TypeRef.TheVariants.{Named, At}
use Rattle.wy_types.specs.declared.resolved.OwnName.{OwnName}
use Rattle.wy_types.specs.declared.resolved.Origin.TheVariants as origin
use Rattle.wy_types.specs.Program.{Program}
use Rattle.wy_types.specs.Ground.{single_sets, members_of}
use Rattle.wy_types.specs.Bounds.{type_bounds}
use Rattle.wy_rules.specs.OwnNames.{opens as opened_by, opened_bounds as bounds_by, opened_count, sealed_of, name_of, IsOpened, IsBounded, HasItsType, HaveTheirTypes}
use Rattle.wy_symbols.specs.declared.scoping.Head.{Head}
use Rattle.wy_symbols.specs.declared.scoping.Opening.{Opening}
use Rattle.wy_symbols.specs.declared.scoping.Opening.TheVariants.{Members, Nothing, Missing}
use Rattle.wy_symbols.specs.declared.scoping.Owner.{Owner}
use Rattle.wy_symbols.specs.Declarations.{ModuleTree, module_number}
use Rattle.wy_symbols.specs.Atoms.{head_names, opened_names, opened_bounds, module_opening, owner_sets, params_owners, param_opening, grant_owner, use_owner, line_owner, set_of, owner_names, atom_scope}
use Rattle.wy_heads.specs.Lines.{number_or_zero, opened_type, is_bare, param_type, param_name, grant_name, grant_refusals, unless_opened, at_bound, use_name, uses_refusals, unless_number, line_scope, line_name, line_names, line_refusals, lines_refusals}
use Rattle.wy_well_formed.proofs.Repeats.{append_empty}
use Rattle.wy_well_formed.proofs.Sets.{OpensBelow, AllOpen, Holds, set_below}
use Rattle.wy_well_formed.proofs.Meant.{none_meant}
use Rattle.wy_well_formed.proofs.Known.{KnowsMembers}
use Rattle.wy_well_formed.proofs.OwnApart.{own_texts}
use Rattle.wy_well_formed.proofs.NamedModules.{the_number}
use Rattle.wy_well_formed.proofs.AtomsOpened.{owned_count, AreNumbered, numbered_open}

-- the module of a word: the type that it is sealed at, and its name
pub record IsSealedAs (p : Program) (heads : List Head) (modules : List ModuleTree) (word : List ℕ) : Type 0 where
  pub decl : ℕ
  pub opening : module_opening (head_names heads) modules word ≡ Members decl
  pub sealed : sealed_of (slice_get p.scopes (number_or_zero (module_number modules word))) ≡ Some decl
  pub named : word ≡ name_of (slice_get p.scopes (number_or_zero (module_number modules word)))

-- each module that is there is sealed at a declared type
pub record AreSealed (p : Program) (heads : List Head) (modules : List ModuleTree) : Type 0 where
  pub sealed_as : (word : List ℕ) (k : ℕ) → module_number modules word ≡ Some k → IsSealedAs p heads modules word

-- an own name has its owner's name and opens the same members, with the same upper bounds
pub record Follows (p : Program) (heads : List Head) (n : OwnName) (o : Owner) : Type 0 where
  pub name : n.name ≡ o.name
  pub opened : opened_by p n n.origin ≡ opened_names heads o.opening
  pub bounds : bounds_by p n n.origin ≡ opened_bounds heads o.opening

-- so do own names one after the other
abbrev pub AllFollow : Program → List Head → List OwnName → List Owner → Type 0
AllFollow p heads [] [] = Unit {0}
AllFollow p heads [] (o ∷ os) = ⊥
AllFollow p heads (n ∷ ns) [] = ⊥
AllFollow p heads (n ∷ ns) (o ∷ os) = Follows p heads n o × AllFollow p heads ns os

module _ (p : Program) (heads : List Head) (knows : KnowsMembers p heads) where
  pub follow_both : (ns ms : List OwnName) (os qs : List Owner) → AllFollow p heads ns os → AllFollow p heads ms qs → AllFollow p heads (ns ++ ms) (os ++ qs)
  follow_both [] ms [] qs h g = g
  follow_both [] ms (o ∷ os) qs h g = absurd h
  follow_both (n ∷ ns) ms [] qs h g = absurd h
  follow_both (n ∷ ns) ms (o ∷ os) qs h g = (h.0, follow_both ns ms os qs h.1 g)

  pub following_names : (ns : List OwnName) (os : List Owner) → AllFollow p heads ns os → own_texts ns ≡ owner_names os
  following_names [] [] h = refl
  following_names [] (o ∷ os) h = absurd h
  following_names (n ∷ ns) [] h = absurd h
  following_names (n ∷ ns) (o ∷ os) h = ap (λ x. x ∷ own_texts ns) h.0.name ∙ ap (λ l. o.name ∷ l) (following_names ns os h.1)

  pub following_count : (ns : List OwnName) (os : List Owner) → AllFollow p heads ns os → opened_count p ns ≡ owned_count heads os
  following_count [] [] h = refl
  following_count [] (o ∷ os) h = absurd h
  following_count (n ∷ ns) [] h = absurd h
  following_count (n ∷ ns) (o ∷ os) h =
      ap (λ (l : List (List ℕ)). length l + opened_count p ns) h.0.opened ∙ ap (λ k. length (opened_names heads o.opening) + k) (following_count ns os h.1)

  -- the type of an opening has the members that are opened
  opened_members : (atoms : List AtomName) (x : List ℕ) (o : Opening) → members_of p (opened_type heads atoms x o) ≡ opened_names heads o
  opened_members atoms x (Members d) = knows.same d
  opened_members atoms x Nothing = refl
  opened_members atoms x Missing = refl

  -- and their upper bounds
  opened_are_bounded : (atoms : List AtomName) (x : List ℕ) (o : Opening) → type_bounds p (opened_type heads atoms x o) ≡ opened_bounds heads o
  opened_are_bounded atoms x (Members d) = knows.bounds d
  opened_are_bounded atoms x Nothing = refl
  opened_are_bounded atoms x Missing = refl

  ------------------------------------------------------------
  -- What own names open

  param_opens : (atoms : List AtomName) (owners : List Owner) (x : List ℕ) (place : Place) (t : TypeUse) →
      let own : OwnName = record { name = x; place = place; typ = param_type (atom_scope heads atoms owners []) x t; origin = origin.Parameter (is_bare t) } in
      opened_by p own own.origin ≡ opened_names heads (param_opening (head_names heads) t)
  param_opens atoms owners x place (use_of.Int q) = refl
  param_opens atoms owners x place (use_of.Bool q) = refl
  param_opens atoms owners x place (use_of.Text q) = refl
  param_opens atoms owners x place (use_of.Unit q) = refl
  param_opens atoms owners x place (use_of.Bare n) = opened_members atoms x (param_opening (head_names heads) (use_of.Bare n))
  param_opens atoms owners x place (use_of.With n sets) = refl
  param_opens atoms owners x place (use_of.At n set) = refl

  param_bounds : (atoms : List AtomName) (owners : List Owner) (x : List ℕ) (place : Place) (t : TypeUse) →
      let own : OwnName = record { name = x; place = place; typ = param_type (atom_scope heads atoms owners []) x t; origin = origin.Parameter (is_bare t) } in
      bounds_by p own own.origin ≡ opened_bounds heads (param_opening (head_names heads) t)
  param_bounds atoms owners x place (use_of.Int q) = refl
  param_bounds atoms owners x place (use_of.Bool q) = refl
  param_bounds atoms owners x place (use_of.Text q) = refl
  param_bounds atoms owners x place (use_of.Unit q) = refl
  param_bounds atoms owners x place (use_of.Bare n) = opened_are_bounded atoms x (param_opening (head_names heads) (use_of.Bare n))
  param_bounds atoms owners x place (use_of.With n sets) = refl
  param_bounds atoms owners x place (use_of.At n set) = refl

  pub params_follow : (atoms : List AtomName) (owners : List Owner) (plain : Bool) (ps : List Param) →
      AllFollow p heads (map (param_name (atom_scope heads atoms owners []) plain) ps) (params_owners (head_names heads) plain ps)
  params_follow atoms owners true [] = tt
  params_follow atoms owners false [] = tt
  params_follow atoms owners true (x ∷ ps) = (record { name = refl; opened = refl; bounds = refl }, params_follow atoms owners true ps)
  params_follow atoms owners false (x ∷ ps) = (
    record {
      name = refl;
      opened = param_opens atoms owners x.name.text x.name.place x.type_use;
      bounds = param_bounds atoms owners x.name.text x.name.place x.type_use;
    },
    params_follow atoms owners false ps,
  )

  grant_follows : (atoms : List AtomName) (owners : List Owner) (g : Grant) →
      Follows p heads (grant_name (atom_scope heads atoms owners []) g) (grant_owner (head_names heads) g)
  grant_follows atoms owners g =
      let o = (grant_owner (head_names heads) g).opening in
      record { name = refl; opened = opened_members atoms g.name.text o; bounds = opened_are_bounded atoms g.name.text o }

  pub grants_follow : (atoms : List AtomName) (owners : List Owner) (gs : List Grant) →
      AllFollow p heads (map (grant_name (atom_scope heads atoms owners [])) gs) (map (grant_owner (head_names heads)) gs)
  grants_follow atoms owners [] = tt
  grants_follow atoms owners (g ∷ gs) = (grant_follows atoms owners g, grants_follow atoms owners gs)

  module _ (modules : List ModuleTree) (atoms : List AtomName) where
    use_follows : (u : Name) → Follows p heads (use_name heads modules atoms u) (use_owner (head_names heads) modules u)
    use_follows u =
        let o = module_opening (head_names heads) modules u.text in
        record { name = refl; opened = opened_members atoms u.text o; bounds = opened_are_bounded atoms u.text o }

    pub uses_follow : (us : List Name) → AllFollow p heads (map (use_name heads modules atoms) us) (map (use_owner (head_names heads) modules) us)
    uses_follow [] = tt
    uses_follow (u ∷ us) = (use_follows u, uses_follow us)

    line_follows : (before : List Owner) (l : Line) → Follows p heads (line_name heads modules atoms before l) (line_owner (head_names heads) modules l)
    line_follows before (line.Instance x m ns) =
        let o = module_opening (head_names heads) modules m.text in
        record { name = refl; opened = opened_members atoms x.text o; bounds = opened_are_bounded atoms x.text o }
    line_follows before (line.Import x m ns set) = record { name = refl; opened = refl; bounds = refl }

    pub lines_follow : (before : List Owner) (ls : List Line) →
        AllFollow p heads (line_names heads modules atoms before ls) (map (line_owner (head_names heads) modules) ls)
    lines_follow before [] = tt
    lines_follow before (l ∷ ls) = (line_follows before l, lines_follow (before ++ line_owner (head_names heads) modules l ∷ []) ls)

  ------------------------------------------------------------
  -- Types

  -- the type of the members that are opened, with their atoms
  opened_at : (atoms : List AtomName) (x : List ℕ) (k d : ℕ) →
      owner_sets atoms x (opened_names heads (Members d)) ≡ single_sets k (opened_names heads (Members d)) →
      IsOpened p k (Some d) (opened_type heads atoms x (Members d))
  opened_at atoms x k d e = ap (λ l. Named d l) (e ∙ ap (λ ms. single_sets k ms) (sym (knows.same d)))

  -- one more name before others
  typed_more : (k : ℕ) (n : OwnName) (o : Owner) (ns : List OwnName) → Follows p heads n o → HasItsType p k n n.origin →
      HaveTheirTypes p (k + length (opened_names heads o.opening)) ns → HaveTheirTypes p k (n ∷ ns)
  typed_more k n o ns f h g =
      let P : List (List ℕ) → Type 0 = λ l. HaveTheirTypes p (k + length l) ns in
      (h, subst P (sym f.opened) g)

  pub typed_append : (k j : ℕ) (xs ys : List OwnName) → j ≡ k + opened_count p xs → HaveTheirTypes p k xs → HaveTheirTypes p j ys →
      HaveTheirTypes p k (xs ++ ys)
  typed_append k j [] ys e h g =
      let same : j ≡ k = omega (arith, e) in
      let P : ℕ → Type 0 = λ v. HaveTheirTypes p v ys in
      subst P same g
  typed_append k j (x ∷ xs) ys e h g = (h.0, typed_append (k + length (opened_by p x x.origin)) j xs ys (omega (arith, e)) h.1 g)

  -- grants
  granted_type : (atoms : List AtomName) (x : List ℕ) (k : ℕ) (kind : Name) (o : Opening) → unless_opened kind o ≡ [] →
      owner_sets atoms x (opened_names heads o) ≡ single_sets k (opened_names heads o) → (d : ℕ) × IsOpened p k (Some d) (opened_type heads atoms x o)
  granted_type atoms x k kind (Members d) u e = (d, opened_at atoms x k d e)
  granted_type atoms x k kind Nothing u e = cc
  granted_type atoms x k kind Missing u e = cc

  pub grants_typed : (atoms : List AtomName) (owners : List Owner) (k : ℕ) (gs : List Grant) →
      AreNumbered heads atoms k (map (grant_owner (head_names heads)) gs) → grant_refusals (head_names heads) gs ≡ [] →
      HaveTheirTypes p k (map (grant_name (atom_scope heads atoms owners [])) gs)
  grants_typed atoms owners k [] h e = tt
  grants_typed atoms owners k (g ∷ gs) h e =
      let o = grant_owner (head_names heads) g in
      let r = append_empty (unless_opened g.kind o.opening) (grant_refusals (head_names heads) gs) e in
      typed_more k (grant_name (atom_scope heads atoms owners []) g) o _ (grant_follows atoms owners g)
      (granted_type atoms g.name.text k g.kind o.opening r.0 h.0) (grants_typed atoms owners (k + length (opened_names heads o.opening)) gs h.1 r.1)

  module _ (modules : List ModuleTree) (sealed : AreSealed p heads modules) (atoms : List AtomName) where
    -- what a module's word opens, and the scope at its number
    abbrev opening_of : List ℕ → Opening
    opening_of word = module_opening (head_names heads) modules word

    abbrev number_of : List ℕ → ℕ
    number_of word = number_or_zero (module_number modules word)

    abbrev type_at : List ℕ → Option ℕ
    type_at word = sealed_of (slice_get p.scopes (number_of word))

    sealed_as : (m : Name) → unless_number heads modules atoms m (module_number modules m.text) ≡ [] → IsSealedAs p heads modules m.text
    sealed_as m e = sealed.sealed_as m.text (number_of m.text) (the_number heads modules atoms m (module_number modules m.text) (number_of m.text) e refl)

    -- an instance of a module
    instance_typed : (k : ℕ) (x word : List ℕ) → IsSealedAs p heads modules word →
        owner_sets atoms x (opened_names heads (opening_of word)) ≡ single_sets k (opened_names heads (opening_of word)) →
        IsOpened p k (type_at word) (opened_type heads atoms x (opening_of word))
    instance_typed k x word is e =
        let o = opening_of word in
        let P : Opening → Type 0 = λ v.
        owner_sets atoms x (opened_names heads v) ≡ single_sets k (opened_names heads v) → IsOpened p k (Some is.decl) (opened_type heads atoms x v) in
        let Q : Option ℕ → Type 0 = λ v. IsOpened p k v (opened_type heads atoms x o) in
        subst Q (sym is.sealed) ((subst P (sym is.opening) (λ f. opened_at atoms x k is.decl f)) e)

    import_typed : (word bound : List ℕ) → IsSealedAs p heads modules word →
        IsBounded bound (type_at word) (at_bound heads modules atoms (opening_of word) bound)
    import_typed word bound is =
        let o = opening_of word in
        let same : at_bound heads modules atoms o bound ≡ At is.decl bound = ap (λ v. at_bound heads modules atoms v bound) is.opening in
        let Q : Option ℕ → Type 0 = λ v. IsBounded bound v (at_bound heads modules atoms o bound) in
        subst Q (sym is.sealed) same

    pub uses_typed : (k : ℕ) (us : List Name) → AreNumbered heads atoms k (map (use_owner (head_names heads) modules) us) →
        uses_refusals heads modules atoms us ≡ [] →
        HaveTheirTypes p k (map (use_name heads modules atoms) us)
    uses_typed k [] h e = tt
    uses_typed k (u ∷ us) h e =
        let o = use_owner (head_names heads) modules u in
        let r = append_empty (unless_number heads modules atoms u (module_number modules u.text)) (uses_refusals heads modules atoms us) e in
        let is = sealed_as u r.0 in
        typed_more k (use_name heads modules atoms u) o _ (use_follows modules atoms u) (is.named, instance_typed k u.text u.text is h.0)
        (uses_typed (k + length (opened_names heads o.opening)) us h.1 r.1)

    -- one more owner
    open_more : (k n : ℕ) (before : List Owner) (o : Owner) → AllOpen k heads atoms before → k ≤ n → OpensBelow n heads atoms o →
        AllOpen n heads atoms (before ++ o ∷ [])
    open_more k n before o h le g = record {
      opens = λ q i. elim (In-cases q before (o ∷ []) i) [
        | inl j ↦ record { below = λ m l. (let lt = (h.opens q j).below m l in omega (arith, lt, le)) }
        | inr j ↦ elim j [ inl e ↦ (let P : Owner → Type 0 = λ v. OpensBelow n heads atoms v in subst P e g) | inr z ↦ absurd z ]
      ];
    }

    -- a line, whose set sees the atoms before it
    line_typed : (k : ℕ) (before : List Owner) (l : Line) → AllOpen k heads atoms before →
        AreNumbered heads atoms k (line_owner (head_names heads) modules l ∷ []) →
        let own = line_name heads modules atoms before l in
        line_refusals heads modules atoms before l ≡ [] → HasItsType p k own own.origin
    line_typed k before (line.Instance x m ns) opens h e =
        instance_typed k x.text m.text (sealed_as m (append_empty (unless_number heads modules atoms m (module_number modules m.text)) _ e).0) h.0
    line_typed k before (line.Import x m ns set) opens h e =
        let scope = line_scope heads modules atoms before in
        let holds : Holds k scope = record { owners = opens; meanings = none_meant k } in
        let is = sealed_as m (append_empty (unless_number heads modules atoms m (module_number modules m.text)) _ e).0 in
        (set_below k scope holds set, import_typed m.text (set_of scope set) is)

    pub lines_typed : (k : ℕ) (before : List Owner) (ls : List Line) → AllOpen k heads atoms before →
        AreNumbered heads atoms k (map (line_owner (head_names heads) modules) ls) →
        lines_refusals heads modules atoms before ls ≡ [] → HaveTheirTypes p k (line_names heads modules atoms before ls)
    lines_typed k before [] opens h e = tt
    lines_typed k before (l ∷ ls) opens h e =
        let o = line_owner (head_names heads) modules l in
        let n = k + length (opened_names heads o.opening) in
        let r = append_empty (line_refusals heads modules atoms before l) _ e in
        let mine : OpensBelow n heads atoms o = numbered_open heads atoms k n (o ∷ []) (h.0, tt) (omega arith) o (inl refl) in
        typed_more k (line_name heads modules atoms before l) o _ (line_follows modules atoms before l) (line_typed k before l opens (h.0, tt) r.0)
        (lines_typed n (before ++ o ∷ []) ls (open_more k n before o opens (omega arith) mine) h.1 r.1)
