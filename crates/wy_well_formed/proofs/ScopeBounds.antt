-- The upper bounds of a scope's atoms are those of the members for which its own names open them, and each is a set of atoms before its own.
use Rattle.std.proofs.Common.{◌≡◌, ℕ, ◌+◌, ◌≤◌, List, [], ◌∷◌, ◌++◌, map, length, Option, Some, None, refl, sym, ap, ◌∙◌, subst, arith, append_assoc}
use Rattle.std.specs.Prelude.{slice_get}
use Rattle.std.specs.Option.{option_map}
use Rattle.std.proofs.lemmas.List.{length-map, length-append}
use Rattle.wy_text.specs.declared.fault.AtomName.{AtomName}
use Rattle.wy_syntax.specs.declared.types.Name.{Name}
use Rattle.wy_syntax.specs.declared.items.Line.{Line}
use Rattle.wy_text.specs.Members.{In, Apart}
use Rattle.wy_effects.specs.EffSet.{IsSet}
use Rattle.wy_effects.specs.Bounds.{Bounds, BoundsFit}
use Rattle.wy_text.proofs.Lists.{In-left, In-slice_get}
use Rattle.wy_types.specs.declared.resolved.TypeDecl.{TypeDecl}
use Rattle.wy_types.specs.declared.resolved.OwnName.{OwnName}
use Rattle.wy_types.specs.Program.{Program}
use Rattle.wy_types.specs.Bounds.{declaration_bounds}
use Rattle.wy_types.specs.Core.{DeclarationFits}
use Rattle.wy_types.specs.Ground.{abstract_names as declared_members}
use Rattle.wy_rules.specs.OwnNames.{opens as opened_by, shifted_bounds, names_bounds}
use Rattle.wy_symbols.specs.declared.scoping.Head.{Head}
use Rattle.wy_symbols.specs.declared.scoping.Opening.{Opening}
use Rattle.wy_symbols.specs.declared.scoping.Opening.TheVariants.{Members, Nothing, Missing}
use Rattle.wy_symbols.specs.declared.scoping.Owner.{Owner}
use Rattle.wy_symbols.specs.Declarations.{ModuleTree}
use Rattle.wy_symbols.specs.Atoms.{atoms_of, bounds_at, bounds_of_owners, opened_bounds, opened_names}
use Rattle.wy_heads.specs.Lines.{use_name, line_names}
use Rattle.wy_heads.specs.ScopeHeads.{use_owners, line_owners}
use Rattle.wy_well_formed.proofs.BoundLists.{BoundsFrom, fits_from, from_fits, bounds_both, shifted_from, bounds_shifted_is}
use Rattle.wy_well_formed.proofs.Known.{KnowsMembers}
use Rattle.wy_well_formed.proofs.OwnApart.{own_texts}
use Rattle.wy_well_formed.proofs.AtomsOpened.{owned_count, AreNumbered, owners_counted, owners_numbered}
use Rattle.wy_well_formed.proofs.OwnTyped.{AllFollow, follow_both, following_names, uses_follow, lines_follow}

------------------------------------------------------------
-- Own names and their owners

-- names behind the first ones: those of uses and lines, and their owners
module _ (heads : List Head) (modules : List ModuleTree) where
  abbrev pub names_behind : List Owner → List AtomName → List Name → List Line → List OwnName
  names_behind owners atoms us ls = map (use_name heads modules atoms) us ++ line_names heads modules atoms (owners ++ use_owners heads modules us) ls

  abbrev pub owners_after : List Owner → List Name → List Line → List Owner
  owners_after owners us ls = (owners ++ use_owners heads modules us) ++ line_owners heads modules ls

  pub all_follow : (p : Program) → KnowsMembers p heads → (first : List OwnName) (owners : List Owner) (atoms : List AtomName) (us : List Name) (ls : List Line) →
      AllFollow p heads first owners → AllFollow p heads (first ++ names_behind owners atoms us ls) (owners_after owners us ls)
  all_follow p knows first owners atoms us ls h =
      let uses = map (use_name heads modules atoms) us in
      let used = use_owners heads modules us in
      let lines = line_names heads modules atoms (owners ++ used) ls in
      let lined = line_owners heads modules ls in
      let rest = follow_both p heads knows uses lines used lined (uses_follow p heads knows modules atoms us) (lines_follow p heads knows modules atoms (owners ++ used) ls) in
      let P : List Owner → Type 0 = λ l. AllFollow p heads (first ++ (uses ++ lines)) l in
      subst P (sym (append_assoc owners used lined)) (follow_both p heads knows first (uses ++ lines) owners (used ++ lined) h rest)

------------------------------------------------------------
-- The members that are opened

apart_left : {X : Type 0} (xs ys : List X) → Apart (xs ++ ys) → Apart xs
apart_left [] ys d = tt
apart_left (x ∷ xs) ys d = (λ i. d.0 (In-left x xs ys i), apart_left xs ys d.1)

-- the declarations of a program fit
pub record DeclarationsFit (p : Program) : Type 0 where
  pub each : (d : TypeDecl) → In d p.declarations → DeclarationFits p d

-- members differ, and have sets of members before them as bounds
record AreMembers (names : List (List ℕ)) (bounds : Bounds) : Type 0 where
  apart : Apart names
  fit : BoundsFit (length names) bounds

no_members : AreMembers [] []
no_members = record { apart = tt; fit = (refl, λ a b e. absurd (cc)) }

declared_are : (p : Program) → DeclarationsFit p → (o : Option TypeDecl) → ((d : TypeDecl) → o ≡ Some d → In d p.declarations) →
    AreMembers (declared_members o) (declaration_bounds o)
declared_are p fit None h = no_members
declared_are p fit (Some d) h = (let f = fit.each d (h d refl) in record { apart = apart_left d.members _ f.member_names; fit = f.bounds })

module _ (p : Program) (heads : List Head) (knows : KnowsMembers p heads) (fit : DeclarationsFit p) where
  opened_are : (o : Opening) → AreMembers (opened_names heads o) (opened_bounds heads o)
  opened_are (Members d) =
      let are = declared_are p fit (slice_get p.declarations d) (λ t e. In-slice_get p.declarations d t e) in
      let P : List (List ℕ) → Type 0 = λ l. AreMembers l (declaration_bounds (slice_get p.declarations d)) in
      let Q : Bounds → Type 0 = λ l. AreMembers (opened_names heads (Members d)) l in
      subst Q (knows.bounds d) (subst P (knows.same d) are)
  opened_are Nothing = no_members
  opened_are Missing = no_members

  pub opened_apart : (o : Opening) → Apart (opened_names heads o)
  opened_apart o = (opened_are o).apart

  -- the atoms of owners whose names differ are numbered, and as many as the owners open
  pub all_numbered : (names : List OwnName) (owners : List Owner) → AllFollow p heads names owners → Apart (own_texts names) →
      AreNumbered heads (atoms_of heads owners) 0 owners
  all_numbered names owners h d =
      owners_numbered heads (λ o. opened_apart o.opening) owners (subst (λ (l : List (List ℕ)). Apart l) (following_names p heads knows names owners h) d)

  all_counted : (names : List OwnName) (owners : List Owner) → AllFollow p heads names owners → Apart (own_texts names) →
      length (atoms_of heads owners) ≡ owned_count heads owners
  all_counted names owners h d =
      owners_counted heads (λ o. opened_apart o.opening) owners (subst (λ (l : List (List ℕ)). Apart l) (following_names p heads knows names owners h) d)

  ------------------------------------------------------------
  -- Their bounds

  -- of the atoms from a number on that owners open
  owned_bounds : ℕ → List Owner → Bounds
  owned_bounds k [] = []
  owned_bounds k (o ∷ os) = shifted_bounds k (opened_bounds heads o.opening) ++ owned_bounds (k + length (opened_names heads o.opening)) os

  length_shifted : (k : ℕ) (o : Opening) → length (shifted_bounds k (opened_bounds heads o)) ≡ length (opened_names heads o)
  length_shifted k o =
      let shift : Option (List ℕ) → Option (List ℕ) = option_map (map (λ m. k + m)) in
      length-map (opened_bounds heads o) shift ∙ (opened_are o).fit.0

  owned_length : (k : ℕ) (os : List Owner) → length (owned_bounds k os) ≡ owned_count heads os
  unfolding owned_bounds
  owned_length k [] = refl
  owned_length k (o ∷ os) =
      let n = length (opened_names heads o.opening) in
      let a = length-append (shifted_bounds k (opened_bounds heads o.opening)) (owned_bounds (k + n) os) in
      let b = length_shifted k o.opening in
      let c = owned_length (k + n) os in
      omega (arith, a, b, c)

  opened_from : (o : Opening) → BoundsFrom 0 (opened_bounds heads o)
  opened_from o =
      fits_from 0 (opened_bounds heads o) (λ a b e. (
      let P : ℕ → Type 0 = λ n. IsSet n b in
      let same : a ≡ 0 + a = omega arith in
      subst P same ((opened_are o).fit.1 a b e)))

  owned_from : (k : ℕ) (os : List Owner) → BoundsFrom k (owned_bounds k os)
  unfolding owned_bounds
  owned_from k [] = tt
  owned_from k (o ∷ os) =
      let n = length (opened_names heads o.opening) in
      let mine = shifted_bounds k (opened_bounds heads o.opening) in
      let rest = owned_bounds (k + n) os in
      let P : ℕ → Type 0 = λ m. BoundsFrom m mine in
      let Q : ℕ → Type 0 = λ m. BoundsFrom m rest in
      let l = length_shifted k o.opening in
      let here : k + 0 ≡ k = omega arith in
      let behind : k + n ≡ k + length mine = omega (arith, l) in
      bounds_both k mine rest (subst P here (shifted_from k 0 (opened_bounds heads o.opening) (opened_from o.opening))) (subst Q behind (owned_from (k + n) os))

  -- those that a scope has
  owners_bounds_are : (atoms : List AtomName) (k : ℕ) (os : List Owner) → AreNumbered heads atoms k os → bounds_of_owners heads atoms os ≡ owned_bounds k os
  unfolding owned_bounds
  owners_bounds_are atoms k [] h = refl
  owners_bounds_are atoms k (o ∷ os) h =
      let names = opened_names heads o.opening in
      let bounds = opened_bounds heads o.opening in
      let count : 0 + length bounds ≤ length names = (let e = (opened_are o.opening).fit.0 in omega (arith, e)) in
      let mine = ap (λ s. bounds_at s bounds) h.0 ∙ bounds_shifted_is k 0 names bounds (opened_from o.opening) count in
      ap (λ (l : Bounds). l ++ bounds_of_owners heads atoms os) mine
      ∙ ap (λ (l : Bounds). shifted_bounds k bounds ++ l) (owners_bounds_are atoms (k + length names) os h.1)

  -- and those of its own names
  names_bounds_are : (k : ℕ) (ns : List OwnName) (os : List Owner) → AllFollow p heads ns os → names_bounds p k ns ≡ owned_bounds k os
  unfolding owned_bounds
  names_bounds_are k [] [] h = refl
  names_bounds_are k [] (o ∷ os) h = absurd h
  names_bounds_are k (n ∷ ns) [] h = absurd h
  names_bounds_are k (n ∷ ns) (o ∷ os) h =
      let mine = ap (λ (l : Bounds). shifted_bounds k l) h.0.bounds in
      let count = ap (λ (l : List (List ℕ)). k + length l) h.0.opened in
      ap (λ (l : Bounds). l ++ names_bounds p (k + length (opened_by p n n.origin)) ns) mine
      ∙ ap (λ j. shifted_bounds k (opened_bounds heads o.opening) ++ names_bounds p j ns) count
      ∙ ap (λ (l : Bounds). shifted_bounds k (opened_bounds heads o.opening) ++ l) (names_bounds_are (k + length (opened_names heads o.opening)) ns os h.1)

  -- the bounds of a scope's atoms fit
  pub scope_bounds_fit : (names : List OwnName) (owners : List Owner) → AllFollow p heads names owners → Apart (own_texts names) →
      BoundsFit (length (atoms_of heads owners)) (bounds_of_owners heads (atoms_of heads owners) owners)
  scope_bounds_fit names owners h d =
      let is = owners_bounds_are (atoms_of heads owners) 0 owners (all_numbered names owners h d) in
      let P : Bounds → Type 0 = λ l. BoundsFit (length (atoms_of heads owners)) l in
      subst P (sym is) (from_fits (length (atoms_of heads owners)) (owned_bounds 0 owners) (owned_length 0 owners ∙ sym (all_counted names owners h d)) (owned_from 0 owners))

  -- and are those of its own names
  pub scope_bounds_are : (names : List OwnName) (owners : List Owner) → AllFollow p heads names owners → Apart (own_texts names) →
      bounds_of_owners heads (atoms_of heads owners) owners ≡ names_bounds p 0 names
  scope_bounds_are names owners h d =
      owners_bounds_are (atoms_of heads owners) 0 owners (all_numbered names owners h d) ∙ sym (names_bounds_are 0 names owners h)
