-- What stands in front of the bodies of a module or of the program block is the same over heads that differ in the type of one number
-- alone, which no name that is `Ok` finds: owners, atoms, own names, definitions and refusals.
use Rattle.std.proofs.Common.{◌≡◌, ℕ, Bool, true, false, List, [], ◌∷◌, ◌++◌, map, Option, Some, None, inl, inr, refl, ap, ap₂, ◌∙◌, subst}
use Rattle.wy_text.specs.declared.fault.AtomName.{AtomName}
use Rattle.wy_syntax.specs.declared.types.Name.{Name}
use Rattle.wy_syntax.specs.declared.types.Param.{Param}
use Rattle.wy_syntax.specs.declared.types.TypeUse.{TypeUse}
use Rattle.wy_syntax.specs.declared.types.TypeUse.TheVariants as use_of
use Rattle.wy_syntax.specs.declared.items.Define.{Define}
use Rattle.wy_syntax.specs.declared.items.Grant.{Grant}
use Rattle.wy_syntax.specs.declared.items.Init.{Init}
use Rattle.wy_syntax.specs.declared.items.Line.{Line}
use Rattle.wy_syntax.specs.declared.items.Line.TheVariants.{Instance, Import}
use Rattle.wy_effects.specs.Bounds.{Bounds}
use Rattle.wy_text.proofs.Lists.{In-cases}
use Rattle.wy_types.specs.declared.types.TypeRef.TheVariants as ref
use Rattle.wy_types.specs.Types.{is_plain}
use Rattle.wy_symbols.specs.declared.scoping.Head.{Head}
use Rattle.wy_symbols.specs.declared.scoping.Meaning.{Meaning}
use Rattle.wy_symbols.specs.declared.scoping.Opening.{Opening}
use Rattle.wy_symbols.specs.declared.scoping.Opening.TheVariants.{Members, Nothing, Missing}
use Rattle.wy_symbols.specs.declared.scoping.Owner.{Owner}
use Rattle.wy_symbols.specs.Declarations.{ModuleTree, ProgramTree, module_number}
use Rattle.wy_symbols.specs.Meanings.{abstract_names, abstract_bounds}
use Rattle.wy_symbols.specs.Atoms.{AtomScope, atom_scope, head_names, type_number, members_of, opened, param_opening, param_owner, closed_owner, params_owners, primitive_opening, grant_owner, sealed_opening, module_at, module_opening, line_owner, with_members, opened_names, with_owners, atoms_of, owner_sets, opened_bounds, bounds_at, bounds_of_owners, defined_member, set_of}
use Rattle.wy_heads.specs.Lines.{opened_type, param_type, param_name, param_refusals, grant_name, unless_opened, grant_refusals, instance_type, at_bound, use_name, argument_numbers, line_scope, line_name, line_names, unless_number, uses_refusals, argument_refusals, line_refusals, lines_refusals}
use Rattle.wy_heads.specs.ScopeHeads.{definitions_after, definitions_refusals, param_owners, use_owners, line_owners, early_owners, module_owners, module_atoms, module_meanings, module_scope, param_scope, module_own, definitions_for, definitions_at, start_place, start_effect, defined_refusals, sealed_refusals, init_refusals, grant_owners, program_owners, program_atoms, program_scope, program_own}
use Rattle.wy_editions.proofs.TypeNames.{UseHas, ParamsHave, GrantsHave, ModuleHas, ModulesHave, BlockHas}
use Rattle.wy_editions.proofs.Alike.{HeadsAlike, NumberNot, OpensNot, OwnersOpenNot, ScopesAlike}
use Rattle.wy_editions.proofs.Openings.{SealedHas, module_opening_not, param_opening_not, primitive_not, sealed_has}
use Rattle.wy_editions.proofs.SymbolsAlike.{set_same, set_refusals_same, type_same, type_refusals_same, plain_refusals_same}

abbrev owner : List ℕ → Opening → Owner
owner name opening = record { name = name; opening = opening }

module _ (Ok : List ℕ → Type 0) (i : ℕ) (h g : List Head) (a : HeadsAlike Ok i h g) where
  ------------------------------------------------------------
  -- Openings

  param_opening_same : (u : TypeUse) → UseHas Ok u → param_opening (head_names h) u ≡ param_opening (head_names g) u
  param_opening_same (use_of.Int p) k = refl
  param_opening_same (use_of.Bool p) k = refl
  param_opening_same (use_of.Text p) k = refl
  param_opening_same (use_of.Unit p) k = refl
  param_opening_same (use_of.Bare n) k = ap opened (a.numbers n.text k)
  param_opening_same (use_of.With n sets) k = refl
  param_opening_same (use_of.At n set) k = refl

  opened_names_same : (o : Opening) → OpensNot Ok i o → opened_names h o ≡ opened_names g o
  opened_names_same (Members d) n = ap abstract_names (a.members d n)
  opened_names_same Nothing n = refl
  opened_names_same Missing n = refl

  opened_bounds_same : (o : Opening) → OpensNot Ok i o → opened_bounds h o ≡ opened_bounds g o
  opened_bounds_same (Members d) n = ap abstract_bounds (a.members d n)
  opened_bounds_same Nothing n = refl
  opened_bounds_same Missing n = refl

  ------------------------------------------------------------
  -- Owners that do not open the type of that number

  more_not : (o : Owner) (os : List Owner) → OpensNot Ok i o.opening → OwnersOpenNot Ok i os → OwnersOpenNot Ok i (o ∷ os)
  more_not o os n ns p (inl e) = subst (λ (q : Owner). OpensNot Ok i q.opening) e n
  more_not o os n ns p (inr j) = ns p j

  append_not : (os qs : List Owner) → OwnersOpenNot Ok i os → OwnersOpenNot Ok i qs → OwnersOpenNot Ok i (os ++ qs)
  append_not os qs n m o j = elim (In-cases o os qs j) [ inl k ↦ n o k | inr k ↦ m o k ]

  rest_not : (o : Owner) (os : List Owner) → OwnersOpenNot Ok i (o ∷ os) → OwnersOpenNot Ok i os
  rest_not o os n p j = n p (inr j)

  none_not : OwnersOpenNot Ok i []
  none_not o j = absurd j

  -- their atoms and bounds
  with_owners_same : (atoms : List AtomName) (os : List Owner) → OwnersOpenNot Ok i os → with_owners h atoms os ≡ with_owners g atoms os
  with_owners_same atoms [] n = refl
  with_owners_same atoms (o ∷ os) n =
      with_owners_same (with_members atoms o.name (opened_names h o.opening)) os (rest_not o os n)
      ∙ ap (λ (ns : List (List ℕ)). with_owners g (with_members atoms o.name ns) os) (opened_names_same o.opening (n o (inl refl)))

  atoms_same : (os qs : List Owner) → os ≡ qs → OwnersOpenNot Ok i os → atoms_of h os ≡ atoms_of g qs
  atoms_same os qs e n = with_owners_same [] os n ∙ ap (atoms_of g) e

  bounds_over_same : (atoms : List AtomName) (os : List Owner) → OwnersOpenNot Ok i os → bounds_of_owners h atoms os ≡ bounds_of_owners g atoms os
  bounds_over_same atoms [] n = refl
  bounds_over_same atoms (o ∷ os) n =
      let first = n o (inl refl) in
      ap₂ (λ x y. x ++ y)
      (ap₂ (λ (ns : List (List ℕ)) (bs : Bounds). bounds_at (owner_sets atoms o.name ns) bs) (opened_names_same o.opening first) (opened_bounds_same o.opening first))
      (bounds_over_same atoms os (rest_not o os n))

  bounds_same : (atoms others : List AtomName) (os qs : List Owner) → atoms ≡ others → os ≡ qs → OwnersOpenNot Ok i os →
      bounds_of_owners h atoms os ≡ bounds_of_owners g others qs
  bounds_same atoms others os qs e f n = bounds_over_same atoms os n ∙ ap₂ (bounds_of_owners g) e f

  ------------------------------------------------------------
  -- The owners of parameters and grants

  each_param_same : (ps : List Param) → ParamsHave Ok ps → map (param_owner (head_names h)) ps ≡ map (param_owner (head_names g)) ps
  each_param_same [] k = refl
  each_param_same (p ∷ ps) k = ap₂ (λ o os. owner p.name.text o ∷ os) (param_opening_same p.type_use k.0) (each_param_same ps k.1)

  each_param_not : (ps : List Param) → ParamsHave Ok ps → OwnersOpenNot Ok i (map (param_owner (head_names h)) ps)
  each_param_not [] k = none_not
  each_param_not (p ∷ ps) k = more_not _ _ (param_opening_not Ok i (head_names h) a.number_not p.type_use k.0) (each_param_not ps k.1)

  closed_not : (ps : List Param) → OwnersOpenNot Ok i (map closed_owner ps)
  closed_not [] = none_not
  closed_not (p ∷ ps) = more_not (closed_owner p) (map closed_owner ps) tt (closed_not ps)

  params_same : (plain : Bool) (ps : List Param) → ParamsHave Ok ps → params_owners (head_names h) plain ps ≡ params_owners (head_names g) plain ps
  params_same true ps k = refl
  params_same false ps k = each_param_same ps k

  params_not : (plain : Bool) (ps : List Param) → ParamsHave Ok ps → OwnersOpenNot Ok i (params_owners (head_names h) plain ps)
  params_not true ps k = closed_not ps
  params_not false ps k = each_param_not ps k

  grants_same : (gs : List Grant) → GrantsHave Ok gs → map (grant_owner (head_names h)) gs ≡ map (grant_owner (head_names g)) gs
  grants_same [] k = refl
  grants_same (x ∷ xs) k = ap₂ (λ o os. owner x.name.text (primitive_opening o) ∷ os) (a.numbers x.kind.text k.0) (grants_same xs k.1)

  grants_not : (gs : List Grant) → GrantsHave Ok gs → OwnersOpenNot Ok i (map (grant_owner (head_names h)) gs)
  grants_not [] k = none_not
  grants_not (x ∷ xs) k = more_not _ _ (primitive_not Ok i (type_number (head_names h) x.kind.text) (a.number_not x.kind.text k.0)) (grants_not xs k.1)

  ------------------------------------------------------------
  -- Scopes and what they stand for

  scope_alike : (atoms others : List AtomName) (os qs : List Owner) (ms ns : List Meaning) → atoms ≡ others → os ≡ qs → ms ≡ ns → OwnersOpenNot Ok i os →
      ScopesAlike Ok i (atom_scope h atoms os ms) (atom_scope g others qs ns)
  scope_alike atoms others os qs ms ns e f m n = record { heads = a; atoms = e; owners = f; meanings = m; opened = n }

  -- types with an owner's atoms
  opened_over : (atoms others : List AtomName) (name : List ℕ) (o : Opening) → atoms ≡ others → OpensNot Ok i o → opened_type h atoms name o ≡ opened_type g others name o
  opened_over atoms others name (Members d) e n =
      ap₂ (λ (all : List AtomName) (ns : List (List ℕ)). ref.Named d (owner_sets all name ns)) e (opened_names_same (Members d) n)
  opened_over atoms others name Nothing e n = refl
  opened_over atoms others name Missing e n = refl

  opened_type_same : (atoms others : List AtomName) (name : List ℕ) (o w : Opening) → atoms ≡ others → o ≡ w → OpensNot Ok i o →
      opened_type h atoms name o ≡ opened_type g others name w
  opened_type_same atoms others name o w e f n = opened_over atoms others name o e n ∙ ap (opened_type g others name) f

  module _ (atoms others : List AtomName) (os qs : List Owner) (e : atoms ≡ others) (f : os ≡ qs) (n : OwnersOpenNot Ok i os) where
    -- what definitions define, each seeing those before it
    seen_alike : (ms : List Meaning) → ScopesAlike Ok i (atom_scope h atoms os ms) (atom_scope g others qs ms)
    seen_alike ms = scope_alike atoms others os qs ms ms e f refl n

    definitions_same : (before : List Meaning) (ds : List Define) → definitions_after h atoms os before ds ≡ definitions_after g others qs before ds
    definitions_same before [] = refl
    definitions_same before (d ∷ ds) =
        definitions_same (before ++ defined_member d.name.text (set_of (atom_scope h atoms os before) d.effect) ∷ []) ds
        ∙ ap
        (λ (set : List ℕ). definitions_after g others qs (before ++ defined_member d.name.text set ∷ []) ds)
        (set_same Ok i (atom_scope h atoms os before) (atom_scope g others qs before) (seen_alike before) d.effect)

    pub definitions_refused_same : (before : List Meaning) (ds : List Define) →
        definitions_refusals h atoms os before ds ≡ definitions_refusals g others qs before ds
    definitions_refused_same before [] = refl
    definitions_refused_same before (d ∷ ds) =
        ap₂ (λ x y. x ++ y)
        (set_refusals_same Ok i (atom_scope h atoms os before) (atom_scope g others qs before) (seen_alike before) d.effect)
        (
        definitions_refused_same (definitions_after h atoms os before (d ∷ [])) ds ∙
        ap (λ (ms : List Meaning). definitions_refusals g others qs ms ds) (definitions_same before (d ∷ []))
        )

    -- parameters and grants as own names
    param_type_same : (name : List ℕ) (u : TypeUse) → UseHas Ok u → param_type (atom_scope h atoms os []) name u ≡ param_type (atom_scope g others qs []) name u
    param_type_same name (use_of.Int p) k = refl
    param_type_same name (use_of.Bool p) k = refl
    param_type_same name (use_of.Text p) k = refl
    param_type_same name (use_of.Unit p) k = refl
    param_type_same name (use_of.Bare x) k =
        opened_type_same atoms others name (param_opening (head_names h) (use_of.Bare x)) (param_opening (head_names g) (use_of.Bare x)) e
        (param_opening_same (use_of.Bare x) k) (param_opening_not Ok i (head_names h) a.number_not (use_of.Bare x) k)
    param_type_same name (use_of.With x sets) k =
        type_same Ok i (atom_scope h atoms os []) (atom_scope g others qs []) (seen_alike []) false (use_of.With x sets) k
    param_type_same name (use_of.At x set) k =
        type_same Ok i (atom_scope h atoms os []) (atom_scope g others qs []) (seen_alike []) false (use_of.At x set) k

    param_name_same : (plain : Bool) (p : Param) → UseHas Ok p.type_use → param_name (atom_scope h atoms os []) plain p ≡ param_name (atom_scope g others qs []) plain p
    param_name_same true p k = (let typ = type_same Ok i (atom_scope h atoms os []) (atom_scope g others qs []) (seen_alike []) true p.type_use k in cc)
    param_name_same false p k = (let typ = param_type_same p.name.text p.type_use k in cc)

    param_names_same : (plain : Bool) (ps : List Param) → ParamsHave Ok ps →
        map (param_name (atom_scope h atoms os []) plain) ps ≡ map (param_name (atom_scope g others qs []) plain) ps
    param_names_same plain [] k = refl
    param_names_same plain (p ∷ ps) k = ap₂ ◌∷◌ (param_name_same plain p k.0) (param_names_same plain ps k.1)

    params_refused_same : (plain : Bool) (ps : List Param) → ParamsHave Ok ps →
        param_refusals (atom_scope h atoms os []) plain ps ≡ param_refusals (atom_scope g others qs []) plain ps
    params_refused_same plain [] k = refl
    params_refused_same true (p ∷ ps) k =
        ap₂ (λ x y. x ++ y)
        (plain_refusals_same Ok i (atom_scope h atoms os []) (atom_scope g others qs []) (seen_alike []) p.type_use k.0) (params_refused_same true ps k.1)
    params_refused_same false (p ∷ ps) k =
        ap₂ (λ x y. x ++ y)
        (type_refusals_same Ok i (atom_scope h atoms os []) (atom_scope g others qs []) (seen_alike []) true p.type_use k.0) (params_refused_same false ps k.1)

    grant_name_same : (x : Grant) → Ok x.kind.text → grant_name (atom_scope h atoms os []) x ≡ grant_name (atom_scope g others qs []) x
    grant_name_same x k =
        let typ = opened_type_same atoms others x.name.text (primitive_opening (type_number (head_names h) x.kind.text)) (primitive_opening (type_number (head_names g) x.kind.text)) e
        (ap primitive_opening (a.numbers x.kind.text k)) (primitive_not Ok i (type_number (head_names h) x.kind.text) (a.number_not x.kind.text k)) in
        cc

    grant_names_same : (gs : List Grant) → GrantsHave Ok gs → map (grant_name (atom_scope h atoms os [])) gs ≡ map (grant_name (atom_scope g others qs [])) gs
    grant_names_same [] k = refl
    grant_names_same (x ∷ xs) k = ap₂ ◌∷◌ (grant_name_same x k.0) (grant_names_same xs k.1)

  pub grants_refused_same : (gs : List Grant) → GrantsHave Ok gs → grant_refusals (head_names h) gs ≡ grant_refusals (head_names g) gs
  grants_refused_same [] k = refl
  grants_refused_same (x ∷ xs) k =
      ap₂ (λ x y. x ++ y) (ap (λ o. unless_opened x.kind (primitive_opening o)) (a.numbers x.kind.text k.0)) (grants_refused_same xs k.1)

  ------------------------------------------------------------
  -- Uses and lines

  module _ (modules : List ModuleTree) (ok : ModulesHave Ok modules) where
    sealed_same : (o : Option ModuleTree) → SealedHas Ok o → sealed_opening (head_names h) o ≡ sealed_opening (head_names g) o
    sealed_same None n = refl
    sealed_same (Some m) n = ap opened (a.numbers m.sealed.text n)

    module_opening_same : (x : List ℕ) → module_opening (head_names h) modules x ≡ module_opening (head_names g) modules x
    module_opening_same x = sealed_same (module_at modules (module_number modules x)) (sealed_has Ok modules ok (module_number modules x))

    uses_same : (us : List Name) → use_owners h modules us ≡ use_owners g modules us
    uses_same [] = refl
    uses_same (u ∷ us) = ap₂ (λ o os. owner u.text o ∷ os) (module_opening_same u.text) (uses_same us)

    uses_not : (us : List Name) → OwnersOpenNot Ok i (use_owners h modules us)
    uses_not [] = none_not
    uses_not (u ∷ us) = more_not _ _ (module_opening_not Ok i (head_names h) a.number_not modules ok u.text) (uses_not us)

    line_same : (l : Line) → line_owner (head_names h) modules l ≡ line_owner (head_names g) modules l
    line_same (Instance x m ns) = ap (owner x.text) (module_opening_same m.text)
    line_same (Import x m ns set) = refl

    line_not : (l : Line) → OpensNot Ok i ((line_owner (head_names h) modules l).opening)
    line_not (Instance x m ns) = module_opening_not Ok i (head_names h) a.number_not modules ok m.text
    line_not (Import x m ns set) = tt

    lines_same : (ls : List Line) → line_owners h modules ls ≡ line_owners g modules ls
    lines_same [] = refl
    lines_same (l ∷ ls) = ap₂ ◌∷◌ (line_same l) (lines_same ls)

    lines_not : (ls : List Line) → OwnersOpenNot Ok i (line_owners h modules ls)
    lines_not [] = none_not
    lines_not (l ∷ ls) = more_not (line_owner (head_names h) modules l) (line_owners h modules ls) (line_not l) (lines_not ls)

    module _ (atoms others : List AtomName) (e : atoms ≡ others) where
      instance_same : (x : List ℕ) (m : Name) → instance_type h modules atoms x m ≡ instance_type g modules others x m
      instance_same x m =
          opened_type_same atoms others x (module_opening (head_names h) modules m.text) (module_opening (head_names g) modules m.text) e
          (module_opening_same m.text) (module_opening_not Ok i (head_names h) a.number_not modules ok m.text)

      use_names_same : (us : List Name) → map (use_name h modules atoms) us ≡ map (use_name g modules others) us
      use_names_same [] = refl
      use_names_same (u ∷ us) = (let typ = instance_same u.text u in let rest = use_names_same us in cc)

      at_bound_over : (o : Opening) (set : List ℕ) → at_bound h modules atoms o set ≡ at_bound g modules others o set
      at_bound_over (Members d) set = refl
      at_bound_over Nothing set = refl
      at_bound_over Missing set = refl

      at_bound_same : (o w : Opening) (set other : List ℕ) → o ≡ w → set ≡ other → at_bound h modules atoms o set ≡ at_bound g modules others w other
      at_bound_same o w set other f q = at_bound_over o set ∙ ap₂ (at_bound g modules others) f q

      arguments_same : (os qs : List Owner) (ns : List Name) → os ≡ qs → argument_numbers h modules atoms os ns ≡ argument_numbers g modules others qs ns
      arguments_same os qs ns f = ap (λ (ws : List Owner). argument_numbers g modules others ws ns) f

      before_alike : (os qs : List Owner) → os ≡ qs → OwnersOpenNot Ok i os → ScopesAlike Ok i (line_scope h modules atoms os) (line_scope g modules others qs)
      before_alike os qs f n = scope_alike atoms others os qs [] [] e f refl n

      line_name_same : (os qs : List Owner) (l : Line) → os ≡ qs → OwnersOpenNot Ok i os → line_name h modules atoms os l ≡ line_name g modules others qs l
      line_name_same os qs (Instance x m ns) f n =
          let typ = instance_same x.text m in
          let arguments = arguments_same os qs ns f in
          cc
      line_name_same os qs (Import x m ns set) f n =
          let sets = set_same Ok i (line_scope h modules atoms os) (line_scope g modules others qs) (before_alike os qs f n) set in
          let typ = at_bound_same (module_opening (head_names h) modules m.text) (module_opening (head_names g) modules m.text) _ _ (module_opening_same m.text) sets in
          let arguments = arguments_same os qs ns f in
          cc

      -- the owners before the next line
      next_same : (os qs : List Owner) (l : Line) → os ≡ qs → os ++ line_owner (head_names h) modules l ∷ [] ≡ qs ++ line_owner (head_names g) modules l ∷ []
      next_same os qs l f = ap₂ (λ (ws : List Owner) (o : Owner). ws ++ o ∷ []) f (line_same l)

      next_not : (os : List Owner) (l : Line) → OwnersOpenNot Ok i os → OwnersOpenNot Ok i (os ++ line_owner (head_names h) modules l ∷ [])
      next_not os l n = append_not os (line_owner (head_names h) modules l ∷ []) n (more_not (line_owner (head_names h) modules l) [] (line_not l) none_not)

      line_names_same : (os qs : List Owner) (ls : List Line) → os ≡ qs → OwnersOpenNot Ok i os → line_names h modules atoms os ls ≡ line_names g modules others qs ls
      line_names_same os qs [] f n = refl
      line_names_same os qs (l ∷ ls) f n =
          ap₂ ◌∷◌ (line_name_same os qs l f n)
          (
          line_names_same (os ++ line_owner (head_names h) modules l ∷ []) (qs ++ line_owner (head_names g) modules l ∷ []) ls (next_same os qs l f)
          (next_not os l n)
          )

      -- their refusals
      number_same : (n : Name) (o : Option ℕ) → unless_number h modules atoms n o ≡ unless_number g modules others n o
      number_same n None = refl
      number_same n (Some k) = refl

      pub uses_refused_same : (us : List Name) → uses_refusals h modules atoms us ≡ uses_refusals g modules others us
      uses_refused_same [] = refl
      uses_refused_same (u ∷ us) = ap₂ (λ x y. x ++ y) (number_same u (module_number modules u.text)) (uses_refused_same us)

      arguments_refused_same : (os : List Owner) (ns : List Name) → argument_refusals h modules atoms os ns ≡ argument_refusals g modules others os ns
      arguments_refused_same os [] = refl
      arguments_refused_same os (n ∷ ns) = ap₂ (λ x y. x ++ y) (number_same n _) (arguments_refused_same os ns)

      line_refused_same : (os qs : List Owner) (l : Line) → os ≡ qs → OwnersOpenNot Ok i os → line_refusals h modules atoms os l ≡ line_refusals g modules others qs l
      line_refused_same os qs (Instance x m ns) f n =
          ap₂ (λ x y. x ++ y) (number_same m (module_number modules m.text))
          (arguments_refused_same os ns ∙ ap (λ (ws : List Owner). argument_refusals g modules others ws ns) f)
      line_refused_same os qs (Import x m ns set) f n =
          ap₂ (λ x y. x ++ y) (number_same m (module_number modules m.text))
          (
          ap₂ (λ x y. x ++ y) (arguments_refused_same os ns ∙ ap (λ (ws : List Owner). argument_refusals g modules others ws ns) f)
          (set_refusals_same Ok i (line_scope h modules atoms os) (line_scope g modules others qs) (before_alike os qs f n) set)
          )

      lines_refused_same : (os qs : List Owner) (ls : List Line) → os ≡ qs → OwnersOpenNot Ok i os → lines_refusals h modules atoms os ls ≡ lines_refusals g modules others qs ls
      lines_refused_same os qs [] f n = refl
      lines_refused_same os qs (l ∷ ls) f n =
          ap₂ (λ x y. x ++ y) (line_refused_same os qs l f n)
          (
          lines_refused_same (os ++ line_owner (head_names h) modules l ∷ []) (qs ++ line_owner (head_names g) modules l ∷ []) ls (next_same os qs l f)
          (next_not os l n)
          )

    ------------------------------------------------------------
    -- A module

    pub start_place_same : (m : ModuleTree) (o : Option Init) → start_place h modules m o ≡ start_place g modules m o
    start_place_same m None = refl
    start_place_same m (Some x) = refl

    definitions_at_over : (plain : Bool) (ms : List Meaning) (o : Option ℕ) → NumberNot Ok i o → definitions_at h modules plain ms o ≡ definitions_at g modules plain ms o
    definitions_at_over plain ms None n = refl
    definitions_at_over true ms (Some d) n = refl
    definitions_at_over false ms (Some d) n = ap (λ (all : List Meaning). definitions_for g modules ms (abstract_names all)) (a.members d (n d refl))

    defined_refused_over : (m : ModuleTree) (plain : Bool) (ms : List Meaning) → defined_refusals h modules m plain ms ≡ defined_refusals g modules m plain ms
    defined_refused_over m true ms = refl
    defined_refused_over m false ms = refl

    sealed_refused_over : (m : ModuleTree) (o : Option ℕ) → NumberNot Ok i o → sealed_refusals h modules m o ≡ sealed_refusals g modules m o
    sealed_refused_over m None n = refl
    sealed_refused_over m (Some d) n =
        defined_refused_over m (is_plain m.kind) (members_of h d) ∙ ap (defined_refusals g modules m (is_plain m.kind)) (a.members d (n d refl))

    start_effect_over : (s t : AtomScope) (o : Option Init) → ScopesAlike Ok i s t → start_effect h modules s o ≡ start_effect g modules t o
    start_effect_over s t None k = refl
    start_effect_over s t (Some x) k = set_same Ok i s t k x.effect

    init_refused_over : (s t : AtomScope) (o : Option Init) → ScopesAlike Ok i s t → init_refusals h modules s o ≡ init_refusals g modules t o
    init_refused_over s t None k = refl
    init_refused_over s t (Some x) k = set_refusals_same Ok i s t k x.effect

    module _ (m : ModuleTree) (k : ModuleHas Ok m) where
      pub param_owners_same : param_owners h modules m ≡ param_owners g modules m
      param_owners_same = params_same (is_plain m.kind) m.params k.0

      pub param_owners_not : OwnersOpenNot Ok i (param_owners h modules m)
      param_owners_not = params_not (is_plain m.kind) m.params k.0

      pub early_owners_same : early_owners h modules m ≡ early_owners g modules m
      early_owners_same = ap₂ (λ (x y : List Owner). x ++ y) param_owners_same (uses_same m.uses)

      pub early_owners_not : OwnersOpenNot Ok i (early_owners h modules m)
      early_owners_not = append_not (param_owners h modules m) (use_owners h modules m.uses) param_owners_not (uses_not m.uses)

      pub module_owners_same : module_owners h modules m ≡ module_owners g modules m
      module_owners_same = ap₂ (λ (x y : List Owner). x ++ y) early_owners_same (lines_same m.lines)

      pub module_owners_not : OwnersOpenNot Ok i (module_owners h modules m)
      module_owners_not = append_not (early_owners h modules m) (line_owners h modules m.lines) early_owners_not (lines_not m.lines)

      pub module_atoms_same : module_atoms h modules m ≡ module_atoms g modules m
      module_atoms_same = atoms_same (module_owners h modules m) (module_owners g modules m) module_owners_same module_owners_not

      pub module_bounds_same : bounds_of_owners h (module_atoms h modules m) (module_owners h modules m) ≡ bounds_of_owners g (module_atoms g modules m) (module_owners g modules m)
      module_bounds_same = bounds_same _ _ _ _ module_atoms_same module_owners_same module_owners_not

      pub module_meanings_same : module_meanings h modules m ≡ module_meanings g modules m
      module_meanings_same = definitions_same _ _ _ _ module_atoms_same module_owners_same module_owners_not [] m.defines

      pub module_scope_alike : ScopesAlike Ok i (module_scope h modules m) (module_scope g modules m)
      module_scope_alike = scope_alike _ _ _ _ _ _ module_atoms_same module_owners_same module_meanings_same module_owners_not

      pub param_scope_alike : ScopesAlike Ok i (param_scope h modules m) (param_scope g modules m)
      param_scope_alike = scope_alike _ _ _ _ [] [] module_atoms_same param_owners_same refl param_owners_not

      pub module_own_same : module_own h modules m ≡ module_own g modules m
      module_own_same =
          ap₂ (λ x y. x ++ y) (param_names_same _ _ _ _ module_atoms_same param_owners_same param_owners_not (is_plain m.kind) m.params k.0) (
          ap₂ (λ x y. x ++ y) (use_names_same _ _ module_atoms_same m.uses) (line_names_same _ _ module_atoms_same _ _ m.lines early_owners_same early_owners_not)
          )

      pub sealed_number_same : type_number (head_names h) m.sealed.text ≡ type_number (head_names g) m.sealed.text
      sealed_number_same = a.numbers m.sealed.text k.1

      pub definitions_at_same : definitions_at h modules (is_plain m.kind) (module_meanings h modules m) (type_number (head_names h) m.sealed.text) ≡
          definitions_at g modules (is_plain m.kind) (module_meanings g modules m) (type_number (head_names g) m.sealed.text)
      definitions_at_same =
          definitions_at_over (is_plain m.kind) (module_meanings h modules m) (type_number (head_names h) m.sealed.text) (a.number_not m.sealed.text k.1)
          ∙ ap₂ (definitions_at g modules (is_plain m.kind)) module_meanings_same sealed_number_same

      pub start_effect_same : start_effect h modules (module_scope h modules m) m.init ≡ start_effect g modules (module_scope g modules m) m.init
      start_effect_same = start_effect_over (module_scope h modules m) (module_scope g modules m) m.init module_scope_alike

      -- its refusals
      pub sealed_refused_same : sealed_refusals h modules m (type_number (head_names h) m.sealed.text) ≡ sealed_refusals g modules m (type_number (head_names g) m.sealed.text)
      sealed_refused_same =
          sealed_refused_over m (type_number (head_names h) m.sealed.text) (a.number_not m.sealed.text k.1) ∙ ap (sealed_refusals g modules m) sealed_number_same

      pub module_params_refused_same : param_refusals (param_scope h modules m) (is_plain m.kind) m.params ≡ param_refusals (param_scope g modules m) (is_plain m.kind) m.params
      module_params_refused_same = params_refused_same _ _ _ _ module_atoms_same param_owners_same param_owners_not (is_plain m.kind) m.params k.0

      pub module_uses_refused_same : uses_refusals h modules (module_atoms h modules m) m.uses ≡ uses_refusals g modules (module_atoms g modules m) m.uses
      module_uses_refused_same = uses_refused_same _ _ module_atoms_same m.uses

      pub module_lines_refused_same : lines_refusals h modules (module_atoms h modules m) (early_owners h modules m) m.lines ≡
          lines_refusals g modules (module_atoms g modules m) (early_owners g modules m) m.lines
      module_lines_refused_same = lines_refused_same _ _ module_atoms_same _ _ m.lines early_owners_same early_owners_not

      pub module_definitions_refused_same : definitions_refusals h (module_atoms h modules m) (module_owners h modules m) [] m.defines ≡
          definitions_refusals g (module_atoms g modules m) (module_owners g modules m) [] m.defines
      module_definitions_refused_same = definitions_refused_same _ _ _ _ module_atoms_same module_owners_same module_owners_not [] m.defines

      pub init_refused_same : init_refusals h modules (module_scope h modules m) m.init ≡ init_refusals g modules (module_scope g modules m) m.init
      init_refused_same = init_refused_over (module_scope h modules m) (module_scope g modules m) m.init module_scope_alike

    ------------------------------------------------------------
    -- The program block

    module _ (p : ProgramTree) (k : BlockHas Ok p) where
      pub grant_owners_same : grant_owners h modules p ≡ grant_owners g modules p
      grant_owners_same = ap₂ (λ (x y : List Owner). x ++ y) (grants_same p.grants k.0) (uses_same p.uses)

      pub grant_owners_not : OwnersOpenNot Ok i (grant_owners h modules p)
      grant_owners_not = append_not (map (grant_owner (head_names h)) p.grants) (use_owners h modules p.uses) (grants_not p.grants k.0) (uses_not p.uses)

      pub program_owners_same : program_owners h modules p ≡ program_owners g modules p
      program_owners_same = ap₂ (λ (x y : List Owner). x ++ y) grant_owners_same (lines_same p.lines)

      pub program_owners_not : OwnersOpenNot Ok i (program_owners h modules p)
      program_owners_not = append_not (grant_owners h modules p) (line_owners h modules p.lines) grant_owners_not (lines_not p.lines)

      pub program_atoms_same : program_atoms h modules p ≡ program_atoms g modules p
      program_atoms_same = atoms_same (program_owners h modules p) (program_owners g modules p) program_owners_same program_owners_not

      pub program_bounds_same : bounds_of_owners h (program_atoms h modules p) (program_owners h modules p) ≡ bounds_of_owners g (program_atoms g modules p) (program_owners g modules p)
      program_bounds_same = bounds_same _ _ _ _ program_atoms_same program_owners_same program_owners_not

      pub program_scope_alike : ScopesAlike Ok i (program_scope h modules p) (program_scope g modules p)
      program_scope_alike = scope_alike _ _ _ _ [] [] program_atoms_same program_owners_same refl program_owners_not

      pub program_own_same : program_own h modules p ≡ program_own g modules p
      program_own_same =
          ap₂ (λ x y. x ++ y) (grant_names_same _ _ _ _ program_atoms_same program_owners_same program_owners_not p.grants k.0) (
          ap₂ (λ x y. x ++ y) (use_names_same _ _ program_atoms_same p.uses) (line_names_same _ _ program_atoms_same _ _ p.lines grant_owners_same grant_owners_not)
          )

      -- its refusals
      pub grant_refused_same : grant_refusals (head_names h) p.grants ≡ grant_refusals (head_names g) p.grants
      grant_refused_same = grants_refused_same p.grants k.0

      pub program_uses_refused_same : uses_refusals h modules (program_atoms h modules p) p.uses ≡ uses_refusals g modules (program_atoms g modules p) p.uses
      program_uses_refused_same = uses_refused_same _ _ program_atoms_same p.uses

      pub program_lines_refused_same : lines_refusals h modules (program_atoms h modules p) (grant_owners h modules p) p.lines ≡
          lines_refusals g modules (program_atoms g modules p) (grant_owners g modules p) p.lines
      program_lines_refused_same = lines_refused_same _ _ program_atoms_same _ _ p.lines grant_owners_same grant_owners_not
