-- A program in which a declared type is another, which none of its scopes writes, has the same instances and the same authority.
use Rattle.std.proofs.Common.{◌≡◌, ℕ, zero, suc, ◌-◌, List, [], ◌∷◌, ◌++◌, map, length, inl, inr, refl, ◌∙◌, ap, ap₂, Option, Some, None, Bool as Truth, true, false}
use Rattle.std.specs.Prelude.{codes, slice_get, slice_index_or, if◌then◌else◌}
use Rattle.wy_text.specs.declared.fault.AtomName.{AtomName}
use Rattle.wy_effects.specs.AtomTable.{atom_name}
use Rattle.wy_effects.specs.EffSet.{replace}
use Rattle.wy_text.specs.Members.{In}
use Rattle.wy_types.specs.declared.linked.Actual.TheVariants as actual
use Rattle.wy_types.specs.declared.linked.Instance.{Instance as Started}
use Rattle.wy_types.specs.declared.resolved.Origin.{Origin}
use Rattle.wy_types.specs.declared.resolved.Origin.TheVariants.{Parameter, Grant, Use, Instance, Import}
use Rattle.wy_types.specs.declared.resolved.OwnName.{OwnName}
use Rattle.wy_types.specs.declared.resolved.TypeDecl.{TypeDecl}
use Rattle.wy_types.specs.Ground.{Visit, Visited, handed, is_use, lined, imported, names_of, number_from, program_visited, settled, single_sets, start_list, used, uses_among, visit, visit_name, visit_names}
use Rattle.wy_types.specs.Program.{Program, Scope}
use Rattle.wy_authority.specs.declared.rows.Authority.{Authority}
use Rattle.wy_authority.specs.declared.rows.InstanceRow.{InstanceRow}
use Rattle.wy_authority.specs.Authority.{authority_of, body_rows, grant_atoms, granted, instance_row, main_row}
use Rattle.wy_rules.specs.Transfer.{DiffersAt, LeavesOut, NamesNot}
use Rattle.wy_rules.proofs.AcceptedWithoutType.{name_not, same_arguments, same_members}

module _ (i : ℕ) (ds es : List TypeDecl) (ss : List Scope) where
  abbrev before : Program
  before = record { declarations = ds; scopes = ss }

  abbrev after : Program
  after = record { declarations = es; scopes = ss }

  module _ (w : DiffersAt i before after) (left : (k : ℕ) (s : Scope) → slice_get ss k ≡ Some s → LeavesOut i before s) where
    -- no own name is of the type
    abbrev AreClear : List OwnName → Type 0
    AreClear ns = (n : OwnName) → In n ns → NamesNot i n.typ

    module_clear : (m : ℕ) → AreClear (names_of (slice_get ss m))
    module_clear m = name_not i ds es ss w left m

    uses_clear : (ns : List OwnName) → AreClear ns → AreClear (uses_among ns)
    uses_clear [] c n j = absurd j
    uses_clear (m ∷ ns) c n j = of (is_use m.origin) (uses_clear ns (λ o l. c o (inr l)) n) j
      where
        of : (b : Truth) → (In n (uses_among ns) → NamesNot i n.typ) → In n (if b then m ∷ uses_among ns else uses_among ns) → NamesNot i n.typ
        of true rest (inl e) = c n (inl e)
        of true rest (inr l) = rest l
        of false rest l = rest l

    ------------------------------------------------------------
    -- Visits

    handed_same : (outer : List OwnName) (v : Visited) (m : ℕ) (arguments : List ℕ) → AreClear outer → handed before outer v m arguments ≡ handed after outer v m arguments
    handed_same outer v m arguments c =
        let Of : List (List ℕ) → Visited = λ sets. record { started = v.started; actuals = map (λ a. slice_index_or v.actuals a (actual.Grant 0)) arguments; sets = map (replace v.sets) sets } in
        ap Of (same_arguments i ds es ss w left outer c (names_of (slice_get ss m)) arguments (module_clear m))

    -- visits that come to the same from names of which none is of the type
    abbrev AreSame : Visit → Visit → Type 0
    AreSame f g = (outer : List OwnName) (prefix : List ℕ) (names : List OwnName) (v : Visited) → AreClear outer → AreClear names → f outer prefix names v ≡ g outer prefix names v

    module _ (f g : Visit) (same : AreSame f g) where
      inside_same : (outer : List OwnName) (prefix : List ℕ) (v : Visited) (m : ℕ) (arguments : List ℕ) → AreClear outer →
          f (names_of (slice_get ss m)) prefix (names_of (slice_get ss m)) (handed before outer v m arguments) ≡ g (names_of (slice_get ss m)) prefix (names_of (slice_get ss m)) (handed after outer v m arguments)
      inside_same outer prefix v m arguments c =
          same (names_of (slice_get ss m)) prefix (names_of (slice_get ss m)) (handed before outer v m arguments) (module_clear m) (module_clear m)
          ∙ ap (g (names_of (slice_get ss m)) prefix (names_of (slice_get ss m))) (handed_same outer v m arguments c)

      used_same : (v : Visited) (name : List ℕ) (m : ℕ) (o : Option ℕ) → used before f v name m o ≡ used after g v name m o
      used_same v name m (Some k) = refl
      used_same v name m None =
          ap (λ (inner : Visited). lined after v inner name m)
          (same (names_of (slice_get ss m)) [] (uses_among (names_of (slice_get ss m))) (record { started = v.started; actuals = []; sets = [] })
          (module_clear m) (uses_clear (names_of (slice_get ss m)) (module_clear m)))

      name_same : (outer : List OwnName) (prefix : List ℕ) (n : OwnName) (o : Origin) (v : Visited) → AreClear outer → NamesNot i n.typ →
          visit_name before f outer prefix n o v ≡ visit_name after g outer prefix n o v
      name_same outer prefix n (Parameter bare) v c h = refl
      name_same outer prefix n Grant v c h =
          ap (λ (ms : List (List ℕ)). settled v v.started (actual.Grant (length v.actuals)) (single_sets (length v.sets) ms)) (same_members i ds es ss w left n.typ h)
      name_same outer prefix n (Use m) v c h = used_same v (codes "pure " ++ n.name) m (number_from 0 (codes "pure " ++ n.name) v.started)
      name_same outer prefix n (Instance m arguments) v c h =
          ap (λ (inner : Visited). lined after v inner (prefix ++ n.name) m) (inside_same outer (prefix ++ (n.name ++ codes ".")) v m arguments c)
      name_same outer prefix n (Import m arguments bound) v c h =
          ap (λ (inner : Visited). imported after v inner (prefix ++ n.name) m bound) (inside_same outer (prefix ++ (n.name ++ codes ".")) v m arguments c)

      names_same : (outer : List OwnName) (prefix : List ℕ) (ns : List OwnName) (v : Visited) → AreClear outer → AreClear ns →
          visit_names before f outer prefix ns v ≡ visit_names after g outer prefix ns v
      names_same outer prefix [] v c h = refl
      names_same outer prefix (n ∷ ns) v c h =
          names_same outer prefix ns (visit_name before f outer prefix n n.origin v) c (λ m j. h m (inr j))
          ∙ ap (visit_names after g outer prefix ns) (name_same outer prefix n n.origin v c (h n (inl refl)))

    visits_same : (k : ℕ) → AreSame (visit before k) (visit after k)
    visits_same zero outer prefix names v c h = refl
    visits_same (suc k) outer prefix names v c h = names_same (visit before k) (visit after k) (visits_same k) outer prefix names v c h

    visited_same : program_visited before ≡ program_visited after
    visited_same =
        let names : List OwnName = names_of (slice_get ss (length ss - 1)) in
        visits_same (length ss) names [] names (record { started = []; actuals = []; sets = [] }) (module_clear (length ss - 1)) (module_clear (length ss - 1))

    pub starts_same : start_list before ≡ start_list after
    starts_same = ap (λ (v : Visited). v.started) visited_same

    ------------------------------------------------------------
    -- The authority

    granted_same : (o : Origin) (n : OwnName) → NamesNot i n.typ → granted before o n ≡ granted after o n
    granted_same (Parameter bare) n h = refl
    granted_same Grant n h = ap (map (atom_name n.name)) (same_members i ds es ss w left n.typ h)
    granted_same (Use m) n h = refl
    granted_same (Instance m arguments) n h = refl
    granted_same (Import m arguments bound) n h = refl

    grants_same : (ns : List OwnName) → AreClear ns → grant_atoms before ns ≡ grant_atoms after ns
    grants_same [] h = refl
    grants_same (n ∷ ns) h = ap₂ (λ (xs ys : List AtomName). xs ++ ys) (granted_same n.origin n (h n (inl refl))) (grants_same ns (λ m j. h m (inr j)))

    main_same : main_row before ≡ main_row after
    main_same =
        let Of : List (List ℕ) → InstanceRow = λ sets. record { name = codes "main"; bodies = body_rows None sets (codes "run") (slice_get ss (length ss - 1)) } in
        ap (λ (v : Visited). Of v.sets) visited_same

    pub authority_same : authority_of before ≡ authority_of after
    authority_same =
        let Of : List AtomName → List InstanceRow → Authority = λ atoms rows. record { atoms = atoms; rows = rows } in
        let atoms : grant_atoms before (names_of (slice_get ss (length ss - 1))) ≡ grant_atoms after (names_of (slice_get ss (length ss - 1))) =
        grants_same (names_of (slice_get ss (length ss - 1))) (module_clear (length ss - 1)) in
        let rows : map (instance_row before) (start_list before) ++ main_row before ∷ [] ≡ map (instance_row after) (start_list after) ++ main_row after ∷ [] =
        ap₂ (λ (is : List Started) (m : InstanceRow). map (instance_row after) is ++ m ∷ []) starts_same main_same in
        ap₂ Of atoms rows
