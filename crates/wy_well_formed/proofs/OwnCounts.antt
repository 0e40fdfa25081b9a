-- How many of a scope's own names are grants and how many are parameters: as many as are written.
use Rattle.std.proofs.Common.{◌≡◌, ℕ, ◌+◌, List, [], ◌∷◌, ◌++◌, map, length, Bool, true, false, refl, ◌∙◌, arith}
use Rattle.wy_text.specs.declared.fault.AtomName.{AtomName}
use Rattle.wy_syntax.specs.declared.types.Name.{Name}
use Rattle.wy_syntax.specs.declared.types.Param.{Param}
use Rattle.wy_syntax.specs.declared.items.Grant.{Grant}
use Rattle.wy_syntax.specs.declared.items.Line.{Line}
use Rattle.wy_syntax.specs.declared.items.Line.TheVariants as line
use Rattle.wy_types.specs.declared.resolved.OwnName.{OwnName}
use Rattle.wy_types.specs.declared.resolved.Origin.{Origin}
use Rattle.wy_types.specs.Types.{is_plain}
use Rattle.wy_types.specs.Core.{one_grant, one_parameter, origins_count}
use Rattle.wy_symbols.specs.declared.scoping.Head.{Head}
use Rattle.wy_symbols.specs.declared.scoping.Owner.{Owner}
use Rattle.wy_symbols.specs.Declarations.{ModuleTree, ProgramTree}
use Rattle.wy_symbols.specs.Atoms.{AtomScope, head_names, line_owner}
use Rattle.wy_heads.specs.Lines.{param_name, grant_name, use_name, line_name, line_names}
use Rattle.wy_heads.specs.ScopeHeads.{param_scope, module_atoms, early_owners, module_own, program_scope, program_atoms, grant_owners, program_own}

module _ (one : Origin → ℕ) where
  count_append : (xs ys : List OwnName) → origins_count one (xs ++ ys) ≡ origins_count one xs + origins_count one ys
  count_append [] ys = omega arith
  count_append (x ∷ xs) ys = let h = count_append xs ys in omega (arith, h)

  -- uses and lines count for nothing where neither does
  module _ (heads : List Head) (modules : List ModuleTree) (atoms : List AtomName) (no_use : (u : Name) → one (use_name heads modules atoms u).origin ≡ 0)
      (no_line : (before : List Owner) (l : Line) → one (line_name heads modules atoms before l).origin ≡ 0) where
    no_uses : (us : List Name) → origins_count one (map (use_name heads modules atoms) us) ≡ 0
    no_uses [] = refl
    no_uses (u ∷ us) = let h = no_use u in let r = no_uses us in omega (arith, h, r)

    no_lines : (before : List Owner) (ls : List Line) → origins_count one (line_names heads modules atoms before ls) ≡ 0
    no_lines before [] = refl
    no_lines before (l ∷ ls) =
        let h = no_line before l in
        let r = no_lines (before ++ line_owner (head_names heads) modules l ∷ []) ls in
        omega (arith, h, r)

    -- .. so those that stand before them are all that count
    first_alone : (first : List OwnName) (us : List Name) (before : List Owner) (ls : List Line) →
        origins_count one (first ++ (map (use_name heads modules atoms) us ++ line_names heads modules atoms before ls)) ≡ origins_count one first
    first_alone first us before ls =
        let uses = map (use_name heads modules atoms) us in
        let lines = line_names heads modules atoms before ls in
        let a = count_append first (uses ++ lines) in
        let b = count_append uses lines in
        let c = no_uses us in
        let d = no_lines before ls in
        omega (arith, a, b, c, d)

module _ (heads : List Head) (modules : List ModuleTree) (atoms : List AtomName) where
  line_grants : (before : List Owner) (l : Line) → one_grant (line_name heads modules atoms before l).origin ≡ 0
  line_grants before (line.Instance x m ns) = refl
  line_grants before (line.Import x m ns set) = refl

  line_parameters : (before : List Owner) (l : Line) → one_parameter (line_name heads modules atoms before l).origin ≡ 0
  line_parameters before (line.Instance x m ns) = refl
  line_parameters before (line.Import x m ns set) = refl

grants_counted : (s : AtomScope) (gs : List Grant) → origins_count one_grant (map (grant_name s) gs) ≡ length gs
grants_counted s [] = refl
grants_counted s (g ∷ gs) = let h = grants_counted s gs in omega (arith, h)

grants_no_parameters : (s : AtomScope) (gs : List Grant) → origins_count one_parameter (map (grant_name s) gs) ≡ 0
grants_no_parameters s [] = refl
grants_no_parameters s (g ∷ gs) = let h = grants_no_parameters s gs in omega (arith, h)

parameters_counted : (s : AtomScope) (plain : Bool) (ps : List Param) → origins_count one_parameter (map (param_name s plain) ps) ≡ length ps
parameters_counted s plain [] = refl
parameters_counted s true (p ∷ ps) = let h = parameters_counted s true ps in omega (arith, h)
parameters_counted s false (p ∷ ps) = let h = parameters_counted s false ps in omega (arith, h)

parameters_no_grants : (s : AtomScope) (plain : Bool) (ps : List Param) → origins_count one_grant (map (param_name s plain) ps) ≡ 0
parameters_no_grants s plain [] = refl
parameters_no_grants s true (p ∷ ps) = let h = parameters_no_grants s true ps in omega (arith, h)
parameters_no_grants s false (p ∷ ps) = let h = parameters_no_grants s false ps in omega (arith, h)

module _ (heads : List Head) (modules : List ModuleTree) where
  -- a module has no grant, and its parameters
  pub module_grants : (m : ModuleTree) → origins_count one_grant (module_own heads modules m) ≡ 0
  module_grants m =
      let atoms = module_atoms heads modules m in
      first_alone one_grant heads modules atoms (λ u. refl) (line_grants heads modules atoms)
      (map (param_name (param_scope heads modules m) (is_plain m.kind)) m.params) m.uses (early_owners heads modules m) m.lines ∙
      parameters_no_grants (param_scope heads modules m) (is_plain m.kind) m.params

  pub module_parameters : (m : ModuleTree) → origins_count one_parameter (module_own heads modules m) ≡ length m.params
  module_parameters m =
      let atoms = module_atoms heads modules m in
      first_alone one_parameter heads modules atoms (λ u. refl) (line_parameters heads modules atoms)
      (map (param_name (param_scope heads modules m) (is_plain m.kind)) m.params) m.uses (early_owners heads modules m) m.lines ∙
      parameters_counted (param_scope heads modules m) (is_plain m.kind) m.params

  -- the program has its grants, and no parameter
  pub program_grants : (g : ProgramTree) → origins_count one_grant (program_own heads modules g) ≡ length g.grants
  program_grants g =
      let atoms = program_atoms heads modules g in
      first_alone one_grant heads modules atoms (λ u. refl) (line_grants heads modules atoms)
      (map (grant_name (program_scope heads modules g)) g.grants) g.uses (grant_owners heads modules g) g.lines ∙
      grants_counted (program_scope heads modules g) g.grants

  pub program_parameters : (g : ProgramTree) → origins_count one_parameter (program_own heads modules g) ≡ 0
  program_parameters g =
      let atoms = program_atoms heads modules g in
      first_alone one_parameter heads modules atoms (λ u. refl) (line_parameters heads modules atoms)
      (map (grant_name (program_scope heads modules g)) g.grants) g.uses (grant_owners heads modules g) g.lines ∙
      grants_no_parameters (program_scope heads modules g) g.grants
