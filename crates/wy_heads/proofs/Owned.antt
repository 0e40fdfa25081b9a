-- A scope's own names by its owners.
use Rattle.std.proofs.Common.{◌≡◌, ℕ, List, [], ◌++◌, map, take, length, sym, ap, ◌∙◌, Bool, true, false}
use Rattle.std.proofs.lemmas.List.{length-map}
use Rattle.wy_text.specs.declared.fault.AtomName.{AtomName}
use Rattle.wy_syntax.specs.declared.types.Param.{Param}
use Rattle.wy_types.specs.Types.{is_plain}
use Rattle.wy_symbols.specs.declared.scoping.Head.{Head}
use Rattle.wy_symbols.specs.declared.scoping.Owner.{Owner}
use Rattle.wy_symbols.specs.Declarations.{ModuleTree}
use Rattle.wy_symbols.specs.Atoms.{head_names, params_owners, closed_owner, param_owner, atom_scope}
use Rattle.wy_heads.specs.Lines.{param_name, use_name, line_names}
use Rattle.wy_heads.specs.ScopeHeads.{param_owners, use_owners, line_owners, module_owners, module_atoms, module_own}
use Rattle.wy_heads.proofs.LaterOwners.{front_is}

pub params_length : (names : List (List ℕ)) (plain : Bool) (ps : List Param) → length (params_owners names plain ps) ≡ length ps
params_length names true ps = length-map ps closed_owner
params_length names false ps = length-map ps (param_owner names)

module _ (heads : List Head) (modules : List ModuleTree) where
  pub own_is : (m : ModuleTree) (atoms : List AtomName) (owners : List Owner) (plain : Bool) (n : ℕ) →
      plain ≡ is_plain m.kind → atoms ≡ module_atoms heads modules m → owners ≡ module_owners heads modules m → n ≡ length m.params →
      map (param_name (atom_scope heads atoms (params_owners (head_names heads) plain m.params) []) plain) m.params ++
      (map (use_name heads modules atoms) m.uses ++ line_names heads modules atoms (take n owners ++ use_owners heads modules m.uses) m.lines) ≡ module_own heads modules m
  own_is m atoms owners plain n is at os e =
      let uses = use_owners heads modules m.uses in
      let first = param_owners heads modules m in
      let own = λ (p : Bool) (a : List AtomName) (b : List Owner).
      map (param_name (atom_scope heads a (params_owners (head_names heads) p m.params) []) p) m.params ++ (map (use_name heads modules a) m.uses ++ line_names heads modules a (b ++ uses) m.lines) in
      let front = front_is first uses (line_owners heads modules m.lines) owners n os (params_length (head_names heads) (is_plain m.kind) m.params ∙ sym e) in
      ap (λ p. own p atoms (take n owners)) is ∙ ap (λ a. own (is_plain m.kind) a (take n owners)) at ∙ ap (own (is_plain m.kind) (module_atoms heads modules m)) front
