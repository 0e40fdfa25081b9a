-- Refusals of a scope's head that speak of fewer things than their section of the definitions has.
use Rattle.std.proofs.Common.{◌≡◌, ℕ, List, [], ◌∷◌, ◌++◌, take, length, Option, Some, None, Bool, true, false, refl, ap, ◌∙◌}
use Rattle.wy_text.specs.declared.fault.AtomName.{AtomName}
use Rattle.wy_syntax.specs.declared.types.Name.{Name}
use Rattle.wy_syntax.specs.declared.items.Init.{Init}
use Rattle.wy_types.specs.Types.{is_plain}
use Rattle.wy_symbols.specs.declared.scoping.Head.{Head}
use Rattle.wy_symbols.specs.declared.scoping.Owner.{Owner}
use Rattle.wy_symbols.specs.declared.scoping.Meaning.{Meaning}
use Rattle.wy_symbols.specs.Declarations.{ModuleTree, module_number}
use Rattle.wy_symbols.specs.Atoms.{AtomScope, head_names, atom_scope}
use Rattle.wy_heads.specs.Lines.{unless_number, uses_refusals}
use Rattle.wy_heads.specs.ScopeHeads.{definitions_at, defined_refusals, sealed_refusals, start_effect, init_refusals, param_owners, param_scope, use_owners, line_owners, module_owners, module_atoms}
use Rattle.wy_heads.proofs.LaterOwners.{front_is}
use Rattle.wy_heads.proofs.Owned.{params_length}

defined_same : (heads : List Head) (ms ns : List ModuleTree) (m : ModuleTree) (plain : Bool) (members : List Meaning) → defined_refusals heads ms m plain members ≡ defined_refusals heads ns m plain members
defined_same heads ms ns m true members = refl
defined_same heads ms ns m false members = refl

pub sealed_same : (heads : List Head) (ms ns : List ModuleTree) (m : ModuleTree) (o : Option ℕ) → sealed_refusals heads ms m o ≡ sealed_refusals heads ns m o
sealed_same heads ms ns m None = refl
sealed_same heads ms ns m (Some d) = defined_same heads ms ns m (is_plain m.kind) _

number_same : (heads hs : List Head) (ms : List ModuleTree) (atoms as_ : List AtomName) (n : Name) (o : Option ℕ) → unless_number heads ms atoms n o ≡ unless_number hs ms as_ n o
number_same heads hs ms atoms as_ n None = refl
number_same heads hs ms atoms as_ n (Some k) = refl

pub uses_same : (heads hs : List Head) (ms : List ModuleTree) (atoms as_ : List AtomName) (us : List Name) → uses_refusals heads ms atoms us ≡ uses_refusals hs ms as_ us
uses_same heads hs ms atoms as_ [] = refl
uses_same heads hs ms atoms as_ (u ∷ us) =
    ap (λ l. l ++ uses_refusals heads ms atoms us) (number_same heads hs ms atoms as_ u (module_number ms u.text))
    ∙ ap (λ l. unless_number hs ms as_ u (module_number ms u.text) ++ l) (uses_same heads hs ms atoms as_ us)

pub init_same : (heads hs : List Head) (ms ns : List ModuleTree) (s : AtomScope) (o : Option Init) → init_refusals heads ms s o ≡ init_refusals hs ns s o
init_same heads hs ms ns s None = refl
init_same heads hs ms ns s (Some i) = refl

pub start_same : (heads hs : List Head) (ms ns : List ModuleTree) (s : AtomScope) (o : Option Init) → start_effect heads ms s o ≡ start_effect hs ns s o
start_same heads hs ms ns s None = refl
start_same heads hs ms ns s (Some i) = refl

-- parameters see themselves alone
pub params_seen : (heads : List Head) (modules : List ModuleTree) (m : ModuleTree) (atoms : List AtomName) (owners : List Owner) →
    atoms ≡ module_atoms heads modules m → owners ≡ module_owners heads modules m → atom_scope heads atoms (take (length m.params) owners) [] ≡ param_scope heads modules m
params_seen heads modules m atoms owners at os =
    let params = param_owners heads modules m in
    let front = front_is params (use_owners heads modules m.uses) (line_owners heads modules m.lines) owners (length m.params) os (params_length (head_names heads) (is_plain m.kind) m.params) in
    ap (λ a. atom_scope heads a (take (length m.params) owners) []) at ∙ ap (λ os. atom_scope heads (module_atoms heads modules m) os []) front

pub definitions_same : (heads : List Head) (ms ns : List ModuleTree) (plain : Bool) (meanings : List Meaning) (o : Option ℕ) → definitions_at heads ms plain meanings o ≡ definitions_at heads ns plain meanings o
definitions_same heads ms ns plain meanings None = refl
definitions_same heads ms ns true meanings (Some d) = refl
definitions_same heads ms ns false meanings (Some d) = refl
