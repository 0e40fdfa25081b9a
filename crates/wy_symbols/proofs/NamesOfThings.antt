-- The names of things that are lent.
use Rattle.std.proofs.Common.{◌≡◌, List, [], ◌∷◌, map, refl, ap, Bor}
use Rattle.wy_syntax.specs.declared.types.Name.{Name}
use Rattle.wy_syntax.specs.declared.types.MemberSet.{MemberSet}
use Rattle.wy_syntax.specs.declared.items.TypeDecl.{TypeDecl}
use Rattle.wy_symbols.specs.declared.gathering.ModuleView.{ModuleView}
use Rattle.wy_symbols.specs.Declarations.{type_names, module_names, texts}
use Rattle.wy_symbols.specs.TypeUses.{texts_of}
use Rattle.wy_symbols.specs.Lent.{lent_type, module_tree}
use Rattle.wy_symbols.specs.Things.{type_name, module_name}

pub names_alone : (ns : List Name) → map (λ n. n) ns ≡ ns
names_alone [] = refl
names_alone (n ∷ ns) = ap (λ l. n ∷ l) (names_alone ns)

pub types_named : (ds : List (Bor TypeDecl)) → map type_name ds ≡ type_names (map lent_type ds)
types_named [] = refl
types_named (d ∷ ds) = ap (λ l. type_name d ∷ l) (types_named ds)

pub modules_named : (ms : List ModuleView) → map module_name ms ≡ module_names (map module_tree ms)
modules_named [] = refl
modules_named (m ∷ ms) = ap (λ l. module_name m ∷ l) (modules_named ms)

pub sets_named : (ms : List MemberSet) → texts (map (λ (m : MemberSet). m.name) ms) ≡ texts_of ms
sets_named [] = refl
sets_named (m ∷ ms) = ap (λ l. m.name.text ∷ l) (sets_named ms)
