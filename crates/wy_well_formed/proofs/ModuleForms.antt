-- The forms of modules by their kind: none is the program's, a pure one has no parameters, and a plain one has neither uses nor lines nor
-- a start of its own.
use Rattle.std.proofs.Common.{◌≡◌, List, [], ◌∷◌, true, None, inl, inr, refl, subst}
use Rattle.wy_syntax.specs.Trees.{ItemTree, type_item, pure_item, resource_item, plain_item, program_item}
use Rattle.wy_text.specs.Members.{In}
use Rattle.wy_text.proofs.Lists.{In-cases}
use Rattle.wy_types.specs.declared.resolved.ScopeKind.{ScopeKind}
use Rattle.wy_types.specs.declared.resolved.ScopeKind.TheVariants.{Pure, Resource, Plain, Program as Main}
use Rattle.wy_types.specs.Types.{is_plain}
use Rattle.wy_symbols.specs.Declarations.{ModuleTree, item_modules, modules_of}

pub record IsBare (m : ModuleTree) : Type 0 where
  pub uses : m.uses ≡ []
  pub lines : m.lines ≡ []
  pub init : m.init ≡ None

abbrev FormOf : ScopeKind → ModuleTree → Type 0
FormOf Pure m = m.params ≡ []
FormOf Resource m = Unit {0}
FormOf Plain m = IsBare m
FormOf Main m = ⊥

pub record HasForm (kind : ScopeKind) (m : ModuleTree) : Type 0 where
  form : FormOf kind m

pub is_module : (kind : ScopeKind) (m : ModuleTree) → HasForm kind m → kind ≡ Main → ⊥
is_module Pure m h e = cc
is_module Resource m h e = cc
is_module Plain m h e = cc
is_module Main m h e = h.form

pub pure_is_bare : (m : ModuleTree) → HasForm Pure m → m.params ≡ []
pure_is_bare m h = h.form

pub plain_is_bare : (kind : ScopeKind) (m : ModuleTree) → HasForm kind m → is_plain kind ≡ true → IsBare m
plain_is_bare Pure m h e = cc
plain_is_bare Resource m h e = cc
plain_is_bare Plain m h e = h.form
plain_is_bare Main m h e = absurd h.form

item_form : (i : ItemTree) (m : ModuleTree) → In m (item_modules i) → HasForm m.kind m
item_form (type_item d) m i = absurd i
item_form (pure_item place name sealed within) m (inl e) = let P : ModuleTree → Type 0 = λ v. HasForm v.kind v in subst P e (record { form = refl })
item_form (pure_item place name sealed within) m (inr i) = absurd i
item_form (resource_item place name params sealed within) m (inl e) = let P : ModuleTree → Type 0 = λ v. HasForm v.kind v in subst P e (record { form = tt })
item_form (resource_item place name params sealed within) m (inr i) = absurd i
item_form (plain_item place name params sealed parts) m (inl e) =
    let P : ModuleTree → Type 0 = λ v. HasForm v.kind v in
    subst P e (record { form = record { uses = refl; lines = refl; init = refl } })
item_form (plain_item place name params sealed parts) m (inr i) = absurd i
item_form (program_item place grants uses lines run effect body) m i = absurd i

pub modules_have_form : (items : List ItemTree) (m : ModuleTree) → In m (modules_of items) → HasForm m.kind m
modules_have_form [] m i = absurd i
modules_have_form (x ∷ items) m i = elim (In-cases m (item_modules x) (modules_of items) i) [ inl j ↦ item_form x m j | inr j ↦ modules_have_form items m j ]
