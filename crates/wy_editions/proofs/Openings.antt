-- What the names of types open is not the type of a number, where no name that is `Ok` finds it.
use Rattle.std.proofs.Common.{ℕ, zero, suc, Bool, true, false, List, [], ◌∷◌, Option, Some, None, refl, if◌then◌else◌}
use Rattle.std.specs.Prelude.{nat_lt, slice_get}
use Rattle.wy_syntax.specs.declared.types.TypeUse.{TypeUse}
use Rattle.wy_syntax.specs.declared.types.TypeUse.TheVariants as use_of
use Rattle.wy_types.specs.Primitive.{first_declared}
use Rattle.wy_symbols.specs.declared.scoping.Opening.TheVariants.{Members, Missing}
use Rattle.wy_symbols.specs.Declarations.{ModuleTree, module_number}
use Rattle.wy_symbols.specs.Atoms.{type_number, opened, param_opening, primitive_opening, sealed_opening, module_at, module_opening}
use Rattle.wy_editions.proofs.Alike.{NumberNot, OpensNot}
use Rattle.wy_editions.proofs.TypeNames.{UseHas, ModulesHave}

module _ (Ok : List ℕ → Type 0) where
  -- the type that a module is sealed at
  abbrev pub SealedHas : Option ModuleTree → Type 0
  SealedHas None = Unit {0}
  SealedHas (Some m) = Ok m.sealed.text

  slot_has : (ms : List ModuleTree) (k : ℕ) → ModulesHave Ok ms → SealedHas (slice_get ms k)
  slot_has [] k h = tt
  slot_has (m ∷ ms) zero h = h.0.1
  slot_has (m ∷ ms) (suc k) h = slot_has ms k h.1

  pub sealed_has : (modules : List ModuleTree) → ModulesHave Ok modules → (o : Option ℕ) → SealedHas (module_at modules o)
  sealed_has modules h None = tt
  sealed_has modules h (Some k) = slot_has modules k h

module _ (Ok : List ℕ → Type 0) (i : ℕ) where
  pub opened_not : (o : Option ℕ) → NumberNot Ok i o → OpensNot Ok i (opened o)
  opened_not None f = tt
  opened_not (Some d) f = f d refl

  pub primitive_not : (o : Option ℕ) → NumberNot Ok i o → OpensNot Ok i (primitive_opening o)
  primitive_not None f = tt
  primitive_not (Some d) f =
      elim (nat_lt d first_declared) as (λ (b : Bool). OpensNot Ok i (if b then Members d else Missing)) [ true ↦ f d refl | false ↦ tt ]

  module _ (names : List (List ℕ)) (finds : (x : List ℕ) → Ok x → NumberNot Ok i (type_number names x)) where
    pub param_opening_not : (u : TypeUse) → UseHas Ok u → OpensNot Ok i (param_opening names u)
    param_opening_not (use_of.Int p) k = tt
    param_opening_not (use_of.Bool p) k = tt
    param_opening_not (use_of.Text p) k = tt
    param_opening_not (use_of.Unit p) k = tt
    param_opening_not (use_of.Bare n) k = opened_not (type_number names n.text) (finds n.text k)
    param_opening_not (use_of.With n sets) k = tt
    param_opening_not (use_of.At n set) k = tt

    sealed_not : (o : Option ModuleTree) → SealedHas Ok o → OpensNot Ok i (sealed_opening names o)
    sealed_not None k = tt
    sealed_not (Some m) k = opened_not (type_number names m.sealed.text) (finds m.sealed.text k)

    -- a module that a name leads to is sealed at another type
    pub module_opening_not : (modules : List ModuleTree) → ModulesHave Ok modules → (x : List ℕ) → OpensNot Ok i (module_opening names modules x)
    module_opening_not modules ok x = sealed_not (module_at modules (module_number modules x)) (sealed_has Ok modules ok (module_number modules x))
