-- In a text the numbers of a scope's `val` statements ascend with their places.
use Rattle.std.proofs.Common.{◌≡◌, ℕ, zero, suc, ◌<◌, List, [], ◌∷◌, inl, inr, true, Some, refl, sym, subst, arith}
use Rattle.std.specs.Prelude.{slice_get}
use Rattle.wy_text.specs.declared.fault.Place.{Place}
use Rattle.wy_syntax.specs.Trees.{ItemTree}
use Rattle.wy_syntax.specs.Before.{is_before}
use Rattle.wy_text.specs.Members.{In}
use Rattle.wy_text.proofs.Lists.{In-cases, In-slice_get}
use Rattle.wy_types.specs.Program.{Scope}
use Rattle.wy_symbols.specs.Declarations.{ModuleTree, ProgramTree, item_modules, item_programs, types_of, modules_of, programs_of}
use Rattle.wy_symbols.specs.Atoms.{heads_of}
use Rattle.wy_well_formed.specs.ValPlaces.{ValAt, AllAt, Ascend, AreInText, AreInOrder, ResolvedValsAreInOrder, parts_val_places, tail_val_places, scope_vals_at}
use Rattle.wy_well_formed.proofs.EachScope.{each_scope}
use Rattle.wy_well_formed.proofs.SpelledVals.{module_ordered, program_ordered}
use Rattle.wy_well_formed.proofs.ValsAsWritten.{module_as_written, program_as_written}

-- of ascending places the one of the lesser number stands before the other
ascending_at : (ps : List Place) → Ascend ps → (i j : ℕ) (p q : Place) → i < j → slice_get ps i ≡ Some p → slice_get ps j ≡ Some q → is_before p q ≡ true
ascending_at [] h i j p q l e f = absurd (cc)
ascending_at (r ∷ ps) h zero zero p q l e f = absurd (omega (arith, l))
ascending_at (r ∷ ps) h zero (suc j) p q l e f = (let same : r ≡ p = cc in subst (λ v. is_before v q ≡ true) same (h.0 q (In-slice_get ps j q f)))
ascending_at (r ∷ ps) h (suc i) zero p q l e f = absurd (omega (arith, l))
ascending_at (r ∷ ps) h (suc i) (suc j) p q l e f = ascending_at ps h.1 i j p q (omega (arith, l)) e f

in_order : (ps : List Place) (vs : List ValAt) → Ascend ps → AllAt ps vs → AreInOrder vs
in_order ps vs h at v w i j l = ascending_at ps h v.number w.number v.place w.place l (at v i) (at w j)

-- the places of a scope's tree
module_ascends : (items : List ItemTree) (m : ModuleTree) → In m (modules_of items) → AreInText items → Ascend (parts_val_places m.parts)
module_ascends [] m i h = absurd i
module_ascends (x ∷ items) m i h = elim (In-cases m (item_modules x) (modules_of items) i) [
  | inl j ↦ (let a = h.0 in (module_ordered x m j a.0 a.1).ascend a.2)
  | inr j ↦ module_ascends items m j h.1
]

program_ascends : (items : List ItemTree) (g : ProgramTree) → In g (programs_of items) → AreInText items → Ascend (tail_val_places g.body)
program_ascends [] g i h = absurd i
program_ascends (x ∷ items) g i h = elim (In-cases g (item_programs x) (programs_of items) i) [
  | inl j ↦ (let a = h.0 in (program_ordered x g j a.0 a.1).ascend a.2)
  | inr j ↦ program_ascends items g j h.1
]

pub vals_in_order : ResolvedValsAreInOrder
vals_in_order items p r h =
    let heads = heads_of (types_of items) in
    let modules = modules_of items in
    let Q : List ProgramTree → Type 0 = λ gs. In r.program gs in
    let mine : In r.program (programs_of items) = subst Q (sym r.one) (inl refl) in
    let P : Scope → Type 0 = λ s. AreInOrder (scope_vals_at s) in
    each_scope items p r P
    (λ m i. in_order (parts_val_places m.parts) _ (module_ascends items m i h) (module_as_written heads modules m).there)
    (in_order (tail_val_places (r.program).body) _ (program_ascends items r.program mine h) (program_as_written heads modules r.program).there)
