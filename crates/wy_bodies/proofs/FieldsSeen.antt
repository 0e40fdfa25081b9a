-- One field more in a table of fields, where the last of a name hides the others.
use Rattle.std.proofs.Common.{◌≡◌, ℕ, ◌+◌, List, ◌∷◌, Bool, true, false, refl, sym, ◌∙◌, cond, Option, Some, None, if◌then◌else◌}
use Rattle.wy_types.specs.declared.code.Binding.{Binding}
use Rattle.wy_types.specs.declared.code.Binding.TheVariants as to
use Rattle.wy_symbols.specs.Declarations.{same_name}
use Rattle.wy_bodies.specs.Sight.{nearest, seen, entry}
use Rattle.wy_bodies.specs.InSight.{field_entries, or_else}

if_else : (b : Bool) (f : Binding) (old : Option Binding) → or_else (if b then Some f else None) old ≡ cond b (Some f) old
if_else true f old = refl
if_else false f old = refl

pub field_seen : (k : ℕ) (y : List ℕ) (rest : List (List ℕ)) (old new whole : Option Binding) (x : List ℕ) →
    new ≡ cond (same_name y x) (Some (to.Field k)) old → or_else (seen (field_entries k (y ∷ rest)) x) old ≡ whole → or_else (seen (field_entries (k + 1) rest) x) new ≡ whole
field_seen k y rest old new whole x is h =
    let P : Option Binding → Type 0 = λ o. or_else o new ≡ or_else (nearest o (entry y (to.Field k)) x) old in
    (elim (seen (field_entries (k + 1) rest) x) as P [
      | Some b ↦ refl
      | None ↦ is ∙ sym (if_else (same_name y x) (to.Field k) old)
    ]) ∙ h
