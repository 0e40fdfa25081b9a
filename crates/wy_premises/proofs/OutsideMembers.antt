-- An argument's members against the bounds of those that its parameter opens.
use Rattle.std.proofs.Common.{◌≡◌, ℕ, List, subst, Option, Some, None, Result, Ok, Err}
use Rattle.std.specs.Prelude.{IfOk, IfSome, IfNone}
use Rattle.wy_text.specs.declared.text.Memory.{Memory}
use Rattle.wy_effects.specs.declared.atom.Atom.{Atom}
use Rattle.wy_effects.specs.Bounds.{Bounds, Respects}
use Rattle.wy_rules.specs.Failing.{FirstOutside, LacksOutside}
use Rattle.wy_rules.proofs.Outside.{outside_disrespects}
use Rattle.wy_premises.specs.Tried.{OrLacks, missing_atom}

module _ (bounds there : Bounds) (by : List (List ℕ)) where
  outside_lacks : (o : Option Atom) → IfNone o (Respects bounds there by) → IfSome o (λ a. FirstOutside bounds there by a.0) → OrLacks (Respects bounds there by) (LacksOutside bounds there by) (missing_atom o)
  outside_lacks None r f = r
  outside_lacks (Some a) r f = (outside_disrespects bounds there by a.0 f, f)

-- .. as code has them
pub outside_as : (bounds opened there : Bounds) (sets by : List (List ℕ)) (r : Result (Option Atom) Memory) → bounds ≡ opened → sets ≡ by → IfOk r (λ o. IfNone o (Respects bounds there sets)) → IfOk r (λ o. IfSome o (λ a. FirstOutside bounds there sets a.0)) →
    IfOk r (λ o. OrLacks (Respects opened there by) (LacksOutside opened there by) (missing_atom o))
outside_as bounds opened there sets by (Ok o) e f none some =
    subst (λ v. OrLacks (Respects v there by) (LacksOutside v there by) (missing_atom o)) e
    (subst (λ v. OrLacks (Respects bounds there v) (LacksOutside bounds there v) (missing_atom o)) f (outside_lacks bounds there sets o none some))
outside_as bounds opened there sets by (Err m) e f none some = tt
