-- The names of abstract members, one member more.
use Rattle.std.proofs.Common.{◌≡◌, List, ◌∷◌, true, false, ap, if◌then◌else◌}
use Rattle.wy_symbols.specs.declared.scoping.Meaning.{Meaning}
use Rattle.wy_symbols.specs.Meanings.{abstract_names}

pub abstract_first : (m : Meaning) (ms : List Meaning) → m.is_abstract ≡ true → abstract_names (m ∷ ms) ≡ m.name ∷ abstract_names ms
abstract_first m ms h = ap (λ b. if b then m.name ∷ abstract_names ms else abstract_names ms) h

pub defined_first : (m : Meaning) (ms : List Meaning) → m.is_abstract ≡ false → abstract_names (m ∷ ms) ≡ abstract_names ms
defined_first m ms h = ap (λ b. if b then m.name ∷ abstract_names ms else abstract_names ms) h
