-- The upper bounds of abstract members, one member more.
use Rattle.std.proofs.Common.{◌≡◌, List, ◌∷◌, true, false, ap, if◌then◌else◌}
use Rattle.wy_symbols.specs.declared.scoping.Meaning.{Meaning}
use Rattle.wy_symbols.specs.Meanings.{abstract_bounds}

pub bound_first : (m : Meaning) (ms : List Meaning) → m.is_abstract ≡ true → abstract_bounds (m ∷ ms) ≡ m.bound ∷ abstract_bounds ms
bound_first m ms h = ap (λ b. if b then m.bound ∷ abstract_bounds ms else abstract_bounds ms) h

pub no_bound_first : (m : Meaning) (ms : List Meaning) → m.is_abstract ≡ false → abstract_bounds (m ∷ ms) ≡ abstract_bounds ms
no_bound_first m ms h = ap (λ b. if b then m.bound ∷ abstract_bounds ms else abstract_bounds ms) h
