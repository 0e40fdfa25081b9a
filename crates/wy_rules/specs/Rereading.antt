-- Laws of typing: the derivations of a scope's bodies stay derivations when its types are read in another way.
use Rattle.std.specs.Prelude.{ℕ, List}
use Rattle.wy_effects.specs.EffSet.{AreSets}
use Rattle.wy_effects.specs.Bounds.{Bounds, Respects}
use Rattle.wy_types.specs.Program.{Program, Scope}
use Rattle.wy_types.specs.Bounds.{bounds_of}
use Rattle.wy_rules.specs.Readings.{annotated_reading, plain_reading, replaced_reading, erased_reading, retyped_reading}
use Rattle.wy_rules.specs.Typing.{ScopeHolds}

-- erasure: an annotated scope has a derivation without effects
abbrev pub Erasure : Type 0
Erasure = (p : Program) (scope : ℕ) (s : Scope) → ScopeHolds (annotated_reading p scope) s → ScopeHolds (erased_reading p scope) s

-- substitution: with sets put in for the atoms that respect their bounds, in types and effects alike, over the bounds there
abbrev pub Substitution : Type 0
Substitution =
    (p : Program) (scope : ℕ) (s : Scope) (by : List (List ℕ)) (bounds : Bounds) → AreSets 512 by → Respects (bounds_of p scope) bounds by →
    ScopeHolds (annotated_reading p scope) s → ScopeHolds (replaced_reading p scope by bounds) s

-- retyping: a plain derivation becomes an annotated one at every set
abbrev pub Retyping : Type 0
Retyping = (p : Program) (scope : ℕ) (s : Scope) (e : List ℕ) → ScopeHolds (plain_reading p scope) s → ScopeHolds (retyped_reading p scope e) s
