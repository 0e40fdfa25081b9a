-- What is known of a scope before its code is made.
use Rattle.std.specs.Prelude.{◌≡◌, ◌<◌, ℕ, List, [], ◌∷◌, length, map, get_or, nat_eq, Option, Some, None, if◌then◌else◌}
use Rattle.std.specs.List.{position_from}
use Rattle.wy_types.specs.declared.resolved.Literal.{Literal}
use Rattle.wy_types.specs.Vals.{block_vals, start_vals}
use Rattle.wy_types.specs.Program.{Scope, Body}
use Rattle.wy_lower.specs.declared.scopes.Tables.{Tables}
use Rattle.wy_lower.specs.Parts.{block_parts, make_literal}

abbrev pub or_first : Option ℕ → ℕ → Option ℕ
or_first None k = Some k
or_first (Some n) k = Some n

-- the maker of literal l, once the method k that makes these literals is noted
abbrev pub maker_noted : ℕ → List ℕ → ℕ → Option ℕ → Option ℕ
maker_noted k [] l o = o
maker_noted k (m ∷ ms) l o = maker_noted k ms l (if nat_eq m l then or_first o k else o)

-- the first of these methods that makes literal l
abbrev pub maker_of : ℕ → List Body → Option ℕ
maker_of l bs = position_from (λ (b : Body). make_literal l (block_parts b.block)) 0 bs

abbrev pub bodies_vals : List Body → List (List ℕ)
bodies_vals bs = map (λ (b : Body). block_vals b.block) bs

pub record IsTabled (s : Scope) (t : Tables) : Type 0 where
  pub start : t.start ≡ start_vals s.start
  pub bodies : t.bodies.items ≡ bodies_vals s.bodies
  pub captures : t.captures.items ≡ map (λ (l : Literal). l.captures) s.literals
  pub long : length t.makers.items ≡ length s.literals
  pub makers : (l : ℕ) → l < length s.literals → get_or t.makers.items l None ≡ maker_of l s.bodies
  pub nothing : t.nothing ≡ []

-- what is known of each of these scopes
abbrev pub AreTabled : List Scope → List Tables → Type 0
AreTabled [] [] = Unit {0}
AreTabled [] (t ∷ ts) = ⊥
AreTabled (s ∷ ss) [] = ⊥
AreTabled (s ∷ ss) (t ∷ ts) = IsTabled s t × AreTabled ss ts
