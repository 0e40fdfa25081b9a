-- Where the bodies of an owner stand in a list.
use Rattle.std.specs.Prelude.{◌≡◌, ℕ, ◌+◌, List, [], ◌∷◌, ◌++◌, Option, None, Some, length, nat_eq, if◌then◌else◌}
use Rattle.wy_types.specs.declared.resolved.Body.{Body}

-- the bodies of an owner, in their order
abbrev pub owned_by : ℕ → List Body → List Body
owned_by owner [] = []
owned_by owner (b ∷ bs) = if nat_eq b.owner owner then b ∷ owned_by owner bs else owned_by owner bs

-- all bodies of an owner stand from a place up to another: none before, and none behind
pub record StandFrom (bodies : List Body) (owner first end : ℕ) : Type 0 where
  pub before : List Body
  pub among : List Body
  pub behind : List Body
  pub whole : bodies ≡ before ++ (among ++ behind)
  pub starts : length before ≡ first
  pub ends : length before + length among ≡ end
  pub none_before : owned_by owner before ≡ []
  pub none_behind : owned_by owner behind ≡ []

-- what a table of places says of an owner: nothing where it has no body
abbrev pub StandIn : List Body → ℕ → Option (ℕ × ℕ) → Type 0
StandIn bodies owner None = owned_by owner bodies ≡ []
StandIn bodies owner (Some (first, end)) = StandFrom bodies owner first end
