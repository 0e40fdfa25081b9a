-- The pairs that a table met, by their numbers, and what is known of each.
use Rattle.std.specs.Prelude.{◌≡◌, ℕ, ◌<◌, List, [], ◌∷◌, ◌++◌, ◌⊎◌, Option, Some, None, Bool as Truth, true, false, length, map, slice_get}
use Rattle.std.proofs.Common.{zero, suc}
use Rattle.wy_text.specs.Members.{In, Within, Apart}
use Rattle.wy_types.specs.declared.types.TypeRef.TheVariants.{Int, Bool, Text, Unit as Nothing}
use Rattle.wy_types.specs.declared.path.Step.{Step}
use Rattle.wy_types.specs.InRange.{IsInRange}
use Rattle.wy_types.specs.Keys.{pair_key}
use Rattle.wy_subtype.specs.declared.node.Outcome.{Outcome}
use Rattle.wy_subtype.specs.declared.node.Outcome.TheVariants.{Open, Fails, Asks, Holds}
use Rattle.wy_subtype.specs.declared.node.Node.{Node}
use Rattle.wy_subtype.specs.Verdict.{IsSubtypeIn, Closes, FailsBy, AreSameBase}
use Rattle.wy_subtype.specs.Steps.{Pair, StepsTo}
use Rattle.wy_subtype.specs.Decided.{About}

abbrev pub is_open : Outcome → Truth
is_open Open = true
is_open (Fails cause) = false
is_open (Asks numbers) = false
is_open Holds = false

abbrev pub IsOpen : Outcome → Type 0
IsOpen o = is_open o ≡ true

abbrev pub node_pair : Node → Pair
node_pair k = (k.left, k.right)

abbrev pub node_key : Node → List ℕ
node_key k = pair_key k.left k.right

-- a pair of which nothing is known
abbrev pub open_node : Pair → Node
open_node q = record { left = q.0; right = q.1; outcome = Open }

-- the pair at a place has this outcome, and all else stays
abbrev pub with_outcome : List Node → ℕ → Outcome → List Node
with_outcome [] n o = []
with_outcome (k ∷ ks) zero o = record { left = k.left; right = k.right; outcome = o } ∷ ks
with_outcome (k ∷ ks) (suc n) o = k ∷ with_outcome ks n o

------------------------------------------------------------
-- Numbers

abbrev pub pair_or_none : Option Pair → Pair
pair_or_none None = (Int, Int)
pair_or_none (Some q) = q

-- the pair of a number
abbrev pub pair_at : List Pair → ℕ → Pair
pair_at ps n = pair_or_none (slice_get ps n)

-- the pairs of numbers
abbrev pub pairs_at : List Pair → List ℕ → List Pair
pairs_at ps ns = map (pair_at ps) ns

-- a list with others behind it
abbrev pub Continues : List Pair → List Pair → Type 0
Continues old new = (tail : List Pair) × (new ≡ old ++ tail)

-- the pair is there, or comes last and is open
abbrev pub Meets : Pair → List Node → List Node → Type 0
Meets q old new = (new ≡ old) ⊎ ((In q (map node_pair old) → ⊥) × (new ≡ old ++ open_node q ∷ []))

-- open pairs come behind, none of them twice
pub record AreMore (old new : List Node) : Type 0 where
  pub tail : List Node
  pub more : new ≡ old ++ tail
  pub are_open : (k : Node) → In k tail → IsOpen k.outcome
  pub apart : Apart (map node_pair old) → Apart (map node_pair new)

-- the number of the pair comes last, or the pair is one of equal base types
abbrev pub IsNumbered : List Pair → Pair → List ℕ → List ℕ → Type 0
IsNumbered ps r old new = (AreSameBase r × (new ≡ old)) ⊎ ((n : ℕ) × (slice_get ps n ≡ Some r) × (new ≡ old ++ n ∷ []))

-- the numbers are those of asked pairs, and each asked pair has its number or is one of equal base types
pub record AreNumbersOf (ps asked : List Pair) (numbers : List ℕ) : Type 0 where
  pub asks : (n : ℕ) → In n numbers → (r : Pair) × (slice_get ps n ≡ Some r) × In r asked
  pub each : (r : Pair) → In r asked → AreSameBase r ⊎ ((n : ℕ) × In n numbers × (slice_get ps n ≡ Some r))

------------------------------------------------------------
-- What is known

-- one step leads from the first pair to the second
abbrev pub HasStep : About → Pair → Pair → Type 0
HasStep about q r = (s : Step) × StepsTo about.program about.scope about.mode q s r

-- the pairs of equal base types
abbrev pub base_pairs : List Pair
base_pairs = (Int, Int) ∷ (Bool, Bool) ∷ (Text, Text) ∷ (Nothing, Nothing) ∷ []

-- the pairs of the numbers are a step away, and close the pair together with those of equal base types
pub record IsAsking (about : About) (ps : List Pair) (q : Pair) (numbers : List ℕ) : Type 0 where
  pub steps : (n : ℕ) → In n numbers → (r : Pair) × (slice_get ps n ≡ Some r) × HasStep about q r
  pub closes : (qs : List Pair) → Within base_pairs qs → ((n : ℕ) (r : Pair) → In n numbers → slice_get ps n ≡ Some r → In r qs) →
      Closes about.program about.scope about.mode qs q

-- what is known of a pair is right
abbrev pub IsOutcome : About → List Pair → Pair → Outcome → Type 0
IsOutcome about ps q Open = Unit {0}
IsOutcome about ps q (Fails cause) = FailsBy about.program about.scope about.mode q cause
IsOutcome about ps q (Asks numbers) = IsAsking about ps q numbers
IsOutcome about ps q Holds = IsSubtypeIn about.program about.scope about.mode q.0 q.1

-- exactly the pairs of which something is known were unfolded
abbrev pub IsNoted : Type 0 → Outcome → Type 0
IsNoted Unfolded Open = Unfolded → ⊥
IsNoted Unfolded (Fails cause) = Unfolded
IsNoted Unfolded (Asks numbers) = Unfolded
IsNoted Unfolded Holds = Unfolded

-- distinct pairs, of which all that is known is right, and the numbers of those that were unfolded
pub record AreKnown (about : About) (nodes : List Node) (unfolded : List ℕ) : Type 0 where
  pub core : IsInRange about.program
  pub apart : Apart (map node_pair nodes)
  pub right : (n : ℕ) (k : Node) → slice_get nodes n ≡ Some k → IsOutcome about (map node_pair nodes) (node_pair k) k.outcome
  pub noted : (n : ℕ) (k : Node) → slice_get nodes n ≡ Some k → IsNoted (In n unfolded) k.outcome
  pub once : Apart unfolded
  pub within : (n : ℕ) → In n unfolded → n < length nodes
