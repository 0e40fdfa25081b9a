-- What the list of pairs of one question keeps while they are tested one by one.
use Rattle.std.specs.Prelude.{◌≡◌, ℕ, ◌<◌, ◌≤◌, List, [], ◌∷◌, ◌++◌, ◌⊎◌, Some, length, map, reverse, slice_get}
use Rattle.wy_text.specs.Members.{In, Apart}
use Rattle.wy_types.specs.declared.path.Step.{Step}
use Rattle.wy_types.specs.Program.{Program}
use Rattle.wy_types.specs.Fitting.{IsTypeOf}
use Rattle.wy_subtype.specs.declared.verdict.Mode.{Mode}
use Rattle.wy_subtype.specs.declared.verdict.Cause.{Cause}
use Rattle.wy_subtype.specs.declared.entry.Entry.{Entry}
use Rattle.wy_subtype.specs.Verdict.{IsSubtypeIn, Closes, FailsBy}
use Rattle.wy_subtype.specs.Steps.{Pair, StepsTo}
use Rattle.wy_subtype.specs.Nodes.{base_pairs, pair_at}

-- a pair that was met, and the place of the pair that asked for it
pub record Met : Type 0 where
  pub pair : Pair
  pub parent : ℕ

abbrev pub met_pair : Met → Pair
met_pair m = m.pair

abbrev pub pairs : List Met → List Pair
pairs ms = map met_pair ms

-- what an entry of a list stands for, where these are the pairs by their numbers
abbrev pub met_by : List Pair → Entry → Met
met_by ps e = record { pair = pair_at ps e.node; parent = e.parent }

abbrev pub mets : List Pair → List Entry → List Met
mets ps es = map (met_by ps) es

-- a pair comes by a step from an earlier one
pub record IsLinked (p : Program) (scope : ℕ) (mode : Mode) (ms : List Met) (k : ℕ) (m : Met) : Type 0 where
  pub parent : Met
  pub at : slice_get ms m.parent ≡ Some parent
  pub before : m.parent < k
  pub step : Step
  pub leads : StepsTo p scope mode parent.pair step m.pair

-- distinct pairs in range, each but the first by a step from an earlier one
pub record IsSeen (p : Program) (scope : ℕ) (mode : Mode) (ms : List Met) : Type 0 where
  pub apart : Apart (pairs ms)
  pub fits : (q : Pair) → In q (pairs ms) → IsTypeOf p scope q.0 × IsTypeOf p scope q.1
  pub linked : (k : ℕ) (m : Met) → 0 < k → slice_get ms k ≡ Some m → IsLinked p scope mode ms k m

abbrev pub Extends : List Met → List Met → Type 0
Extends old new = (tail : List Met) × (new ≡ old ++ tail)

-- the pair is one of a type and a subtype, or the list closes it together with the pairs of equal base types
abbrev pub IsSettled : Program → ℕ → Mode → List Pair → Pair → Type 0
IsSettled p scope mode qs q = IsSubtypeIn p scope mode q.0 q.1 ⊎ Closes p scope mode (qs ++ base_pairs) q

-- the pair at a place is settled by the list
abbrev pub IsDone : Program → ℕ → Mode → List Met → ℕ → Type 0
IsDone p scope mode ms k = (m : Met) → slice_get ms k ≡ Some m → IsSettled p scope mode (pairs ms) m.pair

-- the pair at a place was tested
pub record Advances (p : Program) (scope : ℕ) (mode : Mode) (old new : List Met) (k : ℕ) : Type 0 where
  pub seen : IsSeen p scope mode new
  pub extends : Extends old new
  pub done : IsDone p scope mode new k

-- the pair at a place fails by the cause
abbrev pub MetFails : Program → ℕ → Mode → List Met → ℕ → Cause → Type 0
MetFails p scope mode ms k cause = (m : Met) × (slice_get ms k ≡ Some m) × FailsBy p scope mode m.pair cause

-- the list begins with the pair
abbrev pub BeginsWith : Pair → List Met → Type 0
BeginsWith q ms = (m : Met) × (slice_get ms 0 ≡ Some m) × (m.pair ≡ q)

-- all pairs before a place were tested
pub record IsWork (p : Program) (scope : ℕ) (mode : Mode) (first ms : List Met) (next : ℕ) : Type 0 where
  pub seen : IsSeen p scope mode ms
  pub extends : Extends first ms
  pub within : next ≤ length ms
  pub done : (k : ℕ) → k < next → IsDone p scope mode ms k

-- the steps back from a place to the first
abbrev pub Traces : Program → ℕ → Mode → List Met → ℕ → List Step → Type 0
Traces p scope mode ms at [] = at ≡ 0
Traces p scope mode ms at (s ∷ rest) =
    (m : Met) × (parent : Met) × (slice_get ms at ≡ Some m) × (slice_get ms m.parent ≡ Some parent) × StepsTo p scope mode parent.pair s m.pair × Traces p scope mode ms m.parent rest

-- the path leads from the first to a place
pub record IsPathTo (p : Program) (scope : ℕ) (mode : Mode) (ms : List Met) (at : ℕ) (path : List Step) : Type 0 where
  pub back : List Step
  pub traces : Traces p scope mode ms at back
  pub turned : path ≡ reverse back
