-- Closed lists of what is asked in a scope, and what is kept while one is made (docs/LANGUAGE.md, "Certificates").
use Rattle.std.specs.Prelude.{◌≡◌, ℕ, ◌<◌, ◌≤◌, List, [], ◌++◌, ◌⊎◌, Some, length, map, slice_get}
use Rattle.wy_text.specs.Members.{In, Apart}
use Rattle.wy_types.specs.declared.path.Step.{Step}
use Rattle.wy_types.specs.Program.{Program, Scope}
use Rattle.wy_types.specs.Types.{annotated, erased}
use Rattle.wy_types.specs.Subtyping.{IsAnnotatedSubtype}
use Rattle.wy_rules.specs.PlainMethods.{erased_methods, IsPlainSubtypeOver}
use Rattle.wy_subtype.specs.declared.verdict.Mode.{Mode}
use Rattle.wy_subtype.specs.declared.verdict.Mode.TheVariants.{Annotated, Plain}
use Rattle.wy_subtype.specs.Steps.{StepsTo}
use Rattle.wy_proving.specs.Certified.{Pair, bare}
use Rattle.wy_proving.specs.Proving.{TypeStands}
use Rattle.wy_proving.specs.Written.{BareStands}
use Rattle.wy_recheck.specs.PairSet.{StandsFor}
use Rattle.wy_recheck.specs.Closing.{looked_up, ClosedIn}
use Rattle.wy_certify.specs.declared.closing.Work.{Work}
use Rattle.wy_certify.specs.Pair as listed

-- pairs as they are compared
abbrev pub all_looked_up : Mode → List Pair → List Pair
all_looked_up Annotated qs = qs
all_looked_up Plain qs = map bare qs

-- the pair is a subtyping of types that can stand; in plain mode its erasure is one
abbrev pub Holds : Program → ℕ → Scope → Mode → Pair → Type 0
Holds p k s Annotated q = IsAnnotatedSubtype p k q.0 q.1 × TypeStands p s q.0 × TypeStands p s q.1
Holds p k s Plain q = IsPlainSubtypeOver (erased_methods p k) (erased q.0) (erased q.1) × BareStands p k s (erased q.0) × BareStands p k s (erased q.1)

-- there is the scope of the number, and all pairs hold there
pub record AllHold (p : Program) (k : ℕ) (mode : Mode) (qs : List Pair) : Type 0 where
  pub scope : Scope
  pub there : slice_get p.scopes k ≡ Some scope
  pub each : (q : Pair) → In {X = Pair} q qs → Holds p k scope mode q

-- the pair with its types at the empty set
abbrev pub at_empty : Pair → Pair
at_empty q = (annotated [] q.0, annotated [] q.1)

-- compared pairs as they are listed
abbrev pub given_back : Mode → List Pair → List Pair
given_back Annotated qs = qs
given_back Plain qs = map at_empty qs

-- the pair, as it is compared, is asked, or a step away from one that arises
pub data Arises (p : Program) (k : ℕ) (mode : Mode) (asked : List Pair) : Pair → Type 0 where
  of_asked : (q : Pair) → In {X = Pair} q asked → Arises p k mode asked (looked_up mode q)
  of_pair : (q r : Pair) (step : Step) → Arises p k mode asked q → StepsTo p k mode q step r → Arises p k mode asked (looked_up mode r)

-- a list has what is asked, each pair is closed in it, and nothing else is there; no two pairs are alike, and the types can stand
pub record IsClosedList (p : Program) (k : ℕ) (s : Scope) (mode : Mode) (asked list : List Pair) : Type 0 where
  pub has : (q : Pair) → In {X = Pair} q asked → In {X = Pair} (looked_up mode q) (all_looked_up mode list)
  pub closed : (q : Pair) → In {X = Pair} q list → ClosedIn p k mode (all_looked_up mode list) q
  pub only : (q : Pair) → In {X = Pair} q (all_looked_up mode list) → Arises p k mode asked q
  pub apart : Apart (all_looked_up mode list)
  pub form : given_back mode (all_looked_up mode list) ≡ list
  pub stand : (q : Pair) → In {X = Pair} q list → TypeStands p s q.0 × TypeStands p s q.1

------------------------------------------------------------
-- While it is made

abbrev pub pairs_in : Work → List Pair
pairs_in w = map listed.pair_of w.pairs

-- the keys are those of the pairs
abbrev pub IsKept : Work → Type 0
IsKept w = StandsFor w.keys.keys (pairs_in w)

-- pairs were added behind the others where they were not there
pub record IsGrown (qs old new : List Pair) : Type 0 where
  pub tail : List Pair
  pub extends : new ≡ old ++ tail
  pub has : (q : Pair) → In {X = Pair} q qs → In {X = Pair} q new
  pub only : (q : Pair) → In {X = Pair} q new → In {X = Pair} q old ⊎ In {X = Pair} q qs
  pub apart : Apart old → Apart new

-- the pairs hold, and are as they are compared
pub record AreReady (p : Program) (k : ℕ) (mode : Mode) (qs : List Pair) : Type 0 where
  pub scope : Scope
  pub there : slice_get p.scopes k ≡ Some scope
  pub each : (q : Pair) → In {X = Pair} q qs → Holds p k scope mode q × (looked_up mode q ≡ q)
  pub apart : Apart qs

-- the pair at a place is closed
abbrev pub IsDone : Program → ℕ → Mode → List Pair → ℕ → Type 0
IsDone p k mode qs at = (q : Pair) → slice_get qs at ≡ Some q → ClosedIn p k mode qs q

-- the pair at a place was tested: what was added arises from what was there
pub record Advances (p : Program) (k : ℕ) (mode : Mode) (old new : List Pair) (at : ℕ) : Type 0 where
  pub tail : List Pair
  pub extends : new ≡ old ++ tail
  pub ready : AreReady p k mode new
  pub only : (q : Pair) → In {X = Pair} q new → Arises p k mode old q
  pub done : IsDone p k mode new at

-- the pairs before a place were tested: what was added arises from the first ones
pub record IsExplored (p : Program) (k : ℕ) (mode : Mode) (first qs : List Pair) (next : ℕ) : Type 0 where
  pub tail : List Pair
  pub extends : qs ≡ first ++ tail
  pub ready : AreReady p k mode qs
  pub only : (q : Pair) → In {X = Pair} q qs → Arises p k mode first q
  pub within : next ≤ length qs
  pub done : (at : ℕ) → at < next → IsDone p k mode qs at
