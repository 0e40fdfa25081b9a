-- What the table keeps while its entries are worked off one by one.
use Rattle.std.specs.Prelude.{◌≡◌, ℕ, ◌+◌, ◌<◌, ◌≤◌, List, [], ◌∷◌, ◌++◌, Some, Bool as Truth, true, not, length, slice_get}
use Rattle.wy_text.specs.Members.{In, Apart}
use Rattle.wy_types.specs.declared.types.TypeRef.{TypeRef}
use Rattle.wy_types.specs.declared.path.Part.TheVariants.{Parameter, Result}
use Rattle.wy_types.specs.declared.path.Step.{Step}
use Rattle.wy_types.specs.Program.{Program}
use Rattle.wy_types.specs.Signature.{Signature}
use Rattle.wy_types.specs.Types.{methods_of}
use Rattle.wy_types.specs.Paths.{turned, Goes, Reaches}
use Rattle.wy_types.specs.Fitting.{IsTypeOf}
use Rattle.wy_bounds.specs.declared.entry.Entry.{Entry}
use Rattle.wy_bounds.specs.Table.{Mark, mark_of, marks}

-- the types of a method's parameters from number k on, at the other polarity
abbrev pub param_entries : ℕ → Truth → List ℕ → ℕ → List TypeRef → List Entry
param_entries at positive name k [] = []
param_entries at positive name k (t ∷ ts) =
    record { typ = t; positive = not positive; parent = at; step = record { method = name; part = Parameter k } } ∷ param_entries at positive name (k + 1) ts

-- the types in a method's signature: those of its parameters, and that of its result at the same polarity
abbrev pub method_entries : ℕ → Truth → Signature TypeRef → List Entry
method_entries at positive m =
    param_entries at positive m.name 0 m.params ++
    record { typ = m.result; positive = positive; parent = at; step = record { method = m.name; part = Result } } ∷ []

abbrev pub all_entries : ℕ → Truth → List (Signature TypeRef) → List Entry
all_entries at positive [] = []
all_entries at positive (m ∷ ms) = method_entries at positive m ++ all_entries at positive ms

-- an entry comes by a step from an earlier one, and the step turns the polarity as it does
pub record IsLinked (p : Program) (scope : ℕ) (es : List Entry) (k : ℕ) (e : Entry) : Type 0 where
  pub parent : Entry
  pub at : slice_get es e.parent ≡ Some parent
  pub before : e.parent < k
  pub goes : Goes TypeRef (methods_of p scope) parent.typ e.step e.typ
  pub turns : turned e.step.part parent.positive ≡ e.positive

-- distinct types in range, each reached from the first at its polarity, by a step from an earlier one
pub record IsSeen (p : Program) (scope : ℕ) (t : TypeRef) (es : List Entry) : Type 0 where
  pub apart : Apart (marks es)
  pub fits : (m : Mark) → In m (marks es) → IsTypeOf p scope m.0
  pub reached : (m : Mark) → In m (marks es) → Reaches TypeRef (methods_of p scope) t m.1 m.0
  pub linked : (k : ℕ) (e : Entry) → 0 < k → slice_get es k ≡ Some e → IsLinked p scope es k e

abbrev pub Extends : List Entry → List Entry → Type 0
Extends old new = (tail : List Entry) × (new ≡ old ++ tail)

-- all that the entry at a place goes to is there
abbrev pub IsDone : Program → ℕ → List Entry → ℕ → Type 0
IsDone p scope es k =
    (e : Entry) → slice_get es k ≡ Some e → (s : Step) (u : TypeRef) → Goes TypeRef (methods_of p scope) e.typ s u → In {X = Mark} (u, turned s.part e.positive) (marks es)

-- the list begins with the type, at the positive polarity
abbrev pub Begins : TypeRef → List Entry → Type 0
Begins t es = (e : Entry) × (slice_get es 0 ≡ Some e) × (mark_of e ≡ (t, true))

-- the entries before a place were worked off
pub record IsWork (p : Program) (scope : ℕ) (t : TypeRef) (es : List Entry) (next : ℕ) : Type 0 where
  pub seen : IsSeen p scope t es
  pub begins : Begins t es
  pub within : next ≤ length es
  pub done : (k : ℕ) → k < next → IsDone p scope es k

-- the entry at a place was worked off
pub record Advances (p : Program) (scope : ℕ) (t : TypeRef) (old new : List Entry) (k : ℕ) : Type 0 where
  pub seen : IsSeen p scope t new
  pub extends : Extends old new
  pub done : IsDone p scope new k

-- the list has all that the type reaches, each at its polarity
pub record IsWhole (p : Program) (scope : ℕ) (t : TypeRef) (es : List Entry) : Type 0 where
  pub seen : IsSeen p scope t es
  pub begins : Begins t es
  pub whole : (positive : Truth) (u : TypeRef) → Reaches TypeRef (methods_of p scope) t positive u → In {X = Mark} (u, positive) (marks es)

-- the steps back from a place to the first
abbrev pub Traces : List Entry → ℕ → List Step → Type 0
Traces es at [] = at ≡ 0
Traces es at (s ∷ rest) = (e : Entry) × (slice_get es at ≡ Some e) × (0 < at) × (e.step ≡ s) × Traces es e.parent rest

-- each entry but the first has its parent before it
abbrev pub GoesBack : List Entry → Type 0
GoesBack es = (k : ℕ) (e : Entry) → 0 < k → slice_get es k ≡ Some e → e.parent < k
