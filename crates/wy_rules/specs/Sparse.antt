-- Derivations in which no T-Sub stands directly above another (docs/LANGUAGE.md, "Typing of bodies").
use Rattle.std.specs.Prelude.{ℕ, List, [], ◌∷◌}
use Rattle.wy_types.specs.Program.{Program, Scope}
use Rattle.wy_rules.specs.Derivations.{Derivation, T-Lit, T-Var, T-This, T-Call, T-New, T-If, T-Set, T-Op, T-Asc, T-Sub, Derivations, none as no_derivations, more as one_more, BlockDerivation, Result, T-Seq, T-Val, Block-Sub, BodyDerivation, T-Body, T-Body-Init, ScopeDerivation}
use Rattle.wy_rules.specs.Acceptance.{scope_reading}
use Rattle.wy_rules.specs.Canonical.{canonical_over}

-- the last rule is not T-Sub
abbrev pub NoSub : {K : Type 0} → Derivation K → Type 0
NoSub (T-Sub q d k e) = ⊥
NoSub d = Unit {0}

-- .. of a block; one of a single value is that value
abbrev pub NoBlockSub : {K : Type 0} → BlockDerivation K → Type 0
NoBlockSub (Block-Sub q d k e) = ⊥
NoBlockSub (Result d) = NoSub d
NoBlockSub d = Unit {0}

abbrev mutual
  -- no T-Sub stands directly above another, at a receiver, or over the rest of a block
  pub Sparse : {K : Type 0} → Derivation K → Type 0
  Sparse (T-Lit q) = Unit {0}
  Sparse (T-Var q) = Unit {0}
  Sparse (T-This q) = Unit {0}
  Sparse (T-Call q d k e ds) = NoSub d × Sparse d × AllSparse ds
  Sparse (T-New q ds) = AllSparse ds
  Sparse (T-If q d e a f b g) = Sparse d × BlockSparse a × BlockSparse b
  Sparse (T-Set q d) = Sparse d
  Sparse (T-Op q r ds) = AllSparse ds
  Sparse (T-Asc q d) = Sparse d
  Sparse (T-Sub q d k e) = NoSub d × Sparse d

  pub AllSparse : {K : Type 0} → Derivations K → Type 0
  AllSparse no_derivations = Unit {0}
  AllSparse (one_more d e ds) = Sparse d × AllSparse ds

  pub BlockSparse : {K : Type 0} → BlockDerivation K → Type 0
  BlockSparse (Result d) = Sparse d
  BlockSparse (T-Seq q d e ds f) = Sparse d × NoBlockSub ds × BlockSparse ds
  BlockSparse (T-Val q d k e ds f) = Sparse d × NoBlockSub ds × BlockSparse ds
  BlockSparse (Block-Sub q ds k e) = NoBlockSub ds × BlockSparse ds

-- .. in each body
abbrev pub BodySparse : {K : Type 0} → BodyDerivation K → Type 0
BodySparse (T-Body q d e) = BlockSparse d
BodySparse (T-Body-Init q ds) = AllSparse ds

abbrev pub BodiesSparse : {K : Type 0} → List (BodyDerivation K) → Type 0
BodiesSparse [] = Unit {0}
BodiesSparse (d ∷ ds) = BodySparse d × BodiesSparse ds

abbrev pub ScopeSparse : {K : Type 0} → ScopeDerivation K → Type 0
ScopeSparse d = BodySparse d.start × BodiesSparse d.bodies

-- so it is in what is written, whatever the types of the `val`s
abbrev pub NoSubsumptionAboveAnother : Type 0
NoSubsumptionAboveAnother = (p : Program) (k : ℕ) (s : Scope) (locals : List (scope_reading p k s).Kind) → ScopeSparse (canonical_over p k s locals)
