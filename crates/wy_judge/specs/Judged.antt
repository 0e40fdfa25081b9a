-- What judging a part of a body says of its types and its nodes, over the types of the `val`s that stand before it
-- (docs/LANGUAGE.md, "First failing node").
use Rattle.std.specs.Prelude.{ℕ, ◌+◌, List, Option, Some, None, map, take, drop}
use Rattle.wy_text.specs.declared.fault.Fault.{Fault}
use Rattle.wy_effects.specs.Bounds.{IsLeastMissing}
use Rattle.wy_types.specs.declared.types.TypeRef.{TypeRef}
use Rattle.wy_types.specs.declared.code.Value as v
use Rattle.wy_types.specs.declared.code.Stmt as st
use Rattle.wy_types.specs.declared.resolved.Body as b
use Rattle.wy_types.specs.Code.{Expr, Value, Plain, Values, Block, Last}
use Rattle.wy_types.specs.View.{values_of, stmts_block}
use Rattle.wy_types.specs.Program.{Program, Scope, body_of}
use Rattle.wy_rules.specs.Readings.{Reading}
use Rattle.wy_rules.specs.Typing.{Has, HasAt, BlockHasAt, AllHaveAt}
use Rattle.wy_rules.specs.Acceptance.{scope_reading}
use Rattle.wy_rules.specs.Nodes.{Spot, Node, expr_nodes, value_nodes, values_nodes, block_nodes, bodies_nodes}
use Rattle.wy_rules.specs.Failing.{IsLeast, IsLeastAt, AreLeastAt, first_values, AllPass, FirstFailing}
use Rattle.wy_judge.specs.Inference.{Inference}
use Rattle.wy_judge.specs.Inference as inferred
use Rattle.wy_judge.specs.Fit.{Fit}
use Rattle.wy_judge.specs.Fit as fit
use Rattle.wy_judge.specs.Fits.{Fits}
use Rattle.wy_judge.specs.Fits as fits
use Rattle.wy_judge.specs.Outcomes.{then_fits, followed_fit}

-- the least effect of a value at a type
pub record IsLeastOf (y : Reading) (s : Scope) (locals : List y.Kind) (owner : Option ℕ) (x : Value) (t : y.Kind) (f : List ℕ) : Type 0 where
  pub has : Has y s locals owner x t f
  pub least : (g : List ℕ) → Has y s locals owner x t g → y.Allows f g

module _ (p : Program) (k : ℕ) (s : Scope) (locals : List (scope_reading p k s).Kind) (owner : Option ℕ) where
  -- an expression by itself
  abbrev pub Inferred : Expr → Inference → Type 0
  Inferred x (inferred.Least t f) = IsLeast (scope_reading p k s) s locals owner (Plain x) ((scope_reading p k s).read t) f × AllPass p k s locals (expr_nodes s owner x)
  Inferred x (inferred.Fails fault) = FirstFailing p k s locals (expr_nodes s owner x) fault

  -- a value, and a block, at the type that its place expects
  abbrev pub Fitted : Spot → Value → TypeRef → Fit → Type 0
  Fitted spot x t (fit.Has f) = IsLeastOf (scope_reading p k s) s locals owner x ((scope_reading p k s).read t) f × AllPass p k s locals (value_nodes s owner spot x)
  Fitted spot x t fit.Misfit = (HasAt (scope_reading p k s) s locals owner x ((scope_reading p k s).read t) → ⊥) × AllPass p k s locals (value_nodes s owner spot x)
  Fitted spot x t (fit.Fails fault) = FirstFailing p k s locals (value_nodes s owner spot x) fault

  abbrev pub BlockFitted : Spot → Block → TypeRef → Fit → Type 0
  BlockFitted spot b t (fit.Has f) = IsLeastAt (scope_reading p k s) s locals owner b ((scope_reading p k s).read t) f × AllPass p k s locals (block_nodes s owner spot b)
  BlockFitted spot b t fit.Misfit = (BlockHasAt (scope_reading p k s) s locals owner b ((scope_reading p k s).read t) → ⊥) × AllPass p k s locals (block_nodes s owner spot b)
  BlockFitted spot b t (fit.Fails fault) = FirstFailing p k s locals (block_nodes s owner spot b) fault

  -- where no type is expected only the nodes count
  abbrev pub Probed : Spot → Value → Option Fault → Type 0
  Probed spot x None = AllPass p k s locals (value_nodes s owner spot x)
  Probed spot x (Some fault) = FirstFailing p k s locals (value_nodes s owner spot x) fault

  abbrev pub BlockProbed : Spot → Block → Option Fault → Type 0
  BlockProbed spot b None = AllPass p k s locals (block_nodes s owner spot b)
  BlockProbed spot b (Some fault) = FirstFailing p k s locals (block_nodes s owner spot b) fault

  -- the first so many values have their types
  abbrev pub HaveFirst : Values → List TypeRef → ℕ → Type 0
  HaveFirst xs ts n = AllHaveAt (scope_reading p k s) s locals owner (first_values (scope_reading p k s) s locals owner n xs) (map (scope_reading p k s).read (take n ts))

  -- several values, each at its type
  abbrev pub AllFitted : List Spot → Values → List TypeRef → Fits → Type 0
  AllFitted spots xs ts (fits.Have f) = AreLeastAt (scope_reading p k s) s locals owner xs (map (scope_reading p k s).read ts) f × AllPass p k s locals (values_nodes s owner spots xs)
  AllFitted spots xs ts (fits.Misfit n) = HaveFirst xs ts n × (HaveFirst xs ts (n + 1) → ⊥) × AllPass p k s locals (values_nodes s owner spots xs)
  AllFitted spots xs ts (fits.Fails fault) = FirstFailing p k s locals (values_nodes s owner spots xs) fault

  abbrev pub AllProbed : List Spot → Values → Option Fault → Type 0
  AllProbed spots xs None = AllPass p k s locals (values_nodes s owner spots xs)
  AllProbed spots xs (Some fault) = FirstFailing p k s locals (values_nodes s owner spots xs) fault

  -- what the values from a number on come to gives what all come to, by what those before it came to
  pub record Carries (spots : List Spot) (xs : List v.Value) (ts : List TypeRef) (i : ℕ) (sofar : Fits) : Type 0 where
    pub carries : (rest : Fits) → AllFitted (drop i spots) (values_of (drop i xs)) (drop i ts) rest → AllFitted spots (values_of xs) ts (then_fits i sofar rest)

  -- .. where no types are expected, and no node before it fails
  pub record CarriesProbed (spots : List Spot) (xs : List v.Value) (i : ℕ) : Type 0 where
    pub carries : (rest : Option Fault) → AllProbed (drop i spots) (values_of (drop i xs)) rest → AllProbed spots (values_of xs) rest

  -- what the rest of a block comes to gives what the block comes to, by the effect of what stands before the rest
  pub record Follows (rest whole : Block) (effect : List ℕ) : Type 0 where
    pub fits : (spot : Spot) (t : TypeRef) (u : Fit) → BlockFitted spot rest t u → BlockFitted spot whole t (followed_fit effect u)
    pub probes : (spot : Spot) (fault : Option Fault) → BlockProbed spot rest fault → BlockProbed spot whole fault

  -- a statement before the rest of a block: its effect, or the fault of the block
  abbrev pub Stated : (Block → Block) → Fit → Type 0
  Stated before (fit.Has e) = (rest : Block) → Follows rest (before rest) e
  Stated before fit.Misfit = ⊥
  Stated before (fit.Fails fault) = (rest : Block) (spot : Spot) → FirstFailing p k s locals (block_nodes s owner spot (before rest)) fault

  -- .. all statements before a number
  abbrev pub Steps : List st.Stmt → Value → ℕ → List ℕ → Type 0
  Steps statements last i effect = Follows (stmts_block (drop i statements) (Last last)) (stmts_block statements (Last last)) effect

-- a body's effect is within the declared one, or this is its least atom that is not
module _ (p : Program) (k : ℕ) (s : Scope) where
  abbrev pub IsLack : List ℕ → List ℕ → Option ℕ → Type 0
  IsLack f declared None = (scope_reading p k s).Allows f ((scope_reading p k s).effect declared)
  IsLack f declared (Some a) = ((scope_reading p k s).Allows f ((scope_reading p k s).effect declared) → ⊥) × IsLeastMissing (scope_reading p k s).Under a f ((scope_reading p k s).effect declared)

  -- .. where a block, or the initialisers of fields, have their types
  abbrev pub FitLacks : Fit → List ℕ → Option ℕ → Type 0
  FitLacks (fit.Has f) declared lack = IsLack f declared lack
  FitLacks fit.Misfit declared lack = Unit {0}
  FitLacks (fit.Fails fault) declared lack = Unit {0}

  abbrev pub FitsLack : Fits → List ℕ → Option ℕ → Type 0
  FitsLack (fits.Have f) declared lack = IsLack f declared lack
  FitsLack (fits.Misfit n) declared lack = Unit {0}
  FitsLack (fits.Fails fault) declared lack = Unit {0}

-- what judging some nodes comes to
module _ (p : Program) (k : ℕ) (s : Scope) (locals : List (scope_reading p k s).Kind) where
  abbrev pub NodesJudged : List Node → Option Fault → Type 0
  NodesJudged ns None = AllPass p k s locals ns
  NodesJudged ns (Some fault) = FirstFailing p k s locals ns fault

  -- what the bodies from a number on come to, all come to: no node of one before it fails
  pub record BodiesPassed (bodies : List b.Body) (i : ℕ) : Type 0 where
    pub carries : (rest : Option Fault) → NodesJudged (bodies_nodes s (map body_of (drop i bodies))) rest → NodesJudged (bodies_nodes s (map body_of bodies)) rest
