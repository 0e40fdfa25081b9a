-- What judging a part does: what it comes to over all types of `val`s that go on from those that are known afterwards, and which
-- `val`s become known.
use Rattle.std.specs.Prelude.{◌≡◌, ℕ, List, [], ◌∷◌, ◌++◌, Option, Some, None, length, take, drop, slice_get}
use Rattle.wy_text.specs.declared.fault.Place.{Place}
use Rattle.wy_text.specs.declared.fault.Fault.{Fault}
use Rattle.wy_types.specs.declared.types.TypeRef.{TypeRef}
use Rattle.wy_types.specs.declared.code.BinaryOperator.{BinaryOperator}
use Rattle.wy_types.specs.declared.code.Value as v
use Rattle.wy_types.specs.declared.code.Stmt as st
use Rattle.wy_types.specs.Code.{Expr, Value, Block, Last}
use Rattle.wy_types.specs.View.{value_of, values_of, stmt_block, stmts_block}
use Rattle.wy_types.specs.Program.{Program, Scope}
use Rattle.wy_types.specs.Fitting.{IsTypeOf}
use Rattle.wy_types.specs.Vals.{expr_vals, value_vals, values_vals, block_vals}
use Rattle.wy_text.specs.Members.{In}
use Rattle.wy_effects.specs.EffSet.{IsSet}
use Rattle.wy_rules.specs.Acceptance.{scope_reading}
use Rattle.wy_rules.specs.Nodes.{Spot, block_nodes}
use Rattle.wy_rules.specs.Failing.{IsExpected, FirstFailing}
use Rattle.wy_judge.specs.Inference.{Inference}
use Rattle.wy_judge.specs.Inference as inferred
use Rattle.wy_judge.specs.Fit.{Fit}
use Rattle.wy_judge.specs.Fit as fit
use Rattle.wy_judge.specs.Fits.{Fits}
use Rattle.wy_judge.specs.Fits as fits
use Rattle.wy_judge.specs.declared.targets.Target.{Target}
use Rattle.wy_judge.specs.declared.targets.Target.TheVariants.{Without, Found}
use Rattle.wy_judge.specs.Step.{Step}
use Rattle.wy_judge.specs.Step as step
use Rattle.wy_judge.specs.Judged.{Inferred, Fitted, BlockFitted, Probed, BlockProbed, AllFitted, AllProbed, Carries, CarriesProbed, Stated, Steps}
use Rattle.wy_judge.specs.Outcomes.{NoneFails, IsBoth, uncalled_outcome, call_outcome}
use Rattle.wy_judge.specs.Tables.{Table, Agrees, Moves, BlockReady, ValueReady, ValuesReady}
use Rattle.wy_judge.specs.Targets.{IsInRangeOf, IsTargetOf}

-- no node fails
abbrev pub InferenceStands : Inference → Type 0
InferenceStands (inferred.Least t e) = Unit {0}
InferenceStands (inferred.Fails fault) = ⊥

abbrev pub FitStands : Fit → Type 0
FitStands (fit.Has e) = Unit {0}
FitStands fit.Misfit = Unit {0}
FitStands (fit.Fails fault) = ⊥

-- the effect of a value is a set
abbrev pub HasSet : Fit → Type 0
HasSet (fit.Has e) = IsSet 512 e
HasSet fit.Misfit = Unit {0}
HasSet (fit.Fails fault) = Unit {0}

abbrev pub NoFault : Option Fault → Type 0
NoFault None = Unit {0}
NoFault (Some fault) = ⊥

abbrev pub StepStands : Step → Type 0
StepStands (step.Done e) = Unit {0}
StepStands (step.Fails fault) = ⊥

-- a statement before the rest of a block: its effect, or the fault of the block
abbrev pub step_fit : Step → Fit
step_fit (step.Done e) = fit.Has e
step_fit (step.Fails fault) = fit.Fails fault

-- the `val`s of a statement, and of several
abbrev pub stmt_vals : st.Stmt → List ℕ
stmt_vals (st.Val place n typ x) = n ∷ value_vals (value_of x)
stmt_vals (st.Do x) = value_vals (value_of x)

abbrev pub stmts_vals : List st.Stmt → List ℕ
stmts_vals [] = []
stmts_vals (x ∷ xs) = stmt_vals x ++ stmts_vals xs

module _ (p : Program) (k : ℕ) (s : Scope) (owner : Option ℕ) where
  -- the types that are asked are in range
  abbrev pub TypesInRange : List TypeRef → Type 0
  TypesInRange ts = (t : TypeRef) → In t ts → IsTypeOf p k t

  -- a statement before some rest of a block
  abbrev pub StmtReady : Table → st.Stmt → Type 0
  StmtReady table x = (rest : Block) × BlockReady p k s owner table (stmt_block x rest)

  -- the method of a call has as many parameters as there are arguments, of types in range
  abbrev pub IsCallable : List v.Value → Target → Type 0
  IsCallable xs (Without premise) = Unit {0}
  IsCallable xs (Found effect m) = TypesInRange m.params × (length xs ≡ length m.params)

  -- each place expects its type, or none
  pub record AreExpected (locals : List (scope_reading p k s).Kind) (spots : List Spot) (ts : List TypeRef) : Type 0 where
    pub as_many : length spots ≡ length ts
    pub each : (i : ℕ) (spot : Spot) (t : TypeRef) → slice_get spots i ≡ Some spot → slice_get ts i ≡ Some t → IsExpected (scope_reading p k s) s locals owner spot (Some ((scope_reading p k s).read t))

  pub record AreUnexpected (locals : List (scope_reading p k s).Kind) (spots : List Spot) (xs : List v.Value) : Type 0 where
    pub as_many : length spots ≡ length xs
    pub each : (i : ℕ) (spot : Spot) → slice_get spots i ≡ Some spot → IsExpected (scope_reading p k s) s locals owner spot None

  module _ (old new : Table) where
    -- an expression by itself
    pub record InfersTo (x : Expr) (u : Inference) : Type 0 where
      pub moves : Moves p k s old new (expr_vals x) (InferenceStands u)
      pub range : IsInRangeOf p k u
      pub judged : (locals : List (scope_reading p k s).Kind) → Agrees (scope_reading p k s) locals new → Inferred p k s locals owner x u

    -- a value, several, and a block, at types
    pub record FitsTo (x : Value) (t : TypeRef) (u : Fit) : Type 0 where
      pub moves : Moves p k s old new (value_vals x) (FitStands u)
      pub judged : (locals : List (scope_reading p k s).Kind) → Agrees (scope_reading p k s) locals new → (spot : Spot) →
          IsExpected (scope_reading p k s) s locals owner spot (Some ((scope_reading p k s).read t)) → Fitted p k s locals owner spot x t u

    pub record AllFitTo (xs : List v.Value) (ts : List TypeRef) (u : Fits) : Type 0 where
      pub moves : Moves p k s old new (values_vals (values_of xs)) (NoneFails u)
      pub judged : (locals : List (scope_reading p k s).Kind) → Agrees (scope_reading p k s) locals new → (spots : List Spot) → AreExpected locals spots ts → AllFitted p k s locals owner spots (values_of xs) ts u

    pub record BlockFitsTo (b : Block) (t : TypeRef) (u : Fit) : Type 0 where
      pub moves : Moves p k s old new (block_vals b) (FitStands u)
      pub judged : (locals : List (scope_reading p k s).Kind) → Agrees (scope_reading p k s) locals new → (spot : Spot) →
          IsExpected (scope_reading p k s) s locals owner spot (Some ((scope_reading p k s).read t)) → BlockFitted p k s locals owner spot b t u

    -- .. where no type is expected
    pub record ProbesTo (x : Value) (o : Option Fault) : Type 0 where
      pub moves : Moves p k s old new (value_vals x) (NoFault o)
      pub judged : (locals : List (scope_reading p k s).Kind) → Agrees (scope_reading p k s) locals new → (spot : Spot) →
          IsExpected (scope_reading p k s) s locals owner spot None → Probed p k s locals owner spot x o

    pub record AllProbeTo (xs : List v.Value) (o : Option Fault) : Type 0 where
      pub moves : Moves p k s old new (values_vals (values_of xs)) (NoFault o)
      pub judged : (locals : List (scope_reading p k s).Kind) → Agrees (scope_reading p k s) locals new → (spots : List Spot) → AreUnexpected locals spots xs → AllProbed p k s locals owner spots (values_of xs) o

    pub record BlockProbesTo (b : Block) (o : Option Fault) : Type 0 where
      pub moves : Moves p k s old new (block_vals b) (NoFault o)
      pub judged : (locals : List (scope_reading p k s).Kind) → Agrees (scope_reading p k s) locals new → (spot : Spot) →
          IsExpected (scope_reading p k s) s locals owner spot None → BlockProbed p k s locals owner spot b o

    -- the arguments of a call, by what its receiver offers, and what the call comes to by them
    abbrev pub ArgumentsTo : Place → Target → List v.Value → Inference → Type 0
    ArgumentsTo place (Without premise) xs u = (o : Option Fault) × AllProbeTo xs o × (u ≡ uncalled_outcome place premise o)
    ArgumentsTo place (Found effect m) xs u = (w : Fits) × AllFitTo xs m.params w × (u ≡ call_outcome place m.result m.effect effect w)

    -- an operation whose first operand came to this, and a call whose receiver did
    abbrev pub SecondTo : Place → BinaryOperator → Inference → Expr → Inference → Type 0
    SecondTo place op u z r = (w : Inference) × InfersTo z w × IsBoth place op u w r

    abbrev pub CalledTo : Place → Inference → List ℕ → List v.Value → Inference → Type 0
    CalledTo place u name xs r = (target : Target) × IsTargetOf p k u name (length xs) target × ArgumentsTo place target xs r

    -- a statement, after which the rest of its block can be judged
    pub record StatesTo (x : st.Stmt) (u : Step) : Type 0 where
      pub moves : Moves p k s old new (stmt_vals x) (StepStands u)
      pub goes_on : StepStands u → (rest : Block) → BlockReady p k s owner old (stmt_block x rest) → BlockReady p k s owner new rest
      pub judged : (locals : List (scope_reading p k s).Kind) → Agrees (scope_reading p k s) locals new → Stated p k s locals owner (stmt_block x) (step_fit u)

    -- all statements of a block, whose last value comes after them
    abbrev pub LastReady : Value → Step → Type 0
    LastReady last (step.Done e) = ValueReady p k s owner new last
    LastReady last (step.Fails fault) = Unit {0}

    abbrev pub AllStated : (locals : List (scope_reading p k s).Kind) → List st.Stmt → Value → Step → Type 0
    AllStated locals xs last (step.Done e) = Steps p k s locals owner xs last (length xs) e
    AllStated locals xs last (step.Fails fault) = (spot : Spot) → FirstFailing p k s locals (block_nodes s owner spot (stmts_block xs (Last last))) fault

    pub record StepsTo (xs : List st.Stmt) (last : Value) (u : Step) : Type 0 where
      pub moves : Moves p k s old new (stmts_vals xs) (StepStands u)
      pub ready : LastReady last u
      pub judged : (locals : List (scope_reading p k s).Kind) → Agrees (scope_reading p k s) locals new → AllStated locals xs last u

    ------------------------------------------------------------
    -- One after the other

    -- the values before a number are judged, each at its type, and no node of them fails
    pub record Fitting (xs : List v.Value) (ts : List TypeRef) (i : ℕ) (sofar : Fits) : Type 0 where
      pub as_many : length xs ≡ length ts
      pub none_fails : NoneFails sofar
      pub set : (e : List ℕ) → sofar ≡ fits.Have e → IsSet 512 e
      pub moves : Moves p k s old new (values_vals (values_of (take i xs))) (Unit {0})
      pub ready : ValuesReady p k s owner new (values_of (drop i xs))
      pub judged : (locals : List (scope_reading p k s).Kind) → Agrees (scope_reading p k s) locals new → (spots : List Spot) → AreExpected locals spots ts → Carries p k s locals owner spots xs ts i sofar

    -- .. where no types are expected
    pub record Probing (xs : List v.Value) (i : ℕ) : Type 0 where
      pub moves : Moves p k s old new (values_vals (values_of (take i xs))) (Unit {0})
      pub ready : ValuesReady p k s owner new (values_of (drop i xs))
      pub judged : (locals : List (scope_reading p k s).Kind) → Agrees (scope_reading p k s) locals new → (spots : List Spot) → AreUnexpected locals spots xs → CarriesProbed p k s locals owner spots xs i

    -- the statements of a block before a number are judged, have this effect, and no node of them fails
    pub record Stepping (xs : List st.Stmt) (last : Value) (i : ℕ) (effect : List ℕ) : Type 0 where
      pub moves : Moves p k s old new (stmts_vals (take i xs)) (Unit {0})
      pub ready : BlockReady p k s owner new (stmts_block (drop i xs) (Last last))
      pub judged : (locals : List (scope_reading p k s).Kind) → Agrees (scope_reading p k s) locals new → Steps p k s locals owner xs last i effect
