-- A call as a whole: its receiver by itself, what it offers, and the arguments by that.
use Rattle.std.proofs.Common.{ℕ, List, sym, subst, Option, length}
use Rattle.wy_text.specs.declared.fault.Place.{Place}
use Rattle.wy_types.specs.declared.code.Value as v
use Rattle.wy_types.specs.Code.{Expr, Call}
use Rattle.wy_types.specs.View.{values_of}
use Rattle.wy_types.specs.Program.{Program, Scope}
use Rattle.wy_judge.specs.Inference.{Inference}
use Rattle.wy_judge.specs.declared.targets.Target.{Target}
use Rattle.wy_judge.specs.declared.targets.Target.TheVariants.{Without, Found}
use Rattle.wy_judge.specs.Tables.{Table, IsScopeOf}
use Rattle.wy_judge.specs.Targets.{IsInRangeOf, IsTargetOf}
use Rattle.wy_judge.specs.Judging.{InfersTo, IsCallable, ArgumentsTo}
use Rattle.wy_judge.proofs.ArmsOfCalls.{without_to, found_types, found_count, found_to}

module _ (p : Program) (k : ℕ) (s : Scope) (c : IsScopeOf p k s) (owner : Option ℕ) where
  pub callable : (name : List ℕ) (xs : List v.Value) (receiver : Inference) (target : Target) → IsInRangeOf p k receiver → IsTargetOf p k receiver name (length xs) target → IsCallable p k s owner xs target
  callable name xs receiver (Without premise) h t = tt
  callable name xs receiver (Found effect m) h t = (found_types p k s c owner receiver name (length xs) effect m h t, found_count p k s c owner receiver name (length xs) effect m t)

  pub called_to : (old mid new : Table) (q : Place) (x : Expr) (name : List ℕ) (xs : List v.Value) (receiver u : Inference) (target : Target) → InfersTo p k s owner old mid x receiver →
      IsTargetOf p k receiver name (length xs) target → ArgumentsTo p k s owner mid new q target xs u → InfersTo p k s owner old new (Call q x name (values_of xs)) u
  called_to old mid new q x name xs receiver u (Without premise) h t a =
      subst (λ z. InfersTo p k s owner old new (Call q x name (values_of xs)) z) (sym a.2) (without_to p k s c owner old mid new q x name xs receiver premise a.0 h t a.1)
  called_to old mid new q x name xs receiver u (Found effect m) h t a =
      subst (λ z. InfersTo p k s owner old new (Call q x name (values_of xs)) z) (sym a.2) (found_to p k s c owner old mid new q x name xs receiver effect m a.0 h t a.1)
