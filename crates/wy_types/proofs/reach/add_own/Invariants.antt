use Rattle.std.proofs.Common.{◌≡◌, ◌++◌, ◌-◌, ◌≤◌, ◌⊎◌, map}
use Rattle.std.specs.List.{range_with_len}
use Rattle.wy_types.specs.declared.types.TypeRef.TheVariants.{Own}
use Rattle.wy_types.proofs.reach.add_own.Given as goal

abbrev pub invariant-loop-literal : goal.invariant-loop-literal
invariant-loop-literal l =
    ((l.literal ≡ l.first) ⊎ (l.literal ≤ l.end)) × (l.out ≡ l.initial.out ++ map (λ k. Own k) (range_with_len l.first (l.literal - l.first)))
