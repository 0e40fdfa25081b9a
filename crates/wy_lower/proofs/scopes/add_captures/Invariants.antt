use Rattle.std.proofs.Common.{◌≡◌, map, take}
use Rattle.wy_types.specs.declared.resolved.Literal.{Literal}
use Rattle.wy_lower.proofs.scopes.add_captures.Given as goal

abbrev pub invariant-loop-literal : goal.invariant-loop-literal
invariant-loop-literal l = l.captures.items ≡ map (λ (x : Literal). x.captures) (take l.literal-index l.literals)
