use Rattle.std.proofs.Common.{take, map}
use Rattle.wy_text.specs.Members.{In}
use Rattle.wy_types.specs.declared.types.Method.{Method}
use Rattle.wy_types.specs.declared.path.Part.{Part}
use Rattle.wy_types.specs.Types.{signature}
use Rattle.wy_types.specs.Signature.{find_method}
use Rattle.wy_subtype.specs.Asked.{IsAskedOf}
use Rattle.wy_subtype.proofs.asked.asking_step.Given as goal

abbrev pub invariant-loop-right : goal.invariant-loop-right
invariant-loop-right l =
    (n : Method) → In n (take l.right-index l.rights) → (part : Part) → IsAskedOf (find_method n.name (map signature l.lefts)) (signature n) part (l.s, l.t) → ⊥
