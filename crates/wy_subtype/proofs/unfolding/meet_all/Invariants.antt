use Rattle.std.proofs.Common.{◌≡◌, ◌++◌, drop, take, map}
use Rattle.wy_text.specs.Members.{In}
use Rattle.wy_types.specs.declared.types.Method.{Method}
use Rattle.wy_types.specs.Program.{program_of}
use Rattle.wy_types.specs.Signature.{find_method}
use Rattle.wy_types.specs.Types.{signature}
use Rattle.wy_subtype.specs.Unfolding.{all_pairs, IsMet}
use Rattle.wy_subtype.proofs.unfolding.meet_all.Given as goal

abbrev pub invariant-loop-right : goal.invariant-loop-right
invariant-loop-right l =
    (l.asked ++ all_pairs (map signature l.lefts) (map signature (drop l.right-index l.rights)) ≡ all_pairs (map signature l.lefts) (map signature l.rights)) ×
    ((n : Method) → In n (take l.right-index l.rights) → IsMet (program_of l.order.core.now) l.order.scope l.order.mode (find_method n.name (map signature l.lefts)) (signature n))
